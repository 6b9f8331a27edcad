use Rattle.std.proofs.Common.{◌∙◌}
use Rattle.js_objects.proofs.Standards.{found_here, found_nowhere}
use Rattle.js_objects.proofs.owner.standard_among.Goals as goal

pub returns-then-at-len-clause-some : goal.returns-then-at-len-clause-some
returns-then-at-len-clause-some c = found_here _ _ _ _ _ _ c.index_of-at.ensures c.deref.ensures.value c.index.ensures c.if-at-len.true (c.len.ensures ∙ c.args.entry.now.standards.ok.0)

pub returns-else-at-len-clause-none : goal.returns-else-at-len-clause-none
returns-else-at-len-clause-none c = found_nowhere _ _ _ _ _ c.index_of-at.ensures c.deref.ensures.value c.if-at-len.false (c.len.ensures ∙ c.args.entry.now.standards.ok.0)
