use Rattle.std.proofs.Common.{◌∙◌}
use Rattle.js_objects.proofs.Standards.{sets_here, sets_last}
use Rattle.js_objects.proofs.owner.put_standard.Goals as goal

pub returns-then-at-len-clause-ok : goal.returns-then-at-len-clause-ok
returns-then-at-len-clause-ok c = sets_here _ _ _ _ _ _ _ c.index_of-at.ensures c.deref.ensures.value c.index_mut.ensures.value c.if-at-len.true (c.len.ensures ∙ c.args.standards.now.ok.0)

pub returns-clause-ok : goal.returns-clause-ok
returns-clause-ok c = sets_last _ _ _ _ _ _ _ c.index_of-at.ensures c.deref.ensures.value c.if-at-len.false (c.len.ensures ∙ c.args.standards.now.ok.0) c.in_ok-push.ensures.items
