use Rattle.std.proofs.Common.{sym, ◌∙◌, arith}
use Rattle.page_text.proofs.Scanning.{opens_nothing}
use Rattle.page_text.proofs.scan.opens.Goals as goal

pub returns-then-i-text : goal.returns-then-i-text
returns-then-i-text c =
    sym (opens_nothing c.args.word.now c.args.text.now c.loop-i.i c.loop-i.i (omega arith) (omega arith)) ∙ c.loop-i.invariant.same
