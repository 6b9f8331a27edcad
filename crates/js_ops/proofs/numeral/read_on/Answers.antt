use Rattle.std.proofs.Common.{◌∙◌, true}
use Rattle.js_ops.proofs.Spelling.{first_read}
use Rattle.js_ops.proofs.numeral.read_on.Goals as goal

pub returns-in-Minus : goal.returns-in-Minus
returns-in-Minus c = λ rest. rw c.in-Minus.is (c.digit_on.ensures rest ∙ first_read true c.args.c rest)
