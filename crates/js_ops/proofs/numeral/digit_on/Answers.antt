use Rattle.std.proofs.Common.{arith, rules}
use Rattle.js_ops.proofs.Spelling.{digit_read, digit_beyond}
use Rattle.js_ops.proofs.numeral.digit_on.Goals as goal

pub returns-in-Some : goal.returns-in-Some
returns-in-Some c = λ rest. digit_read c.args.minus c.args.value c.in-Some.value c.args.c rest (search rules) c.in-Some.ensures.1

pub returns-in-None : goal.returns-in-None
returns-in-None c = λ rest. digit_beyond c.args.minus c.args.value c.args.c rest (search rules) (omega (arith, c.in-None.ensures))
