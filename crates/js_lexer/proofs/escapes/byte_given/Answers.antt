use Rattle.std.proofs.Common.{arith}
use Rattle.js_lexer.proofs.HexRuns.{byte_below}
use Rattle.js_lexer.proofs.escapes.byte_given.Goals as goal

pub overflow_cast-number : goal.overflow_cast-number
overflow_cast-number c =
    let below = byte_below c.args.text.now (c.in_ok-number.number, c.in_ok-number.rest.now) c.in_ok-number.ensures in omega arith

pub returns-in_err-scalar : goal.returns-in_err-scalar
returns-in_err-scalar c =
    let below = byte_below c.args.text.now (c.in_ok-number.number, c.in_ok-number.rest.now) c.in_ok-number.ensures in
    absurd (omega (arith, c.in_err-scalar.ensures.cases))
