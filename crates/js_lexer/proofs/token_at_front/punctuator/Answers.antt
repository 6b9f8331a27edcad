use Rattle.std.proofs.Common.{arith, ap, Err}
use Rattle.js_lexer.proofs.Shorter.{punctuator_shorter, punctuator_short}
use Rattle.js_lexer.proofs.token_at_front.punctuator.Goals as goal

pub before-requires : goal.before-requires
before-requires c = punctuator_shorter c.args.text.now c.in-Some.rest.now c.in-Some.ensures

pub unreachable-requires : goal.unreachable-requires
unreachable-requires c =
    let short = punctuator_short c.args.text.now c.in-Some.rest.now c.before-2.result.now c.in-Some.ensures c.before-2.ensures in
    let long = c.in-Err-TooLong.ensures.too_long (ap Err c.in-Err-TooLong.field-0-is) in
    omega arith
