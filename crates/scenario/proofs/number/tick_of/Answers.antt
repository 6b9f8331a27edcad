use Rattle.std.proofs.Common.{arith, subst, sym}
use Rattle.scenario.specs.Parts.{IsPlain}
use Rattle.scenario.proofs.Numbers.{false_true, no_number, one_number, tick_parsed, tick_plain, tick_read}
use Rattle.scenario.proofs.number.tick_of.Goals as goal

pub returns-then-not-is_plain : goal.returns-then-not-is_plain
returns-then-not-is_plain c = λ n t.
    false_true c.is_plain.result c.if-not-is_plain.true (c.is_plain.ensures.1 (subst IsPlain (sym c.as_bytes.ensures.value) (tick_plain c.args.s.now n t)))

pub returns-in_default : goal.returns-in_default
returns-in_default c = λ n t. no_number c.parse.result n _ (tick_parsed c.args.s.now c.parse.result n t c.parse.ensures.value.0) c.in_default.is

pub returns-then-n-gt-TICK_LIMIT : goal.returns-then-n-gt-TICK_LIMIT
returns-then-n-gt-TICK_LIMIT c = λ n t.
    let same = one_number c.parse.result n c.in-Ok.n (tick_parsed c.args.s.now c.parse.result n t c.parse.ensures.value.0) c.in-Ok.is in
    let within = t.0 in omega (arith, same, within, c.if-n-gt-TICK_LIMIT.true)

pub returns : goal.returns
returns c =
    let plain = subst IsPlain c.as_bytes.ensures.value (c.is_plain.ensures.0 c.if-not-is_plain.false) in
    tick_read c.args.s.now c.parse.result c.in-Ok.n plain c.parse.ensures.value.0 c.in-Ok.is (omega (arith, c.if-n-gt-TICK_LIMIT.false))
