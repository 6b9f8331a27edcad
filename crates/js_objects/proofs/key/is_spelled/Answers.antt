use Rattle.std.proofs.Common.{◌≡◌, ◌∙◌, ◌-◌, ◌<◌, ◌≤◌, length, suc, sym, arith}
use Rattle.js_objects.proofs.Keys.{not_last, last_one, more_digits, no_digits}
use Rattle.js_objects.proofs.key.is_spelled.Goals as goal

pub returns-then-scalar_at-rest : goal.returns-then-scalar_at-rest
returns-then-scalar_at-rest c =
    let e : c.loop-left.left ≡ suc (c.loop-left.left - 1) = omega (arith, c.loop-left-test.true) in
    let b : c.loop-left.left - 1 < length c.args.key.now = omega (arith, c.loop-left-test.true, c.loop-left.invariant.1) in
    not_last c.loop-left.rest _ (c.loop-left.left - 1) c.loop-left.left c.args.key.now c.loop-left.invariant.2 e b c.scalar_at.ensures.exact c.if-scalar_at-rest.true ∙ sym c.loop-left.invariant.0

pub returns-then-rest-lt10 : goal.returns-then-rest-lt10
returns-then-rest-lt10 c =
    let e : c.loop-left.left ≡ suc (c.loop-left.left - 1) = omega (arith, c.loop-left-test.true) in
    let b : c.loop-left.left - 1 < length c.args.key.now = omega (arith, c.loop-left-test.true, c.loop-left.invariant.1) in
    last_one c.loop-left.rest _ (c.loop-left.left - 1) c.loop-left.left c.args.key.now c.if-rest-lt10.true e b c.scalar_at.ensures.exact c.if-scalar_at-rest.false ∙ sym c.loop-left.invariant.0

pub loop-left-preserved : goal.loop-left-preserved
loop-left-preserved c =
    let e : c.loop-left.left ≡ suc (c.loop-left.left - 1) = omega (arith, c.loop-left-test.true) in
    let b : c.loop-left.left - 1 < length c.args.key.now = omega (arith, c.loop-left-test.true, c.loop-left.invariant.1) in
    (c.loop-left.invariant.0 ∙ more_digits c.loop-left.rest _ (c.loop-left.left - 1) c.loop-left.left c.args.key.now c.loop-left.invariant.2 c.if-rest-lt10.false e b c.scalar_at.ensures.exact c.if-scalar_at-rest.false, omega (arith, b), omega (arith, c.loop-left.invariant.2))

pub returns : goal.returns
returns c = no_digits c.loop-left.rest c.loop-left.left c.args.key.now c.loop-left.invariant.2 c.loop-left-test.false ∙ sym c.loop-left.invariant.0
