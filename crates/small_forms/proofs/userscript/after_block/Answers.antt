use Rattle.std.proofs.Common.{arith, ap, length, ◌++◌}
use Rattle.small_forms.specs.Scripts.{block_end}
use Rattle.small_forms.proofs.Userscripts.{block_name, block_parts}
use Rattle.small_forms.proofs.Options.{empty, nonempty}
use Rattle.small_forms.proofs.userscript.after_block.Goals as goal

pub returns-in_default-clause-none : goal.returns-in_default-clause-none
returns-in_default-clause-none c name rest is e = c.in_default.ensures.none (name ++ (block_end ++ rest)) e

pub returns-then-is_empty-clause-none : goal.returns-then-is_empty-clause-none
returns-then-is_empty-clause-none c name rest is e =
    let parts = block_name c.args.bytes.now c.in-Some.named.now c.front.result.0.now c.front.result.1.now name rest c.in-Some.ensures.some c.front.ensures.whole c.front.ensures.inside c.front.ensures.stops is e in
    omega (arith, empty (length c.front.result.0.now) c.if-is_empty.ensures, ap length parts.0, is.nonempty)

pub returns-in_default-after-clause-none : goal.returns-in_default-after-clause-none
returns-in_default-after-clause-none c name rest is e =
    let parts = block_name c.args.bytes.now c.in-Some.named.now c.front.result.0.now c.front.result.1.now name rest c.in-Some.ensures.some c.front.ensures.whole c.front.ensures.inside c.front.ensures.stops is e in
    c.in_default-after.ensures.none rest parts.1

pub returns-clause-some : goal.returns-clause-some
returns-clause-some c = (
  record { nonempty = nonempty (length c.front.result.0.now) c.if-is_empty.ensures; inside = c.front.ensures.inside },
  block_parts c.args.bytes.now c.in-Some.named.now c.front.result.0.now c.front.result.1.now c.in-Some-after.body.now c.in-Some.ensures.some c.front.ensures.whole c.in-Some-after.ensures.some,
)
