use Rattle.std.specs.Ordering.{nat_cmp}
use Rattle.std.proofs.Common.{◌≡◌, refl}
use Rattle.std.proofs.lemmas.Iterator.{YieldsList-from_chars}
use Rattle.std.proofs.lemmas.Iterator.Search.{cmp_from_yields_List}
use Rattle.js_ops.proofs.two_operands.order_of_texts.Goals as goal

pub returns : goal.returns
returns c =
    rw (← c.as_str.ensures.scalars, ← c.as_str-2.ensures.scalars)
    (cmp_from_yields_List (λ x y. y ≡ x) _ nat_cmp _ c.cmp.ensures.ran (YieldsList-from_chars c.as_str.result.now c.as_str.utf8 c.chars.ensures.rest)
    (λ it e. YieldsList-from_chars c.as_str-2.result.now c.as_str-2.utf8 cc) (λ x y. refl))
