-- The way up in a forest, step by step.
use Rattle.std.proofs.Common.{◌≡◌, ◌≢◌, ◌-◌, ◌<◌, ℕ, ◌∷◌, length, refl, ap, ◌∙◌, arith, Some}
use Prim.Native.Nat.{zero, suc}
use Rattle.dom_semantics.specs.Forest.{Forest, parent_of, up_from}
use Rattle.dom_tree.proofs.Parents.{up_from-some, parent_of-child, child-within}

pub parent-within : (f : Forest) (n p : ℕ) → parent_of f n ≡ Some p → p < length f
parent-within f n p some = child-within f p n (parent_of-child f n p some)

pub up_from-more : (limit : ℕ) (f : Forest) (n p : ℕ) → limit ≢ 0 → parent_of f n ≡ Some p → up_from limit f n ≡ p ∷ up_from (limit - 1) f p
up_from-more zero f n p ne some = absurd (ne refl)
up_from-more (suc limit) f n p ne some =
    let same : limit ≡ suc limit - 1 = omega arith in
    up_from-some limit f n p some ∙ ap (λ k. p ∷ up_from k f p) same
