-- The rows of parents lead up as the forest does.
use Rattle.std.proofs.Common.{◌≡◌, ◌+◌, ℕ, List, [], ◌∷◌, length, refl, ap, sym, ◌∙◌, arith, Option, ⊎_elim}
use Rattle.std.specs.Option.{option_map_or}
use Prim.Native.Nat.{zero, suc}
use Rattle.dom_semantics.specs.Forest.{Forest, parent_of, up_from, is_among, is_inclusive_ancestor, depth_of, DEPTH_LIMIT}
use Rattle.dom_tree.specs.Ancestors.{up_by, AreKnown}
use Rattle.dom_tree.specs.Tree.{AreParents}
use Rattle.dom_tree.proofs.Parents.{parent_of-child, child-within, cases_option, up_from-some, up_from-none}

pub known-rows : (f : Forest) (above : List (Option ℕ)) → AreParents f above → AreKnown above
known-rows f above a n p some =
    let child = parent_of-child f n p (sym (a.parents n) ∙ some) in let within = child-within f p n child in let rows = a.rows in omega arith

pub up_by-same : (f : Forest) (above : List (Option ℕ)) → AreParents f above → (l n : ℕ) → up_by l above n ≡ up_from l f n
up_by-same f above a zero n = refl
up_by-same f above a (suc l) n =
    ⊎_elim
    (λ none. ap (λ o. option_map_or (λ p. p ∷ up_by l above p) o []) (a.parents n ∙ none) ∙ sym (up_from-none (suc l) f n none))
    (λ (p, some).
    ap (λ o. option_map_or (λ p. p ∷ up_by l above p) o []) (a.parents n ∙ some)
    ∙ (ap (λ up. p ∷ up) (up_by-same f above a l p) ∙ sym (up_from-some l f n p some)))
    (cases_option (parent_of f n))

pub above-same : (f : Forest) (above : List (Option ℕ)) → AreParents f above → (limit n a : ℕ) → limit ≡ DEPTH_LIMIT → is_among a (n ∷ up_by (limit + 1) above n) ≡ is_inclusive_ancestor f a n
above-same f above p limit n a e =
    let more : limit + 1 ≡ suc DEPTH_LIMIT = omega arith in
    ap (λ l. is_among a (n ∷ up_by l above n)) more ∙ ap (λ up. is_among a (n ∷ up)) (up_by-same f above p (suc DEPTH_LIMIT) n)

pub depth-same : (f : Forest) (above : List (Option ℕ)) → AreParents f above → (limit n : ℕ) → limit ≡ DEPTH_LIMIT → length (up_by (limit + 1) above n) ≡ depth_of f n
depth-same f above p limit n e =
    let more : limit + 1 ≡ suc DEPTH_LIMIT = omega arith in
    ap (λ l. length (up_by l above n)) more ∙ ap length (up_by-same f above p (suc DEPTH_LIMIT) n)
