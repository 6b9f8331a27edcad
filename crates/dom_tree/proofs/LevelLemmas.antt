-- The levels of a tree, child by child.
use Rattle.std.proofs.Common.{◌≡◌, ◌≢◌, ◌+◌, ◌-◌, ◌<◌, ◌≤◌, ℕ, Bool, true, false, List, [], ◌∷◌, length, get_or, take, drop, refl, ap, sym, ◌∙◌, arith}
use Rattle.std.specs.Prelude.{nat_eq, ◌&&◌, ◌||◌}
use Rattle.std.specs.List.{list_all, list_any}
use Prim.Native.Nat.{zero, suc}
use Rattle.std.proofs.lemmas.Bool.{eq-eqb}
use Rattle.std.proofs.lemmas.List.{at_drop_more, at_drop_all}
use Rattle.std.proofs.lemmas.List.Folds.{list_any_at}
use Rattle.dom_semantics.specs.Forest.{Forest, has_levels, children_of, is_child, is_among}

pub has_levels-more : (levels : ℕ) (f : Forest) (n : ℕ) → levels ≢ 0 → has_levels levels f n ≡ list_all (λ child. has_levels (levels - 1) f child) (children_of f n)
has_levels-more zero f n ne = absurd (ne refl)
has_levels-more (suc levels) f n ne =
    let same : levels ≡ suc levels - 1 = omega arith in
    ap (λ k. list_all (λ child. has_levels k f child) (children_of f n)) same

-- one more of the numbers
pub list_all-more : (p : ℕ → Bool) (xs : List ℕ) (i d : ℕ) → i < length xs → list_all p (drop i xs) ≡ (p (get_or xs i d) && list_all p (drop (i + 1) xs))
list_all-more p xs i d lt = at_drop_more (list_all p) xs i d lt

pub list_all-end : (p : ℕ → Bool) (xs : List ℕ) (i : ℕ) → length xs ≤ i → list_all p (drop i xs) ≡ true
list_all-end p xs i past = at_drop_all (list_all p) xs i past

-- a child at a place is a child
pub is_child-at : (f : Forest) (n i d : ℕ) → i < length (children_of f n) → is_child f n (get_or (children_of f n) i d) ≡ true
is_child-at f n i d lt = list_any_at (nat_eq (get_or (children_of f n) i d)) (children_of f n) i d lt (eq-eqb _ _ refl)

pub list_all-passed : (p : ℕ → Bool) (xs : List ℕ) (i d : ℕ) → i < length xs → true ≡ p (get_or xs i d) → list_all p (drop (i + 1) xs) ≡ list_all p (drop i xs)
list_all-passed p xs i d lt passes =
    ap (λ b. b && list_all p (drop (i + 1) xs)) passes ∙ sym (list_all-more p xs i d lt)

pub list_all-failed : (p : ℕ → Bool) (xs : List ℕ) (i d : ℕ) → i < length xs → false ≡ p (get_or xs i d) → false ≡ list_all p (drop i xs)
list_all-failed p xs i d lt fails =
    ap (λ b. b && list_all p (drop (i + 1) xs)) fails ∙ sym (list_all-more p xs i d lt)

-- whether one of the numbers passes, one by one
pub list_any-passed : (p : ℕ → Bool) (xs : List ℕ) (i d : ℕ) → i < length xs → true ≡ p (get_or xs i d) → true ≡ list_any p (drop i xs)
list_any-passed p xs i d lt passes =
    ap (λ b. b || list_any p (drop (i + 1) xs)) passes ∙ sym (at_drop_more (list_any p) xs i d lt)

pub list_any-failed : (p : ℕ → Bool) (xs : List ℕ) (i d : ℕ) → i < length xs → false ≡ p (get_or xs i d) → list_any p (drop (i + 1) xs) ≡ list_any p (drop i xs)
list_any-failed p xs i d lt fails =
    ap (λ b. b || list_any p (drop (i + 1) xs)) fails ∙ sym (at_drop_more (list_any p) xs i d lt)

pub list_any-end : (p : ℕ → Bool) (xs : List ℕ) (i : ℕ) → length xs ≤ i → list_any p (drop i xs) ≡ false
list_any-end p xs i past = at_drop_all (list_any p) xs i past

pub is_among-at : (xs : List ℕ) (i d : ℕ) → i < length xs → is_among (get_or xs i d) xs ≡ true
is_among-at xs i d lt = list_any_at (nat_eq (get_or xs i d)) xs i d lt (eq-eqb _ _ refl)

pub take_all : {X : Type 0} (i : ℕ) (xs : List X) → length xs ≤ i → take i xs ≡ xs
take_all zero [] past = refl
take_all (suc i) [] past = refl
take_all zero (x ∷ xs) past = absurd (omega arith)
take_all (suc i) (x ∷ xs) past = ap (λ r. x ∷ r) (take_all i xs (omega arith))
