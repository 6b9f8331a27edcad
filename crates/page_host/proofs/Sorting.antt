-- Names of userscripts as they are picked out, sorted, and kept once each.
use Rattle.std.proofs.Common.{◌≡◌, ◌∙◌, ap, sym, refl, subst, ℕ, ◌<◌, ◌+◌, Bool, true, false, List, [], ◌∷◌, ◌⊎◌, inl, inr, length, map, filter, arith, if◌then◌else◌, cond}
use Rattle.std.proofs.lemmas.List.{get_or-map, length-map}
use Rattle.std.proofs.lemmas.List.Kept.{Contains-dedup, Contains-from_dedup, IsStrictlySortedBy-dedup}
use Rattle.std.proofs.lemmas.List.Sorted.{Contains-permutation, IsPermutation-map, IsPermutation-sym}
use Rattle.std.proofs.lemmas.Slice.Eq.{bytes_eq-Decides}
use Rattle.std.specs.Prelude.{Contains}
use Rattle.std.specs.List.{dedup}
use Rattle.std.specs.List.Sorted.{IsPermutation, IsSorted}
use Rattle.std.specs.Cmp.Lexicographic.{nat_list_cmp_total, nat_list_eq_equiv, slice_cmp, texts_ties}
use Rattle.std.specs.Ordering.{nat_cmp}
use Rattle.std.specs.Str.{bytes_eq}
use Rattle.page_host.specs.Names.{AreScriptsOf, is_userscript}
use Rattle.page_host.proofs.NameLists.{cases, nowhere, there}

in_filter_from : (p : List ℕ → Bool) (x y : List ℕ) (xs : List (List ℕ)) → p y ≡ true → (Contains xs y → Contains (filter p xs) y) → (x ≡ y) ⊎ Contains xs y → Contains (filter p (x ∷ xs)) y
in_filter_from p x y xs q further (inl same) = rw (ap p same ∙ q) (0, omega arith, same)
in_filter_from p x y xs q further (inr among) =
    elim (p x) as (λ b. Contains (if b then x ∷ filter p xs else filter p xs) y) [
      | true ↦ there x y (filter p xs) (further among)
      | false ↦ further among
    ]

in_filter : (p : List ℕ → Bool) (xs : List (List ℕ)) (y : List ℕ) → Contains xs y → p y ≡ true → Contains (filter p xs) y
in_filter p [] y is q = absurd (nowhere y is)
in_filter p (x ∷ xs) y is q = in_filter_from p x y xs q (λ among. in_filter p xs y among q) (cases x y xs is)

further_on : (p : List ℕ → Bool) (x y : List ℕ) (xs : List (List ℕ)) → Contains xs y × (p y ≡ true) → Contains (x ∷ xs) y × (p y ≡ true)
further_on p x y xs found = (there x y xs found.0, found.1)

at_front : (p : List ℕ → Bool) (x y : List ℕ) (xs : List (List ℕ)) → p x ≡ true → (Contains (filter p xs) y → Contains xs y × (p y ≡ true)) → (x ≡ y) ⊎ Contains (filter p xs) y → Contains (x ∷ xs) y × (p y ≡ true)
at_front p x y xs e further (inl same) = ((0, omega arith, same), ap p (sym same) ∙ e)
at_front p x y xs e further (inr among) = further_on p x y xs (further among)

from_filter : (p : List ℕ → Bool) (xs : List (List ℕ)) (y : List ℕ) → Contains (filter p xs) y → Contains xs y × (p y ≡ true)
from_filter p [] y is = absurd (nowhere y is)
from_filter p (x ∷ xs) y is =
    elim (p x) as (λ b. p x ≡ b → Contains (if b then x ∷ filter p xs else filter p xs) y → Contains (x ∷ xs) y × (p y ≡ true)) [
      | true ↦ λ e among. at_front p x y xs e (λ rest. from_filter p xs y rest) (cases x y (filter p xs) among)
      | false ↦ λ e among. further_on p x y xs (from_filter p xs y among)
    ] refl is

filter_map : {A : Type 0} (p : List ℕ → Bool) (f : A → List ℕ) (xs : List A) → map f (filter (λ x. p (f x)) xs) ≡ filter p (map f xs)
filter_map p f [] = refl
filter_map p f (x ∷ xs) =
    elim (p (f x)) as (λ b. map f (if b then x ∷ filter (λ y. p (f y)) xs else filter (λ y. p (f y)) xs) ≡ (if b then f x ∷ filter p (map f xs) else filter p (map f xs))) [
      | true ↦ ap (λ l. f x ∷ l) (filter_map p f xs)
      | false ↦ filter_map p f xs
    ]

dedup_more : {A : Type 0} (f : A → List ℕ) (k : A) (xs : List A) → map f (dedup (λ x y. bytes_eq (f x) (f y)) (k ∷ xs)) ≡ dedup bytes_eq (f k ∷ map f xs)
dedup_more f k [] = refl
dedup_more f k (x ∷ xs) =
    elim (bytes_eq (f x) (f k)) as (λ b. map f (cond b (dedup (λ x y. bytes_eq (f x) (f y)) (k ∷ xs)) (k ∷ dedup (λ x y. bytes_eq (f x) (f y)) (x ∷ xs))) ≡ cond b (dedup bytes_eq (f k ∷ map f xs)) (f k ∷ dedup bytes_eq (f x ∷ map f xs))) [
      | true ↦ dedup_more f k xs
      | false ↦ ap (λ l. f k ∷ l) (dedup_more f x xs)
    ]

dedup_map : {A : Type 0} (f : A → List ℕ) (xs : List A) → map f (dedup (λ x y. bytes_eq (f x) (f y)) xs) ≡ dedup bytes_eq (map f xs)
dedup_map f [] = refl
dedup_map f (x ∷ xs) = dedup_more f x xs

sorted_map : {A : Type 0} (f : A → List ℕ) (xs : List A) → IsSorted (λ x y. slice_cmp nat_cmp (f x) (f y)) xs → IsSorted (slice_cmp nat_cmp) (map f xs)
sorted_map f [] sorted = λ k d low high. absurd (omega (arith, high))
sorted_map f (x ∷ xs) sorted =
    λ k d low high.
    let within : k + 1 < length (x ∷ xs) = omega (arith, high, length-map (x ∷ xs) f) in
    rw (get_or-map f (x ∷ xs) (k + 1) x d within, get_or-map f (x ∷ xs) k x d (omega (arith, within))) (sorted k x low within)

pub script_order : {A : Type 0} (f : A → List ℕ) (xs fs ss ds : List A) → fs ≡ filter (λ x. is_userscript (f x)) xs → IsPermutation fs ss → IsSorted (λ x y. slice_cmp nat_cmp (f x) (f y)) ss → ds ≡ dedup (λ x y. bytes_eq (f x) (f y)) ss
    → AreScriptsOf (map f xs) (map f ds)
script_order f xs fs ss ds kept moved sorted once =
    let is : map f ds ≡ dedup bytes_eq (map f ss) = ap (map f) once ∙ dedup_map f ss in
    let picked : map f fs ≡ filter is_userscript (map f xs) = ap (map f) kept ∙ filter_map is_userscript f xs in
    let moves = IsPermutation-map f fs ss moved in
    rw is
    (record {
      order = IsStrictlySortedBy-dedup nat_list_cmp_total texts_ties (map f ss) (sorted_map f ss sorted);
      exact = λ name.
          let P : List (List ℕ) → Type 0 = λ l. Contains l name in (
            (λ among. from_filter is_userscript (map f xs) name (subst P picked (Contains-permutation (map f ss) (map f fs) name (IsPermutation-sym (map f fs) (map f ss) moves) (Contains-from_dedup bytes_eq (map f ss) name among)))),
            (λ both. Contains-dedup nat_list_eq_equiv (λ x y e. (bytes_eq-Decides x y).0 e) (map f ss) name (Contains-permutation (map f fs) (map f ss) name moves (subst P (sym picked) (in_filter is_userscript (map f xs) name both.0 both.1)))),
          );
    })
