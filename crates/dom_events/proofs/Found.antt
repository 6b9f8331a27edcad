-- What a search finds, and lists that are gone through place by place.
use Rattle.std.proofs.Common.{◌≡◌, ◌<◌, ℕ, Bool, true, false, List, [], ◌∷◌, length, get_or, refl, arith, Some, None}
use Rattle.std.specs.Prelude.{position}
use Rattle.std.specs.List.{find, All}
use Prim.Native.Nat.{zero, suc}
use Rattle.std.proofs.lemmas.List.Quantifiers.{position-Some}
use Rattle.dom_tree.proofs.Lists.{position_none}

pub find-first : {X : Type 0} (p : X → Bool) (xs : List X) (i : ℕ) (d : X) → i < length xs → p (get_or xs i d) ≡ true → ((k : ℕ) → k < i → p (get_or xs k d) ≡ false) → find p xs ≡ Some (get_or xs i d)
find-first p [] i d lt here before = absurd (omega arith)
find-first p (x ∷ xs) zero d lt here before = rw here refl
find-first p (x ∷ xs) (suc i) d lt here before = rw (before 0 (omega arith)) (find-first p xs i d (omega arith) here (λ k h. before (suc k) (omega arith)))

pub find-none : {X : Type 0} (p : X → Bool) (xs : List X) → All (λ x. p x ≡ false) xs → find p xs ≡ None
find-none p [] none = refl
find-none p (x ∷ xs) none = rw (none 0 x (omega arith)) (find-none p xs (λ k d lt. none (suc k) d (omega arith)))

-- where a position is found, the search finds the item there, and else nothing
pub find-at : {X : Type 0} (p : X → Bool) (xs : List X) (i : ℕ) (d : X) → position p xs ≡ Some i → find p xs ≡ Some (get_or xs i d)
find-at p xs i d found = let s = position-Some p xs i d found in find-first p xs i d s.0 s.1 s.2

pub find-missing : {X : Type 0} (p : X → Bool) (xs : List X) → position p xs ≡ None → find p xs ≡ None
find-missing p xs none = find-none p xs (position_none p xs none)
