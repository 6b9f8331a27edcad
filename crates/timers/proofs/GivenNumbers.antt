-- The numbers that were given, read and raised at the first entry of an actor.
use Rattle.std.proofs.Common.{◌≡◌, ◌+◌, ◌<◌, ◌≤◌, ℕ, Bool, true, false, List, [], ◌∷◌, ◌++◌, length, get_or, refl, ap, ◌∙◌, arith, None, Some, ⊎_elim}
use Rattle.std.specs.Prelude.{nat_lt, position, slice_set}
use Rattle.std.specs.List.{position_or_len, All}
use Prim.Native.Nat.{zero, suc}
use Rattle.std.proofs.lemmas.Bool.{cases_Bool, le-leb, ltb-false}
use Rattle.std.proofs.lemmas.List.Sums.{fails_before_first}
use Rattle.std.proofs.lemmas.List.Quantifiers.{position-Some}
use Rattle.door.specs.declared.values.Actor.{Actor}
use Rattle.dom_semantics.specs.Timers.{next_in, given_in, first_due, if_due, next_due}
use Rattle.dom_semantics.specs.declared.timers.Timer.{Timer}
use Rattle.timers.specs.Due.{is_given_to}

-- where no position is found, none passes
pub position_none : {X : Type 0} (p : X → Bool) (xs : List X) → position p xs ≡ None → All (λ x. p x ≡ false) xs
position_none p xs none k d lt =
    ⊎_elim
    (λ yes. let some : position p xs ≡ Some (position_or_len p xs) = rw yes refl in absurd (cc))
    (λ no. let end : length xs ≤ position_or_len p xs = ltb-false _ _ no in fails_before_first p xs k d (omega arith))
    (cases_Bool (nat_lt (position_or_len p xs) (length xs)))

next_in-at : (gs : List (Actor × ℕ)) (i : Actor) (at : ℕ) (d : Actor × ℕ) → at < length gs → is_given_to i (get_or gs at d) ≡ true → ((k : ℕ) → k < at → is_given_to i (get_or gs k d) ≡ false) → next_in gs i ≡ (get_or gs at d).1 + 1
next_in-at [] i at d lt here before = absurd (omega arith)
next_in-at (g ∷ gs) i zero d lt here before = rw here refl
next_in-at (g ∷ gs) i (suc at) d lt here before = rw (before 0 (omega arith)) (next_in-at gs i at d (omega arith) here (λ k h. before (suc k) (omega arith)))

pub next_in-first : (gs : List (Actor × ℕ)) (i : Actor) (at : ℕ) (d : Actor × ℕ) → position (is_given_to i) gs ≡ Some at → next_in gs i ≡ (get_or gs at d).1 + 1
next_in-first gs i at d found = let p = position-Some (is_given_to i) gs at d found in next_in-at gs i at d p.0 p.1 p.2

next_in-all : (gs : List (Actor × ℕ)) (i : Actor) → All (λ g. is_given_to i g ≡ false) gs → next_in gs i ≡ 1
next_in-all [] i none = refl
next_in-all (g ∷ gs) i none = rw (none 0 g (omega arith)) (next_in-all gs i (λ k d lt. none (suc k) d (omega arith)))

pub next_in-none : (gs : List (Actor × ℕ)) (i : Actor) → position (is_given_to i) gs ≡ None → next_in gs i ≡ 1
next_in-none gs i none = next_in-all gs i (position_none (is_given_to i) gs none)

given_in-at : (gs : List (Actor × ℕ)) (i : Actor) (at : ℕ) (d : Actor × ℕ) → at < length gs → is_given_to i (get_or gs at d) ≡ true → ((k : ℕ) → k < at → is_given_to i (get_or gs k d) ≡ false) → slice_set gs at ((get_or gs at d).0, (get_or gs at d).1 + 1) ≡ given_in gs i
given_in-at [] i at d lt here before = absurd (omega arith)
given_in-at (g ∷ gs) i zero d lt here before = rw here refl
given_in-at (g ∷ gs) i (suc at) d lt here before =
    rw (before 0 (omega arith)) (ap (λ r. g ∷ r) (given_in-at gs i at d (omega arith) here (λ k h. before (suc k) (omega arith))))

pub given_in-first : (gs : List (Actor × ℕ)) (i : Actor) (at : ℕ) (d : Actor × ℕ) → position (is_given_to i) gs ≡ Some at → slice_set gs at ((get_or gs at d).0, (get_or gs at d).1 + 1) ≡ given_in gs i
given_in-first gs i at d found = let p = position-Some (is_given_to i) gs at d found in given_in-at gs i at d p.0 p.1 p.2

given_in-all : (gs : List (Actor × ℕ)) (i : Actor) → All (λ g. is_given_to i g ≡ false) gs → gs ++ (i, 1) ∷ [] ≡ given_in gs i
given_in-all [] i none = refl
given_in-all (g ∷ gs) i none = rw (none 0 g (omega arith)) (ap (λ r. g ∷ r) (given_in-all gs i (λ k d lt. none (suc k) d (omega arith))))

pub given_in-none : (gs : List (Actor × ℕ)) (i : Actor) → position (is_given_to i) gs ≡ None → gs ++ (i, 1) ∷ [] ≡ given_in gs i
given_in-none gs i none = given_in-all gs i (position_none (is_given_to i) gs none)

-- the first timer is due at a clock that its due time is not after
pub next_due-due : (waiting : List Timer) (t : Timer) (upto : ℕ) → first_due waiting ≡ Some t → t.due ≤ upto → next_due waiting upto ≡ Some t
next_due-due waiting t upto first within = ap (if_due upto) first ∙ rw (le-leb t.due upto within) refl
