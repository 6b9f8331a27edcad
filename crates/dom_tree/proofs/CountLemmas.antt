-- The counts of makers, read and written at the first entry.
use Rattle.std.proofs.Common.{◌≡◌, ◌+◌, ◌<◌, ℕ, true, false, cond, List, [], ◌∷◌, ◌++◌, length, get_or, refl, ap, sym, ◌∙◌, arith, None, ⊎_elim}
use Rattle.std.specs.Prelude.{nat_eq, position, slice_set, is_some}
use Rattle.std.specs.List.{list_any}
use Prim.Native.Nat.{zero, suc}
use Rattle.std.proofs.lemmas.List.Quantifiers.{position-Some}
use Rattle.std.proofs.lemmas.Bool.{both_ways, cases_Bool, or_parts, or_right, eq-eqb, eqb-true, eqb-false, ne_eqb}
use Rattle.dom_tree.proofs.Lists.{list_any-position}
use Rattle.dom_tree.proofs.Parents.{cases_option}
use Rattle.std.proofs.lemmas.List.Folds.{list_any_at}
use Rattle.door.specs.declared.values.Actor.{Actor}
use Rattle.dom_tree.specs.Counts.{is_of, has_count, count_in}

-- the first entry of a maker has its count
pub count_in-first : (counts : List (Actor × ℕ)) (maker : Actor) (i : ℕ) (d : Actor × ℕ) → i < length counts → is_of maker (get_or counts i d) ≡ true → ((k : ℕ) → k < i → is_of maker (get_or counts k d) ≡ false) → count_in counts maker ≡ (get_or counts i d).1
count_in-first [] maker i d lt here before = absurd (omega arith)
count_in-first (entry ∷ counts) maker zero d lt here before = rw here refl
count_in-first (entry ∷ counts) maker (suc i) d lt here before =
    rw (before 0 (omega arith)) (count_in-first counts maker i d (omega arith) here (λ k h. before (suc k) (omega arith)))

pub count_in-none : (counts : List (Actor × ℕ)) (maker : Actor) → list_any (is_of maker) counts ≡ false → count_in counts maker ≡ 0
count_in-none [] maker h = refl
count_in-none (entry ∷ counts) maker h =
    let parts = or_parts (is_of maker entry) (list_any (is_of maker) counts) h in rw parts.0 (count_in-none counts maker parts.1)

-- an entry of 0 at the end changes no count
pub count_in-push : (counts : List (Actor × ℕ)) (maker other : Actor) → count_in (counts ++ (maker, 0) ∷ []) other ≡ count_in counts other
count_in-push [] maker other = ⊎_elim (λ yes. rw yes refl) (λ no. rw no refl) (cases_Bool (nat_eq maker.0 other.0))
count_in-push (entry ∷ counts) maker other = ap (λ n. cond (is_of other entry) entry.1 n) (count_in-push counts maker other)

pub has_count-push : (counts : List (Actor × ℕ)) (maker : Actor) → has_count (counts ++ (maker, 0) ∷ []) maker ≡ true
has_count-push [] maker = rw (eq-eqb maker.0 maker.0 refl) refl
has_count-push (entry ∷ counts) maker = rw (has_count-push counts maker) (or_right (is_of maker entry) true refl)

-- the count at a maker's first entry is raised
pub count_in-raised : (counts : List (Actor × ℕ)) (maker : Actor) (i more : ℕ) (d : Actor × ℕ) (other : Actor) → i < length counts → is_of maker (get_or counts i d) ≡ true → ((k : ℕ) → k < i → is_of maker (get_or counts k d) ≡ false) → count_in (slice_set counts i ((get_or counts i d).0, (get_or counts i d).1 + more)) other ≡ cond (nat_eq maker.0 other.0) (count_in counts other + more) (count_in counts other)
count_in-raised [] maker i more d other lt here before = absurd (omega arith)
count_in-raised (entry ∷ counts) maker zero more d other lt here before =
    let same : entry.0.0 ≡ maker.0 = eqb-true entry.0.0 maker.0 here in
    rw same (⊎_elim (λ yes. rw yes refl) (λ no. rw no refl) (cases_Bool (nat_eq maker.0 other.0)))
count_in-raised (entry ∷ counts) maker (suc i) more d other lt here before =
    ⊎_elim
    (λ yes.
    let other_one : nat_eq maker.0 other.0 ≡ false =
    ne_eqb _ _ (λ e. eqb-false entry.0.0 maker.0 (before 0 (omega arith)) (eqb-true entry.0.0 other.0 yes ∙ sym e)) in
    rw (yes, other_one) refl)
    (λ no. rw no (count_in-raised counts maker i more d other (omega arith) here (λ k h. before (suc k) (omega arith))))
    (cases_Bool (is_of other entry))

-- a position that isn't found, and one that is
pub has_count-none : (counts : List (Actor × ℕ)) (maker : Actor) → position (is_of maker) counts ≡ None → has_count counts maker ≡ false
has_count-none counts maker none =
    list_any-position (is_of maker) counts none

pub has_count-some : (counts : List (Actor × ℕ)) (maker : Actor) → is_some (position (is_of maker) counts) ≡ true → has_count counts maker ≡ true
has_count-some counts maker some =
    ⊎_elim (λ none. absurd (both_ways _ (ap is_some none) some))
    (λ (i, found). let p = position-Some (is_of maker) counts i (record { 0 = 0 }, 0) found in list_any_at (is_of maker) counts i _ p.0 p.1)
    (cases_option (position (is_of maker) counts))
