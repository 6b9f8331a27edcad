-- What the readers of addresses, pages and userscripts go by.
use Rattle.std.proofs.Common.{◌≡◌, ◌∙◌, sym, refl, subst, not, ℕ, Bool, true, false, List, [], ◌∷◌, ◌++◌, IsTrue}
use Rattle.std.proofs.lemmas.List.{append_cancel_left, append_cancel_right}
use Rattle.small_forms.specs.declared.bytes.Class.{Class}
use Rattle.small_forms.specs.Bytes.{are_in, is_in, stops}
use Rattle.small_forms.proofs.Runs.{both_true}

both_ways : (b : Bool) → IsTrue b → IsTrue (not b) → ⊥
both_ways true h k = cc
both_ways false h k = cc

-- where two texts begin with bytes of a class, as many as there are, they begin with the same ones
pub same_front : (class : Class) (xs ys us vs : List ℕ) → xs ++ us ≡ ys ++ vs → IsTrue (are_in class xs) → IsTrue (are_in class ys) → IsTrue (stops class us) → IsTrue (stops class vs) → (xs ≡ ys) × (us ≡ vs)
same_front class [] [] us vs e p q s t = (refl, e)
same_front class [] (y ∷ ys) us vs e p q s t =
    let P : List ℕ → Type 0 = λ l. IsTrue (stops class l) in
    absurd (both_ways (is_in class y) (both_true (is_in class y) (are_in class ys) q).0 (subst P e s))
same_front class (x ∷ xs) [] us vs e p q s t =
    let P : List ℕ → Type 0 = λ l. IsTrue (stops class l) in
    absurd (both_ways (is_in class x) (both_true (is_in class x) (are_in class xs) p).0 (subst P (sym e) t))
same_front class (x ∷ xs) (y ∷ ys) us vs e p q s t =
    let tails : xs ++ us ≡ ys ++ vs = cc in
    let heads : x ≡ y = cc in
    let rest = same_front class xs ys us vs tails (both_true (is_in class x) (are_in class xs) p).1 (both_true (is_in class y) (are_in class ys) q).1 s t in
    let same : xs ≡ ys = rest.0 in
    (cc, rest.1)

-- what stands between a front and an end is one text
pub same_middle : (front middle end whole rest other : List ℕ) → whole ≡ front ++ rest → rest ≡ middle ++ end → whole ≡ front ++ (other ++ end) → middle ≡ other
same_middle front middle end whole rest other e r f = append_cancel_right middle other end (sym r ∙ append_cancel_left front rest (other ++ end) (sym e ∙ f))
