-- What stands where in a list of which an item is written or added.
use Rattle.std.proofs.Common.{◌≡◌, ◌≢◌, ℕ, zero, suc, ◌+◌, ◌<◌, List, [], ◌∷◌, ◌++◌, refl, sym, ap, ◌∙◌, length, arith, Option, Some, None, ◌⊎◌, inl, inr}
use Rattle.std.specs.Prelude.{slice_get, slice_set}
use Rattle.std.proofs.lemmas.Option.{same_Some}

pub by_number : (k n : ℕ) (P : Type 0) → (k ≡ n → P) → (k ≢ n → P) → P
by_number zero zero P s d = s refl
by_number zero (suc n) P s d = d (λ w. absurd (omega arith))
by_number (suc k) zero P s d = d (λ w. absurd (omega arith))
by_number (suc k) (suc n) P s d = by_number k n P (λ e. s (ap (λ j. suc j) e)) (λ w. d (λ e. w (omega arith)))

pub one_less : (j n : ℕ) → j ≢ n → (j < n) ⊎ (n < j)
one_less zero zero d = absurd (d refl)
one_less zero (suc n) d = inl (omega arith)
one_less (suc j) zero d = inr (omega arith)
one_less (suc j) (suc n) d = elim (one_less j n (λ e. d (ap (λ k. suc k) e))) as (λ _. (suc j < suc n) ⊎ (suc n < suc j)) [ inl a ↦ inl (omega arith) | inr b ↦ inr (omega arith) ]

-- ---- an item is written

pub get_set_same : {A : Type 0} (xs : List A) (n : ℕ) (y x : A) → slice_get xs n ≡ Some x → slice_get (slice_set xs n y) n ≡ Some y
get_set_same [] n y x e = absurd (cc)
get_set_same (z ∷ xs) zero y x e = refl
get_set_same (z ∷ xs) (suc n) y x e = get_set_same xs n y x e

pub get_set_other : {A : Type 0} (xs : List A) (n k : ℕ) (y : A) → k ≢ n → slice_get (slice_set xs n y) k ≡ slice_get xs k
get_set_other [] n k y d = refl
get_set_other (z ∷ xs) zero zero y d = absurd (d refl)
get_set_other (z ∷ xs) zero (suc k) y d = refl
get_set_other (z ∷ xs) (suc n) zero y d = refl
get_set_other (z ∷ xs) (suc n) (suc k) y d = get_set_other xs n k y (λ w. d (omega arith))

pub set_same : {A : Type 0} (xs : List A) (n : ℕ) (x : A) → slice_get xs n ≡ Some x → slice_set xs n x ≡ xs
set_same [] n x e = absurd (cc)
set_same (z ∷ xs) zero x e = ap (λ y. y ∷ xs) (sym (same_Some z x e))
set_same (z ∷ xs) (suc n) x e = ap (λ r. z ∷ r) (set_same xs n x e)

pub length_set : {A : Type 0} (xs : List A) (n : ℕ) (y : A) → length (slice_set xs n y) ≡ length xs
length_set [] n y = refl
length_set (x ∷ xs) zero y = refl
length_set (x ∷ xs) (suc n) y = ap (λ k. suc k) (length_set xs n y)

-- ---- items are added

pub length_snoc : {A : Type 0} (xs : List A) (y : A) → length (xs ++ y ∷ []) ≡ suc (length xs)
length_snoc [] y = refl
length_snoc (x ∷ xs) y = ap (λ n. suc n) (length_snoc xs y)

pub get_left : {A : Type 0} (xs ys : List A) (n : ℕ) → n < length xs → slice_get (xs ++ ys) n ≡ slice_get xs n
get_left [] ys n h = absurd (omega arith)
get_left (x ∷ xs) ys zero h = refl
get_left (x ∷ xs) ys (suc n) h = get_left xs ys n (omega arith)

pub get_right : {A : Type 0} (xs ys : List A) (n : ℕ) → slice_get (xs ++ ys) (length xs + n) ≡ slice_get ys n
get_right [] ys n = let e : 0 + n ≡ n = omega arith in ap (λ k. slice_get ys k) e
get_right (x ∷ xs) ys n = let e : suc (length xs) + n ≡ suc (length xs + n) = omega arith in ap (λ k. slice_get (x ∷ (xs ++ ys)) k) e ∙ get_right xs ys n

-- what stood stands
pub get_kept : {A : Type 0} (xs ys : List A) (n : ℕ) (x : A) → slice_get xs n ≡ Some x → slice_get (xs ++ ys) n ≡ Some x
get_kept [] ys n x e = absurd (cc)
get_kept (z ∷ xs) ys zero x e = e
get_kept (z ∷ xs) ys (suc n) x e = get_kept xs ys n x e

-- what stands stood, or is one of those that were added
pub get_added : {A : Type 0} (xs ys : List A) (n : ℕ) (x : A) (P : Type 0) → slice_get (xs ++ ys) n ≡ Some x → (slice_get xs n ≡ Some x → P) → ((k : ℕ) → n ≡ length xs + k → slice_get ys k ≡ Some x → P) → P
get_added [] ys n x P e old new = new n (omega arith) e
get_added (z ∷ xs) ys zero x P e old new = old e
get_added (z ∷ xs) ys (suc n) x P e old new = get_added xs ys n x P e old (λ k q g. new k (omega arith) g)

pub get_one : {A : Type 0} (x y : A) (k : ℕ) → slice_get (x ∷ []) k ≡ Some y → (k ≡ 0) × (y ≡ x)
get_one x y zero e = (refl, sym (same_Some x y e))
get_one x y (suc k) e = absurd (cc)

-- the item that was added last
pub get_last : {A : Type 0} (xs : List A) (x : A) (n : ℕ) → n ≡ length xs → slice_get (xs ++ x ∷ []) n ≡ Some x
get_last [] x zero e = refl
get_last [] x (suc n) e = absurd (omega arith)
get_last (y ∷ ys) x zero e = absurd (omega arith)
get_last (y ∷ ys) x (suc n) e = get_last ys x n (omega arith)

-- one is added: what stands stood, or is that one
pub by_last : {A : Type 0} (xs : List A) (x y : A) (n : ℕ) (P : Type 0) → slice_get (xs ++ x ∷ []) n ≡ Some y → (slice_get xs n ≡ Some y → P) → (n ≡ length xs → y ≡ x → P) → P
by_last [] x y zero P e old new = new refl (sym (same_Some x y e))
by_last [] x y (suc n) P e old new = absurd (cc)
by_last (z ∷ xs) x y zero P e old new = old e
by_last (z ∷ xs) x y (suc n) P e old new = by_last xs x y n P e old (λ q g. new (ap (λ j. suc j) q) g)
