-- The front of a list before the first that passes a test.
use Rattle.std.proofs.Common.{◌≡◌, ◌∙◌, ◌||◌, ap, cond, sym, refl, not, Bool, true, false, List, [], ◌∷◌, ◌++◌}
use Rattle.std.specs.List.{list_any, take_while}
use Rattle.std.proofs.lemmas.List.Sums.{take_while-cons}

-- none of that front passes
pub none_before : {A : Type 0} (p : A → Bool) (xs : List A) → list_any p (take_while (λ x. not (p x)) xs) ≡ false
none_before p [] = refl
none_before p (x ∷ xs) = ap (list_any p) (take_while-cons (λ y. not (p y)) x xs) ∙ by (p x) refl (none_before p xs)
  where
    by : (b : Bool) → p x ≡ b → list_any p (take_while (λ y. not (p y)) xs) ≡ false → list_any p (cond (not (p x)) (x ∷ take_while (λ y. not (p y)) xs) []) ≡ false
    by true e none = rw e refl
    by false e none = rw (e, e) none

rest_of : (a b : Bool) → a ≡ false → (a || b) ≡ false → b ≡ false
rest_of true b e h = absurd cc
rest_of false b e h = h

-- where none passes, the front goes at least as far
pub all_before : {A : Type 0} (p : A → Bool) (xs ys : List A) → list_any p xs ≡ false → take_while (λ x. not (p x)) (xs ++ ys) ≡ xs ++ take_while (λ x. not (p x)) ys
all_before p [] ys none = refl
all_before p (x ∷ xs) ys none = take_while-cons (λ y. not (p y)) x (xs ++ ys) ∙ by (p x) refl none (all_before p xs ys)
  where
    by : (b : Bool) → p x ≡ b → list_any p (x ∷ xs) ≡ false → (list_any p xs ≡ false → take_while (λ y. not (p y)) (xs ++ ys) ≡ xs ++ take_while (λ y. not (p y)) ys)
        → cond (not (p x)) (x ∷ take_while (λ y. not (p y)) (xs ++ ys)) [] ≡ (x ∷ xs) ++ take_while (λ y. not (p y)) ys
    by true e h more = absurd cc
    by false e h more = rw e (ap (λ zs. x ∷ zs) (more (rest_of (p x) (list_any p xs) e h)))

taken : {A : Type 0} (p : A → Bool) (x : A) (xs : List A) → p x ≡ true → take_while p (x ∷ xs) ≡ x ∷ take_while p xs
taken p x xs e = take_while-cons p x xs ∙ chosen
  where
    chosen : cond (p x) (x ∷ take_while p xs) [] ≡ x ∷ take_while p xs
    chosen = rw e refl

ended : {A : Type 0} (p : A → Bool) (x : A) (xs : List A) → p x ≡ false → take_while p (x ∷ xs) ≡ []
ended p x xs e = take_while-cons p x xs ∙ chosen
  where
    chosen : cond (p x) (x ∷ take_while p xs) [] ≡ []
    chosen = rw e refl

-- the list begins with that front
pub front_first : {A : Type 0} (p : A → Bool) (xs : List A) → (rest : List A) × (xs ≡ take_while p xs ++ rest)
front_first p [] = ([], refl)
front_first p (x ∷ xs) = by (p x) refl (front_first p xs)
  where
    by : (b : Bool) → p x ≡ b → ((rest : List _) × (xs ≡ take_while p xs ++ rest)) → (rest : List _) × (x ∷ xs ≡ take_while p (x ∷ xs) ++ rest)
    by true e more = (more.0, ap (λ zs. x ∷ zs) more.1 ∙ sym (ap (λ zs. zs ++ more.0) (taken p x xs e)))
    by false e more = (x ∷ xs, sym (ap (λ zs. zs ++ (x ∷ xs)) (ended p x xs e)))
