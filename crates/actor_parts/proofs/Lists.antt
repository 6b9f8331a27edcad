-- What stands where in a list of which an item is written or added, and in what is kept of it.
use Rattle.std.proofs.Common.{◌≡◌, ◌≢◌, ℕ, zero, suc, List, [], ◌∷◌, ◌++◌, refl, sym, ap, ◌∙◌, length, map, arith, Option, Some, None}
use Rattle.std.specs.Prelude.{slice_get, slice_set, filter_map, filter, take, is_some, Bool, true, false}
use Rattle.std.proofs.lemmas.Option.{same_Some}

pub by_number : (k n : ℕ) (P : Type 0) → (k ≡ n → P) → (k ≢ n → P) → P
by_number zero zero P s d = s refl
by_number zero (suc n) P s d = d (λ w. absurd (omega arith))
by_number (suc k) zero P s d = d (λ w. absurd (omega arith))
by_number (suc k) (suc n) P s d = by_number k n P (λ e. s (ap (λ j. suc j) e)) (λ w. d (λ e. w (omega arith)))

-- ---- an item is written

pub get_set_same : {A : Type 0} (xs : List A) (n : ℕ) (y x : A) → slice_get xs n ≡ Some x → slice_get (slice_set xs n y) n ≡ Some y
get_set_same [] n y x e = absurd (cc)
get_set_same (z ∷ xs) zero y x e = refl
get_set_same (z ∷ xs) (suc n) y x e = get_set_same xs n y x e

pub get_set_other : {A : Type 0} (xs : List A) (n k : ℕ) (y : A) → k ≢ n → slice_get (slice_set xs n y) k ≡ slice_get xs k
get_set_other [] n k y d = refl
get_set_other (z ∷ xs) zero zero y d = absurd (d refl)
get_set_other (z ∷ xs) zero (suc k) y d = refl
get_set_other (z ∷ xs) (suc n) zero y d = refl
get_set_other (z ∷ xs) (suc n) (suc k) y d = get_set_other xs n k y (λ w. d (omega arith))

-- what stands after it is the new item, or stood
pub by_set : {A : Type 0} (xs : List A) (n k : ℕ) (y x : A) (P : Type 0) → slice_get (slice_set xs n y) k ≡ Some x → (k ≡ n → x ≡ y → P) → (k ≢ n → slice_get xs k ≡ Some x → P) → P
by_set [] n k y x P e new old = absurd (cc)
by_set (z ∷ xs) zero zero y x P e new old = new refl (sym (same_Some y x e))
by_set (z ∷ xs) zero (suc k) y x P e new old = old (λ w. absurd (omega arith)) e
by_set (z ∷ xs) (suc n) zero y x P e new old = old (λ w. absurd (omega arith)) e
by_set (z ∷ xs) (suc n) (suc k) y x P e new old = by_set xs n k y x P e (λ q g. new (ap (λ j. suc j) q) g) (λ d g. old (λ w. d (omega arith)) g)

pub set_same : {A B : Type 0} (f : A → B) (xs : List A) (n : ℕ) (x y : A) → slice_get xs n ≡ Some x → f y ≡ f x → map f (slice_set xs n y) ≡ map f xs
set_same f [] n x y e q = refl
set_same f (z ∷ xs) zero x y e q = let s : z ≡ x = same_Some z x e in cc
set_same f (z ∷ xs) (suc n) x y e q = let r : map f (slice_set xs n y) ≡ map f xs = set_same f xs n x y e q in cc

pub set_got : {A : Type 0} (xs : List A) (n : ℕ) (x : A) → slice_get xs n ≡ Some x → slice_set xs n x ≡ xs
set_got [] n x e = absurd (cc)
set_got (z ∷ xs) zero x e = ap (λ y. y ∷ xs) (sym (same_Some z x e))
set_got (z ∷ xs) (suc n) x e = ap (λ r. z ∷ r) (set_got xs n x e)

-- ---- two functions on one list

pub map_agree : {A B : Type 0} (f g : A → B) (xs : List A) → ((k : ℕ) (x : A) → slice_get xs k ≡ Some x → f x ≡ g x) → map f xs ≡ map g xs
map_agree f g [] h = refl
map_agree f g (x ∷ xs) h = let e : f x ≡ g x = h 0 x refl in let r : map f xs ≡ map g xs = map_agree f g xs (λ k y q. h (suc k) y q) in cc

pub map_set_at : {A B : Type 0} (f g : A → B) (xs : List A) (n : ℕ) (x : A) → slice_get xs n ≡ Some x → ((k : ℕ) (y : A) → k ≢ n → slice_get xs k ≡ Some y → g y ≡ f y) → map g xs ≡ slice_set (map f xs) n (g x)
map_set_at f g [] n x e h = absurd (cc)
map_set_at f g (y ∷ ys) zero x e h =
    let s : y ≡ x = same_Some y x e in
    let r : map g ys ≡ map f ys = map_agree g f ys (λ k z q. h (suc k) z (λ w. absurd (omega arith)) q) in
    cc
map_set_at f g (y ∷ ys) (suc n) x e h =
    let s : g y ≡ f y = h 0 y (λ w. absurd (omega arith)) refl in
    let r : map g ys ≡ slice_set (map f ys) n (g x) = map_set_at f g ys n x e (λ k z d q. h (suc k) z (λ w. d (omega arith)) q) in
    cc

-- ---- items are added

pub get_left : {A : Type 0} (xs ys : List A) (n : ℕ) (x : A) → slice_get xs n ≡ Some x → slice_get (xs ++ ys) n ≡ Some x
get_left [] ys n x e = absurd (cc)
get_left (y ∷ xs) ys zero x e = e
get_left (y ∷ xs) ys (suc n) x e = get_left xs ys n x e

pub get_last : {A : Type 0} (xs : List A) (y : A) → slice_get (xs ++ y ∷ []) (length xs) ≡ Some y
get_last [] y = refl
get_last (x ∷ xs) y = get_last xs y

-- what stands afterwards stood, or is the last one
pub by_last : {A : Type 0} (xs : List A) (y x : A) (n : ℕ) (P : Type 0) → slice_get (xs ++ y ∷ []) n ≡ Some x → (slice_get xs n ≡ Some x → P) → (n ≡ length xs → x ≡ y → P) → P
by_last [] y x zero P e old new = new refl (sym (same_Some y x e))
by_last [] y x (suc n) P e old new = absurd (cc)
by_last (z ∷ xs) y x zero P e old new = old e
by_last (z ∷ xs) y x (suc n) P e old new = by_last xs y x n P e old (λ q g. new (ap (λ j. suc j) q) g)

pub take_left : {A : Type 0} (xs ys : List A) (n : ℕ) (x : A) → slice_get xs n ≡ Some x → take n (xs ++ ys) ≡ take n xs
take_left [] ys n x e = absurd (cc)
take_left (z ∷ xs) ys zero x e = refl
take_left (z ∷ xs) ys (suc n) x e = ap (λ r. z ∷ r) (take_left xs ys n x e)

pub take_all : {A : Type 0} (xs ys : List A) → take (length xs) (xs ++ ys) ≡ xs
take_all [] ys = refl
take_all (x ∷ xs) ys = ap (λ r. x ∷ r) (take_all xs ys)

-- ---- how many pass a test

pub count_yes : {A : Type 0} (p : A → Bool) (x : A) (xs : List A) → p x ≡ true → length (filter p (x ∷ xs)) ≡ suc (length (filter p xs))
count_yes p x xs e = rw e refl

pub count_no : {A : Type 0} (p : A → Bool) (x : A) (xs : List A) → p x ≡ false → length (filter p (x ∷ xs)) ≡ length (filter p xs)
count_no p x xs e = rw e refl

pub count_set : {A : Type 0} (p : A → Bool) (xs : List A) (k n : ℕ) (x y : A) → slice_get xs n ≡ Some x → p y ≡ p x → length (filter p (take k (slice_set xs n y))) ≡ length (filter p (take k xs))
count_set p [] k n x y e q = refl
count_set p (z ∷ xs) zero n x y e q = refl
count_set p (z ∷ xs) (suc k) zero x y e q =
    let s : p y ≡ p z = q ∙ ap p (sym (same_Some z x e)) in
    elim (p z) as (λ b. p z ≡ b → length (filter p (y ∷ take k xs)) ≡ length (filter p (z ∷ take k xs))) [
      | true ↦ λ w. count_yes p y (take k xs) (s ∙ w) ∙ sym (count_yes p z (take k xs) w)
      | false ↦ λ w. count_no p y (take k xs) (s ∙ w) ∙ sym (count_no p z (take k xs) w)
    ] refl
count_set p (z ∷ xs) (suc k) (suc n) x y e q =
    let r : length (filter p (take k (slice_set xs n y))) ≡ length (filter p (take k xs)) = count_set p xs k n x y e q in
    elim (p z) as (λ b. p z ≡ b → length (filter p (z ∷ take k (slice_set xs n y))) ≡ length (filter p (z ∷ take k xs))) [
      | true ↦ λ w. count_yes p z (take k (slice_set xs n y)) w ∙ (ap (λ j. suc j) r ∙ sym (count_yes p z (take k xs) w))
      | false ↦ λ w. count_no p z (take k (slice_set xs n y)) w ∙ (r ∙ sym (count_no p z (take k xs) w))
    ] refl

-- ---- what is kept of a list: f gives it, and p tells by g where it gives one

pub kept_agree : {A B : Type 0} (f g : A → Option B) (xs : List A) → ((k : ℕ) (x : A) → slice_get xs k ≡ Some x → f x ≡ g x) → filter_map f xs ≡ filter_map g xs
kept_agree f g [] h = refl
kept_agree f g (x ∷ xs) h = let e : f x ≡ g x = h 0 x refl in let r : filter_map f xs ≡ filter_map g xs = kept_agree f g xs (λ k y q. h (suc k) y q) in cc

pub kept_same : {A B : Type 0} (f : A → Option B) (xs : List A) (n : ℕ) (x y : A) → slice_get xs n ≡ Some x → f y ≡ f x → filter_map f (slice_set xs n y) ≡ filter_map f xs
kept_same f [] n x y e q = refl
kept_same f (z ∷ xs) zero x y e q = let s : z ≡ x = same_Some z x e in cc
kept_same f (z ∷ xs) (suc n) x y e q = let r : filter_map f (slice_set xs n y) ≡ filter_map f xs = kept_same f xs n x y e q in cc

pub by_kept : {B : Type 0} (o : Option B) (b : Bool) (P : Type 0) → is_some o ≡ b → (o ≡ None → b ≡ false → P) → ((u : B) → o ≡ Some u → b ≡ true → P) → P
by_kept None b P e none some = none refl (sym e)
by_kept (Some u) b P e none some = some u refl (sym e)

pub kept_at : {A B C : Type 0} (f : A → Option B) (g : A → C) (p : C → Bool) (xs : List A) (n : ℕ) (x : A) (u : B) → ((y : A) → is_some (f y) ≡ p (g y)) → slice_get xs n ≡ Some x → f x ≡ Some u → slice_get (filter_map f xs) (length (filter p (take n (map g xs)))) ≡ Some u
kept_at f g p [] n x u t e q = absurd (cc)
kept_at f g p (z ∷ xs) zero x u t e q = let s : f z ≡ Some u = rw (same_Some z x e) q in rw s refl
kept_at f g p (z ∷ xs) (suc n) x u t e q = by_kept (f z) (p (g z)) (slice_get (filter_map f (z ∷ xs)) (length (filter p (g z ∷ take n (map g xs)))) ≡ Some u) (t z)
    (λ none no. rw (none, count_no p (g z) (take n (map g xs)) no) (kept_at f g p xs n x u t e q))
    (λ v some yes. rw (some, count_yes p (g z) (take n (map g xs)) yes) (kept_at f g p xs n x u t e q))

pub kept_set : {A B C : Type 0} (f : A → Option B) (g : A → C) (p : C → Bool) (xs : List A) (n : ℕ) (x y : A) (u v : B) → ((y : A) → is_some (f y) ≡ p (g y)) → slice_get xs n ≡ Some x → f x ≡ Some u → f y ≡ Some v → filter_map f (slice_set xs n y) ≡ slice_set (filter_map f xs) (length (filter p (take n (map g xs)))) v
kept_set f g p [] n x y u v t e q w = absurd (cc)
kept_set f g p (z ∷ xs) zero x y u v t e q w = let s : f z ≡ Some u = rw (same_Some z x e) q in rw (s, w) refl
kept_set f g p (z ∷ xs) (suc n) x y u v t e q w = by_kept (f z) (p (g z)) (filter_map f (z ∷ slice_set xs n y) ≡ slice_set (filter_map f (z ∷ xs)) (length (filter p (g z ∷ take n (map g xs)))) v) (t z)
    (λ none no. rw (none, count_no p (g z) (take n (map g xs)) no) (kept_set f g p xs n x y u v t e q w))
    (λ b some yes. rw (some, count_yes p (g z) (take n (map g xs)) yes) (ap (λ r. b ∷ r) (kept_set f g p xs n x y u v t e q w)))

-- two that are kept under one number are one
pub kept_one : {A B C : Type 0} (f : A → Option B) (g : A → C) (p : C → Bool) (xs : List A) (n k : ℕ) (x y : A) (u v : B) → ((y : A) → is_some (f y) ≡ p (g y)) → slice_get xs n ≡ Some x → slice_get xs k ≡ Some y → f x ≡ Some u → f y ≡ Some v → length (filter p (take n (map g xs))) ≡ length (filter p (take k (map g xs))) → n ≡ k
kept_one f g p [] n k x y u v t e d q w s = absurd (cc)
kept_one f g p (z ∷ xs) zero zero x y u v t e d q w s = refl
kept_one f g p (z ∷ xs) zero (suc k) x y u v t e d q w s =
    let yes : p (g z) ≡ true = sym (t z) ∙ rw (same_Some z x e, q) refl in
    let c : 0 ≡ suc (length (filter p (take k (map g xs)))) = s ∙ count_yes p (g z) (take k (map g xs)) yes in absurd (omega arith)
kept_one f g p (z ∷ xs) (suc n) zero x y u v t e d q w s =
    let yes : p (g z) ≡ true = sym (t z) ∙ rw (same_Some z y d, w) refl in
    let c : 0 ≡ suc (length (filter p (take n (map g xs)))) = sym s ∙ count_yes p (g z) (take n (map g xs)) yes in absurd (omega arith)
kept_one f g p (z ∷ xs) (suc n) (suc k) x y u v t e d q w s =
    let less : length (filter p (take n (map g xs))) ≡ length (filter p (take k (map g xs))) =
    by_kept (f z) (p (g z)) (length (filter p (take n (map g xs))) ≡ length (filter p (take k (map g xs)))) (t z)
    (λ none no. sym (count_no p (g z) (take n (map g xs)) no) ∙ (s ∙ count_no p (g z) (take k (map g xs)) no))
    (λ b some yes.
    let c : suc (length (filter p (take n (map g xs)))) ≡ suc (length (filter p (take k (map g xs)))) =
    sym (count_yes p (g z) (take n (map g xs)) yes) ∙ (s ∙ count_yes p (g z) (take k (map g xs)) yes) in
    omega arith) in
    ap (λ j. suc j) (kept_one f g p xs n k x y u v t e d q w less)

-- so many are kept
pub kept_count : {A B C : Type 0} (f : A → Option B) (g : A → C) (p : C → Bool) (xs : List A) → ((y : A) → is_some (f y) ≡ p (g y)) → length (filter p (map g xs)) ≡ length (filter_map f xs)
kept_count f g p [] t = refl
kept_count f g p (z ∷ xs) t = by_kept (f z) (p (g z)) (length (filter p (g z ∷ map g xs)) ≡ length (filter_map f (z ∷ xs))) (t z)
    (λ none no. rw (none, count_no p (g z) (map g xs) no) (kept_count f g p xs t))
    (λ b some yes. rw (some, count_yes p (g z) (map g xs) yes) (ap (λ n. suc n) (kept_count f g p xs t)))
