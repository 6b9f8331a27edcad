-- Lists of names that rise in byte order.
use Rattle.std.proofs.Common.{◌≡◌, ◌∙◌, ap, sym, refl, subst, ℕ, Bool, true, false, ◌||◌, ◌&&◌, List, [], ◌∷◌, ◌⊎◌, inl, inr, IsTrue, arith, codes, Option, Some, None, IsSome}
use Prim.Native.Nat.{zero, suc}
use Rattle.std.proofs.lemmas.Map.Keys.{sorted_head, sorted_tail}
use Rattle.std.specs.Prelude.{Contains}
use Rattle.std.specs.List.{AllByRecursion, list_any, list_all}
use Rattle.std.specs.Cmp.Lexicographic.{slice_cmp, nat_list_cmp_total}
use Rattle.std.specs.Ordering.{nat_cmp, ordering_reverse}
use Rattle.std.specs.declared.cmp.Ordering.TheVariants.{Less, Greater}
use Rattle.std.proofs.lemmas.Slice.Eq.{bytes_eq-Decides}
use Rattle.outside.specs.Contents.{Files, content, AreNamesOf}
use Rattle.page_host.specs.Names.{AreInOrder, AreScriptsOf, IsScriptNames, is_events, is_userscript}

pub here : (x : List ℕ) (xs : List (List ℕ)) → Contains (x ∷ xs) x
here x xs = (0, omega arith, refl)

pub there : (x y : List ℕ) (xs : List (List ℕ)) → Contains xs y → Contains (x ∷ xs) y
there x y xs (k, within, is) = (suc k, omega (arith, within), is)

pub nowhere : (y : List ℕ) → Contains [] y → ⊥
nowhere y (k, within, is) = omega (arith, within)

pub cases : (x y : List ℕ) (xs : List (List ℕ)) → Contains (x ∷ xs) y → (x ≡ y) ⊎ Contains xs y
cases x y xs (zero, within, is) = inl is
cases x y xs (suc k, within, is) = inr (k, omega (arith, within), is)

or_true : (b : Bool) → (b || true) ≡ true
or_true true = refl
or_true false = refl

any_from : (p : List ℕ → Bool) (x y : List ℕ) (xs : List (List ℕ)) → p y ≡ true → (Contains xs y → list_any p xs ≡ true) → (x ≡ y) ⊎ Contains xs y → (p x || list_any p xs) ≡ true
any_from p x y xs q further (inl same) = rw (ap p same ∙ q) refl
any_from p x y xs q further (inr among) = rw (further among) (or_true (p x))

pub any_of : (p : List ℕ → Bool) (xs : List (List ℕ)) (y : List ℕ) → Contains xs y → p y ≡ true → list_any p xs ≡ true
any_of p [] y is q = absurd (nowhere y is)
any_of p (x ∷ xs) y is q = any_from p x y xs q (λ among. any_of p xs y among q) (cases x y xs is)

pub some_of : (p : List ℕ → Bool) (xs : List (List ℕ)) → list_any p xs ≡ true → (y : List ℕ) × Contains xs y × (p y ≡ true)
some_of p [] e = absurd (cc)
some_of p (x ∷ xs) e =
    elim (p x) as (λ b. p x ≡ b → (b || list_any p xs) ≡ true → (y : List ℕ) × Contains (x ∷ xs) y × (p y ≡ true)) [
      | true ↦ λ q _. (x, here x xs, q)
      | false ↦ λ q f. let found = some_of p xs f in (found.0, there x found.0 xs found.1, found.2)
    ] refl e

pub none_or : {A : Type 0} (o : Option A) → (IsSome o → ⊥) → o ≡ None
none_or None h = refl
none_or (Some x) h = absurd (h refl)

pub some_not_none : {A : Type 0} (o : Option A) → o ≡ None → IsSome o → ⊥
some_not_none None e h = cc
some_not_none (Some x) e h = cc

pub events_named : (y : List ℕ) → is_events y ≡ true → y ≡ codes "events.txt"
events_named y e = (bytes_eq-Decides y (codes "events.txt")).0 e

-- the folder has no list of events where none is among its names
pub eventless : (files : Files) (names : List (List ℕ)) → AreNamesOf files names → list_any is_events names ≡ false → content files (codes "events.txt") ≡ None
eventless files names are none =
    none_or (content files (codes "events.txt")) (λ some. clash (any_of is_events names (codes "events.txt") ((are.held (codes "events.txt")).1 some) refl))
  where
    clash : list_any is_events names ≡ true → ⊥
    clash e = let both : true ≡ false = sym e ∙ none in cc

-- and it has one where one is
pub eventful : (files : Files) (names : List (List ℕ)) → AreNamesOf files names → list_any is_events names ≡ true → content files (codes "events.txt") ≡ None → ⊥
eventful files names are some none =
    let found = some_of is_events names some in
    let P : List ℕ → Type 0 = λ z. IsSome (content files z) in
    some_not_none (content files (codes "events.txt")) none (subst P (events_named found.0 found.2) ((are.held found.0).0 found.1))

-- among the names of a folder, the userscripts are the folder's
pub folder_names : (files : Files) (names scripts : List (List ℕ)) → AreNamesOf files names → AreScriptsOf names scripts → IsScriptNames files scripts
folder_names files names scripts are is = record {
  order = is.order;
  exact = λ name.
      ((λ among. let both = (is.exact name).0 among in ((are.held name).0 both.0, both.1)), (λ both. (is.exact name).1 ((are.held name).1 both.0, both.1)));
}

-- nothing is below itself
pub not_below : (x : List ℕ) → slice_cmp nat_cmp x x ≡ Less → ⊥
not_below x e = let both : Less ≡ Greater = sym e ∙ nat_list_cmp_total.antisymm x x ∙ ap ordering_reverse e in cc

-- nothing is below what is below it
pub not_both : (x y : List ℕ) → slice_cmp nat_cmp x y ≡ Less → slice_cmp nat_cmp y x ≡ Less → ⊥
not_both x y e f = not_below x (nat_list_cmp_total.trans x y x e f)

pub at_or : (P : List ℕ → Type 0) (x y : List ℕ) (xs : List (List ℕ)) → P x → (Contains xs y → P y) → (x ≡ y) ⊎ Contains xs y → P y
at_or P x y xs first rest (inl e) = subst P e first
at_or P x y xs first rest (inr among) = rest among

all_at : (P : List ℕ → Type 0) (xs : List (List ℕ)) (y : List ℕ) → AllByRecursion P xs → Contains xs y → P y
all_at P [] y all among = absurd (nowhere y among)
all_at P (x ∷ xs) y all among = at_or P x y xs all.0 (λ rest. all_at P xs y all.1 rest) (cases x y xs among)

-- the first of names in order is below all others
pub below : (x y : List ℕ) (xs : List (List ℕ)) → AreInOrder (x ∷ xs) → Contains xs y → slice_cmp nat_cmp x y ≡ Less
below x y xs order among = all_at (λ z. slice_cmp nat_cmp x z ≡ Less) xs y (sorted_head (slice_cmp nat_cmp) x xs order) among

-- each name stands once
pub once : (x : List ℕ) (xs : List (List ℕ)) → AreInOrder (x ∷ xs) → Contains xs x → ⊥
once x xs order among = not_below x (below x x xs order among)

heads : (x y : List ℕ) (xs ys : List (List ℕ)) → AreInOrder (x ∷ xs) → AreInOrder (y ∷ ys) → (x ≡ y) ⊎ Contains xs y → (y ≡ x) ⊎ Contains ys x → x ≡ y
heads x y xs ys a b (inl e) other = e
heads x y xs ys a b (inr p) (inl e) = sym e
heads x y xs ys a b (inr p) (inr q) = absurd (not_both x y (below x y xs a p) (below y x ys b q))

tail_in : (x y z : List ℕ) (xs ys : List (List ℕ)) → x ≡ y → AreInOrder (x ∷ xs) → Contains xs z → (y ≡ z) ⊎ Contains ys z → Contains ys z
tail_in x y z xs ys e a among (inl f) = let P : List ℕ → Type 0 = λ w. Contains xs w in absurd (once x xs a (subst P (sym (e ∙ f)) among))
tail_in x y z xs ys e a among (inr rest) = rest

-- names in order that are the same names are the same list
pub same_order : (xs ys : List (List ℕ)) → AreInOrder xs → AreInOrder ys → ((z : List ℕ) → Contains xs z → Contains ys z) → ((z : List ℕ) → Contains ys z → Contains xs z) → xs ≡ ys
same_order [] [] a b f g = refl
same_order [] (y ∷ ys) a b f g = absurd (nowhere y (g y (here y ys)))
same_order (x ∷ xs) [] a b f g = absurd (nowhere x (f x (here x xs)))
same_order (x ∷ xs) (y ∷ ys) a b f g =
    let e = heads x y xs ys a b (cases x y xs (g y (here y ys))) (cases y x ys (f x (here x xs))) in
    let rest =
    same_order xs ys (sorted_tail (slice_cmp nat_cmp) x xs a) (sorted_tail (slice_cmp nat_cmp) y ys b) (λ z among. tail_in x y z xs ys e a among (cases y z ys (f z (there x z xs among))))
    (λ z among. tail_in y x z ys xs (sym e) b among (cases x z xs (g z (there y z ys among)))) in
    ap (λ l. x ∷ l) rest ∙ ap (λ z. z ∷ ys) e

-- a folder has its userscripts in one order
pub one_order : (files : Files) (a b : List (List ℕ)) → IsScriptNames files a → IsScriptNames files b → a ≡ b
one_order files a b is other = same_order a b is.order other.order (λ z among. (other.exact z).1 ((is.exact z).0 among)) (λ z among. (is.exact z).1 ((other.exact z).0 among))

both_true : (a b : Bool) → (a && b) ≡ true → (a ≡ true) × (b ≡ true)
both_true true b h = (refl, h)
both_true false b h = absurd (cc)

-- all names among them are userscripts'
pub all_userscripts : (scripts : List (List ℕ)) → ((name : List ℕ) → Contains scripts name → IsTrue (is_userscript name)) → IsTrue (list_all is_userscript scripts)
all_userscripts [] each = refl
all_userscripts (x ∷ xs) each = rw (each x (here x xs)) (all_userscripts xs (λ name among. each name (there x name xs among)))

pub userscript_at : (scripts : List (List ℕ)) (name : List ℕ) → IsTrue (list_all is_userscript scripts) → Contains scripts name → is_userscript name ≡ true
userscript_at [] name all among = absurd (nowhere name among)
userscript_at (x ∷ xs) name all among =
    let parts = both_true (is_userscript x) (list_all is_userscript xs) all in
    at_or (λ n. is_userscript n ≡ true) x name xs parts.0 (λ rest. userscript_at xs name parts.1 rest) (cases x name xs among)
