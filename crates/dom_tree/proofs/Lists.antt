-- Lists of numbers without one of them, and with one more.
use Rattle.std.proofs.Common.{◌≡◌, ◌<◌, ◌≤◌, ℕ, Bool, true, false, List, [], ◌∷◌, ◌++◌, length, get_or, refl, ap, sym, ◌∙◌, arith, Option, Some, None, ⊎_elim}
use Rattle.std.specs.Prelude.{nat_eq, nat_lt, position, not, ◌||◌, ◌&&◌, insert, slice_set, slice_get, is_some}
use Rattle.std.specs.List.{list_any, position_or_len, All}
use Prim.Native.Nat.{zero, suc}
use Rattle.std.proofs.lemmas.Bool.{cases_Bool, or_parts, or_from, eq-eqb, eqb-true, eqb-false, ne_eqb, ltb-false, and_parts, and_from, not-true, not_from_false}
use Rattle.std.proofs.lemmas.List.Sums.{fails_before_first}
use Rattle.std.proofs.lemmas.List.Folds.{list_any_none, list_any_at}
use Rattle.std.proofs.lemmas.List.Quantifiers.{position-Some}
use Rattle.std.proofs.lemmas.Map.Views.{any-filter_same}
use Rattle.dom_semantics.specs.Forest.{is_among, are_different, attribute_in, after_in}
use Rattle.dom_tree.specs.Places.{is_named}
use Rattle.dom_tree.proofs.Parents.{cases_option}
use Rattle.dom_semantics.specs.Changes.{without, placed, before_child, set_in}

-- where no position is found, none passes
pub position_none : {X : Type 0} (p : X → Bool) (xs : List X) → position p xs ≡ None → All (λ x. p x ≡ false) xs
position_none p xs none k d lt =
    ⊎_elim
    (λ yes. let some : position p xs ≡ Some (position_or_len p xs) = rw yes refl in absurd (cc))
    (λ no. let end : length xs ≤ position_or_len p xs = ltb-false _ _ no in fails_before_first p xs k d (omega arith))
    (cases_Bool (nat_lt (position_or_len p xs) (length xs)))

pub list_any-position : {X : Type 0} (p : X → Bool) (xs : List X) → position p xs ≡ None → list_any p xs ≡ false
list_any-position p xs none = list_any_none p xs (position_none p xs none)

pub eqb_sym : (a b : ℕ) → nat_eq a b ≡ nat_eq b a
eqb_sym a b =
    ⊎_elim (λ yes. yes ∙ sym (eq-eqb b a (sym (eqb-true a b yes)))) (λ no. no ∙ sym (ne_eqb b a (λ e. eqb-false a b no (sym e)))) (cases_Bool (nat_eq a b))

-- what is left without n is what was there but n
pub is_among-without : (n c : ℕ) (cs : List ℕ) → is_among c (without n cs) ≡ (not (nat_eq n c) && is_among c cs)
is_among-without n c cs =
    any-filter_same (nat_eq c) (λ m. not (nat_eq n m)) (not (nat_eq n c)) (λ k e. ap (λ m. not (nat_eq n m)) (sym (eqb-true c k e))) cs

or_swap : (a b c : Bool) → (a || (b || c)) ≡ (b || (a || c))
or_swap true true c = refl
or_swap true false c = refl
or_swap false true c = refl
or_swap false false c = refl

-- what is placed is there beside what was
pub is_among-before_child : (n b c : ℕ) (cs : List ℕ) → is_among c (before_child n b cs) ≡ (nat_eq c n || is_among c cs)
is_among-before_child n b c [] = refl
is_among-before_child n b c (x ∷ xs) =
    ⊎_elim (λ yes. rw yes refl)
    (λ no. rw no (ap (λ r. nat_eq c x || r) (is_among-before_child n b c xs) ∙ or_swap (nat_eq c x) (nat_eq c n) (is_among c xs)))
    (cases_Bool (nat_eq b x))

pub is_among-push : (n c : ℕ) (cs : List ℕ) → is_among c (cs ++ n ∷ []) ≡ (nat_eq c n || is_among c cs)
is_among-push n c [] = refl
is_among-push n c (x ∷ xs) = ap (λ r. nat_eq c x || r) (is_among-push n c xs) ∙ or_swap (nat_eq c x) (nat_eq c n) (is_among c xs)

pub is_among-placed : (n : ℕ) (before : Option ℕ) (c : ℕ) (cs : List ℕ) → is_among c (placed n before cs) ≡ (nat_eq c n || is_among c cs)
is_among-placed n None c cs = is_among-push n c cs
is_among-placed n (Some b) c cs = is_among-before_child n b c cs

-- no number stands twice where one is taken out, or a new one put in
pub are_different-without : (n : ℕ) (cs : List ℕ) → are_different cs ≡ true → are_different (without n cs) ≡ true
are_different-without n [] h = refl
are_different-without n (x ∷ xs) h =
    let parts = and_parts (not (is_among x xs)) (are_different xs) h in
    let rest = are_different-without n xs parts.1 in
    let gone : is_among x xs ≡ false = not-true _ parts.0 in
    let none : is_among x (without n xs) ≡ false = is_among-without n x xs ∙ ap (λ b. not (nat_eq n x) && b) gone ∙ and_false (not (nat_eq n x)) in
    ⊎_elim (λ yes. rw yes rest) (λ no. rw no (and_from _ _ (not_from_false _ none) rest)) (cases_Bool (nat_eq n x))
  where
    and_false : (b : Bool) → (b && false) ≡ false
    and_false true = refl
    and_false false = refl

pub are_different-before_child : (n b : ℕ) (cs : List ℕ) → is_among n cs ≡ false → are_different cs ≡ true → are_different (before_child n b cs) ≡ true
are_different-before_child n b [] new h = refl
are_different-before_child n b (x ∷ xs) new h =
    let parts = and_parts (not (is_among x xs)) (are_different xs) h in
    let out = or_parts (nat_eq n x) (is_among n xs) new in
    let rest = are_different-before_child n b xs out.1 parts.1 in
    let none : is_among x (before_child n b xs) ≡ false =
    is_among-before_child n b x xs ∙ or_from (nat_eq x n) (is_among x xs) (eqb_sym x n ∙ out.0) (not-true _ parts.0) in
    ⊎_elim (λ yes. rw yes (and_from _ _ (not_from_false _ new) h)) (λ no. rw no (and_from _ _ (not_from_false _ none) rest)) (cases_Bool (nat_eq b x))

pub are_different-push : (n : ℕ) (cs : List ℕ) → is_among n cs ≡ false → are_different cs ≡ true → are_different (cs ++ n ∷ []) ≡ true
are_different-push n [] new h = refl
are_different-push n (x ∷ xs) new h =
    let parts = and_parts (not (is_among x xs)) (are_different xs) h in
    let out = or_parts (nat_eq n x) (is_among n xs) new in
    let rest = are_different-push n xs out.1 parts.1 in
    let none : is_among x (xs ++ n ∷ []) ≡ false =
    is_among-push n x xs ∙ or_from (nat_eq x n) (is_among x xs) (eqb_sym x n ∙ out.0) (not-true _ parts.0) in
    and_from _ _ (not_from_false _ none) rest

pub are_different-placed : (n : ℕ) (before : Option ℕ) (cs : List ℕ) → is_among n cs ≡ false → are_different cs ≡ true → are_different (placed n before cs) ≡ true
are_different-placed n None cs new h = are_different-push n cs new h
are_different-placed n (Some b) cs new h = are_different-before_child n b cs new h

-- the list is shorter without a number that was there, and the same without one that wasn't
pub length-without : (n : ℕ) (cs : List ℕ) → length (without n cs) ≤ length cs
length-without n [] = omega arith
length-without n (x ∷ xs) =
    let rest = length-without n xs in ⊎_elim (λ yes. rw yes (omega arith)) (λ no. rw no (omega arith)) (cases_Bool (nat_eq n x))

pub shorter_without : (n : ℕ) (cs : List ℕ) → is_among n cs ≡ true → length (without n cs) < length cs
shorter_without n [] there = absurd (cc)
shorter_without n (x ∷ xs) there =
    let rest = length-without n xs in
    ⊎_elim (λ yes. rw yes (omega arith))
    (λ no. let more : is_among n xs ≡ true = (rw no at there) in let less = shorter_without n xs more in rw no (omega arith))
    (cases_Bool (nat_eq n x))

pub without_none : (n : ℕ) (cs : List ℕ) → is_among n cs ≡ false → without n cs ≡ cs
without_none n [] none = refl
without_none n (x ∷ xs) none =
    let parts = or_parts (nat_eq n x) (is_among n xs) none in rw parts.0 (ap (λ r. x ∷ r) (without_none n xs parts.1))

-- a number is placed at the position of the one that it stands before
pub before_child-found : (n b : ℕ) (cs : List ℕ) (i d : ℕ) → i < length cs → nat_eq b (get_or cs i d) ≡ true → ((k : ℕ) → k < i → nat_eq b (get_or cs k d) ≡ false) → before_child n b cs ≡ insert cs i n
before_child-found n b [] i d lt here before = absurd (omega arith)
before_child-found n b (x ∷ xs) zero d lt here before = rw here refl
before_child-found n b (x ∷ xs) (suc i) d lt here before =
    rw (before 0 (omega arith)) (ap (λ r. x ∷ r) (before_child-found n b xs i d (omega arith) here (λ k h. before (suc k) (omega arith))))

pub before_child-none : (n b : ℕ) (cs : List ℕ) → is_among b cs ≡ false → before_child n b cs ≡ cs ++ n ∷ []
before_child-none n b [] none = refl
before_child-none n b (x ∷ xs) none =
    let parts = or_parts (nat_eq b x) (is_among b xs) none in rw parts.0 (ap (λ r. x ∷ r) (before_child-none n b xs parts.1))

pub insert-end : (xs : List ℕ) (n : ℕ) → insert xs (length xs) n ≡ xs ++ n ∷ []
insert-end [] n = refl
insert-end (x ∷ xs) n = ap (λ r. x ∷ r) (insert-end xs n)

-- the value of the first attribute of a name, and what setting it makes
pub attribute_in-found : (name : List ℕ) (attributes : List (List ℕ × List ℕ)) (i : ℕ) (d : List ℕ × List ℕ) → i < length attributes → is_named name (get_or attributes i d) ≡ true → ((k : ℕ) → k < i → is_named name (get_or attributes k d) ≡ false) → attribute_in name attributes ≡ Some (get_or attributes i d).1
attribute_in-found name [] i d lt here before = absurd (omega arith)
attribute_in-found name (x ∷ xs) zero d lt here before = rw here refl
attribute_in-found name (x ∷ xs) (suc i) d lt here before =
    rw (before 0 (omega arith)) (attribute_in-found name xs i d (omega arith) here (λ k h. before (suc k) (omega arith)))

pub attribute_in-none : (name : List ℕ) (attributes : List (List ℕ × List ℕ)) → list_any (is_named name) attributes ≡ false → attribute_in name attributes ≡ None
attribute_in-none name [] none = refl
attribute_in-none name (x ∷ xs) none =
    let parts = or_parts (is_named name x) (list_any (is_named name) xs) none in rw parts.0 (attribute_in-none name xs parts.1)

pub set_in-found : (name value : List ℕ) (attributes : List (List ℕ × List ℕ)) (i : ℕ) (d : List ℕ × List ℕ) → i < length attributes → is_named name (get_or attributes i d) ≡ true → ((k : ℕ) → k < i → is_named name (get_or attributes k d) ≡ false) → set_in name value attributes ≡ slice_set attributes i ((get_or attributes i d).0, value)
set_in-found name value [] i d lt here before = absurd (omega arith)
set_in-found name value (x ∷ xs) zero d lt here before = rw here refl
set_in-found name value (x ∷ xs) (suc i) d lt here before =
    rw (before 0 (omega arith)) (ap (λ r. x ∷ r) (set_in-found name value xs i d (omega arith) here (λ k h. before (suc k) (omega arith))))

pub set_in-none : (name value : List ℕ) (attributes : List (List ℕ × List ℕ)) → list_any (is_named name) attributes ≡ false → set_in name value attributes ≡ attributes ++ (name, value) ∷ []
set_in-none name value [] none = refl
set_in-none name value (x ∷ xs) none =
    let parts = or_parts (is_named name x) (list_any (is_named name) xs) none in rw parts.0 (ap (λ r. x ∷ r) (set_in-none name value xs parts.1))

pub list_any-is_some : {X : Type 0} (p : X → Bool) (xs : List X) (d : X) → is_some (position p xs) ≡ list_any p xs
list_any-is_some p xs d =
    ⊎_elim (λ none. ap is_some none ∙ sym (list_any-position p xs none))
    (λ (i, some). let f = position-Some p xs i d some in ap is_some some ∙ sym (list_any_at p xs i d f.0 f.1))
    (cases_option (position p xs))

abbrev pub pair_of : {A B : Type 0} → A → B → A × B
pair_of a x = (a, x)

pub same_pair : {A B : Type 0} (a b : A) (x y : B) → a ≡ b → x ≡ y → pair_of a x ≡ pair_of b y
same_pair a b x y p q = cc

-- what stands after a number is at the next place
pub after_in-found : (n : ℕ) (cs : List ℕ) (i d : ℕ) → i < length cs → nat_eq n (get_or cs i d) ≡ true → ((k : ℕ) → k < i → nat_eq n (get_or cs k d) ≡ false) → after_in n cs ≡ slice_get cs (suc i)
after_in-found n [] i d lt here before = absurd (omega arith)
after_in-found n (x ∷ xs) zero d lt here before = rw here refl
after_in-found n (x ∷ xs) (suc i) d lt here before =
    rw (before 0 (omega arith)) (after_in-found n xs i d (omega arith) here (λ k h. before (suc k) (omega arith)))

pub after_in-none : (n : ℕ) (cs : List ℕ) → is_among n cs ≡ false → after_in n cs ≡ None
after_in-none n [] none = refl
after_in-none n (x ∷ xs) none =
    let parts = or_parts (nat_eq n x) (is_among n xs) none in rw parts.0 (after_in-none n xs parts.1)
