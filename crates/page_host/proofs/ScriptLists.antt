-- Userscripts that are read one after another.
use Rattle.std.proofs.Common.{◌≡◌, ◌∙◌, ap, sym, refl, subst, ℕ, ◌<◌, List, [], ◌∷◌, ◌++◌, ◌⊎◌, inl, inr, length, take, get_or, arith, Some}
use Prim.Native.Nat.{zero, suc}
use Rattle.std.proofs.lemmas.List.{length-map}
use Rattle.std.specs.Prelude.{Contains}
use Rattle.outside.specs.Contents.{Files, content, AreDistinct}
use Rattle.small_forms.specs.Scripts.{IsUserscript}
use Rattle.small_forms.specs.declared.script.Line.{Line}
use Rattle.small_forms.specs.declared.userscript.Userscript.{Userscript}
use Rattle.page_host.specs.Scripts.{AreHeld, AreRead, AreScripts, IsScript, names_in}
use Rattle.page_host.proofs.NameLists.{here, there, nowhere, cases}

-- the law that a text determines name and lines
abbrev pub OneWay : Type 0
OneWay = (text name other : List ℕ) (lines more : List Line) → IsUserscript text name lines → IsUserscript text other more → (name ≡ other) × (lines ≡ more)

-- one userscript more
pub held_more : (files : Files) (names : List (List ℕ)) (file : List ℕ) (scripts : List Userscript) (script : Userscript) → AreHeld files names scripts → content files file ≡ Some script.text
    → AreHeld files (names ++ file ∷ []) (scripts ++ script ∷ [])
held_more files [] file [] script held is = (is, tt)
held_more files [] file (s ∷ ss) script held is = absurd held
held_more files (n ∷ ns) file [] script held is = absurd held
held_more files (n ∷ ns) file (s ∷ ss) script held is = (held.0, held_more files ns file ss script held.1 is)

pub scripts_more : (scripts : List Userscript) (script : Userscript) → AreScripts scripts → IsScript script → AreScripts (scripts ++ script ∷ [])
scripts_more [] script are is = (is, tt)
scripts_more (s ∷ ss) script are is = (are.0, scripts_more ss script are.1 is)

-- names are distinct by cases on the list
abbrev pub NoneTwice : List (List ℕ) → Type 0
NoneTwice [] = Unit {0}
NoneTwice (name ∷ names) = (¬ Contains names name) × NoneTwice names

pub none_twice : (names : List (List ℕ)) → AreDistinct names → NoneTwice names
none_twice [] distinct = tt
none_twice (x ∷ xs) distinct =
    ((λ among. distinct 0 (suc among.0) x (omega arith) (omega (arith, among.1)) (sym among.2)), none_twice xs (λ i j d h k. distinct (suc i) (suc j) d (omega (arith, h)) (omega (arith, k))))

at_place : (xs : List (List ℕ)) (j : ℕ) (d : List ℕ) → j < length xs → Contains xs (get_or xs j d)
at_place [] j d h = absurd (omega (arith, h))
at_place (x ∷ xs) zero d h = here x xs
at_place (x ∷ xs) (suc j) d h = there x _ xs (at_place xs j d (omega (arith, h)))

pub distinct_from : (names : List (List ℕ)) → NoneTwice names → AreDistinct names
distinct_from [] none i j d h k = absurd (omega (arith, k))
distinct_from (x ∷ xs) none zero zero d h k = absurd (omega (arith, h))
distinct_from (x ∷ xs) none zero (suc j) d h k = λ e. let P : List ℕ → Type 0 = λ y. Contains xs y in none.0 (subst P (sym e) (at_place xs j d (omega (arith, k))))
distinct_from (x ∷ xs) none (suc i) zero d h k = absurd (omega (arith, h))
distinct_from (x ∷ xs) none (suc i) (suc j) d h k = distinct_from xs none.1 i j d (omega (arith, h)) (omega (arith, k))

last_in : (y z : List ℕ) → (y ≡ z) ⊎ Contains [] z → Contains [] z ⊎ (y ≡ z)
last_in y z (inl e) = inr e
last_in y z (inr none) = absurd (nowhere z none)

further_in : (x y z : List ℕ) (xs : List (List ℕ)) → Contains xs z ⊎ (y ≡ z) → Contains (x ∷ xs) z ⊎ (y ≡ z)
further_in x y z xs (inl rest) = inl (there x z xs rest)
further_in x y z xs (inr e) = inr e

front_in : (x y z : List ℕ) (xs : List (List ℕ)) → (Contains (xs ++ y ∷ []) z → Contains xs z ⊎ (y ≡ z)) → (x ≡ z) ⊎ Contains (xs ++ y ∷ []) z → Contains (x ∷ xs) z ⊎ (y ≡ z)
front_in x y z xs more (inl e) = inl (0, omega arith, e)
front_in x y z xs more (inr rest) = further_in x y z xs (more rest)

pub in_more : (xs : List (List ℕ)) (y z : List ℕ) → Contains (xs ++ y ∷ []) z → Contains xs z ⊎ (y ≡ z)
in_more [] y z among = last_in y z (cases y z [] among)
in_more (x ∷ xs) y z among = front_in x y z xs (λ rest. in_more xs y z rest) (cases x z (xs ++ y ∷ []) among)

twice_more : (xs : List (List ℕ)) (y : List ℕ) → NoneTwice xs → ¬ Contains xs y → NoneTwice (xs ++ y ∷ [])
twice_more [] y none new = ((λ among. nowhere y among), tt)
twice_more (x ∷ xs) y none new = ((λ among. pick (in_more xs y x among)), twice_more xs y none.1 (λ among. new (there x y xs among)))
  where
    pick : Contains xs x ⊎ (y ≡ x) → ⊥
    pick (inl among) = none.0 among
    pick (inr e) = new (0, omega arith, sym e)

-- a name more, which isn't there
pub distinct_more : (xs : List (List ℕ)) (y : List ℕ) → AreDistinct xs → ¬ Contains xs y → AreDistinct (xs ++ y ∷ [])
distinct_more xs y distinct new = distinct_from _ (twice_more xs y (none_twice xs distinct) new)

pub names_more : (scripts : List Userscript) (script : Userscript) → names_in (scripts ++ script ∷ []) ≡ names_in scripts ++ script.name ∷ []
names_more [] script = refl
names_more (s ∷ ss) script = ap (λ l. s.name ∷ l) (names_more ss script)

-- the userscript that the file at a place holds
pub held_at : (files : Files) (names : List (List ℕ)) (scripts : List Userscript) (i : ℕ) (d : List ℕ) → AreHeld files names scripts → AreScripts scripts → i < length names
    → (script : Userscript) × (content files (get_or names i d) ≡ Some script.text) × IsScript script
held_at files [] scripts i d held are h = absurd (omega (arith, h))
held_at files (n ∷ ns) [] i d held are h = absurd held
held_at files (n ∷ ns) (s ∷ ss) zero d held are h = (s, held.0, are.0)
held_at files (n ∷ ns) (s ∷ ss) (suc i) d held are h = held_at files ns ss i d held.1 are.1 (omega (arith, h))

-- what was read so far are the first of what is read
abbrev pub SameNames : List Userscript → List Userscript → Type 0
SameNames [] all = Unit {0}
SameNames (s ∷ ss) [] = ⊥
SameNames (s ∷ ss) (t ∷ ts) = (s.name ≡ t.name) × SameNames ss ts

one_name : OneWay → (s t : Userscript) → Some s.text ≡ Some t.text → IsScript s → IsScript t → s.name ≡ t.name
one_name law s t e a b =
    let same : s.text ≡ t.text = cc in
    let P : List ℕ → Type 0 = λ text. IsUserscript text s.name s.lines in
    (law t.text s.name t.name s.lines t.lines (subst P same a) b).0

pub same_names : OneWay → (files : Files) (names : List (List ℕ)) (i : ℕ) (scripts all : List Userscript) → AreHeld files (take i names) scripts → AreScripts scripts → AreHeld files names all → AreScripts all → SameNames scripts all
same_names law files names i [] all held are whole every = tt
same_names law files [] zero (s ∷ ss) all held are whole every = absurd held
same_names law files [] (suc i) (s ∷ ss) all held are whole every = absurd held
same_names law files (n ∷ ns) zero (s ∷ ss) all held are whole every = absurd held
same_names law files (n ∷ ns) (suc i) (s ∷ ss) [] held are whole every = absurd whole
same_names law files (n ∷ ns) (suc i) (s ∷ ss) (t ∷ ts) held are whole every =
    (one_name law s t (sym held.0 ∙ whole.0) are.0 every.0, same_names law files ns i ss ts held.1 are.1 whole.1 every.1)

named_at : (scripts all : List Userscript) (k : ℕ) (d : List ℕ) → SameNames scripts all → k < length scripts → (k < length all) × (get_or (names_in scripts) k d ≡ get_or (names_in all) k d)
named_at [] all k d same h = absurd (omega (arith, h))
named_at (s ∷ ss) [] k d same h = absurd same
named_at (s ∷ ss) (t ∷ ts) zero d same h = (omega arith, same.0)
named_at (s ∷ ss) (t ∷ ts) (suc k) d same h = let rest = named_at ss ts k d same.1 (omega (arith, h)) in (omega (arith, rest.0), rest.1)

pub held_length : (files : Files) (names : List (List ℕ)) (scripts : List Userscript) → AreHeld files names scripts → length scripts ≡ length names
held_length files [] [] held = refl
held_length files [] (s ∷ ss) held = absurd held
held_length files (n ∷ ns) [] held = absurd held
held_length files (n ∷ ns) (s ∷ ss) held = ap suc (held_length files ns ss held.1)

script_at : (files : Files) (names : List (List ℕ)) (all : List Userscript) (i : ℕ) (d e : List ℕ) → AreHeld files names all → AreScripts all → i < length names
    → (t : Userscript) × (content files (get_or names i d) ≡ Some t.text) × IsScript t × (get_or (names_in all) i e ≡ t.name)
script_at files [] all i d e held are h = absurd (omega (arith, h))
script_at files (n ∷ ns) [] i d e held are h = absurd held
script_at files (n ∷ ns) (s ∷ ss) zero d e held are h = (s, held.0, are.0, refl)
script_at files (n ∷ ns) (s ∷ ss) (suc i) d e held are h = script_at files ns ss i d e held.1 are.1 (omega (arith, h))

-- no userscripts are read where the one at a place says the name of an earlier one
pub not_read : OneWay → (files : Files) (names : List (List ℕ)) (i : ℕ) (d : List ℕ) (scripts : List Userscript) (script : Userscript) → AreHeld files (take i names) scripts → AreScripts scripts → length scripts ≡ i → i < length names
    → content files (get_or names i d) ≡ Some script.text → IsScript script → Contains (names_in scripts) script.name → (all : List Userscript) → AreRead files names all → ⊥
not_read law files names i d scripts script held are count within is form among all read =
    let same = same_names law files names i scripts all held are read.held read.scripts_are in
    let count_all = held_length files names all read.held in
    let here : among.0 < length scripts = omega (arith, among.1, length-map scripts (λ (s : Userscript). s.name)) in
    let first = named_at scripts all among.0 script.name same here in
    let other = script_at files names all i d script.name read.held read.scripts_are within in
    let name = one_name law script other.0 (sym is ∙ other.1) form other.2 in
    let many = length-map all (λ (s : Userscript). s.name) in
    read.distinct among.0 i script.name (omega (arith, here, count)) (omega (arith, many, count_all, within)) (sym first.1 ∙ among.2 ∙ name ∙ sym other.3)
