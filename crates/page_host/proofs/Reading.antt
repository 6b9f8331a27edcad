-- Userscripts that are read from a folder, where it tells its files.
use Rattle.std.proofs.Common.{◌≡◌, ◌∙◌, ap, sym, refl, subst, ℕ, ◌<◌, ◌≤◌, ◌+◌, true, false, List, [], ◌∷◌, ◌++◌, length, map, take, get_or, arith, Option, Some, None, IfSome}
use Prim.Native.Nat.{zero, suc}
use Rattle.std.proofs.lemmas.List.{get_or-map, length-map, take_all}
use Rattle.std.specs.Prelude.{Contains}
use Rattle.std.specs.List.{list_any}
use Rattle.std.specs.Str.{bytes_eq}
use Rattle.std.proofs.lemmas.Slice.Eq.{bytes_eq-Decides}
use Rattle.outside.specs.Contents.{Files, content, AreDistinct}
use Rattle.small_forms.specs.declared.userscript.Userscript.{Userscript}
use Rattle.page_host.specs.Scripts.{AreHeld, AreRead, AreScripts, IsScript, names_in}
use Rattle.page_host.proofs.NameLists.{any_of, some_of}
use Rattle.page_host.proofs.ScriptLists.{OneWay, distinct_more, held_at, held_more, names_more, not_read}

-- an item of a list, as its bytes
pub item_at : {A : Type 0} (f : A → List ℕ) (xs : List A) (i : ℕ) (x : A) (file : List ℕ) → file ≡ f x → i < length xs → x ≡ get_or xs i x → file ≡ get_or (map f xs) i file
item_at f xs i x file named within is = named ∙ ap f is ∙ sym (get_or-map f xs i x file within)

pub count_of : {A : Type 0} (f : A → List ℕ) (xs : List A) (i : ℕ) → i < length xs → i < length (map f xs)
count_of f xs i within = let same = length-map xs f in omega (arith, within, same)

take_next : (names : List (List ℕ)) (i : ℕ) (d : List ℕ) → i < length names → take (suc i) names ≡ take i names ++ get_or names i d ∷ []
take_next [] i d h = absurd (omega (arith, h))
take_next (x ∷ xs) zero d h = refl
take_next (x ∷ xs) (suc i) d h = ap (λ l. x ∷ l) (take_next xs i d (omega (arith, h)))

-- one item more
pub take_more : (names : List (List ℕ)) (i : ℕ) (d : List ℕ) → i < length names → take (i + 1) names ≡ take i names ++ get_or names i d ∷ []
take_more names i d h = let one : i + 1 ≡ suc i = omega arith in rw one (take_next names i d h)

pub none_held : (told : Option Files) (names : List (List ℕ)) → IfSome told (λ all. AreHeld all (take 0 names) [])
none_held None names = tt
none_held (Some all) names = tt

pub one_held : (told now : Option Files) (names : List (List ℕ)) (i : ℕ) (file : List ℕ) (scripts : List Userscript) (script : Userscript) → now ≡ told → i < length names → file ≡ get_or names i file
    → IfSome told (λ all. AreHeld all (take i names) scripts) → IfSome now (λ files. content files file ≡ Some script.text) → IfSome told (λ all. AreHeld all (take (i + 1) names) (scripts ++ script ∷ []))
one_held None now names i file scripts script same within at held is = tt
one_held (Some all) now names i file scripts script same within at held is =
    let P : Option Files → Type 0 = λ o. IfSome o (λ files. content files file ≡ Some script.text) in
    let Q : List (List ℕ) → Type 0 = λ l. AreHeld all l (scripts ++ script ∷ []) in
    let more : take (i + 1) names ≡ take i names ++ file ∷ [] = take_more names i file within ∙ ap (λ x. take i names ++ x ∷ []) (sym at) in
    subst Q (sym more) (held_more all (take i names) file scripts script held (subst P same is))

-- the file at a place is no userscript
pub unread_at : (told now : Option Files) (names : List (List ℕ)) (i : ℕ) (file : List ℕ) → now ≡ told → i < length names → file ≡ get_or names i file
    → IfSome now (λ files. (script : Userscript) → content files file ≡ Some script.text → IsScript script → ⊥) → IfSome told (λ all. (scripts : List Userscript) → AreRead all names scripts → ⊥)
unread_at None now names i file same within at none = tt
unread_at (Some all) now names i file same within at none =
    λ scripts read.
    let P : Option Files → Type 0 = λ o. IfSome o (λ files. (script : Userscript) → content files file ≡ Some script.text → IsScript script → ⊥) in
    let Q : List ℕ → Type 0 = λ f. (script : Userscript) × (content all f ≡ Some script.text) × IsScript script in
    let found = subst Q (sym at) (held_at all names scripts i file read.held read.scripts_are within) in
    subst P same none found.0 found.1 found.2

-- the userscript at a place says an earlier one's name
pub named_twice : OneWay → (told now : Option Files) (names : List (List ℕ)) (i : ℕ) (file : List ℕ) (scripts : List Userscript) (script : Userscript) → now ≡ told → i < length names → file ≡ get_or names i file
    → IfSome told (λ all. AreHeld all (take i names) scripts) → AreScripts scripts → length scripts ≡ i → IfSome now (λ files. content files file ≡ Some script.text) → IsScript script
    → list_any (bytes_eq script.name) (names_in scripts) ≡ true → IfSome told (λ all. (others : List Userscript) → AreRead all names others → ⊥)
named_twice law None now names i file scripts script same within at held are count is form twice = tt
named_twice law (Some all) now names i file scripts script same within at held are count is form twice =
    λ others read.
    let P : Option Files → Type 0 = λ o. IfSome o (λ files. content files file ≡ Some script.text) in
    let Q : List ℕ → Type 0 = λ f. content all f ≡ Some script.text in
    let found = some_of (bytes_eq script.name) (names_in scripts) twice in
    let R : List ℕ → Type 0 = λ n. Contains (names_in scripts) n in
    let among : Contains (names_in scripts) script.name = subst R (sym ((bytes_eq-Decides script.name found.0).0 found.2)) found.1 in
    not_read law all names i file scripts script held are count within (subst Q at (subst P same is)) form among others read

-- a name that none of them says
pub new_name : (scripts : List Userscript) (script : Userscript) → AreDistinct (names_in scripts) → list_any (bytes_eq script.name) (names_in scripts) ≡ false → AreDistinct (names_in (scripts ++ script ∷ []))
new_name scripts script distinct none =
    let P : List (List ℕ) → Type 0 = λ l. AreDistinct l in
    subst P (sym (names_more scripts script))
    (distinct_more (names_in scripts) script.name distinct (λ among.
    let clash : true ≡ false = sym (any_of (bytes_eq script.name) (names_in scripts) script.name among ((bytes_eq-Decides script.name script.name).1 refl)) ∙ none in
    cc))

-- the file at a place is read as well
pub named_more : (names : List (List ℕ)) (i : ℕ) (file : List ℕ) (read : List (List ℕ)) → i < length names → file ≡ get_or names i file → read ≡ take i names → read ++ file ∷ [] ≡ take (i + 1) names
named_more names i file read within at is = ap (λ xs. xs ++ file ∷ []) is ∙ ap (λ x. take i names ++ x ∷ []) at ∙ sym (take_more names i file within)

-- all items
pub take_all_names : (told : Option Files) (names : List (List ℕ)) (i : ℕ) (scripts : List Userscript) → length names ≤ i → IfSome told (λ all. AreHeld all (take i names) scripts) → IfSome told (λ all. AreHeld all names scripts)
take_all_names None names i scripts whole held = tt
take_all_names (Some all) names i scripts whole held = let Q : List (List ℕ) → Type 0 = λ l. AreHeld all l scripts in subst Q (take_all i names whole) held
