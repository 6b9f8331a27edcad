-- The names of files, and what stands under a name.
use Rattle.std.proofs.Common.{◌≡◌, ℕ, zero, suc, Bool, true, false, cond, List, [], ◌∷◌, Option, Some, None, IsSome, is_some, not, IsTrue, Bor, ◌↔◌, Contains, length, take, get_or, ◌+◌, ◌<◌, ◌≤◌, ◌++◌, ◌≢◌, refl, sym, ap, ◌∙◌, arith, String, Vec, Global, string_bytes, find}
use Rattle.std.specs.Option.{option_map, option_copied}
use Rattle.std.specs.Str.{bytes_eq}
use Rattle.std.proofs.lemmas.Slice.Eq.{bytes_eq-Decides}
use Rattle.std.proofs.lemmas.Bool.{false≢true}
use Rattle.std.proofs.lemmas.List.{map-append, length-map, length-take, take-map, get_or-map, get_or-take, get_or_default, take_more}
use Rattle.std.proofs.lemmas.List.Elements.{All-push}
use Rattle.std.proofs.lemmas.List.Quantifiers.{all_pairs_push}
use Rattle.outside.specs.declared.traits.TheConstants.{NAME_LIMIT}
use Rattle.outside.specs.Contents.{Files, files_of, content, names_of, AreDistinct, AreNamesOf, IsFolder, CanJoin}

-- the bytes of the first of some files, where this one is the first if it is the same, and else one is found later
abbrev bytes_of : Bool → List ℕ × List ℕ → Option (List ℕ × List ℕ) → Option (List ℕ)
bytes_of same file later = option_map (λ found. found.1) (cond same (Some file) later)

later_IsSome : (same : Bool) (file : List ℕ × List ℕ) (later : Option (List ℕ × List ℕ)) → IsSome (option_map (λ found. found.1) later) → IsSome (bytes_of same file later)
later_IsSome true file later h = refl
later_IsSome false file later h = h

-- a name that stands among those of the files has bytes
IsSome-content : (files : Files) (name : List ℕ) → Contains (names_of files) name → IsSome (content files name)
IsSome-content [] name (k, within, same) = absurd (omega arith)
IsSome-content (file ∷ files) name (zero, within, same) = rw ((bytes_eq-Decides file.0 name).1 same) refl
IsSome-content (file ∷ files) name (suc k, within, same) =
    later_IsSome (bytes_eq file.0 name) file _ (IsSome-content files name (k, omega arith, same))

here_or_later : (same : Bool) (file : List ℕ × List ℕ) (later : Option (List ℕ × List ℕ)) (files : Files) (name : List ℕ) → (same ≡ true → file.0 ≡ name)
    → (IsSome (option_map (λ found. found.1) later) → Contains (names_of files) name) → IsSome (bytes_of same file later) → Contains (names_of (file ∷ files)) name
here_or_later true file later files name here rest found = (0, omega arith, here refl)
here_or_later false file later files name here rest found =
    let place = rest found in (suc place.0, omega (arith, place.1), place.2)

-- a name that has bytes stands among those of the files
Contains-names_of : (files : Files) (name : List ℕ) → IsSome (content files name) → Contains (names_of files) name
Contains-names_of [] name found = absurd (cc)
Contains-names_of (file ∷ files) name found =
    here_or_later (bytes_eq file.0 name) file _ files name (bytes_eq-Decides file.0 name).0 (Contains-names_of files name) found

-- files whose names are distinct have just these names
pub AreNamesOf-names_of : (files : Files) → AreDistinct (names_of files) → AreNamesOf files (names_of files)
AreNamesOf-names_of files distinct =
    record { once = distinct; held = λ name. (IsSome-content files name, Contains-names_of files name) }

bytes_under : (same : Bool) (file : String Global × Vec ℕ Global) (later : Option (String Global × Vec ℕ Global)) (rest : Option (List ℕ × List ℕ)) → option_map (λ found. found.1) rest ≡ option_map (λ found. found.1.items) later
    → bytes_of same (string_bytes file.0, file.1.items) rest ≡ option_map (λ found. found.1.items) (cond same (Some file) later)
bytes_under true file later rest h = refl
bytes_under false file later rest h = h

content-files_of : (files : List (String Global × Vec ℕ Global)) (name : List ℕ) → content (files_of files) name ≡ option_map (λ file. file.1.items) (find (λ file. bytes_eq (string_bytes file.0) name) files)
content-files_of [] name = refl
content-files_of (file ∷ files) name =
    bytes_under (bytes_eq (string_bytes file.0) name) file _ _ (content-files_of files name)

-- the bytes of the first of the files that has this name
pub bytes_of_found : (files : List (String Global × Vec ℕ Global)) (name : List ℕ) (found : Option (String Global × Vec ℕ Global)) → found ≡ find (λ file. bytes_eq (string_bytes file.0) name) files
    → option_map (λ file. file.1.items) found ≡ content (files_of files) name
bytes_of_found files name found is = ap (option_map (λ file. file.1.items)) is ∙ sym (content-files_of files name)

-- a file can join the others exactly if none of them was found under its short name
pub CanJoin-found : (files : List (String Global × Vec ℕ Global)) (name : List ℕ) (found : Option (Bor (String Global × Vec ℕ Global))) (none : Bool) → option_copied found ≡ find (λ file. bytes_eq (string_bytes file.0) name) files
    → is_some found ≡ not none → length name ≤ NAME_LIMIT → IsTrue none ↔ CanJoin (files_of files) name
CanJoin-found files name None true is none short =
    (λ _. record { short = short; new = λ held. false≢true (ap is_some (bytes_of_found files name None is) ∙ IsSome-content (files_of files) name held) }, λ _. refl)
CanJoin-found files name None false is none short = absurd (false≢true none)
CanJoin-found files name (Some file) true is none short = absurd (false≢true (sym none))
CanJoin-found files name (Some file) false is none short =
    (λ e. absurd (false≢true e), λ joins. absurd (joins.new (Contains-names_of (files_of files) name (ap is_some (sym (bytes_of_found files name (Some file.now) is))))))

-- how a file is seen
abbrev file_of : String Global × Vec ℕ Global → List ℕ × List ℕ
file_of file = (string_bytes file.0, file.1.items)

-- the name at a place can join the files before it
CanJoin-place : (files : Files) (k : ℕ) (d : List ℕ × List ℕ) → IsFolder files → k < length files → CanJoin (take k files) (get_or files k d).0
CanJoin-place files k d whole within =
    let name = (get_or files k d).0 in
    let here : k < length (names_of files) = omega (arith, length-map files (λ file. file.0)) in
    let at : get_or (names_of files) k name ≡ name = get_or-map (λ file. file.0) files k d name within in
    record {
      short = rw at at (whole.short k name here);
      new = λ held.
          let before = rw (← take-map (λ file. file.0) k files) at held.1 in
          let there : held.0 < k = omega (arith, length-take k (names_of files)) in
          let same = rw (← take-map (λ file. file.0) k files) at held.2 in
          whole.distinct held.0 k name there here (sym (get_or-take k (names_of files) held.0 name there) ∙ same ∙ sym at);
    }

-- the file at a place can join those before it
pub CanJoin-before : (files : List (String Global × Vec ℕ Global)) (k : ℕ) (d : String Global × Vec ℕ Global) → k < length files → IsFolder (files_of files) → CanJoin (files_of (take k files)) (string_bytes (get_or files k d).0)
CanJoin-before files k d within whole =
    let there : k < length (files_of files) = omega (arith, length-map files file_of) in
    let at = get_or-map file_of files k d (file_of d) within in
    rw (take-map file_of k files, ap (λ f. f.0) at) at (CanJoin-place (files_of files) k (file_of d) whole there)

-- a file that can join makes a folder with the others
IsFolder-push : (files : Files) (file : List ℕ × List ℕ) → IsFolder files → CanJoin files file.0 → IsFolder (files ++ file ∷ [])
IsFolder-push files file whole joins =
    record {
      distinct = rw (map-append (λ f. f.0) files (file ∷ [])) (all_pairs_push (λ a b. a ≢ b) (names_of files) file.0 whole.distinct (λ k d within same. joins.new (k, within, get_or_default (names_of files) k file.0 d within ∙ same)));
      short = rw (map-append (λ f. f.0) files (file ∷ [])) (All-push (λ name. length name ≤ NAME_LIMIT) (names_of files) file.0 whole.short joins.short);
    }

-- one file more that can join those before it
pub IsFolder-more : (files : List (String Global × Vec ℕ Global)) (k : ℕ) (d : String Global × Vec ℕ Global) → k < length files → IsFolder (files_of (take k files)) → CanJoin (files_of (take k files)) (string_bytes (get_or files k d).0) → IsFolder (files_of (take (k + 1) files))
IsFolder-more files k d within whole joins =
    rw (take_more files k d within, map-append file_of (take k files)) (IsFolder-push (files_of (take k files)) (file_of (get_or files k d)) whole joins)
