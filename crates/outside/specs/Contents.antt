-- What the objects of the outside hold: this project's own words.
use Rattle.std.specs.Prelude.{◌≡◌, ◌≢◌, ◌≤◌, ◌<◌, ◌↔◌, ℕ, List, ◌++◌, length, take, map, find, All, AllPairs, Contains, Option, Some, IfSome, IsSome, String, Vec, string_bytes}
use Rattle.std.specs.Option.{option_map}
use Rattle.std.specs.Str.{bytes_eq}
use Rattle.std.specs.declared.alloc.Global.{Global}
use Rattle.outside.specs.declared.traits.TheConstants.{NAME_LIMIT}

-- the files of a folder, each as its name and its bytes
abbrev pub Files : Type 0
Files = List (List ℕ × List ℕ)

-- the files of a list of names and bytes
abbrev pub files_of : List (String Global × Vec ℕ Global) → Files
files_of files = map (λ file. (string_bytes file.0, file.1.items)) files

-- the names of the files
abbrev pub names_of : Files → List (List ℕ)
names_of files = map (λ file. file.0) files

-- the bytes of the file of this name
abbrev pub content : Files → List ℕ → Option (List ℕ)
content files name = option_map (λ file. file.1) (find (λ file. bytes_eq file.0 name) files)

-- no name stands twice
abbrev pub AreDistinct : List (List ℕ) → Type 0
AreDistinct names = AllPairs (λ a b. a ≢ b) names

-- no name is over the limit
abbrev pub AreShort : List (List ℕ) → Type 0
AreShort names = All (λ name. length name ≤ NAME_LIMIT) names

-- these files can stand in one folder
pub record IsFolder (files : Files) : Type 0 where
  pub distinct : AreDistinct (names_of files)
  pub short : AreShort (names_of files)

-- a file of this name can join these files
pub record CanJoin (files : Files) (name : List ℕ) : Type 0 where
  pub short : length name ≤ NAME_LIMIT
  pub new : ¬ Contains (names_of files) name

-- each name that the folder holds, once, and no other
pub record AreNamesOf (files : Files) (names : List (List ℕ)) : Type 0 where
  pub once : AreDistinct names
  pub held : (name : List ℕ) → (Contains names name ↔ IsSome (content files name))

-- Where the old bytes are told, so are the new ones, which are the old ones with these at their end.
abbrev pub Appends : Option (List ℕ) → Option (List ℕ) → List ℕ → Type 0
Appends old new more = IfSome old (λ bytes. new ≡ Some (bytes ++ more))

-- the same with a proper prefix of these bytes, so at least the last one is missing
abbrev pub AppendsProperPrefix : Option (List ℕ) → Option (List ℕ) → List ℕ → Type 0
AppendsProperPrefix old new more = (k : ℕ) × (k < length more) × Appends old new (take k more)

-- Where it was told what is kept, it still is, and it is these bytes.
abbrev pub Keeps : Option (Option (List ℕ)) → Option (Option (List ℕ)) → List ℕ → Type 0
Keeps old new bytes = IfSome old (λ _. new ≡ Some (Some bytes))
