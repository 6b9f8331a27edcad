-- The words of the command line; the grammar is this project's own.
use Rattle.std.specs.Prelude.{◌≡◌, ◌≤◌, ◌⊎◌, ℕ, Bool, false, not, List, [], ◌∷◌, ◌++◌, codes, filter, nat_eq, if◌then◌else◌}
use Rattle.std.specs.Str.{bytes_eq}
use Rattle.std.specs.List.{before_first, after_first}
use Rattle.std.specs.Fmt.{decimal}
use Rattle.page_host.specs.declared.words.Command.{Command}
use Rattle.page_host.specs.declared.words.Command.TheVariants.{Run, Generate}

-- the word that ends the flags
abbrev pub is_dashes : List ℕ → Bool
is_dashes word = bytes_eq word (codes "--")

-- a flag begins with `-`
abbrev pub begins_with_dash : List ℕ → Bool
begins_with_dash [] = false
begins_with_dash (b ∷ bs) = nat_eq b 45

-- any other word
abbrev pub is_plain : List ℕ → Bool
is_plain word = not (begins_with_dash word)

-- the flags: what begins with `-` before the first `--`
abbrev pub flags : List (List ℕ) → List (List ℕ)
flags words = filter begins_with_dash (before_first is_dashes words)

-- the plain words: the others before the first `--`, and all after it
abbrev pub plain_words : List (List ℕ) → List (List ℕ)
plain_words words = filter is_plain (before_first is_dashes words) ++ after_first is_dashes words

-- The words after `run`: one plain word, the address, and `--trace` once or not at all.
pub record AreRunWords (words : List (List ℕ)) (address : List ℕ) (trace : Bool) : Type 0 where
  pub plain : plain_words words ≡ address ∷ []
  pub flag : flags words ≡ (if trace then codes "--trace" ∷ [] else [])

-- `run`, an address, and whether a trace is wanted
abbrev pub IsRunCommand : List (List ℕ) → List ℕ → Bool → Type 0
IsRunCommand words address trace = (rest : List (List ℕ)) × (words ≡ codes "run" ∷ rest) × AreRunWords rest address trace

-- `gen` and a number from 1 to 5,000
pub record IsGenerateCommand (words : List (List ℕ)) (items : ℕ) : Type 0 where
  pub words_are : words ≡ codes "gen" ∷ (decimal items ∷ [])
  pub low : 1 ≤ items
  pub high : items ≤ 5000

-- the words read as one of the two commands
abbrev pub AreRead : List (List ℕ) → Type 0
AreRead words = ((address : List ℕ) × (trace : Bool) × IsRunCommand words address trace) ⊎ ((items : ℕ) × IsGenerateCommand words items)

-- the command that the words say
abbrev pub IsCommand : List (List ℕ) → Command → Type 0
IsCommand words (Run address trace) = IsRunCommand words address.now trace
IsCommand words (Generate items) = IsGenerateCommand words items
