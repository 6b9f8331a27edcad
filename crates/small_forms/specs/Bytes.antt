-- Classes of bytes, and the small forms that addresses, titles and names are made of; this project's own.
use Rattle.std.specs.Prelude.{◌≢◌, ◌<◌, ◌||◌, ◌&&◌, ℕ, Bool, true, not, IsTrue, List, [], ◌∷◌, ◌++◌, length, nat_eq}
use Rattle.std.specs.List.{list_all}
use Rattle.std.specs.Char.{is_ascii, is_ascii_digit, is_ascii_lowercase, is_ascii_alphanumeric}
use Rattle.small_forms.specs.declared.bytes.Class.{Class}
use Rattle.small_forms.specs.declared.bytes.Class.TheVariants.{Digit, Lower, Alphanumeric, Blank, AlphanumericOrBlank, Dot, RawText}

-- a space or a tab
abbrev pub is_blank : ℕ → Bool
is_blank b = nat_eq b 32 || nat_eq b 9

-- the bytes of each class; a word has ASCII letters and digits
abbrev pub is_in : Class → ℕ → Bool
is_in Digit b = is_ascii_digit b
is_in Lower b = is_ascii_lowercase b
is_in Alphanumeric b = is_ascii_alphanumeric b
is_in Blank b = is_blank b
is_in AlphanumericOrBlank b = is_ascii_alphanumeric b || is_blank b
is_in Dot b = nat_eq b 46
is_in RawText b = is_ascii b && not (nat_eq b 60)

-- all bytes are of the class
abbrev pub are_in : Class → List ℕ → Bool
are_in class bytes = list_all (is_in class) bytes

-- the first byte, if there is one, isn't of the class
abbrev pub stops : Class → List ℕ → Bool
stops class [] = true
stops class (b ∷ bs) = not (is_in class b)

-- one or more bytes of a class
pub record IsRun (class : Class) (bytes : List ℕ) : Type 0 where
  pub nonempty : 0 < length bytes
  pub inside : IsTrue (are_in class bytes)

-- one or more runs, with one separator between two
pub data AreRuns (letter separator : Class) : List ℕ → Type 0 where
  last : (run : List ℕ) → IsRun letter run → AreRuns letter separator run
  more : (run : List ℕ) (between : ℕ) (rest : List ℕ) → IsRun letter run → IsTrue (is_in separator between) → AreRuns letter separator rest
      → AreRuns letter separator (run ++ between ∷ rest)

-- digits of a number: some, and no zero before others
abbrev pub IsNumeral : List ℕ → Type 0
IsNumeral [] = ⊥
IsNumeral (digit ∷ []) = Unit {0}
IsNumeral (digit ∷ (next ∷ digits)) = digit ≢ 48
