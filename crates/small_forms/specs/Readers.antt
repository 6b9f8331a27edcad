-- What the readers of pages and scripts go by; this project's own.
use Rattle.std.specs.Prelude.{◌≡◌, ◌||◌, ◌⊎◌, ℕ, Bool, true, false, List, [], ◌∷◌, codes, nat_eq}
use Rattle.std.specs.List.{list_all}
use Rattle.std.specs.Char.{is_ascii}
use Rattle.small_forms.specs.declared.script.Part.{Part}
use Rattle.small_forms.specs.declared.script.Part.TheVariants.{Title, Number, Quoted}
use Rattle.small_forms.specs.declared.bytes.Class.TheVariants.{Digit}
use Rattle.small_forms.specs.Bytes.{stops}

-- a part ends before this: no digit follows a number
abbrev pub is_followed : Part → List ℕ → Bool
is_followed Title rest = true
is_followed (Number n) rest = stops Digit rest
is_followed (Quoted text) rest = true

-- a sum ends before this: a closing bracket or a semicolon
abbrev pub ends_sum : List ℕ → Bool
ends_sum [] = false
ends_sum (b ∷ bs) = nat_eq b 41 || nat_eq b 59

-- the functions that scripts log with
abbrev pub IsLogger : List ℕ → Type 0
IsLogger name = (name ≡ codes "GM_log") ⊎ (name ≡ codes "console.log")

-- all texts are ASCII
abbrev pub are_ascii : List (List ℕ) → Bool
are_ascii texts = list_all (λ text. list_all is_ascii text) texts
