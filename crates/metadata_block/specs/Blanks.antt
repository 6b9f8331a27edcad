-- Blanks, which are spaces and tabs (this project's own).
use Rattle.std.specs.Prelude.{◌≡◌, ℕ, List, [], ◌∷◌, Bool, true, false, ◌||◌, ◌==◌, ⊤}
use Rattle.std.specs.List.{list_all, list_any}

-- a space or a tab
abbrev pub is_blank : ℕ → Bool
is_blank b = b == 32 || b == 9

abbrev pub AreBlanks : List ℕ → Type 0
AreBlanks bs = list_all is_blank bs ≡ true

abbrev pub HasNoBlank : List ℕ → Type 0
HasNoBlank bs = list_any is_blank bs ≡ false

-- it doesn't begin with a blank
abbrev pub StartsSolid : List ℕ → Type 0
StartsSolid [] = ⊤
StartsSolid (b ∷ bs) = is_blank b ≡ false

-- it doesn't end with a blank
abbrev pub EndsSolid : List ℕ → Type 0
EndsSolid [] = ⊤
EndsSolid (b ∷ []) = is_blank b ≡ false
EndsSolid (b ∷ c ∷ cs) = EndsSolid (c ∷ cs)
