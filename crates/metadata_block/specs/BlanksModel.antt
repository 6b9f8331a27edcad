-- The code's own cuts at blanks. No claim rests on them: lines are defined by `IsTrimmed` and `IsPair` of `Lines`.
use Rattle.std.specs.Prelude.{ℕ, List, [], ◌∷◌, if◌then◌else◌}
use Rattle.metadata_block.specs.Blanks.{is_blank}

-- without the blanks at the front
abbrev pub skip_blanks : List ℕ → List ℕ
skip_blanks [] = []
skip_blanks (b ∷ bs) = if is_blank b then skip_blanks bs else b ∷ bs

-- b before these bytes, but for a blank before nothing
abbrev pub unless_blank : ℕ → List ℕ → List ℕ
unless_blank b [] = if is_blank b then [] else b ∷ []
unless_blank b (c ∷ cs) = b ∷ c ∷ cs

-- without the blanks at the end
abbrev pub drop_blanks : List ℕ → List ℕ
drop_blanks [] = []
drop_blanks (b ∷ bs) = unless_blank b (drop_blanks bs)

-- up to the first blank
abbrev pub until_blank : List ℕ → List ℕ
until_blank [] = []
until_blank (b ∷ bs) = if is_blank b then [] else b ∷ until_blank bs

-- from the first blank on
abbrev pub from_blank : List ℕ → List ℕ
from_blank [] = []
from_blank (b ∷ bs) = if is_blank b then b ∷ bs else from_blank bs
