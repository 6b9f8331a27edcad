-- Attributes by their names.
use Rattle.std.specs.Prelude.{ℕ, Bool, List}
use Rattle.std.specs.Str.{bytes_eq}

-- the attribute has this name
abbrev pub is_named : List ℕ → List ℕ × List ℕ → Bool
is_named name attribute = bytes_eq attribute.0 name
