-- How a text is split where another first stands in it; this project's own in form.
use Rattle.std.specs.Prelude.{◌≡◌, ℕ, List, ◌++◌, Some, length}
use Rattle.js_semantics.specs.Texts.{first_place}

-- the text is what stands before the first place of another, that other one, and what follows
pub record SplitsAtFirst (t s before after : List ℕ) : Type 0 where
  pub parts : t ≡ before ++ (s ++ after)
  pub first : first_place s 0 0 t ≡ Some (length before)
