-- What calls of the heap do to its cells, as far as the machines of actors depend on it (own).
use Rattle.std.specs.Prelude.{◌≡◌, ◌++◌, ◌∷◌, [], ℕ, Some, None, slice_get, slice_set}
use Rattle.js_objects.specs.declared.cell.Cell.{Cell}
use Rattle.js_objects.specs.Heaps.{Store, SameRest}

-- one cell is written, and keeps its owner, its form and its place
pub record Rewrites (h k : Store) (n : ℕ) (x y : Cell) : Type 0 where
  pub was : slice_get h.cells n ≡ Some x
  pub now : k ≡ record h { cells = slice_set h.cells n y }
  pub owner : y.owner ≡ x.owner
  pub form : y.form ≡ x.form
  pub place : y.place ≡ x.place

-- a cell is added, which has no place yet
pub record Adds (h k : Store) (x : Cell) : Type 0 where
  pub cells : k.cells ≡ h.cells ++ x ∷ []
  pub place : x.place ≡ None
  pub rest : SameRest h k
