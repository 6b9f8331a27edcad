-- The way up through a list of parents.
use Rattle.std.specs.Prelude.{◌≡◌, ◌<◌, ℕ, true, List, [], ◌∷◌, Option, Some, None, length, slice_index_or}
use Rattle.std.specs.Option.{option_map_or}
use Prim.Native.Nat.{zero, suc}
use Rattle.dom_semantics.specs.Forest.{Node, is_child}

-- at most so many steps upwards
abbrev pub up_by : ℕ → List (Option ℕ) → ℕ → List ℕ
up_by zero above n = []
up_by (suc steps) above n = option_map_or (λ p. p ∷ up_by steps above p) (slice_index_or above n None) []

-- each parent has a row
abbrev pub AreKnown : List (Option ℕ) → Type 0
AreKnown above = (n p : ℕ) → slice_index_or above n None ≡ Some p → p < length above

-- each child is a node
abbrev pub AreNodes : List Node → Type 0
AreNodes f = (p c : ℕ) → is_child f p c ≡ true → c < length f
