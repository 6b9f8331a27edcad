-- The discipline of the heap: each reference in a cell or a scope of an owner names a cell of that owner, and only links and forwards name
-- another's (MDN, Script security; this project's own).
use Rattle.std.specs.Prelude.{◌≡◌, ◌≢◌, ℕ, List, Option, Some, None, slice_get}
use Rattle.js_objects.specs.declared.cell.Cell.{Cell}
use Rattle.js_objects.specs.Heaps.{Store}
use Rattle.actor_parts.specs.Seats.{Seat, Scoped, Proper, role_of, seats}
use Rattle.actor_parts.specs.Mentions.{Rule, Meets}

-- an object of this owner
abbrev pub IsObject : ℕ → Option Seat → Type 0
IsObject i None = ⊥
IsObject i (Some s) = (s.owner ≡ i) × (role_of s.form ≢ Scoped)

-- a cell of this owner that has a place
abbrev pub IsPlaced : ℕ → Option Seat → Type 0
IsPlaced i None = ⊥
IsPlaced i (Some s) = (s.owner ≡ i) × ((p : ℕ) × (s.place ≡ Some p))

-- a scope of this owner
abbrev pub IsScope : ℕ → Option Seat → Type 0
IsScope i None = ⊥
IsScope i (Some s) = (s.owner ≡ i) × (role_of s.form ≡ Scoped)

unfoldable pub ObjectAt : List Seat → ℕ → ℕ → Type 0
ObjectAt s i n = IsObject i (slice_get s n)

unfoldable pub PlacedAt : List Seat → ℕ → ℕ → Type 0
PlacedAt s i n = IsPlaced i (slice_get s n)

unfoldable pub ScopeAt : List Seat → ℕ → ℕ → Type 0
ScopeAt s i n = IsScope i (slice_get s n)

-- what this owner may mention: its own objects, functions and scopes, and by links and forwards what others own
abbrev pub own_alone : List Seat → ℕ → Rule
own_alone s i = record {
  value = ObjectAt s i;
  function = PlacedAt s i;
  scope = ScopeAt s i;
  target = λ owner n. (owner.0 ≢ i) × ObjectAt s owner.0 n;
  callee = λ owner n. (owner.0 ≢ i) × PlacedAt s owner.0 n;
}

-- a cell mentions what its owner may mention
abbrev pub IsWithin : List Seat → Cell → Type 0
IsWithin s x = Meets (own_alone s x.owner.0) x

pub record Disciplined (h : Store) : Type 0 where
  pub within : (n : ℕ) (x : Cell) → slice_get h.cells n ≡ Some x → IsWithin (seats h) x

-- at rest each proper cell has a place
pub record AtRest (h : Store) : Type 0 where
  pub placed : (n : ℕ) (x : Cell) → slice_get h.cells n ≡ Some x → role_of x.form ≡ Proper → (p : ℕ) × (x.place ≡ Some p)
