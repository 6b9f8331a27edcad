-- What stays of every machine where a cell is added to a disciplined heap (ECMAScript, 6.1.7 and 9.1.1.1).
use Rattle.std.specs.Prelude.{◌≡◌, ℕ, Some, slice_get}
use Rattle.js_semantics.specs.Builtin.{Builtin}
use Rattle.js_objects.specs.declared.cell.Cell.{Cell}
use Rattle.js_objects.specs.Naming.{slots_of, holder_of, scope_in}
use Rattle.js_objects.specs.Heaps.{Store}
use Rattle.actor_parts.specs.Seats.{Proper, role_of, names_of}
use Rattle.actor_parts.specs.Discipline.{Disciplined}
use Rattle.actor_parts.specs.Changes.{Adds}

-- each cell that was there is in its machine what it was
pub record KeepsNames (b : ℕ → Builtin) (h k : Store) : Type 0 where
  pub holder : (n : ℕ) (x : Cell) → slice_get h.cells n ≡ Some x → role_of x.form ≡ Proper → holder_of (names_of b k) x ≡ holder_of (names_of b h) x
  pub slots : (n : ℕ) (x : Cell) → slice_get h.cells n ≡ Some x → slots_of (names_of b k) x.slots ≡ slots_of (names_of b h) x.slots
  pub scope : (n : ℕ) (x : Cell) → slice_get h.cells n ≡ Some x → scope_in (names_of b k) x ≡ scope_in (names_of b h) x

abbrev pub AddLaws : Type 0
AddLaws = (b : ℕ → Builtin) (h k : Store) (x : Cell) → Disciplined h → Adds h k x → KeepsNames b h k
