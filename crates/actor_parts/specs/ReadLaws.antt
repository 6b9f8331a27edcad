-- What is read of a cell is what its owner's machine has under its name (ECMAScript, 6.1.7, 9.1.1.1 and 10.1).
use Rattle.std.specs.Prelude.{◌≡◌, ◌-◌, ℕ, List, Some}
use Rattle.door.specs.declared.values.Actor.{Actor}
use Rattle.door.specs.declared.values.Look.{Look}
use Rattle.door.specs.declared.values.Look.TheVariants.{Waived}
use Rattle.door.specs.declared.values.Thing.{Thing}
use Rattle.door.specs.declared.zones.Zone.{Zone}
use Rattle.js_semantics.specs.Builtin.{Builtin}
use Rattle.js_semantics.specs.Machine as m
use Rattle.js_semantics.specs.Machine.{cell_at, thing_at, object_at, scope_at, Refers}
use Rattle.js_semantics.specs.Properties.{own_of, property_in}
use Rattle.js_semantics.specs.Members.{own_property, prototype_of}
use Rattle.js_semantics.specs.Calls.{form_of}
use Rattle.js_objects.specs.declared.values.CellId.{CellId}
use Rattle.js_objects.specs.declared.cell.Cell.{Cell}
use Rattle.js_objects.specs.Naming as naming
use Rattle.js_objects.specs.Naming.{slots_of, reference_of, holder_of, scope_in}
use Rattle.js_objects.specs.Heaps.{Store, Sound, owned}
use Rattle.actor_parts.specs.Seats.{Met, Linked, Scoped, rank, seats, reference_at, link_named, shape_at, names_of}
use Rattle.actor_parts.specs.Seats as names
use Rattle.actor_parts.specs.Parts.{IsProper, IsScope, IsThing, IsLink, part}

-- a proper cell
pub record ReadsCells (b : ℕ → Builtin) (z : Zone) (i : ℕ) (h : Store) : Type 0 where
  pub name : (n p : ℕ) (x : Cell) → IsProper h i n p x → reference_at (seats h) n ≡ m.Own p
  pub place : (n p : ℕ) (x : Cell) → IsProper h i n p x → names.place_at (seats h) n ≡ p
  pub cell : (n p : ℕ) (x : Cell) → IsProper h i n p x → cell_at (part b z i h) p ≡ Some (holder_of (names_of b h) x)
  pub own : (n p : ℕ) (x : Cell) (key : List ℕ) → IsProper h i n p x →
      own_property (part b z i h) (reference_at (seats h) n) key ≡ own_of (holder_of (names_of b h) x) key
  pub prototype : (n p : ℕ) (x : Cell) → IsProper h i n p x → prototype_of (part b z i h) (reference_at (seats h) n) ≡ reference_of (names_of b h) x.proto
  pub called : (n p : ℕ) (x : Cell) → IsProper h i n p x →
      form_of (part b z i h) (Refers (reference_at (seats h) n)) ≡ Some (naming.form_of (names_of b h) x.owner x.elements x.form)

-- a scope
pub record ReadsScopes (b : ℕ → Builtin) (z : Zone) (i : ℕ) (h : Store) : Type 0 where
  pub scope : (n : ℕ) (x : Cell) → IsScope h i n x → scope_at (part b z i h) (names.scope_at (seats h) n) ≡ Some (scope_in (names_of b h) x)

-- a thing that was met
pub record ReadsThings (b : ℕ → Builtin) (z : Zone) (i : ℕ) (h : Store) : Type 0 where
  pub name : (n : ℕ) (t : Thing) (x : Cell) → IsThing h i n t x → reference_at (seats h) n ≡ m.Thing (rank Met i n (seats h))
  pub thing : (n : ℕ) (t : Thing) (x : Cell) → IsThing h i n t x →
      thing_at (part b z i h) (rank Met i n (seats h)) ≡ Some (record { kind = t.kind; slots = slots_of (names_of b h) x.slots })
  pub own : (n : ℕ) (t : Thing) (x : Cell) (key : List ℕ) → IsThing h i n t x →
      own_property (part b z i h) (reference_at (seats h) n) key ≡ property_in (slots_of (names_of b h) x.slots) key

-- an object of another that was met; on a waived one the actor has no properties of its own
pub record ReadsObjects (b : ℕ → Builtin) (z : Zone) (i : ℕ) (h : Store) : Type 0 where
  pub name : (n : ℕ) (a : Actor) (c : CellId) (l : Look) (x : Cell) → IsLink h i n a c l x → reference_at (seats h) n ≡ link_named l (rank Linked i n (seats h))
  pub object : (n : ℕ) (a : Actor) (c : CellId) (l : Look) (x : Cell) → IsLink h i n a c l x →
      object_at (part b z i h) (rank Linked i n (seats h)) ≡
      Some (record { owner = a; shape = shape_at (seats h) c.0; look = l; slots = slots_of (names_of b h) x.slots })
  pub own : (n : ℕ) (a : Actor) (c : CellId) (l : Look) (x : Cell) (key : List ℕ) → IsLink h i n a c l x → (l ≡ Waived → ⊥) →
      own_property (part b z i h) (reference_at (seats h) n) key ≡ property_in (slots_of (names_of b h) x.slots) key

pub record Reads : Type 0 where
  pub cells : (b : ℕ → Builtin) (z : Zone) (i : ℕ) (h : Store) → Sound h → ReadsCells b z i h
  pub scopes : (b : ℕ → Builtin) (z : Zone) (i : ℕ) (h : Store) → ReadsScopes b z i h
  pub things : (b : ℕ → Builtin) (z : Zone) (i : ℕ) (h : Store) → ReadsThings b z i h
  pub objects : (b : ℕ → Builtin) (z : Zone) (i : ℕ) (h : Store) → ReadsObjects b z i h
  pub room : (b : ℕ → Builtin) (z : Zone) (i : ℕ) (h : Store) → (part b z i h).room ≡ h.limit - owned i h.cells
