-- What the calls that write a cell do to the machine of its owner, as the rows of the language say it, and that every other actor's machine
-- is the same (ECMAScript, 9.1.1.1, 10.1.1, 10.1.6 and 10.1.10).
use Rattle.std.specs.Prelude.{◌≡◌, ◌≢◌, ℕ, Bool, List, Option, OnErr}
use Rattle.std.specs.declared.result.Result.{Result}
use Rattle.std.specs.declared.result.Result.TheVariants.{Ok, Err}
use Rattle.door.specs.declared.values.Actor.{Actor}
use Rattle.door.specs.declared.values.Look.{Look}
use Rattle.door.specs.declared.values.Look.TheVariants.{Xray}
use Rattle.door.specs.declared.values.Thing.{Thing}
use Rattle.door.specs.declared.zones.Zone.{Zone}
use Rattle.door.specs.declared.requests.ErrorKind.{ErrorKind}
use Rattle.js_semantics.specs.Builtin.{Builtin}
use Rattle.js_semantics.specs.Machine as m
use Rattle.js_semantics.specs.Machine.{Machine, Refers, with_cell, with_scope, with_thing, with_object}
use Rattle.js_semantics.specs.Faults.{wrong_kind, out_of_range, refusal_fault}
use Rattle.js_semantics.specs.Evaluator.{Ends, Cont, Meaning, fails_by}
use Rattle.js_semantics.specs.Properties.{removed_of}
use Rattle.js_semantics.specs.Members.{define_row, delete_row}
use Rattle.js_semantics.specs.Names.{with_name}
use Rattle.js_objects.specs.declared.values.CellId.{CellId}
use Rattle.js_objects.specs.declared.values.Slot.{Slot}
use Rattle.js_objects.specs.declared.values.Prop.{Prop}
use Rattle.js_objects.specs.declared.values.HeapFault.{HeapFault}
use Rattle.js_objects.specs.declared.values.HeapFault.TheVariants as fault
use Rattle.js_objects.specs.declared.cell.Cell.{Cell}
use Rattle.js_objects.specs.Naming.{value_of, property_of, slots_of, reference_of, holder_of, scope_in}
use Rattle.js_objects.specs.Heaps.{Store, Sound, Changed}
use Rattle.js_objects.specs.Defines.{Binds, Defines, Removes}
use Rattle.actor_parts.specs.Seats.{Met, Linked, rank, seats, reference_at, scope_at, shape_at, names_of}
use Rattle.actor_parts.specs.Parts.{IsOf, IsProper, IsScope, IsThing, IsLink, part}
use Rattle.actor_parts.specs.Changes.{Rewrites}

-- ---- a cell is written

-- the machine of the owner, by what the cell is, and that of every other actor
pub record Writes (b : ℕ → Builtin) (z : Zone) (i n : ℕ) (h k : Store) (x y : Cell) : Type 0 where
  pub cell : (p : ℕ) → IsProper h i n p x → part b z i k ≡ with_cell (part b z i h) p (holder_of (names_of b h) y)
  pub scope : IsScope h i n x → part b z i k ≡ with_scope (part b z i h) (scope_at (seats h) n) (scope_in (names_of b h) y)
  pub thing : (t : Thing) → IsThing h i n t x →
      part b z i k ≡ with_thing (part b z i h) (rank Met i n (seats h)) (record { kind = t.kind; slots = slots_of (names_of b h) y.slots })
  pub object : (a : Actor) (c : CellId) (l : Look) → IsLink h i n a c l x →
      part b z i k ≡
      with_object (part b z i h) (rank Linked i n (seats h))
      (record { owner = a; shape = shape_at (seats h) c.0; look = l; slots = slots_of (names_of b h) y.slots })
  pub others : (j : ℕ) → j ≢ x.owner.0 → part b z j k ≡ part b z j h
  pub names : seats k ≡ seats h

-- ---- `define`

-- a row by the answer of the heap: it goes on in this machine, or throws by a rule there; want of memory tells nothing
abbrev pub GoesOn : Result (Unit {0}) HeapFault → Meaning → Machine → Machine → Type 0
GoesOn (Ok u) row before after = (f : ℕ) (c : Cont) → row before f c ≡ c Ends after f
GoesOn (Err fault.Sparse) row before after = (f : ℕ) (c : Cont) → row before f c ≡ fails_by out_of_range c after f
GoesOn (Err fault.Kind) row before after = (f : ℕ) (c : Cont) → row before f c ≡ fails_by wrong_kind c after f
GoesOn (Err fault.NoMemory) row before after = Unit {0}
GoesOn (Err fault.CellLimit) row before after = ⊥
GoesOn (Err fault.Cycle) row before after = ⊥

-- what `define` promises of the heap
pub record IsDefined (h k : Store) (n : ℕ) (key : List ℕ) (prop : Prop) (result : Result (Unit {0}) HeapFault) : Type 0 where
  pub changed : Changed h k n (λ x y. Defines x y key prop result × (y ≡ record x { elements = y.elements; slots = y.slots }))
  pub refused : OnErr result (k ≡ h)

abbrev pub DefineRow : (ℕ → Builtin) → Zone → ℕ → ℕ → Store → Store → List ℕ → Prop → Result (Unit {0}) HeapFault → Type 0
DefineRow b z i n h k key prop result = GoesOn result (define_row (reference_at (seats h) n) key (property_of (names_of b h) prop)) (part b z i h)
    (part b z i k)

-- the row of a property that is defined, of a proper cell, a thing, and an object that is seen through an Xray
pub record DefinesRow (b : ℕ → Builtin) (z : Zone) (i n : ℕ) (h k : Store) (key : List ℕ) (prop : Prop) (result : Result (Unit {0}) HeapFault) : Type 0 where
  pub cell : (p : ℕ) (x : Cell) → IsProper h i n p x → DefineRow b z i n h k key prop result
  pub thing : (t : Thing) (x : Cell) → IsThing h i n t x → DefineRow b z i n h k key prop result
  pub object : (a : Actor) (c : CellId) (x : Cell) → IsLink h i n a c Xray x → DefineRow b z i n h k key prop result
  pub others : (j : ℕ) (x : Cell) → IsOf h i n x → j ≢ i → part b z j k ≡ part b z j h

-- ---- `remove`

-- a row by the table: it goes on in this machine, or throws there why the property can't be removed
abbrev pub RemoveRow : Result m.Cell ErrorKind → Meaning → Machine → Machine → Type 0
RemoveRow (Ok left) row before after = (f : ℕ) (c : Cont) → row before f c ≡ c Ends after f
RemoveRow (Err why) row before after = (f : ℕ) (c : Cont) → row before f c ≡ fails_by (refusal_fault why) c after f

-- what `remove` promises of the heap
abbrev pub IsRemoved : Store → Store → ℕ → List ℕ → Bool → Type 0
IsRemoved h k n key result = Changed h k n (λ x y. Removes x y key result × (y ≡ record x { slots = y.slots }))

abbrev pub RemovesFrom : (ℕ → Builtin) → Zone → ℕ → ℕ → Store → Store → List ℕ → Cell → Type 0
RemovesFrom b z i n h k key x = RemoveRow (removed_of (holder_of (names_of b h) x) key) (delete_row (Refers (reference_at (seats h) n)) key) (part b
    z i h) (part b z i k)

-- the row of a property that is removed
pub record RemovesRow (b : ℕ → Builtin) (z : Zone) (i n : ℕ) (h k : Store) (key : List ℕ) : Type 0 where
  pub cell : (p : ℕ) (x : Cell) → IsProper h i n p x → RemovesFrom b z i n h k key x
  pub thing : (t : Thing) (x : Cell) → IsThing h i n t x → RemovesFrom b z i n h k key x
  pub object : (a : Actor) (c : CellId) (x : Cell) → IsLink h i n a c Xray x → RemovesFrom b z i n h k key x
  pub others : (j : ℕ) (x : Cell) → IsOf h i n x → j ≢ i → part b z j k ≡ part b z j h

-- ---- `set_proto` and `scope_set`

-- a prototype is set in a proper cell alone, since what a thing and another's object have above them is told by tables
pub record SetsPrototype (b : ℕ → Builtin) (z : Zone) (i n : ℕ) (h k : Store) (q : Option CellId) : Type 0 where
  pub cell : (p : ℕ) (x : Cell) → IsProper h i n p x →
      part b z i k ≡ with_cell (part b z i h) p (record (holder_of (names_of b h) x) { prototype = reference_of (names_of b h) q })
  pub thing : (t : Thing) (x : Cell) → IsThing h i n t x → part b z i k ≡ part b z i h
  pub object : (a : Actor) (c : CellId) (l : Look) (x : Cell) → IsLink h i n a c l x → part b z i k ≡ part b z i h
  pub others : (j : ℕ) (x : Cell) → IsOf h i n x → j ≢ i → part b z j k ≡ part b z j h

-- a name of a scope is given a value
pub record BindsName (b : ℕ → Builtin) (z : Zone) (i n : ℕ) (h k : Store) (name : List ℕ) (value : Slot) : Type 0 where
  pub scope : (x : Cell) → IsScope h i n x → part b z i k ≡ with_name (part b z i h) (scope_at (seats h) n) name (value_of (names_of b h) value)
  pub others : (j : ℕ) (x : Cell) → IsOf h i n x → j ≢ i → part b z j k ≡ part b z j h

-- ---- the laws

pub record WriteLaws : Type 0 where
  pub writes : (b : ℕ → Builtin) (z : Zone) (i n : ℕ) (h k : Store) (x y : Cell) → Sound h → Rewrites h k n x y → Writes b z i n h k x y
  pub defines : (b : ℕ → Builtin) (z : Zone) (i n : ℕ) (h k : Store) (key : List ℕ) (prop : Prop) (result : Result (Unit {0}) HeapFault) → Sound h →
      IsDefined h k n key prop result → DefinesRow b z i n h k key prop result
  pub removes : (b : ℕ → Builtin) (z : Zone) (i n : ℕ) (h k : Store) (key : List ℕ) (result : Bool) → Sound h → IsRemoved h k n key result →
      RemovesRow b z i n h k key
  pub protos : (b : ℕ → Builtin) (z : Zone) (i n : ℕ) (h k : Store) (q : Option CellId) → Sound h → Changed h k n (λ x y. y ≡ record x { proto = q }) →
      SetsPrototype b z i n h k q
  pub binds : (b : ℕ → Builtin) (z : Zone) (i n : ℕ) (h k : Store) (name : List ℕ) (value : Slot) → Sound h →
      Changed h k n (λ x y. Binds x y name value × (y ≡ record x { bindings = y.bindings })) → BindsName b z i n h k name value
