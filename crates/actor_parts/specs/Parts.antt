-- The part of one actor: the machine that its cells are (ECMAScript, 6.1.7 and 9.1.1.1; MDN, Xray vision).
use Rattle.std.specs.Prelude.{◌≡◌, ℕ, ◌==◌, ◌-◌, List, Option, Some, None, slice_get, map, filter_map, if◌then◌else◌}
use Rattle.door.specs.declared.values.Actor.{Actor}
use Rattle.door.specs.declared.values.Look.{Look}
use Rattle.door.specs.declared.values.Thing.{Thing}
use Rattle.door.specs.declared.zones.Zone.{Zone}
use Rattle.js_semantics.specs.Builtin.{Builtin}
use Rattle.js_semantics.specs.Machine as m
use Rattle.js_semantics.specs.Machine.{Machine, Scope, MetThing, MetObject}
use Rattle.js_objects.specs.declared.values.CellId.{CellId}
use Rattle.js_objects.specs.declared.values.Form.{Form}
use Rattle.js_objects.specs.declared.values.Form.TheVariants as f
use Rattle.js_objects.specs.declared.cell.Cell.{Cell}
use Rattle.js_objects.specs.Naming.{Names, slots_of, cell_of, scope_in}
use Rattle.js_objects.specs.Heaps.{Store, owned, places}
use Rattle.actor_parts.specs.Seats.{Proper, role_of, Seat, seats, shape_at, names_by}

-- a cell of this owner
pub record IsOf (h : Store) (i n : ℕ) (x : Cell) : Type 0 where
  pub at : slice_get h.cells n ≡ Some x
  pub owner : x.owner.0 ≡ i

-- a proper cell at this place
pub record IsProper (h : Store) (i n p : ℕ) (x : Cell) : Type 0 where
  pub here : IsOf h i n x
  pub place : x.place ≡ Some p
  pub role : role_of x.form ≡ Proper

-- a scope
pub record IsScope (h : Store) (i n : ℕ) (x : Cell) : Type 0 where
  pub here : IsOf h i n x
  pub form : x.form ≡ f.Scope

-- a thing that was met
pub record IsThing (h : Store) (i n : ℕ) (t : Thing) (x : Cell) : Type 0 where
  pub here : IsOf h i n x
  pub form : x.form ≡ f.Thing t

-- an object of another that was met
pub record IsLink (h : Store) (i n : ℕ) (a : Actor) (c : CellId) (l : Look) (x : Cell) : Type 0 where
  pub here : IsOf h i n x
  pub form : x.form ≡ f.Link a c l

-- ---- what one cell is

-- the cell at a place: a proper one, or a link where a function of another is named
abbrev pub form_placed : Names → ℕ → Cell → Form → Option m.Cell
form_placed names n x f.Scope = None
form_placed names n x (f.Thing thing) = None
form_placed names n x form = Some (cell_of names n x)

abbrev pub number_placed : Names → ℕ → Option Cell → Option m.Cell
number_placed names n None = None
number_placed names n (Some x) = form_placed names n x x.form

abbrev pub cell_placed : Names → List Cell → Option CellId → Option m.Cell
cell_placed names cells None = None
cell_placed names cells (Some c) = number_placed names c.0 (slice_get cells c.0)

-- a scope
abbrev pub form_scope : Names → Cell → Form → Option Scope
form_scope names x f.Scope = Some (scope_in names x)
form_scope names x form = None

-- a thing that was met, with the owner's own properties on it
abbrev pub form_thing : Names → Cell → Form → Option MetThing
form_thing names x (f.Thing thing) = Some (record { kind = thing.kind; slots = slots_of names x.slots })
form_thing names x form = None

-- an object of another that was met, with the owner's own properties on it
abbrev pub form_object : Names → List Seat → Cell → Form → Option MetObject
form_object names s x (f.Link owner c look) = Some (record { owner = owner; shape = shape_at s c.0; look = look; slots = slots_of names x.slots })
form_object names s x form = None

-- .. where the cell is this owner's
abbrev pub if_owned : {A : Type 0} → ℕ → Cell → Option A → Option A
if_owned i x o = if x.owner.0 == i then o else None

abbrev pub scope_here : Names → ℕ → Cell → Option Scope
scope_here names i x = if_owned i x (form_scope names x x.form)

abbrev pub thing_here : Names → ℕ → Cell → Option MetThing
thing_here names i x = if_owned i x (form_thing names x x.form)

abbrev pub object_here : Names → List Seat → ℕ → Cell → Option MetObject
object_here names s i x = if_owned i x (form_object names s x x.form)

-- ---- the machine

abbrev pub part_by : Names → List Seat → Zone → ℕ → Store → Machine
part_by names s z i h = record {
  zone = z;
  cells = map (cell_placed names h.cells) (places h i);
  scopes = filter_map (scope_here names i) h.cells;
  things = filter_map (thing_here names i) h.cells;
  objects = filter_map (object_here names s i) h.cells;
  room = h.limit - owned i h.cells;
}

-- What one owner has of the heap: proper cells by their places, and scopes, met things and met objects in the order of their cells. Its zone
-- is told by its compartment.
unfoldable pub part : (ℕ → Builtin) → Zone → ℕ → Store → Machine
part builtins z i h = part_by (names_by builtins (seats h)) (seats h) z i h
