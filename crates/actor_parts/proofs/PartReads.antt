-- What is read of the part of an actor.
use Rattle.std.proofs.Common.{◌≡◌, ◌-◌, ℕ, List, refl, Option, Some}
use Rattle.std.specs.Prelude.{slice_get}
use Rattle.std.proofs.lemmas.Option.{slice_get-map}
use Rattle.door.specs.declared.values.Actor.{Actor}
use Rattle.door.specs.declared.values.Look.{Look}
use Rattle.door.specs.declared.values.Look.TheVariants as looks
use Rattle.door.specs.declared.values.Thing.{Thing}
use Rattle.door.specs.declared.zones.Zone.{Zone}
use Rattle.js_semantics.specs.Builtin.{Builtin}
use Rattle.js_semantics.specs.Machine as m
use Rattle.js_semantics.specs.Machine.{Machine, MetThing, MetObject, cell_at, thing_at, object_at, scope_at, Refers}
use Rattle.js_semantics.specs.Properties.{property_in}
use Rattle.js_semantics.specs.Members.{own_property}
use Rattle.js_objects.specs.declared.values.CellId.{CellId}
use Rattle.js_objects.specs.declared.values.Form.{Form}
use Rattle.js_objects.specs.declared.values.Form.TheVariants as f
use Rattle.js_objects.specs.declared.cell.Cell.{Cell}
use Rattle.js_objects.specs.Naming.{Names, slots_of, holder_of, scope_in}
use Rattle.js_objects.specs.Heaps.{Store, Sound, owned, places, id}
use Rattle.actor_parts.specs.Seats.{Role, Proper, Scoped, Met, Linked, role_of, Seat, seat_of, seats, rank, reference_at, form_named, link_named, shape_at, names_by, names_of}
use Rattle.actor_parts.specs.Seats as names
use Rattle.actor_parts.specs.Parts.{IsOf, IsProper, IsScope, IsThing, IsLink, number_placed, cell_placed, form_scope, form_thing, form_object, part}
use Rattle.actor_parts.specs.ReadLaws.{ReadsCells, ReadsScopes, ReadsThings, ReadsObjects}
use Rattle.actor_parts.proofs.Rows.{row_read, scope_tells, thing_tells, object_tells}
use Rattle.actor_parts.proofs.PartWrites.{proper_placed, seated_here}

-- ---- names

pub seat_at : (h : Store) (n : ℕ) (x : Cell) → slice_get h.cells n ≡ Some x → slice_get (seats h) n ≡ Some (seat_of x)
unfolding seats
seat_at h n x e = rw (slice_get-map seat_of h.cells n, e) refl

proper_named : (form : Form) (place : Option ℕ) (k p : ℕ) → role_of form ≡ Proper → place ≡ Some p → form_named form place k ≡ m.Own p
proper_named f.Plain place k p d e = rw e refl
proper_named f.Array place k p d e = rw e refl
proper_named (f.Function code scope) place k p d e = rw e refl
proper_named (f.Native n) place k p d e = rw e refl
proper_named (f.Error name message) place k p d e = rw e refl
proper_named (f.Forward owner c) place k p d e = rw e refl
proper_named f.Scope place k p d e = absurd (cc)
proper_named (f.Thing thing) place k p d e = absurd (cc)
proper_named (f.Link owner c look) place k p d e = absurd (cc)

pub cell_named : (h : Store) (i n p : ℕ) (x : Cell) → IsProper h i n p x → reference_at (seats h) n ≡ m.Own p
unfolding reference_at
cell_named h i n p x c = rw (seat_at h n x c.here.at) (proper_named x.form x.place (rank (role_of x.form) x.owner.0 n (seats h)) p c.role c.place)

pub place_named : (h : Store) (i n p : ℕ) (x : Cell) → IsProper h i n p x → names.place_at (seats h) n ≡ p
unfolding names.place_at
place_named h i n p x c = rw (seat_at h n x c.here.at, c.place) refl

pub scope_named : (h : Store) (i n : ℕ) (x : Cell) → IsOf h i n x → names.scope_at (seats h) n ≡ rank Scoped i n (seats h)
unfolding names.scope_at
scope_named h i n x c = rw (seat_at h n x c.at, c.owner) refl

pub thing_named : (h : Store) (i n : ℕ) (t : Thing) (x : Cell) → IsThing h i n t x → reference_at (seats h) n ≡ m.Thing (rank Met i n (seats h))
unfolding reference_at
thing_named h i n t x c = rw (seat_at h n x c.here.at, c.form, c.here.owner) refl

pub object_named : (h : Store) (i n : ℕ) (a : Actor) (c : CellId) (l : Look) (x : Cell) → IsLink h i n a c l x → reference_at (seats h) n ≡ link_named l (rank Linked i n (seats h))
unfolding reference_at
object_named h i n a c l x g = rw (seat_at h n x g.here.at, g.form, g.here.owner) refl

-- ---- what stands under them

pub cell_here : (b : ℕ → Builtin) (z : Zone) (h : Store) (i n p : ℕ) (x : Cell) → Sound h → IsProper h i n p x → cell_at (part b z i h) p ≡ Some (holder_of (names_of b h) x)
unfolding part
cell_here b z h i n p x s c =
    let names : Names = names_of b h in
    let seat : slice_get (places h i) p ≡ Some (Some (id n)) = seated_here h i p n x s c.here.at c.here.owner c.place in
    let now : number_placed names n (Some x) ≡ Some (holder_of names x) = proper_placed names n x x.form refl c.role in
    rw (slice_get-map (cell_placed names h.cells) (places h i) p, seat, c.here.at, now) refl

pub scope_read : (b : ℕ → Builtin) (z : Zone) (h : Store) (i n : ℕ) (x : Cell) → IsScope h i n x → scope_at (part b z i h) (rank Scoped i n (seats h)) ≡ Some (scope_in (names_of b h) x)
unfolding part seats
scope_read b z h i n x c =
    row_read (form_scope (names_of b h)) Scoped i h.cells n x (scope_in (names_of b h) x) (scope_tells (names_of b h)) c.here.at c.here.owner (rw c.form refl)

pub thing_read : (b : ℕ → Builtin) (z : Zone) (h : Store) (i n : ℕ) (t : Thing) (x : Cell) → IsThing h i n t x → thing_at (part b z i h) (rank Met i n (seats h)) ≡ Some (record { kind = t.kind; slots = slots_of (names_of b h) x.slots })
unfolding part seats
thing_read b z h i n t x c =
    row_read (form_thing (names_of b h)) Met i h.cells n x (record { kind = t.kind; slots = slots_of (names_of b h) x.slots }) (thing_tells (names_of b h)) c.here.at c.here.owner (rw c.form refl)

pub object_read : (b : ℕ → Builtin) (z : Zone) (h : Store) (i n : ℕ) (a : Actor) (c : CellId) (l : Look) (x : Cell) → IsLink h i n a c l x → object_at (part b z i h) (rank Linked i n (seats h)) ≡ Some (record { owner = a; shape = shape_at (seats h) c.0; look = l; slots = slots_of (names_of b h) x.slots })
unfolding part seats
object_read b z h i n a c l x g =
    row_read (form_object (names_of b h) (seats h)) Linked i h.cells n x (record { owner = a; shape = shape_at (seats h) c.0; look = l; slots = slots_of (names_of b h) x.slots }) (object_tells (names_of b h) (seats h)) g.here.at g.here.owner (rw g.form refl)

-- ---- the laws

pub reads_cells : (b : ℕ → Builtin) (z : Zone) (i : ℕ) (h : Store) → Sound h → ReadsCells b z i h
reads_cells b z i h s = record {
  name = λ n p x c. cell_named h i n p x c;
  place = λ n p x c. place_named h i n p x c;
  cell = λ n p x c. cell_here b z h i n p x s c;
  own = λ n p x key c. rw (cell_named h i n p x c, cell_here b z h i n p x s c) refl;
  prototype = λ n p x c. rw (cell_named h i n p x c, cell_here b z h i n p x s c) refl;
  called = λ n p x c. rw (cell_named h i n p x c, cell_here b z h i n p x s c) refl;
}

pub reads_scopes : (b : ℕ → Builtin) (z : Zone) (i : ℕ) (h : Store) → ReadsScopes b z i h
reads_scopes b z i h = record { scope = λ n x c. rw (scope_named h i n x c.here) (scope_read b z h i n x c) }

pub reads_things : (b : ℕ → Builtin) (z : Zone) (i : ℕ) (h : Store) → ReadsThings b z i h
reads_things b z i h = record {
  name = λ n t x c. thing_named h i n t x c;
  thing = λ n t x c. thing_read b z h i n t x c;
  own = λ n t x key c. rw (thing_named h i n t x c, thing_read b z h i n t x c) refl;
}

own_of_object : (machine : Machine) (l : Look) (k : ℕ) (object : MetObject) (key : List ℕ) → (l ≡ looks.Waived → ⊥) → object_at machine k ≡ Some object → own_property machine (link_named l k) key ≡ property_in object.slots key
own_of_object machine looks.Own k object key d e = rw e refl
own_of_object machine looks.Transparent k object key d e = rw e refl
own_of_object machine looks.Xray k object key d e = rw e refl
own_of_object machine looks.Denied k object key d e = rw e refl
own_of_object machine looks.Waived k object key d e = absurd (d refl)

pub reads_objects : (b : ℕ → Builtin) (z : Zone) (i : ℕ) (h : Store) → ReadsObjects b z i h
reads_objects b z i h = record {
  name = λ n a c l x g. object_named h i n a c l x g;
  object = λ n a c l x g. object_read b z h i n a c l x g;
  own = λ n a c l x key g d. rw (object_named h i n a c l x g) (own_of_object (part b z i h) l (rank Linked i n (seats h)) (record { owner = a; shape = shape_at (seats h) c.0; look = l; slots = slots_of (names_of b h) x.slots }) key d (object_read b z h i n a c l x g));
}

pub room_read : (b : ℕ → Builtin) (z : Zone) (i : ℕ) (h : Store) → (part b z i h).room ≡ h.limit - owned i h.cells
unfolding part
room_read b z i h = refl
