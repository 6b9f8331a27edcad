-- The calls that write a cell, as the rows of the language say it.
use Rattle.std.proofs.Common.{◌≡◌, ◌≢◌, ℕ, List, [], refl, sym, ap, subst, ◌∙◌, Option, Some}
use Rattle.std.specs.Prelude.{slice_get, slice_set, Bool, OnErr}
use Rattle.std.proofs.lemmas.Option.{same_Some}
use Rattle.std.specs.declared.result.Result.{Result}
use Rattle.std.specs.declared.result.Result.TheVariants.{Ok, Err}
use Rattle.door.specs.declared.values.Actor.{Actor}
use Rattle.door.specs.declared.values.Look.{Look}
use Rattle.door.specs.declared.values.Look.TheVariants.{Xray}
use Rattle.door.specs.declared.values.Shape.{Shape}
use Rattle.door.specs.declared.values.Shape.TheVariants as shapes
use Rattle.door.specs.declared.values.Thing.{Thing}
use Rattle.door.specs.declared.zones.Zone.{Zone}
use Rattle.door.specs.declared.requests.ErrorKind.{ErrorKind}
use Rattle.door.specs.declared.requests.ErrorKind.TheVariants as kind
use Rattle.js_semantics.specs.Builtin.{Builtin}
use Rattle.js_semantics.specs.Machine as m
use Rattle.js_semantics.specs.Machine.{Machine, MetObject, cell_at, thing_at, object_at, scope_at, Refers, with_cell, with_scope, with_thing, with_object}
use Rattle.js_semantics.specs.Evaluator.{Rest, Cont}
use Rattle.js_semantics.specs.Properties.{defined_of, removed_of, defined_in, removed_in}
use Rattle.js_semantics.specs.Members.{delete_row}
use Rattle.js_semantics.specs.Xrays.{with_expandos, use_by_xray}
use Rattle.js_semantics.specs.Names.{with_name}
use Rattle.js_objects.specs.declared.values.CellId.{CellId}
use Rattle.js_objects.specs.declared.values.Slot.{Slot}
use Rattle.js_objects.specs.declared.values.Prop.{Prop}
use Rattle.js_objects.specs.declared.values.Form.TheVariants as f
use Rattle.js_objects.specs.declared.values.HeapFault.{HeapFault}
use Rattle.js_objects.specs.declared.values.HeapFault.TheVariants as fault
use Rattle.js_objects.specs.declared.cell.Cell.{Cell}
use Rattle.js_objects.specs.Naming.{Names, value_of, property_of, slots_of, holder_of}
use Rattle.js_objects.specs.Heaps.{Store, Sound, Changed}
use Rattle.js_objects.specs.Defines.{Binds, Defines, Removes, RemovesAs}
use Rattle.actor_parts.specs.Seats.{Role, Proper, Scoped, Met, Linked, role_of, rank, seats, reference_at, shape_at, names_of}
use Rattle.actor_parts.specs.Seats as names
use Rattle.actor_parts.specs.Parts.{IsOf, IsProper, IsScope, IsThing, IsLink, part}
use Rattle.actor_parts.specs.Changes.{Rewrites}
use Rattle.actor_parts.specs.WriteLaws.{Writes, IsDefined, DefineRow, DefinesRow, RemoveRow, IsRemoved, RemovesRow, SetsPrototype, BindsName}
use Rattle.actor_parts.proofs.Lists.{set_got}
use Rattle.actor_parts.proofs.PartWrites.{same_seats, written_others, written_cell, written_scope, written_thing, written_object}
use Rattle.actor_parts.proofs.PartReads.{cell_named, scope_named, thing_named, object_named, cell_here, scope_read, thing_read, object_read}

-- ---- a cell is written

pub writes : (b : ℕ → Builtin) (z : Zone) (i n : ℕ) (h k : Store) (x y : Cell) → Sound h → Rewrites h k n x y → Writes b z i n h k x y
writes b z i n h k x y s r = record {
  cell = λ p c. written_cell b z h k n i p x y s r c.here.owner c.place c.role;
  scope = λ c. rw (scope_named h i n x c.here) (written_scope b z h k n i x y s r c.here.owner (rw c.form refl));
  thing = λ t c. written_thing b z h k n i x y t s r c.here.owner c.form;
  object = λ a c l g. written_object b z h k n i x y a c l s r g.here.owner g.form;
  others = λ j d. written_others b z h k n j x y s r d;
  names = same_seats h k n x y r;
}

-- the cell that was there is the one that a call speaks of
same_cell : (h k : Store) (n : ℕ) (x : Cell) (P : Cell → Cell → Type 0) (c : Changed h k n P) → slice_get h.cells n ≡ Some x → c.before ≡ x
same_cell h k n x P c e = same_Some c.before x (sym c.was ∙ e)

rewrites : (h k : Store) (n : ℕ) (x y : Cell) → slice_get h.cells n ≡ Some x → k ≡ record h { cells = slice_set h.cells n y } → y.owner ≡ x.owner → y.form ≡ x.form → y.place ≡ x.place → Rewrites h k n x y
rewrites h k n x y w e o q p = record { was = w; now = e; owner = o; form = q; place = p }

-- ---- define

-- what a defined cell is
record Defined (h k : Store) (n : ℕ) (x y : Cell) (key : List ℕ) (prop : Prop) (result : Result (Unit {0}) HeapFault) : Type 0 where
  rewritten : Rewrites h k n x y
  row : Defines x y key prop result

defined : (h k : Store) (n : ℕ) (x : Cell) (key : List ℕ) (prop : Prop) (result : Result (Unit {0}) HeapFault) → IsDefined h k n key prop result → slice_get h.cells n ≡ Some x → (y : Cell) × Defined h k n x y key prop result
defined h k n x key prop result d e =
    let c : Changed h k n (λ x y. Defines x y key prop result × (y ≡ record x { elements = y.elements; slots = y.slots })) = d.changed in
    let s : c.before ≡ x = same_Some c.before x (sym c.was ∙ e) in
    let y : Cell = c.after in
    let row : Defines x y key prop result × (y ≡ record x { elements = y.elements; slots = y.slots }) = subst (λ (u : Cell). Defines u y key prop result × (y ≡ record u { elements = y.elements; slots = y.slots })) s c.row in (
      y,
      record {
        rewritten = rewrites h k n x y e c.now (ap (λ (u : Cell). u.owner) row.1) (ap (λ (u : Cell). u.form) row.1) (ap (λ (u : Cell). u.place) row.1);
        row = row.0;
      },
    )

-- what a row does, by what the table gives of it
cell_goes : (b : ℕ → Builtin) (z : Zone) (i n p : ℕ) (h k : Store) (x y : Cell) (key : List ℕ) (prop : Prop) (result : Result (Unit {0}) HeapFault) → Sound h → IsProper h i n p x → Defined h k n x y key prop result → OnErr result (k ≡ h) → DefineRow b z i n h k key prop result
cell_goes b z i n p h k x y key prop (Ok u) s c d r = λ f k'.
    let row : defined_of (holder_of (names_of b h) x) key (property_of (names_of b h) prop) ≡ Ok (holder_of (names_of b h) y) = d.row (names_of b h) in
    rw (cell_named h i n p x c, cell_here b z h i n p x s c, row, written_cell b z h k n i p x y s d.rewritten c.here.owner c.place c.role) refl
cell_goes b z i n p h k x y key prop (Err fault.Sparse) s c d r = λ f k'.
    let row : defined_of (holder_of (names_of b h) x) key (property_of (names_of b h) prop) ≡ Err kind.Range = d.row (names_of b h) in
    rw (cell_named h i n p x c, cell_here b z h i n p x s c, row, r) refl
cell_goes b z i n p h k x y key prop (Err fault.Kind) s c d r = λ f k'.
    let row : defined_of (holder_of (names_of b h) x) key (property_of (names_of b h) prop) ≡ Err kind.Kind = d.row (names_of b h) in
    rw (cell_named h i n p x c, cell_here b z h i n p x s c, row, r) refl
cell_goes b z i n p h k x y key prop (Err fault.NoMemory) s c d r = tt
cell_goes b z i n p h k x y key prop (Err fault.CellLimit) s c d r = d.row (names_of b h)
cell_goes b z i n p h k x y key prop (Err fault.Cycle) s c d r = d.row (names_of b h)

-- a thing and an object of another take every property
slots_got : Result m.Cell ErrorKind → List m.Slot
slots_got (Ok cell) = cell.slots
slots_got (Err why) = []

thing_slots : (names : Names) (x y : Cell) (t : Thing) (key : List ℕ) (prop : Prop) → x.form ≡ f.Thing t → defined_of (holder_of names x) key (property_of names prop) ≡ Ok (holder_of names y) → slots_of names y.slots ≡ defined_in (slots_of names x.slots) key (property_of names prop)
unfolding slots_got
thing_slots names x y t key prop e row =
    let got : slots_got (defined_of (holder_of names x) key (property_of names prop)) ≡ slots_of names y.slots = ap slots_got row in
    sym (rw e at got)

thing_takes : (names : Names) (x : Cell) (t : Thing) (key : List ℕ) (prop : Prop) (why : ErrorKind) → x.form ≡ f.Thing t → defined_of (holder_of names x) key (property_of names prop) ≡ Err why → ⊥
thing_takes names x t key prop why e row = let r : Ok (record (holder_of names x) { form = m.Plain; slots = defined_in (slots_of names x.slots) key (property_of names prop) }) ≡ Err why = rw e at row in absurd (cc)

link_slots : (names : Names) (x y : Cell) (a : Actor) (c : CellId) (l : Look) (key : List ℕ) (prop : Prop) → x.form ≡ f.Link a c l → defined_of (holder_of names x) key (property_of names prop) ≡ Ok (holder_of names y) → slots_of names y.slots ≡ defined_in (slots_of names x.slots) key (property_of names prop)
unfolding slots_got
link_slots names x y a c l key prop e row =
    let got : slots_got (defined_of (holder_of names x) key (property_of names prop)) ≡ slots_of names y.slots = ap slots_got row in
    sym (rw e at got)

link_takes : (names : Names) (x : Cell) (a : Actor) (c : CellId) (l : Look) (key : List ℕ) (prop : Prop) (why : ErrorKind) → x.form ≡ f.Link a c l → defined_of (holder_of names x) key (property_of names prop) ≡ Err why → ⊥
link_takes names x a c l key prop why e row = let r : Ok (record (holder_of names x) { form = m.Link (names.link x.owner a c.0 l); slots = defined_in (slots_of names x.slots) key (property_of names prop) }) ≡ Err why = rw e at row in absurd (cc)

thing_goes : (b : ℕ → Builtin) (z : Zone) (i n : ℕ) (h k : Store) (t : Thing) (x y : Cell) (key : List ℕ) (prop : Prop) (result : Result (Unit {0}) HeapFault) → Sound h → IsThing h i n t x → Defined h k n x y key prop result → DefineRow b z i n h k key prop result
thing_goes b z i n h k t x y key prop (Ok u) s c d = λ f k'.
    let slots : slots_of (names_of b h) y.slots ≡ defined_in (slots_of (names_of b h) x.slots) key (property_of (names_of b h) prop) = thing_slots (names_of b h) x y t key prop c.form (d.row (names_of b h)) in
    rw (thing_named h i n t x c, thing_read b z h i n t x c, written_thing b z h k n i x y t s d.rewritten c.here.owner c.form, slots) refl
thing_goes b z i n h k t x y key prop (Err fault.Sparse) s c d = absurd (thing_takes (names_of b h) x t key prop kind.Range c.form (d.row (names_of b h)))
thing_goes b z i n h k t x y key prop (Err fault.Kind) s c d = absurd (thing_takes (names_of b h) x t key prop kind.Kind c.form (d.row (names_of b h)))
thing_goes b z i n h k t x y key prop (Err fault.NoMemory) s c d = tt
thing_goes b z i n h k t x y key prop (Err fault.CellLimit) s c d = d.row (names_of b h)
thing_goes b z i n h k t x y key prop (Err fault.Cycle) s c d = d.row (names_of b h)

-- through an Xray the actor has properties of its own on the object
expandos_there : (s : Shape) (rest : Rest) (c : Cont) → with_expandos (use_by_xray s) rest c ≡ rest
expandos_there shapes.Plain rest c = refl
expandos_there shapes.Array rest c = refl
expandos_there shapes.Function rest c = refl
expandos_there shapes.Error rest c = refl

object_goes : (b : ℕ → Builtin) (z : Zone) (i n : ℕ) (h k : Store) (a : Actor) (c : CellId) (x y : Cell) (key : List ℕ) (prop : Prop) (result : Result (Unit {0}) HeapFault) → Sound h → IsLink h i n a c Xray x → Defined h k n x y key prop result → DefineRow b z i n h k key prop result
object_goes b z i n h k a c x y key prop (Ok u) s g d = λ f k'.
    let slots : slots_of (names_of b h) y.slots ≡ defined_in (slots_of (names_of b h) x.slots) key (property_of (names_of b h) prop) = link_slots (names_of b h) x y a c Xray key prop g.form (d.row (names_of b h)) in
    rw (object_named h i n a c Xray x g, object_read b z h i n a c Xray x g, expandos_there (shape_at (seats h) c.0), object_read b z h i n a c Xray x g, written_object b z h k n i x y a c Xray s d.rewritten g.here.owner g.form, slots) refl
object_goes b z i n h k a c x y key prop (Err fault.Sparse) s g d = absurd (link_takes (names_of b h) x a c Xray key prop kind.Range g.form (d.row (names_of b h)))
object_goes b z i n h k a c x y key prop (Err fault.Kind) s g d = absurd (link_takes (names_of b h) x a c Xray key prop kind.Kind g.form (d.row (names_of b h)))
object_goes b z i n h k a c x y key prop (Err fault.NoMemory) s g d = tt
object_goes b z i n h k a c x y key prop (Err fault.CellLimit) s g d = d.row (names_of b h)
object_goes b z i n h k a c x y key prop (Err fault.Cycle) s g d = d.row (names_of b h)

others_stay : (b : ℕ → Builtin) (z : Zone) (i j n : ℕ) (h k : Store) (x y : Cell) → Sound h → Rewrites h k n x y → IsOf h i n x → j ≢ i → part b z j k ≡ part b z j h
others_stay b z i j n h k x y s r c d = written_others b z h k n j x y s r (λ e. d (e ∙ c.owner))

pub defines : (b : ℕ → Builtin) (z : Zone) (i n : ℕ) (h k : Store) (key : List ℕ) (prop : Prop) (result : Result (Unit {0}) HeapFault) → Sound h → IsDefined h k n key prop result → DefinesRow b z i n h k key prop result
defines b z i n h k key prop result s d = record {
  cell = λ p x c. let y : (y : Cell) × Defined h k n x y key prop result = defined h k n x key prop result d c.here.at in cell_goes b z i n p h k x y.0 key prop result s c y.1 d.refused;
  thing = λ t x c. let y : (y : Cell) × Defined h k n x y key prop result = defined h k n x key prop result d c.here.at in thing_goes b z i n h k t x y.0 key prop result s c y.1;
  object = λ a c x g. let y : (y : Cell) × Defined h k n x y key prop result = defined h k n x key prop result d g.here.at in object_goes b z i n h k a c x y.0 key prop result s g y.1;
  others = λ j x c e. let y : (y : Cell) × Defined h k n x y key prop result = defined h k n x key prop result d c.at in others_stay b z i j n h k x y.0 s y.1.rewritten c e;
}

-- ---- set_proto

proto_set : (h k : Store) (n : ℕ) (x : Cell) (q : Option CellId) → Changed h k n (λ x y. y ≡ record x { proto = q }) → slice_get h.cells n ≡ Some x → Rewrites h k n x (record x { proto = q })
proto_set h k n x q c e =
    let s : c.before ≡ x = same_Some c.before x (sym c.was ∙ e) in
    let now : c.after ≡ record x { proto = q } = c.row ∙ ap (λ (u : Cell). record u { proto = q }) s in
    rewrites h k n x (record x { proto = q }) e (c.now ∙ ap (λ (u : Cell). record h { cells = slice_set h.cells n u }) now) refl refl refl

thing_kept : (machine : Machine) (j : ℕ) (t : m.MetThing) → thing_at machine j ≡ Some t → with_thing machine j t ≡ machine
thing_kept machine j t e = ap (λ things. record machine { things = things }) (set_got machine.things j t e)

object_kept : (machine : Machine) (j : ℕ) (o : MetObject) → object_at machine j ≡ Some o → with_object machine j o ≡ machine
object_kept machine j o e = ap (λ objects. record machine { objects = objects }) (set_got machine.objects j o e)

pub protos : (b : ℕ → Builtin) (z : Zone) (i n : ℕ) (h k : Store) (q : Option CellId) → Sound h → Changed h k n (λ x y. y ≡ record x { proto = q }) → SetsPrototype b z i n h k q
protos b z i n h k q s d = record {
  cell = λ p x c. written_cell b z h k n i p x (record x { proto = q }) s (proto_set h k n x q d c.here.at) c.here.owner c.place c.role;
  thing = λ t x c. written_thing b z h k n i x (record x { proto = q }) t s (proto_set h k n x q d c.here.at) c.here.owner c.form ∙ thing_kept (part b z i h) (rank Met i n (seats h)) _ (thing_read b z h i n t x c);
  object = λ a c l x g. written_object b z h k n i x (record x { proto = q }) a c l s (proto_set h k n x q d g.here.at) g.here.owner g.form ∙ object_kept (part b z i h) (rank Linked i n (seats h)) _ (object_read b z h i n a c l x g);
  others = λ j x c e. others_stay b z i j n h k x (record x { proto = q }) s (proto_set h k n x q d c.at) c e;
}

-- ---- scope_set

record Bound (h k : Store) (n : ℕ) (x y : Cell) (name : List ℕ) (value : Slot) : Type 0 where
  rewritten : Rewrites h k n x y
  outer : y.outer ≡ x.outer
  row : Binds x y name value

bound : (h k : Store) (n : ℕ) (x : Cell) (name : List ℕ) (value : Slot) → Changed h k n (λ x y. Binds x y name value × (y ≡ record x { bindings = y.bindings })) → slice_get h.cells n ≡ Some x → (y : Cell) × Bound h k n x y name value
bound h k n x name value c e =
    let s : c.before ≡ x = same_Some c.before x (sym c.was ∙ e) in
    let y : Cell = c.after in
    let row : Binds x y name value × (y ≡ record x { bindings = y.bindings }) = subst (λ (u : Cell). Binds u y name value × (y ≡ record u { bindings = y.bindings })) s c.row in (
      y,
      record {
        rewritten = rewrites h k n x y e c.now (ap (λ (u : Cell). u.owner) row.1) (ap (λ (u : Cell). u.form) row.1) (ap (λ (u : Cell). u.place) row.1);
        outer = ap (λ (u : Cell). u.outer) row.1;
        row = row.0;
      },
    )

scope_now : (b : ℕ → Builtin) (z : Zone) (i n : ℕ) (h k : Store) (x y : Cell) (name : List ℕ) (value : Slot) → Sound h → IsScope h i n x → Bound h k n x y name value → part b z i k ≡ with_name (part b z i h) (names.scope_at (seats h) n) name (value_of (names_of b h) value)
scope_now b z i n h k x y name value s c d =
    rw (scope_named h i n x c.here, scope_read b z h i n x c, written_scope b z h k n i x y s d.rewritten c.here.owner (rw c.form refl), d.outer, d.row (names_of b h)) refl

pub binds : (b : ℕ → Builtin) (z : Zone) (i n : ℕ) (h k : Store) (name : List ℕ) (value : Slot) → Sound h → Changed h k n (λ x y. Binds x y name value × (y ≡ record x { bindings = y.bindings })) → BindsName b z i n h k name value
binds b z i n h k name value s d = record {
  scope = λ x c. let y : (y : Cell) × Bound h k n x y name value = bound h k n x name value d c.here.at in scope_now b z i n h k x y.0 name value s c y.1;
  others = λ j x c e. let y : (y : Cell) × Bound h k n x y name value = bound h k n x name value d c.at in others_stay b z i j n h k x y.0 s y.1.rewritten c e;
}

-- ---- remove

record Removed (h k : Store) (n : ℕ) (x y : Cell) (key : List ℕ) (result : Bool) : Type 0 where
  rewritten : Rewrites h k n x y
  row : Removes x y key result

removed : (h k : Store) (n : ℕ) (x : Cell) (key : List ℕ) (result : Bool) → IsRemoved h k n key result → slice_get h.cells n ≡ Some x → (y : Cell) × Removed h k n x y key result
removed h k n x key result c e =
    let s : c.before ≡ x = same_Some c.before x (sym c.was ∙ e) in
    let y : Cell = c.after in
    let row : Removes x y key result × (y ≡ record x { slots = y.slots }) = subst (λ (u : Cell). Removes u y key result × (y ≡ record u { slots = y.slots })) s c.row in (
      y,
      record {
        rewritten = rewrites h k n x y e c.now (ap (λ (u : Cell). u.owner) row.1) (ap (λ (u : Cell). u.form) row.1) (ap (λ (u : Cell). u.place) row.1);
        row = row.0;
      },
    )

-- a cell that is written as it was leaves the heap as it was
same_heap : (h k : Store) (n : ℕ) (x y : Cell) → Rewrites h k n x y → y ≡ x → k ≡ h
same_heap h k n x y r e =
    let cells : slice_set h.cells n y ≡ h.cells = ap (λ (u : Cell). slice_set h.cells n u) e ∙ set_got h.cells n x r.was in
    r.now ∙ ap (λ c. record h { cells = c }) cells

cell_loses : (b : ℕ → Builtin) (z : Zone) (i n p : ℕ) (h k : Store) (x y : Cell) (key : List ℕ) (result : Bool) (row : Result m.Cell ErrorKind) → Sound h → IsProper h i n p x → Rewrites h k n x y → removed_of (holder_of (names_of b h) x) key ≡ row → RemovesAs (names_of b h) x y key result row → RemoveRow row (delete_row (Refers (reference_at (seats h) n)) key) (part b z i h) (part b z i k)
cell_loses b z i n p h k x y key result (Ok left) s c r e w = λ f k'.
    rw (cell_named h i n p x c, cell_here b z h i n p x s c, e, written_cell b z h k n i p x y s r c.here.owner c.place c.role, w.0) refl
cell_loses b z i n p h k x y key result (Err why) s c r e w = λ f k'.
    rw (cell_named h i n p x c, cell_here b z h i n p x s c, e, same_heap h k n x y r w.0) refl

thing_loses : (b : ℕ → Builtin) (z : Zone) (i n : ℕ) (h k : Store) (t : Thing) (x y : Cell) (key : List ℕ) (result : Bool) (row : Result m.Cell ErrorKind) → Sound h → IsThing h i n t x → Rewrites h k n x y → removed_of (holder_of (names_of b h) x) key ≡ row → RemovesAs (names_of b h) x y key result row → RemoveRow row (delete_row (Refers (reference_at (seats h) n)) key) (part b z i h) (part b z i k)
unfolding slots_got
thing_loses b z i n h k t x y key result (Ok left) s c r e w = λ f k'.
    let got : slots_got (removed_of (holder_of (names_of b h) x) key) ≡ slots_of (names_of b h) y.slots = ap slots_got (e ∙ ap (λ (u : m.Cell). Ok u) (sym w.0)) in
    let slots : slots_of (names_of b h) y.slots ≡ removed_in (slots_of (names_of b h) x.slots) key = sym (rw c.form at got) in
    rw (thing_named h i n t x c, thing_read b z h i n t x c, written_thing b z h k n i x y t s r c.here.owner c.form, slots) refl
thing_loses b z i n h k t x y key result (Err why) s c r e w =
    let row : Ok (record (holder_of (names_of b h) x) { form = m.Plain; slots = removed_in (slots_of (names_of b h) x.slots) key }) ≡ Err why = rw c.form at e in
    absurd (cc)

object_loses : (b : ℕ → Builtin) (z : Zone) (i n : ℕ) (h k : Store) (a : Actor) (c : CellId) (x y : Cell) (key : List ℕ) (result : Bool) (row : Result m.Cell ErrorKind) → Sound h → IsLink h i n a c Xray x → Rewrites h k n x y → removed_of (holder_of (names_of b h) x) key ≡ row → RemovesAs (names_of b h) x y key result row → RemoveRow row (delete_row (Refers (reference_at (seats h) n)) key) (part b z i h) (part b z i k)
unfolding slots_got
object_loses b z i n h k a c x y key result (Ok left) s g r e w = λ f k'.
    let got : slots_got (removed_of (holder_of (names_of b h) x) key) ≡ slots_of (names_of b h) y.slots = ap slots_got (e ∙ ap (λ (u : m.Cell). Ok u) (sym w.0)) in
    let slots : slots_of (names_of b h) y.slots ≡ removed_in (slots_of (names_of b h) x.slots) key = sym (rw g.form at got) in
    rw (object_named h i n a c Xray x g, object_read b z h i n a c Xray x g, expandos_there (shape_at (seats h) c.0), object_read b z h i n a c Xray x g, written_object b z h k n i x y a c Xray s r g.here.owner g.form, slots) refl
object_loses b z i n h k a c x y key result (Err why) s g r e w =
    let row : Ok (record (holder_of (names_of b h) x) { form = m.Link ((names_of b h).link x.owner a c.0 Xray); slots = removed_in (slots_of (names_of b h) x.slots) key }) ≡ Err why = rw g.form at e in
    absurd (cc)

pub removes : (b : ℕ → Builtin) (z : Zone) (i n : ℕ) (h k : Store) (key : List ℕ) (result : Bool) → Sound h → IsRemoved h k n key result → RemovesRow b z i n h k key
removes b z i n h k key result s d = record {
  cell = λ p x c. let y : (y : Cell) × Removed h k n x y key result = removed h k n x key result d c.here.at in cell_loses b z i n p h k x y.0 key result (removed_of (holder_of (names_of b h) x) key) s c y.1.rewritten refl (y.1.row (names_of b h));
  thing = λ t x c. let y : (y : Cell) × Removed h k n x y key result = removed h k n x key result d c.here.at in thing_loses b z i n h k t x y.0 key result (removed_of (holder_of (names_of b h) x) key) s c y.1.rewritten refl (y.1.row (names_of b h));
  object = λ a c x g. let y : (y : Cell) × Removed h k n x y key result = removed h k n x key result d g.here.at in object_loses b z i n h k a c x y.0 key result (removed_of (holder_of (names_of b h) x) key) s g y.1.rewritten refl (y.1.row (names_of b h));
  others = λ j x c e. let y : (y : Cell) × Removed h k n x y key result = removed h k n x key result d c.at in others_stay b z i j n h k x y.0 s y.1.rewritten c e;
}
