-- What a cell mentions under two rules, and that two namings which agree on it make the same of it.
use Rattle.std.proofs.Common.{◌≡◌, ℕ, List, refl, ap, Option, Some, None}
use Rattle.door.specs.declared.values.Actor.{Actor}
use Rattle.js_semantics.specs.Builtin.{Builtin}
use Rattle.js_semantics.specs.Machine as m
use Rattle.js_semantics.specs.Machine.{Reference, Scope}
use Rattle.js_objects.specs.declared.values.CellId.{CellId}
use Rattle.js_objects.specs.declared.values.Slot.{Slot}
use Rattle.js_objects.specs.declared.values.Slot.TheVariants.{Prim, Cell as Object}
use Rattle.js_objects.specs.declared.values.Prop.{Prop}
use Rattle.js_objects.specs.declared.values.Prop.TheVariants.{Slot as SlotProp, Accessor as AccessorProp}
use Rattle.js_objects.specs.declared.values.Form.{Form}
use Rattle.js_objects.specs.declared.values.Form.TheVariants as f
use Rattle.js_objects.specs.declared.cell.Cell.{Cell}
use Rattle.js_objects.specs.Naming.{Names, value_of, values_of, reference_of, place_of, scope_of, property_of, slot_of, slots_of, binding_of, bindings_of, form_of, holder_of, scope_in}
use Rattle.actor_parts.specs.Seats.{Proper, role_of}
use Rattle.actor_parts.specs.Mentions.{Rule, IfCell, SlotMeets, PropMeets, FormMeets, Meets, Same, Implies}
use Rattle.actor_parts.proofs.Lists.{map_agree}

-- ---- a rule that follows from another

if_cell : (P Q : ℕ → Type 0) (o : Option CellId) → ((n : ℕ) → P n → Q n) → IfCell P o → IfCell Q o
if_cell P Q None h p = tt
if_cell P Q (Some c) h p = h c.0 p

slot_implies : (r q : Rule) (v : Slot) → Implies r q → SlotMeets r v → SlotMeets q v
slot_implies r q (Prim prim) h p = tt
slot_implies r q (Object c) h p = h.value c.0 p

prop_implies : (r q : Rule) (v : Prop) → Implies r q → PropMeets r v → PropMeets q v
prop_implies r q (SlotProp value writable enumerable) h p = slot_implies r q value h p
prop_implies r q (AccessorProp get set enumerable) h p = (if_cell r.function q.function get h.function p.0, if_cell r.function q.function set h.function p.1)

form_implies : (r q : Rule) (v : Form) → Implies r q → FormMeets r v → FormMeets q v
form_implies r q (f.Function code scope) h p = if_cell r.scope q.scope scope h.scope p
form_implies r q (f.Link owner c look) h p = h.target owner c.0 p
form_implies r q (f.Forward owner c) h p = h.callee owner c.0 p
form_implies r q f.Plain h p = tt
form_implies r q f.Array h p = tt
form_implies r q (f.Native n) h p = tt
form_implies r q (f.Error name message) h p = tt
form_implies r q (f.Thing thing) h p = tt
form_implies r q f.Scope h p = tt

pub meets_implies : (r q : Rule) (x : Cell) → Implies r q → Meets r x → Meets q x
meets_implies r q x h p = record {
  in_form = form_implies r q x.form h p.in_form;
  in_proto = if_cell r.value q.value x.proto h.value p.in_proto;
  in_outer = if_cell r.scope q.scope x.outer h.scope p.in_outer;
  in_elements = λ k v e. slot_implies r q v h (p.in_elements k v e);
  in_slots = λ k v e. prop_implies r q v.prop h (p.in_slots k v e);
  in_bindings = λ k v e. slot_implies r q v.value h (p.in_bindings k v e);
}

-- ---- two namings that agree

value_same : (a b : Names) (v : Slot) → SlotMeets (Same a b) v → value_of b v ≡ value_of a v
value_same a b (Prim prim) h = refl
value_same a b (Object c) h = ap (λ r. m.Refers r) h

reference_same : (a b : Names) (o : Option CellId) → IfCell (λ n. b.reference n ≡ a.reference n) o → reference_of b o ≡ reference_of a o
reference_same a b None h = refl
reference_same a b (Some c) h = ap (λ r. Some r) h

place_same : (a b : Names) (o : Option CellId) → IfCell (λ n. b.place n ≡ a.place n) o → place_of b o ≡ place_of a o
place_same a b None h = refl
place_same a b (Some c) h = ap (λ r. Some r) h

scope_same : (a b : Names) (o : Option CellId) → IfCell (λ n. b.scope n ≡ a.scope n) o → scope_of b o ≡ scope_of a o
scope_same a b None h = refl
scope_same a b (Some c) h = ap (λ r. Some r) h

property_same : (a b : Names) (v : Prop) → PropMeets (Same a b) v → property_of b v ≡ property_of a v
property_same a b (SlotProp value writable enumerable) h = ap (λ x. m.Datum x writable enumerable) (value_same a b value h)
property_same a b (AccessorProp get set enumerable) h =
    let g : place_of b get ≡ place_of a get = place_same a b get h.0 in
    let s : place_of b set ≡ place_of a set = place_same a b set h.1 in
    cc

pub slots_same : (a b : Names) (x : Cell) → Meets (Same a b) x → slots_of b x.slots ≡ slots_of a x.slots
slots_same a b x h = map_agree (slot_of b) (slot_of a) x.slots (λ k v e. ap (λ p. record { key = v.key; property = p }) (property_same a b v.prop (h.in_slots k v e)))

values_same : (a b : Names) (x : Cell) → Meets (Same a b) x → values_of b x.elements ≡ values_of a x.elements
values_same a b x h = map_agree (value_of b) (value_of a) x.elements (λ k v e. value_same a b v (h.in_elements k v e))

bindings_same : (a b : Names) (x : Cell) → Meets (Same a b) x → bindings_of b x.bindings ≡ bindings_of a x.bindings
bindings_same a b x h = map_agree (binding_of b) (binding_of a) x.bindings (λ k v e. ap (λ w. record { name = v.name; value = w }) (value_same a b v.value (h.in_bindings k v e)))

form_same : (a b : Names) (reader : Actor) (elements : List Slot) (form : Form) → role_of form ≡ Proper → b.builtin ≡ a.builtin → values_of b elements ≡ values_of a elements → FormMeets (Same a b) form → form_of b reader elements form ≡ form_of a reader elements form
form_same a b reader elements f.Plain d n e h = refl
form_same a b reader elements f.Array d n e h = ap (λ v. m.Array v) e
form_same a b reader elements (f.Function code scope) d n e h = ap (λ s. m.Closure code s) (scope_same a b scope h)
form_same a b reader elements (f.Native k) d n e h = ap (λ (g : ℕ → Builtin). m.Native (g k)) n
form_same a b reader elements (f.Error name message) d n e h = refl
form_same a b reader elements (f.Thing thing) d n e h = absurd (cc)
form_same a b reader elements (f.Link owner c look) d n e h = absurd (cc)
form_same a b reader elements (f.Forward owner c) d n e h = ap (λ p. m.Forward owner p) h
form_same a b reader elements f.Scope d n e h = absurd (cc)

pub holder_same : (a b : Names) (x : Cell) → role_of x.form ≡ Proper → b.builtin ≡ a.builtin → Meets (Same a b) x → holder_of b x ≡ holder_of a x
holder_same a b x d n h =
    let v : form_of b x.owner x.elements x.form ≡ form_of a x.owner x.elements x.form = form_same a b x.owner x.elements x.form d n (values_same a b x h) h.in_form in
    let p : reference_of b x.proto ≡ reference_of a x.proto = reference_same a b x.proto h.in_proto in
    let s : slots_of b x.slots ≡ slots_of a x.slots = slots_same a b x h in
    cc

pub scope_in_same : (a b : Names) (x : Cell) → Meets (Same a b) x → scope_in b x ≡ scope_in a x
scope_in_same a b x h =
    let o : scope_of b x.outer ≡ scope_of a x.outer = scope_same a b x.outer h.in_outer in
    let s : bindings_of b x.bindings ≡ bindings_of a x.bindings = bindings_same a b x h in
    cc
