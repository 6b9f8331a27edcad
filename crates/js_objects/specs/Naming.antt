-- What a cell is in a machine, under any naming: which of the machine's places, scopes, things and objects of others the cells of the heap
-- are (own; a property is ECMAScript, 6.1.7.1).
use Rattle.std.specs.Prelude.{ℕ, List, [], Option, None, option_map, map}
use Rattle.door.specs.declared.values.Actor.{Actor}
use Rattle.door.specs.declared.values.Look.{Look}
use Rattle.js_semantics.specs.Builtin.{Builtin}
use Rattle.js_semantics.specs.Machine as m
use Rattle.js_semantics.specs.Machine.{Reference, Value, Primitive, Refers, Property, Datum, undefined}
use Rattle.js_objects.specs.declared.values.CellId.{CellId}
use Rattle.js_objects.specs.declared.values.Slot.{Slot}
use Rattle.js_objects.specs.declared.values.Slot.TheVariants.{Prim, Cell as Object}
use Rattle.js_objects.specs.declared.values.Prop.{Prop}
use Rattle.js_objects.specs.declared.values.Prop.TheVariants.{Slot as SlotProp, Accessor as AccessorProp}
use Rattle.js_objects.specs.declared.values.Form.{Form}
use Rattle.js_objects.specs.declared.values.Form.TheVariants as f
use Rattle.js_objects.specs.declared.slots.KeyedProp.{KeyedProp}
use Rattle.js_objects.specs.declared.bindings.Binding.{Binding}
use Rattle.js_objects.specs.declared.cell.Cell.{Cell}

-- How machines name cells: a cell as a value of its owner refers to it, a proper cell by its place, a scope by its number, a built-in function
-- by its number among the intrinsics, and what a link names: by who reads, whose object it is, that cell, and how it is seen.
pub record Names : Type 0 where
  pub reference : ℕ → Reference
  pub place : ℕ → ℕ
  pub scope : ℕ → ℕ
  pub builtin : ℕ → Builtin
  pub link : (reader owner : Actor) → ℕ → Look → Reference

abbrev pub value_of : Names → Slot → Value
value_of names (Prim prim) = Primitive prim
value_of names (Object c) = Refers (names.reference c.0)

abbrev pub values_of : Names → List Slot → List Value
values_of names slots = map (value_of names) slots

abbrev pub reference_of : Names → Option CellId → Option Reference
reference_of names o = option_map (λ (c : CellId). names.reference c.0) o

abbrev pub place_of : Names → Option CellId → Option ℕ
place_of names o = option_map (λ (c : CellId). names.place c.0) o

abbrev pub scope_of : Names → Option CellId → Option ℕ
scope_of names o = option_map (λ (c : CellId). names.scope c.0) o

abbrev pub property_of : Names → Prop → Property
property_of names (SlotProp value writable enumerable) = Datum (value_of names value) writable enumerable
property_of names (AccessorProp get set enumerable) = m.Accessor (place_of names get) (place_of names set) enumerable

abbrev pub slot_of : Names → KeyedProp → m.Slot
slot_of names keyed = record { key = keyed.key; property = property_of names keyed.prop }

abbrev pub slots_of : Names → List KeyedProp → List m.Slot
slots_of names slots = map (slot_of names) slots

abbrev pub binding_of : Names → Binding → m.Binding
binding_of names binding = record { name = binding.name; value = value_of names binding.value }

abbrev pub bindings_of : Names → List Binding → List m.Binding
bindings_of names bindings = map (binding_of names) bindings

-- A thing and a scope have no form of a machine, since no machine has them as proper cells; a plain object stands for them, so that what they
-- have of their own is told in one way.
abbrev pub form_of : Names → Actor → List Slot → Form → m.Form
form_of names reader elements f.Plain = m.Plain
form_of names reader elements f.Array = m.Array (values_of names elements)
form_of names reader elements (f.Function code scope) = m.Closure code (scope_of names scope)
form_of names reader elements (f.Native n) = m.Native (names.builtin n)
form_of names reader elements (f.Error name message) = m.Error name message
form_of names reader elements (f.Thing thing) = m.Plain
form_of names reader elements (f.Link owner c look) = m.Link (names.link reader owner c.0 look)
form_of names reader elements (f.Forward owner c) = m.Forward owner (names.place c.0)
form_of names reader elements f.Scope = m.Plain

-- what a cell holds of its own, whatever it is: the properties of a thing and of a link are those that its owner gave it
abbrev pub holder_of : Names → Cell → m.Cell
holder_of names x = record {
  form = form_of names x.owner x.elements x.form;
  prototype = reference_of names x.proto;
  slots = slots_of names x.slots;
}

-- The cell of a number in its owner's machine, where a machine has it by place. A link only stands for an object of another: its properties and
-- its prototype belong to that object, which the machine has met.
abbrev pub cell_by : Form → Reference → m.Cell → m.Cell
cell_by (f.Link owner c look) met holder = record { form = m.Link met; prototype = None; slots = [] }
cell_by form met holder = holder

abbrev pub cell_of : Names → ℕ → Cell → m.Cell
cell_of names n x = cell_by x.form (names.reference n) (holder_of names x)

-- a machine has by place its proper cells and links, and neither things nor scopes
abbrev pub MayHavePlace : Form → Type 0
MayHavePlace (f.Thing thing) = ⊥
MayHavePlace f.Scope = ⊥
MayHavePlace form = Unit {0}

-- the scope
abbrev pub scope_in : Names → Cell → m.Scope
scope_in names x = record { outer = scope_of names x.outer; bindings = bindings_of names x.bindings }
