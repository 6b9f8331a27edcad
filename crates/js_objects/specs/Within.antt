-- Which cells a cell of the heap names: each is one of the heap, and what a cell holds fits its form (own).
use Rattle.std.specs.Prelude.{◌≡◌, ◌≢◌, ◌<◌, ℕ, [], Option, Some, IfSome}
use Rattle.std.specs.List.{All}
use Rattle.js_objects.specs.declared.values.CellId.{CellId}
use Rattle.js_objects.specs.declared.values.Slot.{Slot}
use Rattle.js_objects.specs.declared.values.Slot.TheVariants.{Prim, Cell as Object}
use Rattle.js_objects.specs.declared.values.Prop.{Prop}
use Rattle.js_objects.specs.declared.values.Prop.TheVariants.{Slot as SlotProp, Accessor as AccessorProp}
use Rattle.js_objects.specs.declared.values.Form.{Form}
use Rattle.js_objects.specs.declared.values.Form.TheVariants as f
use Rattle.js_objects.specs.declared.slots.KeyedProp.{KeyedProp}
use Rattle.js_objects.specs.declared.bindings.Binding.{Binding}
use Rattle.js_objects.specs.declared.cell.Cell.{Cell}
use Rattle.js_objects.specs.Naming.{MayHavePlace}

-- in a heap of so many cells

abbrev pub IdWithin : ℕ → Option CellId → Type 0
IdWithin n o = IfSome o (λ c. c.0 < n)

abbrev pub SlotWithin : ℕ → Slot → Type 0
SlotWithin n (Prim prim) = Unit {0}
SlotWithin n (Object c) = c.0 < n

abbrev pub PropWithin : ℕ → Prop → Type 0
PropWithin n (SlotProp value writable enumerable) = SlotWithin n value
PropWithin n (AccessorProp get set enumerable) = IdWithin n get × IdWithin n set

abbrev pub FormWithin : ℕ → Form → Type 0
FormWithin n (f.Function code scope) = IdWithin n scope
FormWithin n (f.Link owner c look) = c.0 < n
FormWithin n (f.Forward owner c) = c.0 < n
FormWithin n form = Unit {0}

-- what holds of each cell: an array alone has elements, and proper cells and links alone have places
pub record CellSound (n : ℕ) (x : Cell) : Type 0 where
  pub form : FormWithin n x.form
  pub proto : IdWithin n x.proto
  pub outer : IdWithin n x.outer
  pub elements : All (SlotWithin n) x.elements
  pub slots : All (λ (keyed : KeyedProp). PropWithin n keyed.prop) x.slots
  pub bindings : All (λ (binding : Binding). SlotWithin n binding.value) x.bindings
  pub dense : x.form ≢ f.Array → x.elements ≡ []
  pub may_have_place : (p : ℕ) → x.place ≡ Some p → MayHavePlace x.form
