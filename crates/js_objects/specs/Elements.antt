-- Elements of an array and its length as properties (ECMAScript, 10.4.2).
use Rattle.std.specs.Prelude.{◌≡◌, ℕ, Bool, true, false, List, [], ◌∷◌, pos, Result, Ok, Err}
use Rattle.door.specs.declared.requests.ErrorKind.{ErrorKind}
use Rattle.door.specs.declared.requests.ErrorKind.TheVariants as kind
use Rattle.js_semantics.specs.Primitives.{PrimitiveValue, NumberPrim, Undefined}
use Rattle.js_semantics.specs.Machine as m
use Rattle.js_semantics.specs.Properties.{length_kept, length_written}
use Rattle.js_objects.specs.declared.values.Slot.{Slot}
use Rattle.js_objects.specs.declared.values.Slot.TheVariants.{Prim}
use Rattle.js_objects.specs.declared.values.Prop.{Prop}
use Rattle.js_objects.specs.declared.values.Prop.TheVariants.{Slot as SlotProp, Accessor as AccessorProp}

-- an element is writable and enumerable
abbrev pub element_prop : Slot → Prop
element_prop value = SlotProp value true true

-- the length is writable and not enumerable
abbrev pub length_prop : ℕ → Prop
length_prop n = SlotProp (Prim (NumberPrim (pos n))) true false

abbrev pub value_in : Prop → Slot
value_in (SlotProp value writable enumerable) = value
value_in (AccessorProp get set enumerable) = Prim Undefined

-- each is an element
abbrev pub AreElements : List Prop → Type 0
AreElements [] = Unit {0}
AreElements (prop ∷ props) = (prop ≡ element_prop (value_in prop)) × AreElements props

-- a length that isn't written but changed in another way is refused, after the number is looked at
abbrev pub length_by : Bool → Result m.Cell ErrorKind → Result m.Cell ErrorKind
length_by true written = written
length_by false written = length_kept written

-- a length by what value, of which only a number is one
abbrev pub length_from : Bool → m.Cell → List m.Value → m.Value → Result m.Cell ErrorKind
length_from written cell elements (m.Primitive (NumberPrim z)) = length_by written (length_written cell elements z)
length_from written cell elements value = Err kind.Kind

-- an element that would not be writable or not enumerable is refused, where its place may be written
abbrev pub element_by : Bool → Result m.Cell ErrorKind → Result m.Cell ErrorKind
element_by true written = written
element_by false written = Err kind.Kind
