-- The machine's values as they pass the door: things and objects of others by the order of meeting, and own cells by place alone, under the
-- number of the host, which owns none; this project's own.
use Rattle.std.specs.Prelude.{ℕ, Bool, true, false, Option, Some, None}
use Rattle.std.specs.Option.{option_map_or}
use Rattle.door.specs.declared.values.Kind.{Kind}
use Rattle.door.specs.declared.values.Kind.TheVariants.{Window}
use Rattle.door.specs.declared.values.Shape.{Shape}
use Rattle.door.specs.declared.values.Shape.TheVariants as shape
use Rattle.door.specs.declared.values.Value.{Value as DoorValue}
use Rattle.door.specs.declared.values.Value.TheVariants as door
use Rattle.dom_semantics.specs.Forest.{the_host}
use Rattle.dom_semantics.specs.Things.{thing_of}
use Rattle.js_semantics.specs.Primitives.{PrimitiveValue, Undefined, Null, BoolPrim, NumberPrim, StrPrim}
use Rattle.js_semantics.specs.Machine.{Machine, Cell, Form, Plain, Array, Closure, Native, Error, Forward, Link, MetThing, MetObject, Reference, Own, Thing, Foreign, WaivedThing, WaivedForeign, Value, Primitive, Refers, cell_at, thing_at, object_at}

abbrev pub shape_of_form : Form → Shape
shape_of_form Plain = shape.Plain
shape_of_form (Array elements) = shape.Array
shape_of_form (Closure code scope) = shape.Function
shape_of_form (Native builtin) = shape.Function
shape_of_form (Error name message) = shape.Error
shape_of_form (Forward owner callee) = shape.Function
shape_of_form (Link r) = shape.Function

abbrev pub shape_at : Machine → ℕ → Shape
shape_at m place = option_map_or (λ (cell : Cell). shape_of_form cell.form) (cell_at m place) shape.Plain

abbrev pub kind_at : Machine → ℕ → Kind
kind_at m k = option_map_or (λ (thing : MetThing). thing.kind) (thing_at m k) Window

-- an object of another by the order of meeting
abbrev pub foreign_value : Bool → ℕ → Option MetObject → DoorValue
foreign_value waived k None = door.Undefined
foreign_value waived k (Some object) = door.Cell object.owner k object.shape waived

abbrev pub reference_value : Machine → Reference → DoorValue
reference_value m (Own place) = door.Cell the_host place (shape_at m place) false
reference_value m (Thing k) = door.Thing (thing_of (kind_at m k) k)
reference_value m (Foreign k) = foreign_value false k (object_at m k)
reference_value m (WaivedThing k) = door.WaivedThing (thing_of (kind_at m k) k)
reference_value m (WaivedForeign k) = foreign_value true k (object_at m k)

abbrev pub primitive_value : PrimitiveValue → DoorValue
primitive_value Undefined = door.Undefined
primitive_value Null = door.Null
primitive_value (BoolPrim b) = door.Bool b
primitive_value (NumberPrim z) = door.Number z
primitive_value (StrPrim t) = door.Str t

-- a value as it passes the door
abbrev pub door_value : Machine → Value → DoorValue
door_value m (Primitive prim) = primitive_value prim
door_value m (Refers r) = reference_value m r
