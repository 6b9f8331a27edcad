-- What the machine of one actor holds: proper cells by place, scopes, what it has met, and how many cells it may still make.
-- Each reference names something of this one actor (ECMAScript, 6.1.7 and 9.1; the places and the limit are this project's own).
use Rattle.door.specs.declared.limits.TheConstants.{CELL_LIMIT}
use Rattle.std.specs.Prelude.{ℕ, Bool, List, Option, Some, None, slice_get, slice_set, pos, ℤ}
use Rattle.door.specs.declared.values.Actor.{Actor}
use Rattle.door.specs.declared.values.Kind.{Kind}
use Rattle.door.specs.declared.values.Look.{Look}
use Rattle.door.specs.declared.values.Shape.{Shape}
use Rattle.door.specs.declared.zones.Zone.{Zone}
use Rattle.door.specs.declared.zones.Zone.TheVariants.{Page}
use Rattle.js_syntax.specs.declared.tree.Function.{Function}
use Rattle.js_semantics.specs.Primitives.{PrimitiveValue, Undefined, Null, BoolPrim, NumberPrim, StrPrim}
use Rattle.js_semantics.specs.Builtin.{Builtin}

-- what a reference names: an own proper cell by its place, the k-th thing that was met, or the k-th object of another that was met; and the
-- latter two as their owner has them (MDN, Xray vision, waiving)
pub data Reference : Type 0 where
  Own : (place : ℕ) → Reference
  Thing : (k : ℕ) → Reference
  Foreign : (k : ℕ) → Reference
  WaivedThing : (k : ℕ) → Reference
  WaivedForeign : (k : ℕ) → Reference

-- a value (ECMAScript, 6.1)
pub data Value : Type 0 where
  Primitive : PrimitiveValue → Value
  Refers : Reference → Value

abbrev pub undefined : Value
undefined = Primitive Undefined

abbrev pub null : Value
null = Primitive Null

abbrev pub boolean : Bool → Value
boolean b = Primitive (BoolPrim b)

abbrev pub number : ℤ → Value
number z = Primitive (NumberPrim z)

abbrev pub text : List ℕ → Value
text t = Primitive (StrPrim t)

-- a number that is a length or a place
abbrev pub count : ℕ → Value
count n = number (pos n)

-- a property with a value, or with a getter and a setter by their places (ECMAScript, 6.1.7.1; no property is fixed)
pub data Property : Type 0 where
  Datum : (value : Value) (writable enumerable : Bool) → Property
  Accessor : (get set : Option ℕ) (enumerable : Bool) → Property

-- a property under its key
pub record Slot : Type 0 where
  pub key : List ℕ
  pub property : Property

-- what a cell is: an array has its elements in order, a function its code and the scope around it (none at the top), a built-in function
-- its name, an error its name and message as it was made; a forward calls a function of another, by owner and place; a link stands for an
-- object of another where a function is named
pub data Form : Type 0 where
  Plain : Form
  Array : (elements : List Value) → Form
  Closure : (code : Function) (scope : Option ℕ) → Form
  Native : Builtin → Form
  Error : (name message : List ℕ) → Form
  Forward : (owner : Actor) (callee : ℕ) → Form
  Link : Reference → Form

-- a proper cell (ECMAScript, 10.1): its form, its prototype, and its properties in order of insertion
pub record Cell : Type 0 where
  pub form : Form
  pub prototype : Option Reference
  pub slots : List Slot

-- a name of a scope, and its value
pub record Binding : Type 0 where
  pub name : List ℕ
  pub value : Value

-- a scope (ECMAScript, 9.1.1.1), and the one around it
pub record Scope : Type 0 where
  pub outer : Option ℕ
  pub bindings : List Binding

-- a thing that was met, with the actor's own properties on it (MDN, Xray vision)
pub record MetThing : Type 0 where
  pub kind : Kind
  pub slots : List Slot

-- an object of another that was met: how the actor sees it, and the actor's own properties on it
pub record MetObject : Type 0 where
  pub owner : Actor
  pub shape : Shape
  pub look : Look
  pub slots : List Slot

-- Cells stand under their places; at a place that no cell has yet there is none. Room is how many proper cells, scopes, met things and met
-- objects may still be made.
pub record Machine : Type 0 where
  pub zone : Zone
  pub cells : List (Option Cell)
  pub scopes : List Scope
  pub things : List MetThing
  pub objects : List MetObject
  pub room : ℕ

-- the limit of cells of one actor
abbrev pub CELLS : ℕ
CELLS = CELL_LIMIT

-- a script's first cell has the place after this one, which is its global's
abbrev pub GLOBAL_PLACE : ℕ
GLOBAL_PLACE = 299

-- the window is the first thing that an actor meets
abbrev pub the_window : Reference
the_window = Thing 0

-- the window as the page itself has it (MDN, waiving)
abbrev pub the_page_window : Reference
the_page_window = WaivedThing 0

-- the page's global object is its window, and a userscript's is a cell of its own (Greasemonkey manual, sandbox)
abbrev pub global_in : Zone → Reference
global_in Page = the_window
global_in zone = Own GLOBAL_PLACE

abbrev pub global_of : Machine → Reference
global_of m = global_in m.zone

-- what stands at a place
abbrev pub here_or_none : Option (Option Cell) → Option Cell
here_or_none None = None
here_or_none (Some cell) = cell

abbrev pub cell_at : Machine → ℕ → Option Cell
cell_at m place = here_or_none (slice_get m.cells place)

abbrev pub with_cell : Machine → ℕ → Cell → Machine
with_cell m place cell = record m { cells = slice_set m.cells place (Some cell) }

abbrev pub thing_at : Machine → ℕ → Option MetThing
thing_at m k = slice_get m.things k

abbrev pub with_thing : Machine → ℕ → MetThing → Machine
with_thing m k thing = record m { things = slice_set m.things k thing }

abbrev pub object_at : Machine → ℕ → Option MetObject
object_at m k = slice_get m.objects k

abbrev pub with_object : Machine → ℕ → MetObject → Machine
with_object m k object = record m { objects = slice_set m.objects k object }

abbrev pub scope_at : Machine → ℕ → Option Scope
scope_at m s = slice_get m.scopes s

abbrev pub with_scope : Machine → ℕ → Scope → Machine
with_scope m s scope = record m { scopes = slice_set m.scopes s scope }
