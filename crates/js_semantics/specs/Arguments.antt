-- How the arguments of a member are read, from left to right, before it is asked for (Web IDL, JavaScript type mapping, as far as it is built
-- here). A text is that of a primitive, and nothing else is converted (this project's own).
use Rattle.std.specs.Prelude.{Bool, List, [], ◌∷◌, drop, codes}
use Rattle.door.specs.declared.values.Kind.{Kind as ThingKind}
use Rattle.door.specs.declared.values.Kind.TheVariants.{Event}
use Rattle.door.specs.declared.values.Thing.{Thing as DoorThing}
use Rattle.door.specs.declared.values.Value.{Value as DoorValue}
use Rattle.door.specs.declared.values.Value.TheVariants as door
use Rattle.door.specs.declared.members.Member.{Member}
use Rattle.dom_semantics.specs.Fits.{signature}
use Rattle.dom_semantics.specs.Things.{thing_of, is_kind, is_node_kind, the_window as window_thing}
use Rattle.js_semantics.specs.Primitives.{Undefined, Null, BoolPrim, NumberPrim, StrPrim}
use Rattle.js_semantics.specs.Machine.{Own, Thing, WaivedThing, Value, Primitive, Refers, undefined, cell_at}
use Rattle.js_semantics.specs.DoorValues.{kind_at, door_value}
use Rattle.js_semantics.specs.Faults.{wrong_kind}
use Rattle.js_semantics.specs.Evaluator.{Rest, With, Cont, Meaning, Evaluator, bind, choose, fails_by}
use Rattle.js_semantics.specs.Members.{get_row}
use Rattle.js_semantics.specs.Meetings.{misfit}
use Rattle.js_semantics.specs.Operations.{to_boolean, is_function, cell_is_function}
use Rattle.js_semantics.specs.Requests.{text_argument, argument, receiver_row, request_row}

-- ---- kinds of arguments

-- what an argument is read as: a text (null may be the empty one), a truth, that of `capture`, a node (null and undefined may be none), an own
-- function (null and undefined may be none), a delay, the number of a timer, or what a script can keep
pub data Reading : Type 0 where
  AsText : Reading
  AsTextOrEmpty : Reading
  AsTruth : Reading
  AsCapture : Reading
  AsNode : Reading
  AsNodeOrNone : Reading
  AsCallback : Reading
  AsCallbackOrNone : Reading
  AsDelay : Reading
  AsTimer : Reading
  AsStorable : Reading

-- goes on with a thing of such a kind; a waived thing counts as its thing
abbrev pub thing_argument : (ThingKind → Bool) → Value → With DoorThing → Cont → Rest
thing_argument is_taken (Refers (Thing j)) k c m f = choose (is_taken (kind_at m j)) (k (thing_of (kind_at m j) j)) (fails_by wrong_kind c) m f
thing_argument is_taken (Refers (WaivedThing j)) k c m f = choose (is_taken (kind_at m j)) (k (thing_of (kind_at m j) j)) (fails_by wrong_kind c) m f
thing_argument is_taken value k c m f = fails_by wrong_kind c m f

abbrev pub node_argument : Value → With DoorValue → Cont → Rest
node_argument value k c = thing_argument is_node_kind value (λ thing. k (door.Thing thing)) c

abbrev pub event_argument : Value → With DoorThing → Cont → Rest
event_argument value k c = thing_argument (is_kind Event) value k c

-- an own function, by its place; one of another gets a place where scripts can reach out
abbrev pub callback_argument : Value → With DoorValue → Cont → Rest
callback_argument (Refers (Own place)) k c m f =
    choose (cell_is_function (cell_at m place)) (k (door_value m (Refers (Own place)))) (fails_by wrong_kind c) m f
callback_argument value k c m f = choose (is_function m value) misfit (fails_by wrong_kind c) m f

-- the truth of what is to be captured; of a reference that of its `capture` (DOM, flatten options)
abbrev pub capture_argument : Evaluator → Value → With DoorValue → Cont → Rest
capture_argument ev (Primitive prim) k c m f = k (door.Bool (to_boolean (Primitive prim))) m f
capture_argument ev (Refers r) k c m f = get_row ev (Refers r) (codes "capture") m f (bind (λ value. k (door.Bool (to_boolean value))) c)

-- a delay that is undefined or null is none
abbrev pub delay_argument : Value → With DoorValue → Cont → Rest
delay_argument (Primitive (NumberPrim z)) k c = k (door.Number z)
delay_argument (Primitive Undefined) k c = k door.Undefined
delay_argument (Primitive Null) k c = k door.Undefined
delay_argument value k c = fails_by wrong_kind c

-- what is no number is no timer's
abbrev pub timer_argument : Value → With DoorValue → Cont → Rest
timer_argument (Primitive (NumberPrim z)) k c = k (door.Number z)
timer_argument value k c = k door.Undefined

-- texts, booleans and numbers can be kept (Greasemonkey manual, GM_setValue)
abbrev pub storable_argument : Value → With DoorValue → Cont → Rest
storable_argument (Primitive (StrPrim t)) k c = k (door.Str t)
storable_argument (Primitive (BoolPrim b)) k c = k (door.Bool b)
storable_argument (Primitive (NumberPrim z)) k c = k (door.Number z)
storable_argument value k c = fails_by wrong_kind c

-- null and undefined are handed on as they are
abbrev pub or_none : (Value → With DoorValue → Cont → Rest) → Value → With DoorValue → Cont → Rest
or_none row (Primitive Undefined) k c = k door.Undefined
or_none row (Primitive Null) k c = k door.Null
or_none row value k c = row value k c

abbrev pub text_or_empty : Value → With DoorValue → Cont → Rest
text_or_empty (Primitive Null) k c = k (door.Str [])
text_or_empty value k c = text_argument value (λ t. k (door.Str t)) c

-- ---- the table of readings

abbrev pub argument_row : Evaluator → Reading → Value → With DoorValue → Cont → Rest
argument_row ev AsText value k c = text_argument value (λ t. k (door.Str t)) c
argument_row ev AsTextOrEmpty value k c = text_or_empty value k c
argument_row ev AsTruth value k c = k (door.Bool (to_boolean value))
argument_row ev AsCapture value k c = capture_argument ev value k c
argument_row ev AsNode value k c = node_argument value k c
argument_row ev AsNodeOrNone value k c = or_none node_argument value k c
argument_row ev AsCallback value k c = callback_argument value k c
argument_row ev AsCallbackOrNone value k c = or_none callback_argument value k c
argument_row ev AsDelay value k c = delay_argument value k c
argument_row ev AsTimer value k c = timer_argument value k c
argument_row ev AsStorable value k c = storable_argument value k c

-- arguments in order: a missing one is undefined, and surplus ones aren't read
abbrev pub arguments_row : Evaluator → List Reading → List Value → With (List DoorValue) → Cont → Rest
arguments_row ev [] values k c = k []
arguments_row ev (reading ∷ readings) values k c =
    argument_row ev reading (argument values 0) (λ x. arguments_row ev readings (drop 1 values) (λ xs. k (x ∷ xs)) c) c

-- ---- rows of members

-- a member's row: `this`, and the arguments
abbrev pub MemberRow : Type 0
MemberRow = Evaluator → Value → List Value → Meaning

-- `this` is looked at, then the arguments are read, and then the member is asked for
abbrev pub asks : Member → List Reading → MemberRow
asks name readings ev this values m f c =
    receiver_row (signature name).receiver this (λ thing. arguments_row ev readings values (λ xs m f. request_row name thing xs undefined m f c) c) c m f

-- a getter, or a function without arguments
abbrev pub reads : Member → MemberRow
reads name = asks name []

-- a function that is asked of the window, whatever `this` is; where there is no value, this is given
abbrev pub asks_window : Member → List Reading → Value → MemberRow
asks_window name readings missing ev this values m f c =
    arguments_row ev readings values (λ xs m f. request_row name window_thing xs missing m f c) c m f
