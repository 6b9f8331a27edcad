-- What the constructors of events and the members of Event ask for (DOM, Interface Event, Interface CustomEvent). The options are read by
-- Get, in the order of the arguments (DOM, Constructing events; the order is this project's own).
use Rattle.std.specs.Prelude.{ℕ, List, [], ◌∷◌, Option, Some, None, codes}
use Rattle.door.specs.declared.values.Value.{Value as DoorValue}
use Rattle.door.specs.declared.values.Value.TheVariants as door
use Rattle.door.specs.declared.members.Member.{Member}
use Rattle.door.specs.declared.members.Member.TheVariants as member
use Rattle.dom_semantics.specs.Things.{the_window as window_thing}
use Rattle.js_semantics.specs.Primitives.{Undefined, Null}
use Rattle.js_semantics.specs.Machine.{Value, Primitive, undefined, null}
use Rattle.js_semantics.specs.DoorValues.{door_value}
use Rattle.js_semantics.specs.Evaluator.{Rest, With, Cont, Evaluator, bind}
use Rattle.js_semantics.specs.Members.{get_row}
use Rattle.js_semantics.specs.Operations.{to_boolean}
use Rattle.js_semantics.specs.Requests.{text_argument, argument, request_row}
use Rattle.js_semantics.specs.Arguments.{MemberRow, reads}

-- ---- constructors

-- of options that are undefined or null nothing is read
abbrev pub option_read : Evaluator → Value → List ℕ → With Value → Cont → Rest
option_read ev (Primitive Undefined) key k c m f = k undefined m f
option_read ev (Primitive Null) key k c m f = k undefined m f
option_read ev options key k c m f = get_row ev options key m f (bind k c)

abbrev pub flag_read : Evaluator → Value → List ℕ → With DoorValue → Cont → Rest
flag_read ev options key k c = option_read ev options key (λ value. k (door.Bool (to_boolean value))) c

-- a detail that is missing is null
abbrev pub detail_or_null : Value → Value
detail_or_null (Primitive Undefined) = null
detail_or_null value = value

abbrev pub detail_read : Evaluator → Value → With DoorValue → Cont → Rest
detail_read ev options k c = option_read ev options (codes "detail") (λ value m f. k (door_value m (detail_or_null value)) m f) c

-- kind, bubbles and cancelable, and then what goes on
abbrev pub event_read : Evaluator → List Value → (DoorValue → DoorValue → DoorValue → Rest) → Cont → Rest
event_read ev values k c =
    text_argument (argument values 0) (λ kind. flag_read ev (argument values 1) (codes "bubbles") (λ bubbles.
    flag_read ev (argument values 1) (codes "cancelable") (λ cancelable. k (door.Str kind) bubbles cancelable) c) c) c

-- Event(kind, options)
abbrev pub new_event_row : MemberRow
new_event_row ev this values m f c = event_read ev values (λ kind bubbles cancelable m f.
    request_row member.NewEvent window_thing (kind ∷ bubbles ∷ cancelable ∷ door.Null ∷ []) undefined m f c) c m f

-- CustomEvent(kind, options)
abbrev pub new_custom_event_row : MemberRow
new_custom_event_row ev this values m f c = event_read ev values (λ kind bubbles cancelable. detail_read ev (argument values 1) (λ detail m f.
    request_row member.NewCustomEvent window_thing (kind ∷ bubbles ∷ cancelable ∷ detail ∷ []) undefined m f c) c) c m f

-- ---- members

abbrev pub event_asks : Member → Option MemberRow
event_asks member.NewEvent = Some new_event_row
event_asks member.NewCustomEvent = Some new_custom_event_row
event_asks member.EventType = Some (reads member.EventType)
event_asks member.EventTarget = Some (reads member.EventTarget)
event_asks member.EventCurrentTarget = Some (reads member.EventCurrentTarget)
event_asks member.EventEventPhase = Some (reads member.EventEventPhase)
event_asks member.EventBubbles = Some (reads member.EventBubbles)
event_asks member.EventCancelable = Some (reads member.EventCancelable)
event_asks member.EventDefaultPrevented = Some (reads member.EventDefaultPrevented)
event_asks member.EventIsTrusted = Some (reads member.EventIsTrusted)
event_asks member.EventDetail = Some (reads member.EventDetail)
event_asks member.EventPreventDefault = Some (reads member.EventPreventDefault)
event_asks member.EventStopPropagation = Some (reads member.EventStopPropagation)
event_asks member.EventStopImmediatePropagation = Some (reads member.EventStopImmediatePropagation)
event_asks name = None
