-- What the members of EventTarget ask for (DOM, Interface EventTarget). To dispatch an event is no request but an act: others are entered before it comes back.
use Rattle.std.specs.Prelude.{[], ◌∷◌, Option, Some, None}
use Rattle.door.specs.declared.values.Thing.{Thing as DoorThing}
use Rattle.door.specs.declared.members.Member.{Member}
use Rattle.door.specs.declared.members.Member.TheVariants as member
use Rattle.dom_semantics.specs.Fits.{OfTarget}
use Rattle.js_semantics.specs.Machine.{undefined}
use Rattle.js_semantics.specs.Solo.{Emits, Dispatches}
use Rattle.js_semantics.specs.Evaluator.{Meaning, Evaluator, charge}
use Rattle.js_semantics.specs.Requests.{argument, answered_row, receiver_row}
use Rattle.js_semantics.specs.Arguments.{MemberRow, AsText, AsCapture, AsCallbackOrNone, asks, event_argument}

-- The event is dispatched, which costs a unit as a request does, and so many levels are left for what is entered meanwhile. What comes back is
-- a boolean, or the refusal.
abbrev pub dispatches : Evaluator → DoorThing → DoorThing → Meaning
dispatches ev target event m f c =
    charge 1 (λ m f. Emits (Dispatches event.number target) ev.levels m (λ m a. answered_row member.EventTargetDispatchEvent undefined a m f c)) c m f

-- dispatchEvent(e)
abbrev pub dispatch_row : MemberRow
dispatch_row ev this values m f c =
    receiver_row OfTarget this (λ target. event_argument (argument values 0) (λ event m f. dispatches ev target event m f c) c) c m f

abbrev pub target_asks : Member → Option MemberRow
target_asks member.EventTargetAddEventListener = Some (asks member.EventTargetAddEventListener (AsText ∷ AsCallbackOrNone ∷ AsCapture ∷ []))
target_asks member.EventTargetRemoveEventListener = Some (asks member.EventTargetRemoveEventListener (AsText ∷ AsCallbackOrNone ∷ AsCapture ∷ []))
target_asks member.EventTargetDispatchEvent = Some dispatch_row
target_asks name = None
