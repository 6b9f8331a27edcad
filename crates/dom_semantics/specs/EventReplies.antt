-- The constructors of events and the members of Event (DOM, 2.2 Interface Event, 2.4 Interface CustomEvent).
use Rattle.std.specs.Prelude.{ℕ, Bool, true, false, List, [], ◌∷◌, ◌++◌, length, nat_eq, Option, Some, None}
use Rattle.door.specs.declared.values.Actor.{Actor}
use Rattle.door.specs.declared.values.Kind.TheVariants.{Event as EventKind}
use Rattle.door.specs.declared.values.Value.{Value}
use Rattle.door.specs.declared.values.Value.TheVariants.{Thing as ThingValue, WaivedThing, Cell, Str, Bool as BoolValue}
use Rattle.door.specs.declared.members.Member.{Member}
use Rattle.door.specs.declared.members.Member.TheVariants as m
use Rattle.dom_semantics.specs.declared.events.Event.{Event}
use Rattle.dom_semantics.specs.declared.events.EventForm.{EventForm}
use Rattle.dom_semantics.specs.Things.{thing_of, thing_or_null}
use Rattle.dom_semantics.specs.Events.{new_event, event_at, with_event, event_prevented}
use Rattle.dom_semantics.specs.Stage.{Stage, with_events}
use Rattle.dom_semantics.specs.Reply.{Reply, Row, gives, gives_text, gives_flag, gives_number, does}

-- ---- events are made

-- the host's events are trusted
abbrev pub form_of : Actor → List ℕ → Bool → Bool → Value → EventForm
form_of i kind bubbles cancelable detail = record { kind = kind; bubbles = bubbles; cancelable = cancelable; trusted = nat_eq i.0 0; detail = detail }

abbrev pub event_made : Stage → EventForm → Stage
event_made s form = with_events s (s.events ++ new_event form ∷ [])

-- Event, CustomEvent
abbrev pub new_event_row : Row
new_event_row given s i thing (Str kind ∷ (BoolValue bubbles ∷ (BoolValue cancelable ∷ (detail ∷ [])))) =
    gives (ThingValue (thing_of EventKind (length s.events))) (event_made s (form_of i kind bubbles cancelable detail))
new_event_row given s i thing arguments = None

-- ---- and read

-- what is read of the event
abbrev pub read_row : (Event → Stage → Option Reply) → Row
read_row read given s i thing arguments = read (event_at s.events thing.number) s

-- as it crosses to a reader, a value is waived no longer
abbrev pub crossed : Value → Value
crossed (WaivedThing thing) = ThingValue thing
crossed (Cell owner place shape waived) = Cell owner place shape false
crossed v = v

-- ---- and changed

abbrev pub change_row : (Event → Event) → Row
change_row change given s i thing arguments = does (with_events s (with_event s.events thing.number (change (event_at s.events thing.number))))

-- the rows of this interface
abbrev pub event_rows : Member → Option Row
event_rows m.NewEvent = Some new_event_row
event_rows m.NewCustomEvent = Some new_event_row
event_rows m.EventType = Some (read_row (λ e. gives_text e.form.kind))
event_rows m.EventTarget = Some (read_row (λ e. gives (thing_or_null e.target)))
event_rows m.EventCurrentTarget = Some (read_row (λ e. gives (thing_or_null e.current)))
event_rows m.EventEventPhase = Some (read_row (λ e. gives_number e.phase))
event_rows m.EventBubbles = Some (read_row (λ e. gives_flag e.form.bubbles))
event_rows m.EventCancelable = Some (read_row (λ e. gives_flag e.form.cancelable))
event_rows m.EventDefaultPrevented = Some (read_row (λ e. gives_flag e.prevented))
event_rows m.EventIsTrusted = Some (read_row (λ e. gives_flag e.form.trusted))
event_rows m.EventDetail = Some (read_row (λ e. gives (crossed e.form.detail)))
event_rows m.EventPreventDefault = Some (change_row event_prevented)
event_rows m.EventStopPropagation = Some (change_row (λ e. record e { stop = true }))
event_rows m.EventStopImmediatePropagation = Some (change_row (λ e. record e { stop_now = true }))
event_rows member = None
