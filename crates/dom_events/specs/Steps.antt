-- What a step of a walk does to what the code keeps.
use Rattle.std.specs.Prelude.{◌≡◌, ◌≢◌, ◌+◌, ℕ, false, List, drop, Option, Some, None}
use Rattle.dom_semantics.specs.declared.events.Event.{Event}
use Rattle.dom_semantics.specs.declared.listeners.Due.{Due}
use Rattle.dom_semantics.specs.declared.listeners.Visit.{Visit}
use Rattle.dom_events.specs.declared.walk.Came.{Came}
use Rattle.dom_semantics.specs.Events.{event_at, event_ended, event_visiting, with_event}
use Rattle.dom_semantics.specs.Walks.{Found, Step}
use Rattle.dom_events.specs.Progress.{Progress, at_end}

-- what is found at a place of the numbers
abbrev pub found_at : List ℕ → ℕ × Due → Found
found_at numbers r = record { due = r.1; rest = drop (r.0 + 1) numbers }

-- the step to the first visit of these that has one
abbrev pub came_step : ℕ → List Visit → Came → Step
came_step event visits c =
    record { due = c.due; left = record { event = event; here = c.due.visit; copied = drop (c.at + 1) c.copied.items; ahead = drop (c.place + 1) visits } }

-- the step's listener is due and its walk is left; without a step nothing is due, and the walk is as it was
abbrev pub Steps : Option Step → Option Due → Progress → Progress → Type 0
Steps None due old new = (due ≡ None) × (new ≡ old)
Steps (Some step) due old new = (due ≡ Some step.due) × (new ≡ record old { left = step.left })

-- the same, and the event is at the visit of the step, or the walk and its dispatch have ended
abbrev pub Proceeds : Option Step → Option Due → Progress → Progress → List Event → List Event → Type 0
Proceeds None due old new before now =
    (due ≡ None) × (new ≡ at_end old) × (now ≡ with_event before old.left.event (event_ended (event_at before old.left.event)))
Proceeds (Some step) due old new before now =
    (due ≡ Some step.due) × (new ≡ record old { left = step.left }) × (now ≡ with_event before old.left.event (event_visiting step.due.visit (event_at before old.left.event)))

-- the event is in no dispatch, none of its listeners runs, and no flag stops its next walk (DOM, dispatch, steps 6 to 10)
pub record IsOver (event : Event) : Type 0 where
  pub in_dispatch : event.in_dispatch ≡ false
  pub stop : event.stop ≡ false
  pub stop_now : event.stop_now ≡ false
  pub current : event.current ≡ None
  pub phase : event.phase ≡ 0

-- nothing is due exactly where there is no step, and then the event's dispatch is over
abbrev pub Ends : Option Step → Option Due → Event → Type 0
Ends None due event = (due ≡ None) × IsOver event
Ends (Some step) due event = due ≢ None
