-- The walk of an event (DOM, 2.9 Dispatching events): the visits of its path in order, the listeners that are copied at the begin of each
-- visit, and which listener is due.
use Rattle.std.specs.Prelude.{◌&&◌, ℕ, Bool, true, false, List, [], ◌∷◌, ◌++◌, map, reverse, filter, nat_eq, option_map, if◌then◌else◌, Option, Some, None}
use Rattle.std.specs.Bool.{beq}
use Rattle.std.specs.List.{find}
use Rattle.std.specs.Str.{bytes_eq}
use Rattle.door.specs.declared.values.Thing.{Thing}
use Rattle.dom_semantics.specs.Forest.{Forest, ancestors_of, root_of}
use Rattle.dom_semantics.specs.declared.events.Event.{Event}
use Rattle.dom_semantics.specs.declared.listeners.Listener.{Listener}
use Rattle.dom_semantics.specs.declared.listeners.Registration.{Registration}
use Rattle.dom_semantics.specs.declared.listeners.Visit.{Visit}
use Rattle.dom_semantics.specs.declared.listeners.Due.{Due}
use Rattle.dom_semantics.specs.Things.{the_window, is_thing, is_node_kind, node_thing}

-- ---- the visits

-- the window is above the document, and above nothing else (HTML, get the parent of a document; this project's own for `load`)
abbrev pub window_above : Forest → ℕ → List Thing
window_above f n = if nat_eq (root_of f n) 0 then the_window ∷ [] else []

-- what is above a target, upwards: ancestors, and then the window where the target is in the document (DOM, dispatch, event path)
abbrev pub above : Forest → Thing → List Thing
above f target =
    if is_node_kind target.kind then map (λ n. node_thing f n) (ancestors_of f target.number) ++ window_above f target.number else []

-- a visit by its parts
abbrev pub visit_of : ℕ → Bool → Thing → Visit
visit_of phase capture current = record { current = current; phase = phase; capture = capture }

-- from the last item of the path down to the target, the capturing listeners; then the target again and, if the event bubbles, the others
-- upwards, the listeners that aren't capturing (DOM, dispatch, steps 5.13 and 5.14)
abbrev pub visits_along : List Thing → Thing → Bool → List Visit
visits_along path target bubbles =
    map (visit_of 1 true) (reverse path)
    ++ (visit_of 2 true target ∷ (visit_of 2 false target ∷ (if bubbles then map (visit_of 3 false) path else [])))

-- the visits of an event that is dispatched at a target
abbrev pub visits_of : Forest → Thing → Bool → List Visit
visits_of f target bubbles = visits_along (above f target) target bubbles

-- ---- the walk

-- what is left of a walk: the event, its present visit, the numbers of the registrations copied there that haven't had their turn, and the
-- visits ahead (this project's own in form)
pub record Walk : Type 0 where
  pub event : ℕ
  pub here : Visit
  pub copied : List ℕ
  pub ahead : List Visit

-- a walk before its first visit
abbrev pub walk_begun : Forest → ℕ → Thing → Bool → Walk
walk_begun f event target bubbles = record { event = event; here = visit_of 0 false target; copied = []; ahead = visits_of f target bubbles }

-- a listener of this visit for events of this type (DOM, inner invoke, steps 2.1 and 2.3 to 2.4)
abbrev pub is_for : List ℕ → Visit → Listener → Bool
is_for kind visit l = is_thing l.target visit.current && bytes_eq l.kind kind && beq l.capture visit.capture

-- the numbers of the registrations that are copied at a visit (DOM, inner invoke, on a clone of the list)
abbrev pub copied_at : List Registration → List ℕ → Visit → List ℕ
copied_at registered kind visit = map (λ (a : Registration). a.number) (filter (λ (a : Registration). is_for kind visit a.listener) registered)

-- whether a registration has a number
abbrev pub is_number : ℕ → Registration → Bool
is_number number a = nat_eq a.number number

-- the registration of a number, where it hasn't been removed (DOM, inner invoke, step 2: its removed is false)
abbrev pub registered_as : List Registration → ℕ → Option Registration
registered_as registered number = find (is_number number) registered

-- what is called: the registered callback of its owner, at this visit
abbrev pub due_at : Visit → Registration → Due
due_at visit a = record { owner = a.listener.owner; callback = a.listener.callback; visit = visit }

-- the listener that is due at a visit, and the numbers after its own
pub record Found : Type 0 where
  pub due : Due
  pub rest : List ℕ

-- found at this number, or else what comes later
abbrev pub or_found : Option Registration → Visit → List ℕ → Option Found → Option Found
or_found (Some a) here ns later = Some (record { due = due_at here a; rest = ns })
or_found None here ns later = later

-- the first of these registrations that hasn't been removed
abbrev pub found_among : List Registration → Visit → List ℕ → Option Found
found_among registered here [] = None
found_among registered here (n ∷ ns) = or_found (registered_as registered n) here ns (found_among registered here ns)

-- the listener that is due, and the walk that is left when it is called
pub record Step : Type 0 where
  pub due : Due
  pub left : Walk

-- the step to what was found at a visit
abbrev pub step_at : ℕ → Visit → List Visit → Found → Step
step_at event here ahead found = record { due = found.due; left = record { event = event; here = here; copied = found.rest; ahead = ahead } }

-- the step at a visit among the numbers copied there
abbrev pub step_among : List Registration → ℕ → Visit → List Visit → List ℕ → Option Step
step_among registered event here ahead ns = option_map (step_at event here ahead) (found_among registered here ns)

-- a step at a visit, or else what comes at the next ones; none where the flag Stop was raised
abbrev pub or_step : Option Step → Bool → Option Step → Option Step
or_step (Some step) stop later = Some step
or_step None true later = None
or_step None false later = later

-- a step at the first of these visits that has one, where its listeners are copied
abbrev pub step_along : List Registration → List ℕ → ℕ → List Visit → Option Step
step_along registered kind event [] = None
step_along registered kind event (visit ∷ visits) =
    or_step (step_among registered event visit visits (copied_at registered kind visit)) false (step_along registered kind event visits)

-- what is due of a walk; none where StopNow was raised or the walk is at its end (DOM, invoke and inner invoke)
abbrev pub step_of : List Registration → Event → Walk → Option Step
step_of registered event walk =
    if event.stop_now then None
    else or_step (step_among registered walk.event walk.here walk.ahead walk.copied) event.stop (step_along registered event.form.kind walk.event walk.ahead)
