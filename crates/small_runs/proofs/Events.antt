-- The events that the host sends in a small run: nobody listens, and the dispatch comes back.
use Rattle.std.proofs.Common.{◌≡◌, ◌∙◌, ap, refl, ℕ, ◌+◌, Bool, true, false, List, [], ◌∷◌, ◌++◌, arith, length, length-append, length-set, nat_lt, if◌then◌else◌, None}
use Rattle.std.proofs.lemmas.Bool.Decides.{nat_tests}
use Rattle.door.specs.declared.values.Kind.TheVariants.{Event as EventKind}
use Rattle.door.specs.declared.values.Thing.{Thing}
use Rattle.door.specs.declared.values.Value.TheVariants.{Thing as ThingValue, Str, Bool as BoolValue, Null}
use Rattle.door.specs.declared.members.Member.TheVariants.{EventTargetDispatchEvent, NewEvent}
use Rattle.door.specs.declared.requests.Request.{Request}
use Rattle.door.specs.declared.requests.Request.TheVariants.{Native}
use Rattle.dom_semantics.specs.declared.events.Event.{Event}
use Rattle.dom_semantics.specs.declared.events.EventForm.{EventForm}
use Rattle.dom_semantics.specs.declared.listeners.Visit.{Visit}
use Rattle.dom_semantics.specs.Bounds.{is_short}
use Rattle.dom_semantics.specs.EventReplies.{event_made, form_of}
use Rattle.dom_semantics.specs.Events.{Events, event_at, event_begun, new_event, with_event}
use Rattle.dom_semantics.specs.Fits.{is_request}
use Rattle.dom_semantics.specs.Forest.{the_host}
use Rattle.dom_semantics.specs.Stage.{Origin, Stage, has_node, has_thing}
use Rattle.dom_semantics.specs.StageOf.{dispatched}
use Rattle.dom_semantics.specs.Things.{the_document, the_window, thing_of}
use Rattle.dom_semantics.specs.Truth.{reply_to}
use Rattle.dom_semantics.specs.Walks.{Step, Walk, step_along, step_of}
use Rattle.solo_model.specs.Genuine.{MayDispatch}
use Rattle.small_runs.proofs.Writes.{Comes, comes_by, row_replies}

-- ---- a walk where nobody listens

none_along : (kind : List ℕ) (event : ℕ) (visits : List Visit) → step_along [] kind event visits ≡ None
none_along kind event [] = refl
none_along kind event (visit ∷ visits) = none_along kind event visits

pub none_due : (event : Event) (walk : Walk) → walk.copied ≡ [] → step_of [] event walk ≡ None
none_due event walk e = rw (e, none_along event.form.kind walk.event walk.ahead) (by event.stop_now event.stop)
  where
    by : (a b : Bool) → (if a then None else (Rattle.dom_semantics.specs.Walks.or_step None b None)) ≡ None
    by true b = refl
    by false true = refl
    by false false = refl

-- ---- the event

abbrev pub event_request : List ℕ → Bool → Request
event_request kind bubbles = Native NewEvent the_window (Str kind ∷ (BoolValue bubbles ∷ (BoolValue false ∷ (Null ∷ []))))

abbrev pub host_form : List ℕ → Bool → EventForm
host_form kind bubbles = form_of the_host kind bubbles false Null

pub makes_event : (origin : Origin) (s : Stage) (kind : List ℕ) (bubbles : Bool) → is_short kind ≡ true
    → Comes (reply_to origin s the_host (event_request kind bubbles)) (event_made s (host_form kind bubbles))
makes_event origin s kind bubbles short =
    comes_by _ _ _ (row_replies origin s the_host NewEvent the_window (Str kind ∷ (BoolValue bubbles ∷ (BoolValue false ∷ (Null ∷ [])))) (rw short refl) refl refl) refl

last_at : (events : Events) (event : Event) → event_at (events ++ event ∷ []) (length events) ≡ event
last_at [] event = refl
last_at (e ∷ events) event = last_at events event

set_last : (events : Events) (event other : Event) → event_at (with_event (events ++ event ∷ []) (length events) other) (length events) ≡ other
set_last [] event other = refl
set_last (e ∷ events) event other = set_last events event other

-- the stage with it, and then dispatched
abbrev pub sent : Stage → List ℕ → Bool → Thing → Stage
sent s kind bubbles target = dispatched (event_made s (host_form kind bubbles)) the_host (length s.events) target

at_last : (s : Stage) (kind : List ℕ) (bubbles : Bool) (target : Thing)
    → event_at (sent s kind bubbles target).events (length s.events) ≡ event_begun target false (new_event (host_form kind bubbles))
at_last s kind bubbles target =
    set_last s.events (new_event (host_form kind bubbles)) _ ∙ ap (event_begun target false) (last_at s.events (new_event (host_form kind bubbles)))

-- it is not prevented
pub free_in : (s : Stage) (kind : List ℕ) (bubbles : Bool) (target : Thing) → (event_at (sent s kind bubbles target).events (length s.events)).prevented ≡ false
free_in s kind bubbles target = ap (λ (e : Event). e.prevented) (at_last s kind bubbles target)

-- as many events after the dispatch as before, and one more than before the event
pub one_event : (s : Stage) (kind : List ℕ) (bubbles : Bool) (target : Thing) → length (sent s kind bubbles target).events ≡ length s.events + 1
one_event s kind bubbles target =
    length-set (s.events ++ new_event (host_form kind bubbles) ∷ []) (length s.events) _ ∙ length-append s.events (new_event (host_form kind bubbles) ∷ [])

-- what an event may be sent to: it is there
pub record IsTarget (target : Thing) : Type 0 where
  pub fits : (n : ℕ) → is_request the_host EventTargetDispatchEvent target (ThingValue (thing_of EventKind n) ∷ []) ≡ true
  pub there : (s : Stage) → has_node s.nodes the_document ≡ true → has_thing s target ≡ true

pub window_target : IsTarget the_window
window_target = record { fits = λ n. refl; there = λ s h. refl }

pub document_target : IsTarget the_document
document_target = record { fits = λ n. refl; there = λ s h. h }

below_more : (n m : ℕ) → m ≡ n + 1 → nat_lt n m ≡ true
below_more n m e = grind (arith, nat_tests)

-- the host may dispatch it
pub may_send : (s : Stage) (kind : List ℕ) (bubbles : Bool) (target : Thing) → has_node s.nodes the_document ≡ true → IsTarget target
    → MayDispatch (event_made s (host_form kind bubbles)) the_host (length s.events) target
may_send s kind bubbles target root is =
    let made : Stage = event_made s (host_form kind bubbles) in
    let known : nat_lt (length s.events) (length made.events) ≡ true = below_more (length s.events) (length made.events) (length-append s.events (new_event (host_form kind bubbles) ∷ [])) in
    record {
      fits = is.fits (length s.events);
      there = rw (is.there made root, known) refl;
      free = rw (last_at s.events (new_event (host_form kind bubbles))) refl;
    }
