-- What the host does in a turn (HTML, Parsing, The end, 8.1.4 Calling scripts; UI Events, click and input; the order is this project's own).
use Rattle.std.specs.Prelude.{◌+◌, ℕ, Bool, true, false, List, [], ◌∷◌, ◌++◌, map, codes, length, nat_eq, slice_get, slice_index_or, if◌then◌else◌, option_and_then, Option, Some, None}
use Rattle.std.specs.List.{find}
use Rattle.std.specs.Option.{option_map_or}
use Rattle.door.specs.declared.values.TheConstants.{PAGE}
use Rattle.door.specs.declared.values.Actor.{Actor}
use Rattle.door.specs.declared.values.Thing.{Thing}
use Rattle.door.specs.declared.values.Value.{Value}
use Rattle.door.specs.declared.values.Value.TheVariants.{Thing as ThingValue, Str, Bool as BoolValue, Null}
use Rattle.door.specs.declared.members.Member.TheVariants.{NewEvent, ElementSetAttribute}
use Rattle.door.specs.declared.requests.Request.{Request}
use Rattle.door.specs.declared.requests.Request.TheVariants.{Native}
use Rattle.door.specs.declared.marks.Task.{Task}
use Rattle.door.specs.declared.marks.Task.TheVariants.{Start, Piece as PieceTask, Ready, Load, Line as LineTask, Timer as TimerTask}
use Rattle.door.specs.declared.marks.Entry.{Entry}
use Rattle.door.specs.declared.marks.Entry.TheVariants.{Script, Timer as TimerEntry}
use Rattle.door.specs.declared.marks.Mark.{Mark}
use Rattle.door.specs.declared.marks.Mark.TheVariants.{Build, Enter, Dispatch}
use Rattle.dom_semantics.specs.declared.selectors.Compound.{Compound}
use Rattle.dom_semantics.specs.declared.timers.Timer.{Timer}
use Rattle.dom_semantics.specs.Forest.{Forest, the_host}
use Rattle.dom_semantics.specs.Things.{the_window, the_document, is_node_kind, is_actor, node_thing}
use Rattle.dom_semantics.specs.Timers.{timer_of}
use Rattle.dom_semantics.specs.Queries.{selected}
use Rattle.dom_semantics.specs.Stage.{Stage}
use Rattle.solo_model.specs.Given.{Piece, Starter, Userscript, Line, Click, Input, Event, Tick, Given, line_number}
use Rattle.solo_model.specs.Things.{userscript}

-- one thing that the host does: a request; a request of a piece, where nodes go by their numbers among the page's own; an entry; a dispatch
pub data Step : Type 0 where
  Builds : Request → Step
  Places : Request → Step
  Enters : Actor → Entry → Step
  Sends : (event : ℕ) → (target : Thing) → Step

-- ---- pieces

-- the numbers of the nodes that the host has made, in order, where the first of these nodes has the number n
abbrev pub numbers_from : ℕ → Forest → List ℕ
numbers_from n [] = []
numbers_from n (node ∷ nodes) =
    if is_actor node.maker the_host then n ∷ numbers_from (n + 1) nodes else numbers_from (n + 1) nodes

-- a node of the page under its number among all; one that isn't made yet gets the next number
abbrev pub placed : Forest → Thing → Thing
placed f thing = if is_node_kind thing.kind then record thing { number = slice_index_or (numbers_from 0 f) thing.number (length f) } else thing

abbrev pub placed_value : Forest → Value → Value
placed_value f (ThingValue thing) = ThingValue (placed f thing)
placed_value f value = value

abbrev pub placed_request : Forest → Request → Request
placed_request f (Native member thing arguments) = Native member (placed f thing) (map (placed_value f) arguments)
placed_request f request = request

abbrev pub script_steps : Option (List ℕ) → List Step
script_steps None = []
script_steps (Some text) = Enters PAGE (Script text) ∷ []

abbrev pub piece_steps : Option Piece → List Step
piece_steps None = []
piece_steps (Some piece) = map Places piece.writes ++ script_steps piece.script

-- ---- events

-- the host makes an event, whose detail is null, and dispatches it; before that there are so many events
abbrev pub event_steps : Stage → (kind : List ℕ) → (bubbles cancelable : Bool) → Thing → List Step
event_steps s kind bubbles cancelable target =
    Builds (Native NewEvent the_window (Str kind ∷ (BoolValue bubbles ∷ (BoolValue cancelable ∷ (Null ∷ [])))))
    ∷ (Sends (length s.events) target ∷ [])

-- the first element that the selector takes, in tree order
abbrev pub target_in : Forest → List (List Compound) → Option Thing
target_in f chains = option_map_or (λ n. Some (node_thing f n)) (slice_get (selected f 0 chains) 0) None

-- the element's value is set, and then it gets the event
abbrev pub input_steps : Stage → List ℕ → Thing → List Step
input_steps s text target =
    Builds (Native ElementSetAttribute target (Str (codes "value") ∷ (Str text ∷ []))) ∷ event_steps s (codes "input") true false target

-- nothing where the selector takes none
abbrev pub line_steps : Stage → Option Line → List Step
line_steps s None = []
line_steps s (Some (Click k chains)) = option_map_or (λ t. event_steps s (codes "click") true true t) (target_in s.nodes chains) []
line_steps s (Some (Input k chains text)) = option_map_or (λ t. input_steps s text t) (target_in s.nodes chains) []
line_steps s (Some (Event k chains kind)) = option_map_or (λ t. event_steps s kind true true t) (target_in s.nodes chains) []
line_steps s (Some (Tick k n)) = []

abbrev pub line_at : Given → ℕ → Option Line
line_at given k = find (λ line. nat_eq (line_number line) k) given.lines

-- ---- starts and timers

abbrev pub starter_at : Given → ℕ → Option Starter
starter_at given n = option_and_then (λ (script : Userscript). script.starter) (slice_get given.scripts n)

abbrev pub start_steps : ℕ → Option Starter → List Step
start_steps n starter = option_map_or (λ (s : Starter). Enters (userscript n) (Script s.text) ∷ []) starter []

abbrev pub timer_steps : Option Timer → List Step
timer_steps None = []
timer_steps (Some t) = Enters t.actor (TimerEntry t.callback) ∷ []

-- what the host does in the turn of a task, where the stage is this before the turn
abbrev pub steps_of : Given → Stage → Task → List Step
steps_of given s (PieceTask n) = piece_steps (slice_get given.pieces n)
steps_of given s Ready = event_steps s (codes "DOMContentLoaded") true false the_document
steps_of given s Load = event_steps s (codes "load") false false the_window
steps_of given s (Start n) = start_steps n (starter_at given n)
steps_of given s (LineTask k) = line_steps s (line_at given k)
steps_of given s (TimerTask i number) = timer_steps (timer_of s.timers i number)

-- the mark of a step, where the nodes are these by now
abbrev pub mark_of : Forest → Step → Mark
mark_of f (Builds request) = Build request
mark_of f (Places request) = Build (placed_request f request)
mark_of f (Enters i entry) = Enter i entry
mark_of f (Sends event target) = Dispatch the_host event target
