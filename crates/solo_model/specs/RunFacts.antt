-- Runs, computed by the definitions alone. The expected values are those of the order of tasks, of the project's worked examples, and what Gecko
-- printed in the cases that say so.
use Rattle.std.specs.Prelude.{◌≡◌, ℕ, Bool, true, false, List, [], ◌∷◌, ◌++◌, ◌+◌, codes, map, nat_eq, nat_lt, option_map, if◌then◌else◌, Option, Some, None, pos}
use Rattle.door.specs.declared.values.Actor.{Actor}
use Rattle.door.specs.declared.values.Kind.TheVariants.{Element, Str as StrKind, Event as EventKind}
use Rattle.door.specs.declared.values.Shape.TheVariants.{Function}
use Rattle.door.specs.declared.values.Thing.{Thing}
use Rattle.door.specs.declared.values.Value.{Value}
use Rattle.door.specs.declared.values.Value.TheVariants as value
use Rattle.door.specs.declared.grants.GrantSet.{GrantSet}
use Rattle.door.specs.declared.members.Member.TheVariants as m
use Rattle.door.specs.declared.requests.Request.{Request}
use Rattle.door.specs.declared.requests.Request.TheVariants.{Native}
use Rattle.door.specs.declared.requests.Answer.{Answer}
use Rattle.door.specs.declared.requests.Answer.TheVariants as answer
use Rattle.door.specs.declared.marks.Task.{Task}
use Rattle.door.specs.declared.marks.Task.TheVariants as task
use Rattle.door.specs.declared.marks.Entry.{Entry}
use Rattle.door.specs.declared.marks.Entry.TheVariants as entry
use Rattle.door.specs.declared.marks.Outcome.TheVariants.{Done, Stop}
use Rattle.door.specs.declared.marks.StopKind.TheVariants.{Fuel}
use Rattle.door.specs.declared.marks.Mark.{Mark}
use Rattle.door.specs.declared.marks.Mark.TheVariants.{Turn, Build, Enter, Ask, Dispatch, Back, Leave}
use Rattle.dom_semantics.specs.declared.selectors.Compound.{Compound}
use Rattle.dom_semantics.specs.declared.selectors.Part.TheVariants.{Id, Class, Is}
use Rattle.dom_semantics.specs.declared.selectors.TagTest.TheVariants.{Named}
use Rattle.dom_semantics.specs.Fits.{is_script}
use Rattle.dom_semantics.specs.Grants.{no_grants}
use Rattle.dom_semantics.specs.Things.{thing_of, the_window, the_document}
use Rattle.dom_semantics.specs.Plays.{Deed, Asks, Sends}
use Rattle.dom_semantics.specs.SelectorReadingModel.{read_selector}
use Rattle.dom_semantics.specs.StageOf.{stage_of}
use Rattle.dom_semantics.specs.Stores.{are_ascending}
use Rattle.solo_model.specs.Given.{Piece, Userscript, Moment, DocumentStart, DocumentEnd, DocumentIdle, Line, Click, Input, Event, Tick, Given, IsReadOrRefused, are_apart, are_cut, line_number, owners_in, refused_script, setting_of}
use Rattle.solo_model.specs.Acts.{setups_of}
use Rattle.solo_model.specs.Genuine.{IsGenuine}
use Rattle.solo_model.specs.Nesting.{progress_of}
use Rattle.solo_model.specs.NextMark.{turn_or_nothing, waiting_task, Exactly, Nothing, IsLawful, IsCutByTasks, IsCutByMarks}
use Rattle.solo_model.specs.Runs.{Part, Behaviour, journal_of, tasks_in, entries_in, answers_in}

-- ---- pages

abbrev pub actor : ℕ → Actor
actor n = record { 0 = n }

abbrev pub element : ℕ → Thing
element n = thing_of Element n

abbrev pub event : ℕ → Thing
event n = thing_of EventKind n

abbrev pub creates : List ℕ → Request
creates tag = Native m.DocumentCreateElement the_document (value.Str tag ∷ [])

abbrev pub appends : Thing → Thing → Request
appends parent child = Native m.NodeAppendChild parent (value.Thing child ∷ [])

abbrev pub sets : Thing → List ℕ → List ℕ → Request
sets thing name text = Native m.ElementSetAttribute thing (value.Str name ∷ value.Str text ∷ [])

abbrev writes_text : List ℕ → Request
writes_text text = Native m.DocumentCreateTextNode the_document (value.Str text ∷ [])

-- `<html><body>`, whose body is the second element
abbrev body_begins : List Request
body_begins = creates (codes "html") ∷ appends the_document (element 1) ∷ creates (codes "body") ∷ appends (element 1) (element 2) ∷ []

-- the n-th element, of this tag and with this attribute, in the body
abbrev in_body : ℕ → List ℕ → List ℕ → List ℕ → List Request
in_body n tag name text = creates tag ∷ sets (element n) name text ∷ appends (element 2) (element n) ∷ []

abbrev piece : List Request → Piece
piece writes = record { writes = writes; script = Some (codes "page") }

abbrev nothing_more : Piece
nothing_more = record { writes = []; script = None }

abbrev given_page : List Request → Given
given_page writes = record {
  address = codes "http://example.com/";
  pieces = piece writes ∷ nothing_more ∷ [];
  scripts = [];
  lines = [];
  stores = [];
  read_selector = read_selector;
}

-- `<html><body><p id="p"></p>`, a script, and what ends there
abbrev pub given : Given
given = given_page (body_begins ++ in_body 3 (codes "p") (codes "id") (codes "p"))

-- the same with `<div id="d"></div>` behind the p
abbrev given_two : Given
given_two = given_page (body_begins ++ in_body 3 (codes "p") (codes "id") (codes "p") ++ in_body 4 (codes "div") (codes "id") (codes "d"))

-- two elements of one class
abbrev given_class : Given
given_class = given_page (body_begins ++ in_body 3 (codes "p") (codes "class") (codes "k") ++ in_body 4 (codes "p") (codes "class") (codes "k"))

-- `<p value="a">`
abbrev given_value : Given
given_value = given_page (body_begins ++ in_body 3 (codes "p") (codes "value") (codes "a"))

-- ---- what scripts do

abbrev part : List Deed → Part
part deeds = record { deeds = deeds; outcome = Done; units = 5 }

abbrev quiet : Behaviour
quiet i entry = part []

abbrev tasks_of : Given → Behaviour → Option (List Task)
tasks_of given behaviour = option_map tasks_in (journal_of 400 given behaviour)

abbrev entries_of : Given → Behaviour → Option (List (Actor × Entry))
entries_of given behaviour = option_map entries_in (journal_of 400 given behaviour)

abbrev answers_of : Given → Behaviour → Option (List Answer)
answers_of given behaviour = option_map answers_in (journal_of 400 given behaviour)

-- ---- selectors

abbrev by_id : List ℕ → List (List Compound)
by_id id = (record { tag = None; parts = Id id ∷ [] } ∷ []) ∷ []

abbrev by_tag : List ℕ → List (List Compound)
by_tag tag = (record { tag = Some (Named tag); parts = [] } ∷ []) ∷ []

abbrev by_class : List ℕ → List (List Compound)
by_class name = (record { tag = None; parts = Class name ∷ [] } ∷ []) ∷ []

abbrev by_value : List ℕ → List (List Compound)
by_value text = (record { tag = None; parts = Is (codes "value") text ∷ [] } ∷ []) ∷ []

-- the element of the value `a` gets another one
abbrev inputs_value : ℕ → List ℕ → Line
inputs_value k text = Input k (by_value (codes "a")) text

abbrev clicks_p : ℕ → Line
clicks_p k = Click k (by_id (codes "p"))

abbrev clicks_class : ℕ → Line
clicks_class k = Click k (by_class (codes "k"))

abbrev sends_kind : ℕ → List ℕ → Line
sends_kind k id = Event k (by_id id) (codes "my-kind")

-- ---- the moments of run-at

abbrev logging : GrantSet
logging = record no_grants { log = true }

abbrev pub script_at : List ℕ → Moment → Userscript
script_at text moment =
    record { starter = Some (record { text = text; moment = moment }); owner = record { namespace = []; name = text }; grants = logging }

abbrev not_selected : Userscript
not_selected = record { starter = None; owner = record { namespace = []; name = codes "d" }; grants = no_grants }

-- a at idle, b at start, c and e at end; d isn't selected
abbrev five_scripts : Given
five_scripts = record given {
  scripts = script_at (codes "a") DocumentIdle ∷ script_at (codes "b") DocumentStart ∷ script_at (codes "c") DocumentEnd ∷ not_selected
      ∷ script_at (codes "e") DocumentEnd ∷ [];
}

-- three files of one name: the second is refused, and the third has a namespace
abbrev of_one_name : Given
of_one_name = record given {
  scripts = script_at (codes "same") DocumentEnd ∷ refused_script
      ∷ record (script_at (codes "same") DocumentEnd) { owner = record { namespace = codes "x"; name = codes "same" } } ∷ [];
}

abbrev three_scripts : Given
three_scripts = record given { scripts = script_at (codes "a") DocumentStart ∷ script_at (codes "b") DocumentEnd ∷ script_at (codes "c") DocumentIdle ∷ [] }

-- each userscript asks how far the document is, and whether it has an element
abbrev asks_ready : Behaviour
asks_ready i entry = part (if is_script i then Asks m.DocumentReadyState the_document [] ∷ Asks m.DocumentBody the_document [] ∷ [] else [])

abbrev tells : Value → Answer
tells v = answer.Value v

abbrev tells_text : List ℕ → Answer
tells_text text = tells (value.Str text)

-- ---- one userscript that logs the title: the whole journal

abbrev pub title_page : Given
title_page = record given {
  pieces = record {
    writes = creates (codes "html") ∷ appends the_document (element 1) ∷ creates (codes "head") ∷ appends (element 1) (element 2) ∷ creates (codes "title")
        ∷ appends (element 2) (element 3) ∷ writes_text (codes "Hi") ∷ appends (element 3) (thing_of StrKind 4)
        ∷ creates (codes "body") ∷ appends (element 1) (element 5) ∷ [];
    script = None;
  } ∷ [];
  scripts = script_at (codes "S") DocumentEnd ∷ [];
}

abbrev logs : List ℕ → Deed
logs text = Asks m.GmLog the_window (value.Str text ∷ [])

abbrev logs_title : Behaviour
logs_title i entry = part (Asks m.WindowDocument the_window [] ∷ Asks m.DocumentTitle the_document [] ∷ logs (codes "Hi") ∷ [])

abbrev new_event : List ℕ → Bool → Bool → Mark
new_event kind bubbles cancelable =
    Build (Native m.NewEvent the_window (value.Str kind ∷ value.Bool bubbles ∷ value.Bool cancelable ∷ value.Null ∷ []))

abbrev pub back : Mark
back = Back (actor 0) (answer.Value (value.Bool true))

abbrev pub title_journal : List Mark
title_journal =
    Turn (task.Piece 0)
    ∷ Build (creates (codes "html")) ∷ Build (appends the_document (element 1)) ∷ Build (creates (codes "head")) ∷ Build (appends (element 1) (element 2))
    ∷ Build (creates (codes "title")) ∷ Build (appends (element 2) (element 3)) ∷ Build (writes_text (codes "Hi"))
    ∷ Build (appends (element 3) (thing_of StrKind 4)) ∷ Build (creates (codes "body")) ∷ Build (appends (element 1) (element 5))
    ∷ Turn task.Ready ∷ new_event (codes "DOMContentLoaded") true false ∷ Dispatch (actor 0) 0 the_document ∷ back
    ∷ Turn (task.Start 0) ∷ Enter (actor 2) (entry.Script (codes "S"))
    ∷ Ask (actor 2) (Native m.WindowDocument the_window []) (answer.Value (value.Thing the_document))
    ∷ Ask (actor 2) (Native m.DocumentTitle the_document []) (answer.Value (value.Str (codes "Hi")))
    ∷ Ask (actor 2) (Native m.GmLog the_window (value.Str (codes "Hi") ∷ [])) (answer.Value value.Undefined)
    ∷ Leave (actor 2) Done 5
    ∷ Turn task.Load ∷ new_event (codes "load") false false ∷ Dispatch (actor 0) 1 the_window ∷ back ∷ []

-- ---- timers

-- a timer by its owner, its delay and the place of its callback
abbrev sets_timer_of : ℕ → ℕ → ℕ → Deed
sets_timer_of i delay place = Asks m.WindowSetTimeout the_window (value.Cell (actor i) place Function false ∷ value.Number (pos delay) ∷ [])

abbrev sets_timer : ℕ → ℕ → Deed
sets_timer delay place = sets_timer_of 1 delay place

abbrev clears_timer : ℕ → Deed
clears_timer number = Asks m.WindowClearTimeout the_window (value.Number (pos number) ∷ [])

-- the page's script does this, and the timer at a place does that
abbrev timed : List Deed → ℕ → List Deed → Behaviour
timed deeds place later i (entry.Script text) = part deeds
timed deeds place later i (entry.Timer at) = part (if nat_eq at place then later else [])
timed deeds place later i entry = part []

abbrev with_lines : List Line → Given
with_lines lines = record given { lines = lines }

-- the tasks before the scenario
abbrev beginning : List Task
beginning = task.Piece 0 ∷ task.Piece 1 ∷ task.Ready ∷ task.Load ∷ []

abbrev Does : List Line → Behaviour → List Task → Type 0
Does lines behaviour tasks = tasks_of (with_lines lines) behaviour ≡ Some (beginning ++ tasks)

abbrev timer : ℕ → Task
timer n = task.Timer (actor 1) n

-- a userscript polls three times
abbrev polls : Behaviour
polls i (entry.Script text) = part (if is_script i then sets_timer_of 2 100 300 ∷ [] else [])
polls i (entry.Timer place) = part (if nat_eq place 302 then [] else sets_timer_of 2 100 (place + 1) ∷ [])
polls i entry = part []

abbrev polling : Given
polling = record given {
  scripts = script_at (codes "a") DocumentEnd ∷ [];
  lines = Click 1 (by_id (codes "p")) ∷ Tick 2 100 ∷ Click 3 (by_id (codes "p")) ∷ Click 4 (by_id (codes "p")) ∷ Tick 5 500 ∷ [];
}

-- the page sets two timers, and then a userscript sets two
abbrev two_timers : Behaviour
two_timers i (entry.Script text) =
    part (if is_script i then sets_timer_of 2 120 300 ∷ sets_timer_of 2 50 301 ∷ [] else sets_timer 100 300 ∷ sets_timer 200 301 ∷ [])
two_timers i entry = part []

-- ---- listeners

abbrev p : Thing
p = element 3

abbrev d : Thing
d = element 4

abbrev listens : ℕ → Thing → List ℕ → ℕ → Deed
listens i target kind place = Asks m.EventTargetAddEventListener target (value.Str kind ∷ value.Cell (actor i) place Function false ∷ value.Bool false ∷ [])

-- the page's script listens for clicks on p with 301, which leaves by a stop, and with 302; with 303 for the event `input`
abbrev clicked : Behaviour
clicked i (entry.Script text) = part (listens 1 p (codes "click") 301 ∷ listens 1 p (codes "click") 302 ∷ listens 1 p (codes "input") 303 ∷ [])
clicked i (entry.Listener place event current) = record { deeds = []; outcome = Stop Fuel; units = 200000 }
clicked i entry = part []

abbrev called : ℕ → ℕ → Actor × Entry
called place n = (actor 1, entry.Listener place (event n) p)

abbrev start_of_page : Actor × Entry
start_of_page = (actor 1, entry.Script (codes "page"))

abbrev Enters : List Line → Behaviour → List (Actor × Entry) → Type 0
Enters lines behaviour entries = entries_of (with_lines lines) behaviour ≡ Some (start_of_page ∷ entries)

-- the listener of a click on p sets a timer
abbrev sets_at_click : Behaviour
sets_at_click i (entry.Script text) = part (listens 1 p (codes "click") 301 ∷ [])
sets_at_click i (entry.Listener place event current) = part (sets_timer 50 300 ∷ [])
sets_at_click i entry = part []

abbrev reads_target : Thing → Deed
reads_target e = Asks m.EventTarget e []

-- of an event its type, whether it is cancelable, bubbles and is trusted, and its target
abbrev asks_all : Thing → List Deed
asks_all e = Asks m.EventType e [] ∷ Asks m.EventCancelable e [] ∷ Asks m.EventBubbles e [] ∷ Asks m.EventIsTrusted e [] ∷ reads_target e ∷ []

-- the listener of `input` on p asks for its value, and all about the event
abbrev reads_value : Behaviour
reads_value i (entry.Script text) = part (listens 1 p (codes "input") 301 ∷ [])
reads_value i (entry.Listener place e current) = part (Asks m.ElementGetAttribute p (value.Str (codes "value") ∷ []) ∷ asks_all e)
reads_value i entry = part []

-- the page listens for clicks on the body; the first event of the scenario is done that, and each later one this
abbrev on_click : (Thing → List Deed) → (Thing → List Deed) → Behaviour
on_click first later i (entry.Script text) = part (listens 1 (element 2) (codes "click") 301 ∷ [])
on_click first later i (entry.Listener place e current) = part (if nat_eq e.number 2 then first e else later e)
on_click first later i entry = part []

abbrev done : Answer
done = tells value.Undefined

-- which thing the event was at, and then the answer to what was done with it
abbrev at_target : Thing → List Answer
at_target thing = tells (value.Thing thing) ∷ done ∷ []

-- the target of each click is removed
abbrev removes : Behaviour
removes = on_click (λ e. reads_target e ∷ Asks m.NodeRemove p [] ∷ []) (λ e. reads_target e ∷ Asks m.NodeRemove d [] ∷ [])

-- the target of each click loses its class
abbrev unclasses : Behaviour
unclasses = on_click (λ e. reads_target e ∷ Asks m.ElementSetClassName p (value.Str [] ∷ []) ∷ [])
    (λ e. reads_target e ∷ Asks m.ElementSetClassName d (value.Str [] ∷ []) ∷ [])

-- the body listens for clicks, of which it asks whether they are trusted, and for `go`, where it dispatches the click again
abbrev dispatches_again : Behaviour
dispatches_again i (entry.Script text) = part (listens 1 (element 2) (codes "click") 301 ∷ listens 1 (element 2) (codes "go") 302 ∷ [])
dispatches_again i (entry.Listener place e current) =
    part (if nat_eq place 301 then Asks m.EventIsTrusted e [] ∷ [] else Sends 2 (element 2) ∷ Asks m.EventIsTrusted (event 2) [] ∷ [])
dispatches_again i entry = part []

abbrev tells_flag : Bool → Answer
tells_flag flag = tells (value.Bool flag)

-- the document listens for an event of a line, and asks all about it
abbrev asks_event : List ℕ → Behaviour
asks_event kind i (entry.Script text) = part (listens 1 the_document kind 301 ∷ [])
asks_event kind i (entry.Listener place e current) = part (asks_all e)
asks_event kind i entry = part []

-- ---- limits of dispatches

abbrev x_event : Deed
x_event = Asks m.NewEvent the_window (value.Str (codes "x") ∷ value.Bool false ∷ value.Bool false ∷ value.Null ∷ [])

-- the page dispatches an event to p, whose listener makes the next event and dispatches that
abbrev nests : Behaviour
nests i (entry.Script text) = part (listens 1 p (codes "x") 300 ∷ x_event ∷ Sends 0 p ∷ [])
nests i (entry.Listener place e current) = part (x_event ∷ Sends (e.number + 1) p ∷ [])
nests i entry = part []

-- ---- what holds of what is given

abbrev are_counted : List Line → Bool
are_counted lines = are_ascending nat_lt (0 ∷ map line_number lines)

abbrev are_owners_apart : Given → Bool
are_owners_apart given = are_apart (owners_in given.scripts)

-- two scripts of one name, of which both start or one
abbrev twice : Given
twice = record given { scripts = script_at (codes "a") DocumentStart ∷ script_at (codes "a") DocumentEnd ∷ [] }

abbrev twice_read : Given
twice_read = record given { scripts = script_at (codes "d") DocumentStart ∷ not_selected ∷ [] }

-- what waits at the end of a journal
abbrev waiting : Given → List Mark → Option Task
waiting given marks = waiting_task given (stage_of (setting_of given marks) marks) (progress_of marks)

pub record RunFacts : Type 0 where
  -- document-start, the pieces, DOMContentLoaded, document-end, load, document-idle, each in the order of file names
  pub moments : tasks_of five_scripts quiet
      ≡ Some (task.Start 1 ∷ task.Piece 0 ∷ task.Piece 1 ∷ task.Ready ∷ task.Start 2 ∷ task.Start 4 ∷ task.Load ∷ task.Start 0 ∷ [])
  pub moment_entries : entries_of five_scripts quiet
      ≡ Some ((actor 3, entry.Script (codes "b")) ∷ start_of_page ∷ (actor 4, entry.Script (codes "c")) ∷ (actor 6, entry.Script (codes "e"))
      ∷ (actor 2, entry.Script (codes "a")) ∷ [])
  -- three scripts, each at a moment of its own: what Gecko printed
  pub ready_states : answers_of three_scripts asks_ready
      ≡ Some (tells_text (codes "loading") ∷ tells value.Null ∷ tells_text (codes "interactive") ∷ tells (value.Thing (element 2))
      ∷ tells_text (codes "complete") ∷ tells (value.Thing (element 2)) ∷ [])
  -- the 25 marks of one userscript that logs the title
  pub titled : journal_of 100 title_page logs_title ≡ Some title_journal
  -- of two timers with one due time the one that was set first; an earlier one before them; one that was cleared doesn't run
  pub due_order : Does (Tick 1 100 ∷ []) (timed (sets_timer 50 300 ∷ sets_timer 50 301 ∷ sets_timer 40 302 ∷ sets_timer 40 303 ∷ clears_timer 4 ∷ []) 0 [])
      (timer 3 ∷ timer 1 ∷ timer 2 ∷ [])
  -- a timer that isn't due waits for a further tick; without one it doesn't run
  pub not_due : Does (Tick 1 49 ∷ []) (timed (sets_timer 50 300 ∷ []) 0 []) []
  pub due_later : Does (Tick 1 49 ∷ Tick 2 1 ∷ []) (timed (sets_timer 50 300 ∷ []) 0 []) (timer 1 ∷ [])
  pub no_tick : Does (Click 1 (by_id (codes "p")) ∷ []) (timed (sets_timer 0 300 ∷ []) 0 []) (task.Line 1 ∷ [])
  -- one that is set meanwhile runs by its own due time: 40 sets one at 40 + 5, before that at 50
  pub meanwhile : Does (Tick 1 50 ∷ []) (timed (sets_timer 50 300 ∷ sets_timer 40 301 ∷ []) 301 (sets_timer 5 302 ∷ [])) (timer 2 ∷ timer 3 ∷ timer 1 ∷ [])
  -- no delay counts as 0
  pub no_delay : Does (Tick 1 0 ∷ [])
      (timed (Asks m.WindowSetTimeout the_window (value.Cell (actor 1) 300 Function false ∷ value.Undefined ∷ []) ∷ []) 0 []) (timer 1 ∷ [])
  -- two that are set by the first, of which one has no delay: what Gecko printed
  pub again : Does (Tick 1 500 ∷ [])
      (timed (sets_timer 100 300 ∷ sets_timer 150 301 ∷ sets_timer 300 302 ∷ []) 300 (sets_timer 100 303 ∷ sets_timer 0 304 ∷ []))
      (timer 1 ∷ timer 5 ∷ timer 2 ∷ timer 4 ∷ timer 3 ∷ [])
  -- a timer that is set at a line is due by the ticks before that line
  pub clock_of_line : Does (Tick 1 100 ∷ clicks_p 2 ∷ Tick 3 49 ∷ []) sets_at_click (task.Line 2 ∷ [])
  pub due_after_line : Does (Tick 1 100 ∷ clicks_p 2 ∷ Tick 3 49 ∷ Tick 4 1 ∷ []) sets_at_click (task.Line 2 ∷ timer 1 ∷ [])
  -- the timers of two actors go by one clock: what Gecko printed
  pub two_actors : tasks_of (record given { scripts = script_at (codes "a") DocumentEnd ∷ []; lines = Tick 1 300 ∷ [] }) two_timers
      ≡ Some (task.Piece 0 ∷ task.Piece 1 ∷ task.Ready ∷ task.Start 0 ∷ task.Load ∷ task.Timer (actor 2) 2 ∷ task.Timer (actor 1) 1
      ∷ task.Timer (actor 2) 1 ∷ task.Timer (actor 1) 2 ∷ [])
  -- three polls of a userscript with clicks between: eleven tasks
  pub eleven : tasks_of polling polls
      ≡ Some (task.Piece 0 ∷ task.Piece 1 ∷ task.Ready ∷ task.Start 0 ∷ task.Load ∷ task.Line 1 ∷ task.Timer (actor 2) 1 ∷ task.Line 3 ∷ task.Line 4
      ∷ task.Timer (actor 2) 2 ∷ task.Timer (actor 2) 3 ∷ [])
  -- a click reaches both listeners though the first was stopped; the input line sets the value first, so its own selector counts before
  pub stopped : Enters (Click 2 (by_id (codes "p")) ∷ []) clicked (called 301 2 ∷ called 302 2 ∷ [])
  pub input : Enters (Input 1 (by_tag (codes "p")) (codes "v") ∷ []) clicked (called 303 2 ∷ [])
  -- an input line finds its target before it sets the value, and then sends an event that bubbles and isn't cancelable; the next one goes by the
  -- value that is there then, and takes nothing
  pub own_selector : answers_of (record given_value { lines = inputs_value 1 (codes "b") ∷ inputs_value 2 (codes "c") ∷ [] }) reads_value
      ≡ Some (done ∷ tells_text (codes "b") ∷ tells_text (codes "input") ∷ tells_flag false ∷ tells_flag true ∷ tells_flag true ∷ tells (value.Thing p) ∷ [])
  -- a click bubbles and is cancelable
  pub click_line : answers_of (with_lines (clicks_p 1 ∷ [])) (asks_event (codes "click"))
      ≡ Some (done ∷ tells_text (codes "click") ∷ tells_flag true ∷ tells_flag true ∷ tells_flag true ∷ tells (value.Thing p) ∷ [])
  -- a line whose selector takes nothing is a task all the same
  pub missed : Does (Click 3 (by_id (codes "none")) ∷ []) quiet (task.Line 3 ∷ [])
  -- p is clicked and removed, then it is missed, and then the div is clicked: what Gecko printed
  pub removed : answers_of (record given_two { lines = clicks_p 1 ∷ clicks_p 2 ∷ Click 3 (by_tag (codes "div")) ∷ [] }) removes
      ≡ Some (done ∷ at_target p ++ at_target d)
  -- the first element that fits is clicked, and loses its class; the third line is missed: what Gecko printed
  pub first_that_fits : answers_of (record given_class { lines = clicks_class 1 ∷ clicks_class 2 ∷ clicks_class 3 ∷ [] }) unclasses
      ≡ Some (done ∷ at_target p ++ at_target d)
  -- a host's event is trusted till a script dispatches it: what Gecko printed
  pub trusted : answers_of (with_lines (Click 1 (by_id (codes "p")) ∷ Event 2 (by_tag (codes "body")) (codes "go") ∷ [])) dispatches_again
      ≡ Some (done ∷ done ∷ tells_flag true ∷ tells_flag false ∷ tells_flag false ∷ [])
  -- an event by its name bubbles, and is cancelable and trusted; two lines are missed: what Gecko printed
  pub event_line : answers_of (record given_two { lines = sends_kind 3 (codes "d") ∷ sends_kind 4 (codes "zz") ∷ Click 5 (by_id (codes "zz")) ∷ [] })
      (asks_event (codes "my-kind"))
      ≡ Some (done ∷ tells_text (codes "my-kind") ∷ tells_flag true ∷ tells_flag true ∷ tells_flag true ∷ tells (value.Thing d) ∷ [])
  -- at most four dispatches of an actor are unfinished: the fifth is refused, so the listener is called four times
  pub four : Enters [] nests (called 300 0 ∷ called 300 1 ∷ called 300 2 ∷ called 300 3 ∷ [])
  -- the 20,000th task is done, and no further one
  pub last_task : turn_or_nothing 19999 (Some task.Load) ≡ Exactly (Turn task.Load)
  pub too_many : turn_or_nothing 20000 (Some task.Load) ≡ Nothing
  -- that journal is lawful, and all that it says is true
  pub lawful : IsLawful title_page title_journal
  pub genuine : IsGenuine (setups_of title_page) (setting_of title_page title_journal) title_journal
  -- no task waits at its end, and one does where the scenario has a line more; it isn't cut off
  pub none_waits : waiting title_page title_journal ≡ None
  pub waits : waiting (record title_page { lines = clicks_p 1 ∷ [] }) title_journal ≡ Some (task.Line 1)
  pub not_by_tasks : IsCutByTasks title_page title_journal → ⊥
  pub not_by_marks : IsCutByMarks title_page title_journal → ⊥
  -- the page is cut at its scripts, and has a last piece without one
  pub cut : are_cut given.pieces ∷ are_cut title_page.pieces ∷ are_cut [] ∷ are_cut (piece [] ∷ []) ∷ are_cut (nothing_more ∷ nothing_more ∷ []) ∷ []
      ≡ true ∷ true ∷ false ∷ false ∷ false ∷ []
  -- lines are counted from 1, upwards; scripts that were read share no values, also where one of them doesn't start
  pub counted : are_counted polling.lines ∷ are_counted (clicks_p 2 ∷ clicks_p 1 ∷ []) ∷ are_counted (clicks_p 0 ∷ []) ∷ [] ≡ true ∷ false ∷ false ∷ []
  pub apart : map are_owners_apart (five_scripts ∷ of_one_name ∷ twice ∷ twice_read ∷ []) ≡ true ∷ true ∷ false ∷ false ∷ []
  -- a refused script doesn't start
  pub refused : IsReadOrRefused refused_script
  pub not_refused : IsReadOrRefused (record refused_script { starter = Some (record { text = codes "S"; moment = DocumentEnd }) }) → ⊥
