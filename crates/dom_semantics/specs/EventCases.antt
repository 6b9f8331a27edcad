-- Random event cases, played by the definitions: listeners of several owners with stops, removals, re-adding, nested dispatches and moves, and
-- the lines that they log.
use Rattle.std.specs.Prelude.{◌+◌, ◌-◌, ◌&&◌, ℕ, Bool, true, false, not, List, [], ◌∷◌}
use Rattle.std.specs.Prelude.{◌++◌, map, codes, length, nat_lt, slice_index_or, slice_set, if◌then◌else◌, Option, Some, None}
use Rattle.std.specs.Option.{option_map_or}
use Rattle.std.specs.Fmt.{decimal}
use Prim.Native.Nat.{zero, suc}
use Rattle.door.specs.declared.values.Actor.{Actor}
use Rattle.door.specs.declared.values.Kind.{Kind}
use Rattle.door.specs.declared.values.Kind.TheVariants as kinds
use Rattle.door.specs.declared.values.Shape.TheVariants.{Function}
use Rattle.door.specs.declared.values.Thing.{Thing}
use Rattle.door.specs.declared.values.Value.{Value}
use Rattle.door.specs.declared.values.Value.TheVariants as value
use Rattle.door.specs.declared.members.Member.{Member}
use Rattle.door.specs.declared.members.Member.TheVariants as m
use Rattle.door.specs.declared.requests.Request.TheVariants.{Native}
use Rattle.door.specs.declared.requests.Answer.{Answer}
use Rattle.door.specs.declared.requests.Answer.TheVariants as answer
use Rattle.door.specs.declared.requests.ErrorKind.{ErrorKind}
use Rattle.door.specs.declared.requests.ErrorKind.TheVariants as error
use Rattle.door.specs.declared.marks.Mark.{Mark}
use Rattle.door.specs.declared.marks.Mark.TheVariants.{Enter, Ask, Dispatch, Back}
use Rattle.door.specs.declared.marks.Entry.TheVariants.{Listener}
use Rattle.dom_semantics.specs.Forest.{form_at, attribute_of}
use Rattle.dom_semantics.specs.declared.events.Event.{Event}
use Rattle.dom_semantics.specs.Names.{name_of_form}
use Rattle.dom_semantics.specs.Queries.{first_of_id}
use Rattle.dom_semantics.specs.Fits.{is_answer}
use Rattle.dom_semantics.specs.Things.{thing_of, the_window, the_document, node_thing}
use Rattle.dom_semantics.specs.Events.{event_at}
use Rattle.dom_semantics.specs.Walks.{Step, Walk}
use Rattle.dom_semantics.specs.Stage.{Stage, start}
use Rattle.dom_semantics.specs.TargetReplies.{dispatch_refusal}
use Rattle.dom_semantics.specs.Truth.{reply_of}
use Rattle.dom_semantics.specs.StageOf.{after, first_step}
use Rattle.dom_semantics.specs.Plays.{given, answer_in, event_thing}

pub data Target : Type 0 where
  Win : Target
  Doc : Target
  Body : Target
  Named : ℕ → Target

pub data Act : Type 0 where
  Stops : Act
  StopsNow : Act
  Prevents : Act
  Removes : ℕ → Act
  Adds : ℕ → Act
  Sends : Target → List ℕ → Bool → Bool → Act
  Appends : ℕ → ℕ → Act
  Drops : ℕ → Act
  Throws : Act
  Again : Target → Act

pub record Reg : Type 0 where
  pub target : Target
  pub kind : List ℕ
  pub capture : Bool
  pub acts : List Act

-- a script: its name in the log, its listeners, and what it does at its start besides adding them
pub record Script : Type 0 where
  pub who : List ℕ
  pub regs : List Reg
  pub acts : List Act

-- a line of the scenario: the counts begin anew, or an event of a type at the body, or at the element of an id
pub data Line : Type 0 where
  New : Line
  AtBody : List ℕ → Line
  AtHtml : List ℕ → Line
  AtId : List ℕ → List ℕ → Line

pub data Work : Type 0 where
  Starts : ℕ → Work
  Does : ℕ → ℕ → ℕ → List Act → Work
  Walks : Actor → ℕ → Work
  Sent : ℕ → List ℕ → Thing → ℕ → Work
  Plays : Line → Work

pub record World : Type 0 where
  pub stage : Stage
  pub walks : List Walk
  pub log : List (List ℕ)
  pub found : List (List Thing)
  pub depths : List ℕ
  pub totals : List ℕ

abbrev marked : Mark → World → World
marked mark w = record w { stage = (after given w.stage w.walks mark).stage; walks = (after given w.stage w.walks mark).walks }

abbrev logged : List ℕ → World → World
logged line w = record w { log = w.log ++ line ∷ [] }

abbrev actor : ℕ → Actor
actor o = record { 0 = o + 1 }

-- an answer that doesn't fit the table would be logged
abbrev checked : ℕ → Member → Answer → World → World
checked o member a w = if is_answer (actor o) member a then w else logged (codes "misfit") w

abbrev asks : ℕ → Member → Thing → List Value → World → World
asks o member thing arguments w =
    marked (Ask (actor o) (Native member thing arguments) (answer_in (reply_of given.origin w.stage (actor o) member thing arguments)))
    (checked o member (answer_in (reply_of given.origin w.stage (actor o) member thing arguments)) w)

-- ---- names

abbrev and_then : List ℕ → List ℕ → List ℕ
and_then a b = a ++ (codes " " ++ b)

abbrev or_else : List ℕ → List ℕ → List ℕ
or_else [] b = b
or_else (c ∷ cs) b = c ∷ cs

abbrev element_name : Stage → ℕ → List ℕ
element_name s n = or_else (option_map_or (λ t. t) (attribute_of s.nodes n (codes "id")) []) (name_of_form (form_at s.nodes n))

abbrev name_by : Stage → Kind → ℕ → List ℕ
name_by s kinds.Window n = codes "window"
name_by s kinds.Document n = codes "document"
name_by s k n = element_name s n

abbrev name_of : Stage → Thing → List ℕ
name_of s t = name_by s t.kind t.number

abbrev thing_name : Stage → Option Thing → List ℕ
thing_name s None = codes "null"
thing_name s (Some t) = name_of s t

abbrev flag_name : Bool → List ℕ
flag_name true = codes "true"
flag_name false = codes "false"

abbrev error_name : ErrorKind → List ℕ
error_name error.Hierarchy = codes "HierarchyRequestError"
error_name error.NotFound = codes "NotFoundError"
error_name error.InvalidState = codes "InvalidStateError"
error_name reason = codes "other"

-- ---- scripts

abbrev who_of : List Script → ℕ → List ℕ
who_of scripts o = (slice_index_or scripts o (record { who = []; regs = []; acts = [] })).who

abbrev no_reg : Reg
no_reg = record { target = Win; kind = []; capture = false; acts = [] }

abbrev regs_of : List Script → ℕ → List Reg
regs_of scripts o = (slice_index_or scripts o (record { who = []; regs = []; acts = [] })).regs

-- the listener of a number, from 1
abbrev reg_at : List Script → ℕ → ℕ → Reg
reg_at scripts o i = slice_index_or (no_reg ∷ regs_of scripts o) i no_reg

abbrev has_reg : List Script → ℕ → ℕ → Bool
has_reg scripts o i = nat_lt 0 i && nat_lt i (length (no_reg ∷ regs_of scripts o))

-- body is node 4; a script's own elements were found at its start
abbrev body : Thing
body = thing_of kinds.Element 4

abbrev found_at : World → ℕ → ℕ → Thing
found_at w o k = slice_index_or (slice_index_or w.found o []) k the_window

abbrev thing_at : World → ℕ → Target → Thing
thing_at w o Win = the_window
thing_at w o Doc = the_document
thing_at w o Body = body
thing_at w o (Named k) = found_at w o k

-- an element by its id, or a new one
abbrev finds : ℕ → List ℕ → World → World
finds o id w =
    option_map_or
    (λ n. record w { found = slice_set w.found o (slice_index_or w.found o [] ++ node_thing w.stage.nodes n ∷ []) })
    (first_of_id w.stage.nodes id)
    (record (asks o m.DocumentCreateElement the_document (value.Str (codes "b") ∷ []) w) {
      found = slice_set w.found o (slice_index_or w.found o []
          ++ thing_of kinds.Element (length w.stage.nodes) ∷ []);
    })

abbrev finds_all : ℕ → World → World
finds_all o w = finds o (codes "f") (finds o (codes "e") (finds o (codes "c") (finds o (codes "b") (finds o (codes "a") w))))

-- ---- acts

abbrev listener_deed : List Script → ℕ → Member → ℕ → World → World
listener_deed scripts o member i w =
    if has_reg scripts o i
    then asks o member (thing_at w o (reg_at scripts o i).target) (value.Str (reg_at scripts o i).kind ∷ value.Cell (actor o) i Function false
    ∷ value.Bool (reg_at scripts o i).capture ∷ []) w
    else w

abbrev refused_line : List Script → ℕ → Answer → World → World
refused_line scripts o (answer.Throw reason) w = logged (and_then (codes "log") (and_then (who_of scripts o) (error_name reason))) w
refused_line scripts o a w = w

abbrev appends : List Script → ℕ → Thing → Thing → World → World
appends scripts o parent child w =
    refused_line scripts o (answer_in (reply_of given.origin w.stage (actor o) m.NodeAppendChild parent (value.Thing child ∷ [])))
    (asks o m.NodeAppendChild parent (value.Thing child ∷ []) w)

pub record Left : Type 0 where
  pub world : World
  pub work : List Work

abbrev left : World → List Work → Left
left w work = record { world = w; work = work }

abbrev at_of : List ℕ → ℕ → ℕ
at_of ns o = slice_index_or ns o 0

abbrev makes_event : ℕ → List ℕ → Bool → Bool → World → World
makes_event o kind bubbles cancelable w = asks o m.NewEvent the_window (value.Str kind ∷ value.Bool bubbles ∷ value.Bool cancelable ∷ value.Null ∷ []) w

abbrev sends : List Script → ℕ → Thing → List ℕ → Bool → Bool → List Work → World → Left
sends scripts o target kind bubbles cancelable work w =
    if nat_lt (at_of w.depths o) 3 && nat_lt (at_of w.totals o) 30
    then left (marked (Dispatch (actor o) (length w.stage.events) target)
    (record (makes_event o kind bubbles cancelable w) {
      depths = slice_set w.depths o (at_of w.depths o + 1);
      totals = slice_set w.totals o
          (at_of w.totals o + 1);
    }))
    (Walks (actor o) (length w.stage.events) ∷ (Sent o kind target (length w.stage.events) ∷ work))
    else left w work

abbrev refused_again : List Script → ℕ → Option ErrorKind → World → World
refused_again scripts o None w = w
refused_again scripts o (Some reason) w = refused_line scripts o (answer.Throw reason) w

-- what an owner's callback does next with the event
abbrev act : List Script → ℕ → ℕ → ℕ → Act → List Act → List Work → World → Left
act scripts o lid event Stops acts work w = left (asks o m.EventStopPropagation (event_thing event) [] w) (Does o lid event acts ∷ work)
act scripts o lid event StopsNow acts work w = left (asks o m.EventStopImmediatePropagation (event_thing event) [] w) (Does o lid event acts ∷ work)
act scripts o lid event Prevents acts work w = left (asks o m.EventPreventDefault (event_thing event) [] w) (Does o lid event acts ∷ work)
act scripts o lid event (Removes i) acts work w = left (listener_deed scripts o m.EventTargetRemoveEventListener i w) (Does o lid event acts ∷ work)
act scripts o lid event (Adds i) acts work w = left (listener_deed scripts o m.EventTargetAddEventListener i w) (Does o lid event acts ∷ work)
act scripts o lid event (Sends target kind bubbles cancelable) acts work w = sends scripts o (thing_at w o target) kind bubbles cancelable
    (Does o lid event acts ∷ work) w
act scripts o lid event (Appends parent child) acts work w = left (appends scripts o (found_at w o parent) (found_at w o child) w) (Does o lid event acts
    ∷ work)
act scripts o lid event (Drops k) acts work w = left (asks o m.NodeRemove (found_at w o k) [] w) (Does o lid event acts ∷ work)
act scripts o lid event Throws acts work w = left (logged (and_then (codes "throw") (and_then (who_of scripts o) (codes "t" ++ decimal lid))) w) work
act scripts o lid event (Again target) acts work w = left (refused_again scripts o (dispatch_refusal w.stage (actor o) event) w) (Does o lid event acts ∷ work)

-- ---- walks

abbrev call_line : List Script → ℕ → ℕ → Event → Stage → List ℕ
call_line scripts o lid e s =
    and_then (codes "log") (and_then (who_of scripts o) (and_then (decimal lid) (and_then e.form.kind (and_then (decimal e.phase) (and_then
    (thing_name s e.current)
    (and_then (thing_name s e.target) (and_then (flag_name e.prevented) (and_then (flag_name e.form.trusted) (codes "true")))))))))

abbrev owner_number : Actor → ℕ
owner_number i = i.0 - 1

abbrev called_at : List Script → ℕ → ℕ → ℕ → World → World
called_at scripts o lid event w = logged (call_line scripts o lid (event_at w.stage.events event) w.stage) w

abbrev walks : List Script → Actor → ℕ → List Work → World → Option Step → Left
walks scripts i event work w None = left (marked (Back i (answer.Value (value.Bool (not (event_at w.stage.events event).prevented)))) w) work
walks scripts i event work w (Some step) =
    left (called_at scripts (owner_number step.due.owner) step.due.callback event
    (marked (Enter step.due.owner (Listener step.due.callback (event_thing event) step.due.visit.current)) w))
    (Does (owner_number step.due.owner) step.due.callback event (reg_at scripts (owner_number step.due.owner) step.due.callback).acts ∷ (Walks i event ∷ work))

abbrev host : Actor
host = record { 0 = 0 }

abbrev host_event : List ℕ → Thing → List Work → World → Left
host_event kind target work w =
    left (marked (Dispatch host (length w.stage.events) target)
    (marked (Ask host (Native m.NewEvent the_window (value.Str kind ∷ value.Bool true ∷ value.Bool true ∷ value.Null
    ∷ [])) (answer.Value (value.Thing (event_thing (length w.stage.events))))) w))
    (Walks host (length w.stage.events) ∷ work)

abbrev adds_all : ℕ → List Reg → List Act
adds_all i [] = []
adds_all i (reg ∷ regs) = Adds i ∷ adds_all (i + 1) regs

abbrev script_acts : List Script → ℕ → List Act
script_acts scripts o = adds_all 1 (regs_of scripts o) ++ (slice_index_or scripts o (record { who = []; regs = []; acts = [] })).acts

abbrev plays : Line → List Work → World → Left
plays New work w = left (record w { totals = map (λ n. 0) w.totals }) work
plays (AtBody kind) work w = host_event kind body work w
plays (AtHtml kind) work w = host_event kind (thing_of kinds.Element 1) work w
plays (AtId id kind) work w = option_map_or (λ n. host_event kind (node_thing w.stage.nodes n) work w) (first_of_id w.stage.nodes id) (left (logged
    (codes "miss") w) work)

abbrev works : List Script → Work → List Work → World → Left
works scripts (Starts o) work w = left (finds_all o w) (Does o 0 0 (script_acts scripts o) ∷ work)
works scripts (Does o lid event []) work w = left w work
works scripts (Does o lid event (a ∷ acts)) work w = act scripts o lid event a acts work w
works scripts (Walks i event) work w = walks scripts i event work w (first_step w.stage w.walks)
works scripts (Sent o kind target event) work w =
    left (logged (and_then (codes "log") (and_then (who_of scripts o) (and_then (codes "->") (and_then kind (and_then (name_of w.stage target) (flag_name
    (not (event_at w.stage.events event).prevented)))))))
    (record w { depths = slice_set w.depths o (at_of w.depths o - 1) })) work
works scripts (Plays line) work w = plays line work w

unfoldable pub worked : ℕ → List Script → List Work → World → Option (List (List ℕ))
worked zero scripts work w = None
worked (suc n) scripts [] w = Some w.log
worked (suc n) scripts (first ∷ work) w = worked n scripts (works scripts first work w).work (works scripts first work w).world

-- ---- the document: html 1, head 2, title 3, body 4, div a 5, div b 6, p c 7, p e 8, div f 9

abbrev makes : List ℕ → World → World
makes tag w = marked (Ask host (Native m.DocumentCreateElement the_document (value.Str tag
    ∷ [])) (answer.Value (value.Thing (thing_of kinds.Element (length w.stage.nodes))))) w

abbrev puts : Thing → ℕ → World → World
puts parent n w = marked (Ask host (Native m.NodeAppendChild parent (value.Thing (thing_of kinds.Element n)
    ∷ [])) (answer.Value (value.Thing (thing_of kinds.Element n)))) w

abbrev names : ℕ → List ℕ → World → World
names n id w = marked (Ask host (Native m.ElementSetAttribute (thing_of kinds.Element n) (value.Str (codes "id") ∷ value.Str id
    ∷ [])) (answer.Value value.Undefined)) w

abbrev element : ℕ → Thing
element n = thing_of kinds.Element n

abbrev document : World → World
document w =
    names 9 (codes "f") (puts (element 4) 9 (makes (codes "div") (names 8 (codes "e") (puts (element 5) 8 (makes (codes "p")
    (names 7 (codes "c") (puts (element 6) 7 (makes (codes "p") (names 6 (codes "b") (puts (element 5) 6 (makes (codes "div")
    (names 5 (codes "a") (puts (element 4) 5 (makes (codes "div") (puts (element 1) 4 (makes (codes "body") (puts (element 2) 3 (makes (codes "title")
    (puts (element 1) 2 (makes (codes "head") (puts the_document 1 (makes (codes "html") w))))))))))))))))))))))

abbrev nothing : World
nothing = record { stage = start given; walks = []; log = []; found = [] ∷ [] ∷ [] ∷ []; depths = 0 ∷ 0 ∷ 0 ∷ []; totals = 0 ∷ 0 ∷ 0 ∷ [] }

abbrev starts_from : ℕ → List Script → List Work
starts_from o [] = []
starts_from o (script ∷ scripts) = Starts o ∷ starts_from (o + 1) scripts

-- the scripts start one after the other, then the lines are played: what is logged
abbrev pub logs : List Script → List Line → Option (List (List ℕ))
logs scripts lines = worked 4000 scripts (starts_from 0 scripts ++ map Plays lines) (document nothing)
