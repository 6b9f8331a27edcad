-- Journals in which all that marks say is true; this project's own in form.
use Rattle.std.specs.Prelude.{◌≡◌, ◌&&◌, ℕ, Bool, true, false, not, List, [], ◌∷◌, ◌++◌, None}
use Rattle.door.specs.declared.values.TheConstants.{PAGE}
use Rattle.door.specs.declared.values.Actor.{Actor}
use Rattle.door.specs.declared.values.Kind.TheVariants.{Event as EventKind}
use Rattle.door.specs.declared.values.Thing.{Thing}
use Rattle.door.specs.declared.values.Look.{Look}
use Rattle.door.specs.declared.values.Look.TheVariants.{Xray}
use Rattle.door.specs.declared.values.Value.{Value}
use Rattle.door.specs.declared.values.Value.TheVariants.{Thing as ThingValue, Cell}
use Rattle.door.specs.declared.members.Member.TheVariants.{EventTargetDispatchEvent}
use Rattle.door.specs.declared.requests.Request.{Request}
use Rattle.door.specs.declared.requests.Request.TheVariants.{Native, Peek, PeekKeys, Reach}
use Rattle.door.specs.declared.requests.ReachOp.{ReachOp}
use Rattle.door.specs.declared.requests.ReachOp.TheVariants.{Waive}
use Rattle.door.specs.declared.requests.ServeOp.{ServeOp}
use Rattle.door.specs.declared.requests.Answer.{Answer}
use Rattle.door.specs.declared.requests.Answer.TheVariants.{Value as ValueAnswer, Keys, Denied, Thrown, Stopped}
use Rattle.door.specs.declared.marks.Mark.{Mark}
use Rattle.door.specs.declared.marks.Mark.TheVariants.{Build, Ask, Dispatch, Serve, Served}
use Rattle.door.specs.Looks.{look_of}
use Rattle.dom_semantics.specs.Things.{thing_of, is_actor}
use Rattle.dom_semantics.specs.Fits.{is_request, is_serve}
use Rattle.dom_semantics.specs.HostCells.{mark_has_owners}
use Rattle.dom_semantics.specs.TargetReplies.{dispatch_refusal}
use Rattle.dom_semantics.specs.Stage.{Stage, Setting}
use Rattle.dom_semantics.specs.StageOf.{stage_of}
use Rattle.dom_semantics.specs.Truth.{IsTrueBuild, MayAnswer, has_all}
use Rattle.js_semantics.specs.Machine.{Machine}
use Rattle.js_semantics.specs.Solo.{Program, Awaits}
use Rattle.js_semantics.specs.Entries.{beginning, enters}
use Rattle.solo_model.specs.Acts.{Setups, zones_of}
use Rattle.solo_model.specs.ActorView.{met_of, view_of}
use Rattle.solo_model.specs.MachineStates.{Reaches}
use Rattle.solo_model.specs.MarkValues.{serve_values, serve_keys, answer_values, answer_keys, are_there, are_short, objects_in, request_objects, answer_objects, answerer, may_name_all}
use Rattle.solo_model.specs.Naming.{named_answer}
use Rattle.solo_model.specs.Openings.{IsClosed}
use Rattle.solo_model.specs.Shown.{peeked_answer, peeked_keys_answer}
use Rattle.solo_model.specs.WaysOut.{IsWayOutOrStopped}

-- ---- looks

abbrev pub is_xray : Look → Bool
is_xray Xray = true
is_xray look = false

abbrev pub is_denied : Answer → Bool
is_denied Denied = true
is_denied answer = false

abbrev pub has_xray : Setups → Actor → Actor → Bool
has_xray setups i owner = is_xray (look_of (setups i).zone (setups owner).zone (is_actor i owner))

-- the owner's own machine waits so after all that it was shown, and the look at it is answered so
pub record IsLook (setups : Setups) (before : List Mark) (owner : Actor) (look : Machine → Answer) (answer : Answer) : Type 0 where
  pub levels : ℕ
  pub machine : Machine
  pub back : Machine → Answer → Program Machine
  pub waits : Reaches enters (beginning (setups owner)) (view_of owner before) (Awaits levels machine back)
  pub shown : named_answer owner (met_of owner before) answer ≡ look machine

-- a look is denied just where it is no Xray; while the owner is closed it tells what the owner's own machine shows
pub record IsTrueLook (setups : Setups) (before : List Mark) (i owner : Actor) (look : Machine → Answer) (answer : Answer) : Type 0 where
  pub denied : is_denied answer ≡ not (has_xray setups i owner)
  pub told : has_xray setups i owner ≡ true → IsClosed (zones_of setups) owner before → IsLook setups before owner look answer

-- ---- ways out

-- an object is asked for without its Xray: a thing, or an object of the page (MDN, Xray vision, wrappedJSObject)
abbrev pub is_waivable : Value → Bool
is_waivable (ThingValue thing) = true
is_waivable (Cell owner place shape waived) = is_actor owner PAGE && not waived
is_waivable v = false

abbrev pub is_reach_request : ReachOp → Bool
is_reach_request (Waive v) = is_waivable v
is_reach_request operation = true

-- ---- requests

-- what is told of a look and of a way out besides the table; a member's answer is told whole by its reply
abbrev pub IsTrueAnswer : Setups → List Mark → Actor → Request → Answer → Type 0
IsTrueAnswer setups before i (Native member thing arguments) answer = Unit {0}
IsTrueAnswer setups before i (Peek owner place key) answer = IsTrueLook setups before i owner (λ m. peeked_answer m place key) answer
IsTrueAnswer setups before i (PeekKeys owner place) answer = IsTrueLook setups before i owner (λ m. peeked_keys_answer m place) answer
IsTrueAnswer setups before i (Reach operation) answer = (is_reach_request operation ≡ true) × IsWayOutOrStopped i operation answer

-- Request and answer fit the table, the asker has the grant, and what they name is there. The request names no object that the asker can't have,
-- and the answer none that the one can't have who holds it.
pub record IsTrueAsk (setups : Setups) (setting : Setting) (before : List Mark) (i : Actor) (request : Request) (answer : Answer) : Type 0 where
  pub possible : MayAnswer setting.origin (stage_of setting before) i request answer
  pub answered : IsTrueAnswer setups before i request answer
  pub names : may_name_all (zones_of setups) before i (request_objects request) ≡ true
  pub tells : may_name_all (zones_of setups) before (answerer i request) (answer_objects request answer) ≡ true

-- ---- dispatches and services

-- the event and the target are there, and nothing refuses the dispatch
pub record MayDispatch (s : Stage) (i : Actor) (event : ℕ) (target : Thing) : Type 0 where
  pub fits : is_request i EventTargetDispatchEvent target (ThingValue (thing_of EventKind event) ∷ []) ≡ true
  pub there : has_all s target (ThingValue (thing_of EventKind event) ∷ []) ≡ true
  pub free : dispatch_refusal s i event ≡ None

-- an actor has another serve: it fits the table, and what it names is there
pub record IsTrueServe (setups : Setups) (s : Stage) (before : List Mark) (i owner : Actor) (v : Value) (operation : ServeOp) : Type 0 where
  pub fits : is_serve i owner v operation ≡ true
  pub there : are_there s (v ∷ serve_values operation) ≡ true
  pub keys : are_short (serve_keys operation) ≡ true
  pub named : may_name_all (zones_of setups) before i (objects_in (v ∷ serve_values operation)) ≡ true

-- an operation on an object gives a value, keys or a throw, or it was stopped
abbrev pub is_served : Answer → Bool
is_served (ValueAnswer v) = true
is_served (Keys keys) = true
is_served (Thrown v) = true
is_served Stopped = true
is_served answer = false

-- what is served is there
pub record IsTrueServed (setups : Setups) (s : Stage) (before : List Mark) (i : Actor) (answer : Answer) : Type 0 where
  pub kind : is_served answer ≡ true
  pub there : are_there s (answer_values answer) ≡ true
  pub keys : are_short (answer_keys answer) ≡ true
  pub named : may_name_all (zones_of setups) before i (objects_in (answer_values answer)) ≡ true

-- ---- marks

-- what a mark says is true after the marks before it; of turns, entries, their ends and what a dispatch gives back the order of marks decides
abbrev pub IsTrueAfter : Setups → Setting → List Mark → Mark → Type 0
IsTrueAfter setups setting before (Build request) = IsTrueBuild setting.origin (stage_of setting before) request
IsTrueAfter setups setting before (Ask i request answer) = IsTrueAsk setups setting before i request answer
IsTrueAfter setups setting before (Dispatch i event target) = MayDispatch (stage_of setting before) i event target
IsTrueAfter setups setting before (Serve i owner v operation) = IsTrueServe setups (stage_of setting before) before i owner v operation
IsTrueAfter setups setting before (Served i answer) = IsTrueServed setups (stage_of setting before) before i answer
IsTrueAfter setups setting before mark = Unit {0}

-- and nothing that it names is a cell of the host, whose number stands for an actor's own cells in what that one sees
abbrev pub IsTrueMark : Setups → Setting → List Mark → Mark → Type 0
IsTrueMark setups setting before mark = IsTrueAfter setups setting before mark × (mark_has_owners mark ≡ true)

unfoldable pub AreTrueMarks : Setups → Setting → List Mark → List Mark → Type 0
AreTrueMarks setups setting before [] = Unit {0}
AreTrueMarks setups setting before (mark ∷ marks) =
    IsTrueMark setups setting before mark × AreTrueMarks setups setting (before ++ mark ∷ []) marks

-- all that the journal says is true
abbrev pub IsGenuine : Setups → Setting → List Mark → Type 0
IsGenuine setups setting marks = AreTrueMarks setups setting [] marks
