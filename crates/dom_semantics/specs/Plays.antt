-- Small plays, by which the order of events is computed: who is called where, when each callback does what it is said to do.
use Rattle.std.specs.Prelude.{ℕ, Bool, true, false, not, List, [], ◌∷◌, ◌++◌, map, codes, Option, Some, None}
use Prim.Native.Nat.{zero, suc}
use Rattle.door.specs.declared.values.Actor.{Actor}
use Rattle.door.specs.declared.values.Kind.TheVariants.{Event as EventKind}
use Rattle.door.specs.declared.values.Thing.{Thing}
use Rattle.door.specs.declared.values.Value.{Value}
use Rattle.door.specs.declared.values.Value.TheVariants as value
use Rattle.door.specs.declared.members.Member.{Member}
use Rattle.door.specs.declared.members.Member.TheVariants as m
use Rattle.door.specs.declared.requests.Request.TheVariants.{Native}
use Rattle.door.specs.declared.requests.Answer.{Answer}
use Rattle.door.specs.declared.requests.Answer.TheVariants as answer
use Rattle.door.specs.declared.requests.ErrorKind.{ErrorKind}
use Rattle.door.specs.declared.marks.Mark.{Mark}
use Rattle.door.specs.declared.marks.Mark.TheVariants.{Enter, Ask, Dispatch, Back, Leave}
use Rattle.door.specs.declared.marks.Entry.TheVariants.{Listener}
use Rattle.door.specs.declared.marks.Outcome.TheVariants.{Done}
use Rattle.dom_semantics.specs.Things.{thing_of}
use Rattle.dom_semantics.specs.Events.{event_at}
use Rattle.dom_semantics.specs.Walks.{Step, Walk}
use Rattle.dom_semantics.specs.SelectorReadingModel.{read_selector}
use Rattle.dom_semantics.specs.Stage.{Stage, Setting}
use Rattle.dom_semantics.specs.TargetReplies.{dispatch_refusal}
use Rattle.dom_semantics.specs.Reply.{Reply}
use Rattle.dom_semantics.specs.Truth.{reply_of}
use Rattle.dom_semantics.specs.StageOf.{after, first_step}

-- what an actor does: it asks, or it dispatches an event at a target
pub data Deed : Type 0 where
  Asks : Member → Thing → List Value → Deed
  Sends : ℕ → Thing → Deed

-- what comes to pass: a callback is called, on a thing in a phase; a dispatch comes back; a request that isn't plainly done is answered
pub data Passed : Type 0 where
  Called : ℕ → Thing → ℕ → Passed
  CameBack : Bool → Passed
  Answered : Answer → Passed

pub data Work : Type 0 where
  Do : Actor → Deed → Work
  Walking : Actor → Work
  Leaving : Actor → Work

pub record Play : Type 0 where
  pub marks : List Mark
  pub stage : Stage
  pub walks : List Walk
  pub passed : List Passed

abbrev pub given : Setting
given = record { origin = record { address = codes "http://example.com/"; owners = []; grants = []; read_selector = read_selector }; stores = []; clocks = [] }

abbrev pub marked : Mark → Play → Play
marked mark p = record p { marks = p.marks ++ mark ∷ []; stage = (after given p.stage p.walks mark).stage; walks = (after given p.stage p.walks mark).walks }

abbrev pub noted : Passed → Play → Play
noted passed p = record p { passed = p.passed ++ passed ∷ [] }

-- the answer of a request; a play asks for nothing that has none
abbrev pub answer_in : Option Reply → Answer
answer_in None = answer.Stopped
answer_in (Some reply) = reply.answer

abbrev pub true_answer : Play → Actor → Member → Thing → List Value → Answer
true_answer p i member thing arguments = answer_in (reply_of given.origin p.stage i member thing arguments)

-- nothing and a thing are plain
abbrev pub is_plain_value : Value → Bool
is_plain_value value.Undefined = true
is_plain_value (value.Thing thing) = true
is_plain_value v = false

abbrev pub is_plain : Answer → Bool
is_plain (answer.Value v) = is_plain_value v
is_plain a = false

abbrev pub noted_answer : Bool → Answer → Play → Play
noted_answer true a p = p
noted_answer false a p = noted (Answered a) p

abbrev pub asked_of : Actor → Member → Thing → List Value → Answer → Play → Play
asked_of i member thing arguments a p = noted_answer (is_plain a) a (marked (Ask i (Native member thing arguments) a) p)

abbrev pub event_thing : ℕ → Thing
event_thing n = thing_of EventKind n

abbrev pub refused_dispatch : Actor → ℕ → Thing → ErrorKind → Play → Play
refused_dispatch i event target reason p = asked_of i m.EventTargetDispatchEvent target (value.Thing (event_thing event) ∷ []) (answer.Throw reason) p

abbrev pub is_free : Play → ℕ → Bool
is_free p event = not (event_at p.stage.events event).prevented

-- the work that is left
pub record Left : Type 0 where
  pub play : Play
  pub work : List Work

abbrev pub left : Play → List Work → Left
left play work = record { play = play; work = work }

abbrev pub begins : Actor → ℕ → Thing → List Work → Play → Option ErrorKind → Left
begins i event target work p None = left (marked (Dispatch i event target) p) (Walking i ∷ work)
begins i event target work p (Some reason) = left (refused_dispatch i event target reason p) work

abbrev pub calls : (ℕ → List Deed) → Actor → ℕ → List Work → Play → Option Step → Left
calls behaviour i event work p None =
    left (noted (CameBack (is_free p event)) (marked (Back i (answer.Value (value.Bool (is_free p event)))) p)) work
calls behaviour i event work p (Some step) =
    left (noted (Called step.due.callback step.due.visit.current step.due.visit.phase)
    (marked (Enter step.due.owner (Listener step.due.callback (event_thing event) step.due.visit.current)) p))
    (map (Do step.due.owner) (behaviour step.due.callback) ++ (Leaving step.due.owner ∷ (Walking i ∷ work)))

-- the event of the innermost dispatch
abbrev pub event_in : List Walk → ℕ
event_in [] = 0
event_in (walk ∷ outer) = walk.event

abbrev pub worked : (ℕ → List Deed) → Work → List Work → Play → Left
worked behaviour (Do i (Asks member thing arguments)) work p = left (asked_of i member thing arguments (true_answer p i member thing arguments) p) work
worked behaviour (Do i (Sends event target)) work p = begins i event target work p (dispatch_refusal p.stage i event)
worked behaviour (Walking i) work p = calls behaviour i (event_in p.walks) work p (first_step p.stage p.walks)
worked behaviour (Leaving i) work p = left (marked (Leave i Done 1) p) work

-- at most so many pieces of work are done, and then nothing is left
unfoldable pub played : ℕ → (ℕ → List Deed) → List Work → Play → Option Play
played zero behaviour [] p = Some p
played zero behaviour (work ∷ works) p = None
played (suc n) behaviour [] p = Some p
played (suc n) behaviour (work ∷ works) p = played n behaviour (worked behaviour work works p).work (worked behaviour work works p).play
