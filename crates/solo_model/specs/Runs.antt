-- Small runs, by which turns are computed: what the host does by the definitions, where each entry does what it is said to do.
use Rattle.std.specs.Prelude.{ℕ, List, [], ◌∷◌, ◌++◌, Option, Some, None}
use Prim.Native.Nat.{zero, suc}
use Rattle.door.specs.declared.values.Actor.{Actor}
use Rattle.door.specs.declared.values.Thing.{Thing}
use Rattle.door.specs.declared.values.Value.TheVariants as value
use Rattle.door.specs.declared.members.Member.TheVariants as m
use Rattle.door.specs.declared.requests.Request.TheVariants.{Native}
use Rattle.door.specs.declared.requests.Answer.{Answer}
use Rattle.door.specs.declared.requests.Answer.TheVariants as answer
use Rattle.door.specs.declared.requests.ErrorKind.{ErrorKind}
use Rattle.door.specs.declared.marks.Task.{Task}
use Rattle.door.specs.declared.marks.Entry.{Entry}
use Rattle.door.specs.declared.marks.Outcome.{Outcome}
use Rattle.door.specs.declared.marks.Mark.{Mark}
use Rattle.door.specs.declared.marks.Mark.TheVariants.{Turn, Enter, Ask, Dispatch, Leave}
use Rattle.dom_semantics.specs.Plays.{Deed, Asks, Sends, answer_in, event_thing}
use Rattle.dom_semantics.specs.TargetReplies.{dispatch_refusal}
use Rattle.dom_semantics.specs.Stage.{Stage, Setting}
use Rattle.dom_semantics.specs.StageOf.{stage_of}
use Rattle.dom_semantics.specs.Truth.{reply_of}
use Rattle.solo_model.specs.Given.{Given, setting_of}
use Rattle.solo_model.specs.NextMark.{Next, Exactly, ByActor, ByReturn, Nothing, next_of}

-- what an entry does, and how it ends
pub record Part : Type 0 where
  pub deeds : List Deed
  pub outcome : Outcome
  pub units : ℕ

abbrev pub Behaviour : Type 0
Behaviour = Actor → Entry → Part

-- the marks so far, and what the unfinished entries still do, the innermost first
pub record Run : Type 0 where
  pub marks : List Mark
  pub parts : List Part

abbrev pub marked : Mark → Run → Run
marked mark r = record r { marks = r.marks ++ mark ∷ [] }

abbrev pub entered : Behaviour → Mark → Run → Run
entered behaviour (Enter i entry) r = record r { parts = behaviour i entry ∷ r.parts }
entered behaviour mark r = r

abbrev pub sends : Actor → ℕ → Thing → Option ErrorKind → Run → Run
sends i event target None r = marked (Dispatch i event target) r
sends i event target (Some reason) r =
    marked (Ask i (Native m.EventTargetDispatchEvent target (value.Thing (event_thing event) ∷ [])) (answer.Throw reason)) r

abbrev pub does : Setting → Stage → Actor → Deed → Run → Run
does setting s i (Asks member thing arguments) r =
    marked (Ask i (Native member thing arguments) (answer_in (reply_of setting.origin s i member thing arguments))) r
does setting s i (Sends event target) r = sends i event target (dispatch_refusal s i event) r

abbrev pub goes_on : Setting → Actor → List Part → Part → Run → List Deed → Run
goes_on setting i outer part r [] = record (marked (Leave i part.outcome part.units) r) { parts = outer }
goes_on setting i outer part r (deed ∷ deeds) =
    does setting (stage_of setting r.marks) i deed (record r { parts = record part { deeds = deeds } ∷ outer })

abbrev pub acts : Setting → Actor → Run → List Part → Run
acts setting i r [] = r
acts setting i r (part ∷ outer) = goes_on setting i outer part r part.deeds

-- a run is a mark further, it is at its end, or no part says what comes, as of a service
pub data Pace : Type 0 where
  Further : Run → Pace
  Ended : Pace
  Untold : Pace

abbrev pub goes : Behaviour → Setting → Run → Next → Pace
goes behaviour setting r (Exactly mark) = Further (entered behaviour mark (marked mark r))
goes behaviour setting r (ByActor i entry) = Further (acts setting i r r.parts)
goes behaviour setting r (ByReturn i outcome) = Untold
goes behaviour setting r Nothing = Ended

abbrev pub next_in_run : Given → Setting → Behaviour → Run → Pace
next_in_run given setting behaviour r = goes behaviour setting r (next_of given setting r.marks)

-- the journal of a run that is at its end, or else what comes of the run that is further
abbrev pub or_end : List Mark → Pace → (Run → Option (List Mark)) → Option (List Mark)
or_end marks (Further r) later = later r
or_end marks Ended later = Some marks
or_end marks Untold later = None

-- at most so many marks are made; none where the run isn't at its end then
unfoldable pub ran : ℕ → Given → Behaviour → Run → Option (List Mark)
ran zero given behaviour r = None
ran (suc n) given behaviour r = or_end r.marks (next_in_run given (setting_of given r.marks) behaviour r) (λ next. ran n given behaviour next)

abbrev pub nothing_yet : Run
nothing_yet = record { marks = []; parts = [] }

abbrev pub journal_of : ℕ → Given → Behaviour → Option (List Mark)
journal_of n given behaviour = ran n given behaviour nothing_yet

-- the tasks of a journal
abbrev pub tasks_in : List Mark → List Task
tasks_in [] = []
tasks_in (Turn task ∷ marks) = task ∷ tasks_in marks
tasks_in (mark ∷ marks) = tasks_in marks

-- the entries of a journal
abbrev pub entries_in : List Mark → List (Actor × Entry)
entries_in [] = []
entries_in (Enter i entry ∷ marks) = (i, entry) ∷ entries_in marks
entries_in (mark ∷ marks) = entries_in marks

-- the answers to a journal's requests, in order
abbrev pub answers_in : List Mark → List Answer
answers_in [] = []
answers_in (Ask i request answer ∷ marks) = answer ∷ answers_in marks
answers_in (mark ∷ marks) = answers_in marks
