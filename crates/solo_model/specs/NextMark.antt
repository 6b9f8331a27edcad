-- Which mark may come next, and so which journals are lawful; this project's own.
use Rattle.std.specs.Prelude.{◌≡◌, ℕ, Bool, true, false, not, List, [], ◌∷◌, ◌++◌, length, nat_lt, slice_get, take, if◌then◌else◌, Option, Some, None, IsSome}
use Rattle.std.specs.Option.{option_map_or}
use Rattle.door.specs.declared.limits.TheConstants.{MARK_LIMIT}
use Rattle.door.specs.declared.values.TheConstants.{PAGE}
use Rattle.door.specs.declared.values.Actor.{Actor}
use Rattle.door.specs.declared.values.Value.TheVariants.{Bool as BoolValue}
use Rattle.door.specs.declared.values.Kind.TheVariants.{Event as EventKind}
use Rattle.door.specs.declared.requests.Answer.{Answer}
use Rattle.door.specs.declared.requests.Answer.TheVariants.{Value as ValueAnswer, Thrown, Stopped}
use Rattle.door.specs.declared.marks.Task.{Task}
use Rattle.door.specs.declared.marks.Entry.{Entry}
use Rattle.door.specs.declared.marks.Entry.TheVariants.{Script, Listener, Serve as ServeEntry}
use Rattle.door.specs.declared.marks.Outcome.{Outcome}
use Rattle.door.specs.declared.marks.Outcome.TheVariants.{Throw, Stop, Syntax}
use Rattle.door.specs.declared.marks.Mark.{Mark}
use Rattle.door.specs.declared.marks.Mark.TheVariants.{Turn, Enter, Ask, Dispatch, Back, Leave, Serve, Served}
use Rattle.dom_semantics.specs.Things.{thing_of}
use Rattle.dom_semantics.specs.Events.{event_at}
use Rattle.dom_semantics.specs.Walks as walk
use Rattle.dom_semantics.specs.Stage.{Stage, Setting}
use Rattle.dom_semantics.specs.StageOf.{Course, course_of, stage_of, first_step}
use Rattle.solo_model.specs.Given.{Given, setting_of, zone_of}
use Rattle.solo_model.specs.Tasks.{TASK_LIMIT, next_task}
use Rattle.solo_model.specs.Nesting.{Unfinished, Running, Walking, Calling, Returning, Progress, progress_of}
use Rattle.solo_model.specs.Turns.{Step, steps_of, mark_of}
use Rattle.solo_model.specs.Openings.{has_opened}

-- what comes next: exactly this mark; whatever the actor does whose entry runs; the answer to a service; nothing
pub data Next : Type 0 where
  Exactly : Mark → Next
  ByActor : Actor → Entry → Next
  ByReturn : Actor → Outcome → Next
  Nothing : Next

-- ---- the host

abbrev pub turn_or_nothing : ℕ → Option Task → Next
turn_or_nothing turns None = Nothing
turn_or_nothing turns (Some task) = if nat_lt turns TASK_LIMIT then Exactly (Turn task) else Nothing

-- the task that waits
abbrev pub waiting_task : Given → Stage → Progress → Option Task
waiting_task given s p = next_task given p.turns p.line s.timers.waiting

-- the host's next step, or else the next turn
abbrev pub step_or_turn : Given → Stage → Progress → Option Step → Next
step_or_turn given s p (Some step) = Exactly (mark_of s.nodes step)
step_or_turn given s p None = turn_or_nothing p.turns (waiting_task given s p)

-- the steps of the turn, by the stage before it
abbrev pub turn_steps : Given → Stage → Option Task → List Step
turn_steps given before task = option_map_or (λ t. steps_of given before t) task []

abbrev pub host_next : Given → Stage → Stage → Progress → Next
host_next given before s p = step_or_turn given s p (slice_get (turn_steps given before p.task) p.made)

-- ---- a walk

-- the due listener, or else the dispatch comes back: false where the event was prevented (DOM, dispatchEvent)
abbrev pub walk_next : Stage → Actor → ℕ → Option walk.Step → Next
walk_next s i event None = Exactly (Back i (ValueAnswer (BoolValue (not (event_at s.events event).prevented))))
walk_next s i event (Some step) =
    Exactly (Enter step.due.owner (Listener step.due.callback (thing_of EventKind event) step.due.visit.current))

-- ---- what comes next, where the stage was that before the turn and the course is this now

abbrev pub next_in : Given → Stage → Course → Progress → List Unfinished → Next
next_in given before now p [] = host_next given before now.stage p
next_in given before now p (Running i entry ∷ outer) = ByActor i entry
next_in given before now p (Walking i event ∷ outer) = walk_next now.stage i event (first_step now.stage now.walks)
next_in given before now p (Calling i owner value operation ∷ outer) = Exactly (Enter owner (ServeEntry value operation))
next_in given before now p (Returning i outcome ∷ outer) = ByReturn i outcome

-- by the marks alone; the setting is the run's
abbrev pub next_after : Given → Setting → List Mark → Progress → Next
next_after given setting marks p = next_in given (stage_of setting (take p.before marks)) (course_of setting marks) p p.unfinished

abbrev pub next_of : Given → Setting → List Mark → Next
next_of given setting marks = next_after given setting marks (progress_of marks)

-- ---- what is allowed

-- the page's own scripts alone have faults of syntax: other entries read no text, and a userscript that has one is refused before the run
abbrev pub MayEnd : Actor → Entry → Outcome → Type 0
MayEnd i (Script text) (Syntax at name) = i ≡ PAGE
MayEnd i entry (Syntax at name) = ⊥
MayEnd i entry outcome = Unit {0}

-- the actor asks, dispatches, has another serve, or leaves; neither side of a service is closed
abbrev pub IsBy : Given → List Mark → Actor → Entry → Mark → Type 0
IsBy given before i entry (Ask j request answer) = j ≡ i
IsBy given before i entry (Dispatch j event target) = j ≡ i
IsBy given before i entry (Leave j outcome units) = (j ≡ i) × MayEnd i entry outcome
IsBy given before i entry (Serve j owner value operation) =
    (j ≡ i) × (has_opened (zone_of given) j before ≡ true) × (has_opened (zone_of given) owner before ≡ true)
IsBy given before i entry mark = ⊥

abbrev pub is_stop : Outcome → Bool
is_stop (Stop limit) = true
is_stop outcome = false

abbrev pub is_throw : Outcome → Bool
is_throw (Throw text) = true
is_throw outcome = false

abbrev pub is_stopped : Answer → Bool
is_stopped Stopped = true
is_stopped answer = false

abbrev pub is_thrown : Answer → Bool
is_thrown (Thrown value) = true
is_thrown answer = false

-- what a service answers: Stopped just where its entry was stopped, Thrown just where it threw
abbrev pub IsReturn : Actor → Outcome → Mark → Type 0
IsReturn i outcome (Served j answer) = (j ≡ i) × (is_stopped answer ≡ is_stop outcome) × (is_thrown answer ≡ is_throw outcome)
IsReturn i outcome mark = ⊥

abbrev pub Allows : Given → List Mark → Next → Mark → Type 0
Allows given before (Exactly due) mark = mark ≡ due
Allows given before (ByActor i entry) mark = IsBy given before i entry mark
Allows given before (ByReturn i outcome) mark = IsReturn i outcome mark
Allows given before Nothing mark = ⊥

-- ---- lawful journals

unfoldable pub AreAllowed : Given → Setting → List Mark → List Mark → Type 0
AreAllowed given setting before [] = Unit {0}
AreAllowed given setting before (mark ∷ marks) =
    Allows given before (next_of given setting before) mark × AreAllowed given setting (before ++ mark ∷ []) marks

-- each mark may come where it stands: the journal of a run, which may have been cut off
abbrev pub IsLawfulSoFar : Given → List Mark → Type 0
IsLawfulSoFar given marks = AreAllowed given (setting_of given marks) [] marks

-- and nothing comes next: the journal of a whole run
pub record IsLawful (given : Given) (marks : List Mark) : Type 0 where
  pub so_far : IsLawfulSoFar given marks
  pub whole : next_of given (setting_of given marks) marks ≡ Nothing

-- the run has as many tasks as the limit, and a further one waits
pub record IsCutByTasks (given : Given) (marks : List Mark) : Type 0 where
  pub lawful : IsLawful given marks
  pub turns : (progress_of marks).turns ≡ TASK_LIMIT
  pub waits : IsSome (waiting_task given (stage_of (setting_of given marks) marks) (progress_of marks))

-- the run has as many marks as the limit, and another is due
pub record IsCutByMarks (given : Given) (marks : List Mark) : Type 0 where
  pub so_far : IsLawfulSoFar given marks
  pub full : length marks ≡ MARK_LIMIT
  pub due : next_of given (setting_of given marks) marks ≡ Nothing → ⊥
