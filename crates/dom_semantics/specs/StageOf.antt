-- The stage after a journal: the fold of its marks; this project's own in form.
use Rattle.std.specs.Prelude.{ℕ, Bool, true, false, not, List, [], ◌∷◌, ◌++◌, drop, nat_eq, if◌then◌else◌, Option, Some, None}
use Prim.Native.Nat.{suc}
use Rattle.door.specs.declared.values.Actor.{Actor}
use Rattle.door.specs.declared.values.Thing.{Thing}
use Rattle.door.specs.declared.requests.Request.{Request}
use Rattle.door.specs.declared.requests.Request.TheVariants.{Native}
use Rattle.door.specs.declared.requests.Answer.{Answer}
use Rattle.door.specs.declared.requests.Answer.TheVariants.{Throw}
use Rattle.door.specs.declared.marks.Task.{Task}
use Rattle.door.specs.declared.marks.Task.TheVariants.{Ready, Load, Timer}
use Rattle.door.specs.declared.marks.Entry.{Entry}
use Rattle.door.specs.declared.marks.Entry.TheVariants.{Listener}
use Rattle.door.specs.declared.marks.Mark.{Mark}
use Rattle.door.specs.declared.marks.Mark.TheVariants.{Turn, Build, Enter, Ask, Dispatch, Back}
use Rattle.dom_semantics.specs.Forest.{the_host}
use Rattle.dom_semantics.specs.Events.{event_at, with_event, event_begun, event_visiting, event_ended}
use Rattle.dom_semantics.specs.Timers.{timer_of, timer_taken}
use Rattle.dom_semantics.specs.Walks.{Walk, Step, step_of, walk_begun}
use Rattle.dom_semantics.specs.declared.listeners.Visit.{Visit}
use Rattle.dom_semantics.specs.declared.readiness.Readiness.TheVariants.{Interactive, Complete}
use Rattle.dom_semantics.specs.Stage.{Stage, Origin, Setting, start, with_timers}
use Rattle.dom_semantics.specs.TargetReplies.{is_host}
use Rattle.dom_semantics.specs.Reply.{Reply}
use Rattle.dom_semantics.specs.Truth.{reply_of}

-- ---- requests

-- the stage after a reply, or else the stage as it is
abbrev pub next_or : Option Reply → Stage → Stage
next_or None s = s
next_or (Some reply) s = reply.next

-- what the host makes; a request that is refused changes nothing, and one that has no reply is no mark of a run (Truth, IsTrueBuild)
abbrev pub built : Origin → Stage → Request → Stage
built given s (Native member thing arguments) = next_or (reply_of given s the_host member thing arguments) s
built given s request = s

-- an answer that refuses its request
abbrev pub is_refusal : Answer → Bool
is_refusal (Throw reason) = true
is_refusal answer = false

abbrev pub asked : Origin → Stage → Actor → Request → Answer → Stage
asked given s i (Native member thing arguments) answer = if is_refusal answer then s else next_or (reply_of given s i member thing arguments) s
asked given s i request answer = s

-- ---- turns

abbrev pub turned_by : Stage → Task → Stage
turned_by s Ready = record s { readiness = Interactive }
turned_by s Load = record s { readiness = Complete }
turned_by s (Timer i number) = with_timers s (timer_taken s.timers (timer_of s.timers i number))
turned_by s task = s

-- no dispatch was made in this turn yet
abbrev pub turned : Stage → Task → Stage
turned s task = record (turned_by s task) { dispatched = [] }

-- ---- dispatches

-- the stage, and what is left of the walks of the dispatches that haven't come back, the innermost first
pub record Course : Type 0 where
  pub stage : Stage
  pub walks : List Walk

-- an event is dispatched
abbrev pub dispatched : Stage → Actor → ℕ → Thing → Stage
dispatched s i event target =
    record s {
      events = with_event s.events event (event_begun target (not (is_host i)) (event_at s.events event));
      dispatching = i ∷ s.dispatching;
      dispatched = s.dispatched ++ i ∷ [];
    }

-- its walk
abbrev pub walk_of : Stage → ℕ → Thing → Walk
walk_of s event target = walk_begun s.nodes event target (event_at s.events event).form.bubbles

-- what is due of a walk
abbrev pub step_in : Stage → Walk → Option Step
step_in s walk = step_of s.listeners.registered (event_at s.events walk.event) walk

-- a listener of the event's walk is called at a visit
abbrev pub visited : Stage → ℕ → Visit → Stage
visited s event visit = record s { events = with_event s.events event (event_visiting visit (event_at s.events event)) }

-- the walk of the event has ended, and its dispatch comes back
abbrev pub ended : Stage → ℕ → Stage
ended s event = record s { events = with_event s.events event (event_ended (event_at s.events event)); dispatching = drop 1 s.dispatching }

abbrev pub stepped : Stage → Walk → List Walk → Option Step → Course
stepped s walk outer None = record { stage = s; walks = walk ∷ outer }
stepped s walk outer (Some step) = record { stage = visited s walk.event step.due.visit; walks = step.left ∷ outer }

-- the due listener of the innermost walk is called
abbrev pub listener_entered : Stage → List Walk → Course
listener_entered s [] = record { stage = s; walks = [] }
listener_entered s (walk ∷ outer) = stepped s walk outer (step_in s walk)

abbrev pub entered : Stage → List Walk → Entry → Course
entered s walks (Listener callback event current) = listener_entered s walks
entered s walks entry = record { stage = s; walks = walks }

-- the innermost dispatch comes back
abbrev pub came_back : Stage → List Walk → Course
came_back s [] = record { stage = s; walks = [] }
came_back s (walk ∷ outer) = record { stage = ended s walk.event; walks = outer }

-- ---- the fold

-- one mark
abbrev pub after : Setting → Stage → List Walk → Mark → Course
after given s walks (Turn task) = record { stage = turned s task; walks = walks }
after given s walks (Build request) = record { stage = built given.origin s request; walks = walks }
after given s walks (Ask i request answer) = record { stage = asked given.origin s i request answer; walks = walks }
after given s walks (Dispatch i event target) = record { stage = dispatched s i event target; walks = walk_of s event target ∷ walks }
after given s walks (Enter i entry) = entered s walks entry
after given s walks (Back i answer) = came_back s walks
after given s walks mark = record { stage = s; walks = walks }

-- the clock that the host set after this number of marks, or else the present one
abbrev pub clock_at : List (ℕ × ℕ) → ℕ → ℕ → ℕ
clock_at [] at clock = clock
clock_at (c ∷ cs) at clock = clock_at cs at (if nat_eq c.0 at then c.1 else clock)

abbrev pub timed : Setting → ℕ → Stage → Stage
timed given at s = with_timers s (record s.timers { clock = clock_at given.clocks at s.timers.clock })

unfoldable pub course_from : Setting → ℕ → Course → List Mark → Course
course_from given at c [] = record c { stage = timed given at c.stage }
course_from given at c (mark ∷ marks) = course_from given (suc at) (after given (timed given at c.stage) c.walks mark) marks

abbrev pub begun : Setting → Course
begun given = record { stage = start given; walks = [] }

-- the course of a journal
abbrev pub course_of : Setting → List Mark → Course
course_of given marks = course_from given 0 (begun given) marks

-- the stage after it
abbrev pub stage_of : Setting → List Mark → Stage
stage_of given marks = (course_of given marks).stage

-- ---- what is due

abbrev pub first_step : Stage → List Walk → Option Step
first_step s [] = None
first_step s (walk ∷ outer) = step_in s walk

-- the listener that is due next of the innermost dispatch that hasn't come back; none at the end of its walk
abbrev pub due_of : Setting → List Mark → Option Step
due_of given marks = first_step (course_of given marks).stage (course_of given marks).walks
