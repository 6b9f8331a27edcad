-- Which task is next (this project's own, after HTML, 8.1.7 Event loops, and the Greasemonkey manual, @run-at).
use Rattle.std.specs.Prelude.{◌+◌, ℕ, Bool, true, false, List, [], ◌∷◌, ◌++◌, length, nat_lt, filter, slice_get, if◌then◌else◌, Option, Some, None}
use Rattle.std.specs.Option.{option_map_or}
use Prim.Native.Nat.{suc}
use Rattle.door.specs.declared.limits.TheConstants as limits
use Rattle.door.specs.declared.marks.Task.{Task}
use Rattle.door.specs.declared.marks.Task.TheVariants.{Start, Piece as PieceTask, Ready, Load, Line as LineTask, Timer as TimerTask}
use Rattle.dom_semantics.specs.declared.timers.Timer.{Timer}
use Rattle.dom_semantics.specs.Timers.{next_due}
use Rattle.solo_model.specs.Given.{Piece, Moment, DocumentStart, DocumentEnd, DocumentIdle, Starter, Userscript, Line, Click, Input, Event, Tick, Given, line_number, clock_before}

-- the most tasks of a run; named here again so that proofs don't compute it
unfoldable pub TASK_LIMIT : ℕ
TASK_LIMIT = limits.TASK_LIMIT

-- ---- before the scenario

abbrev pub is_moment : Moment → Moment → Bool
is_moment DocumentStart DocumentStart = true
is_moment DocumentEnd DocumentEnd = true
is_moment DocumentIdle DocumentIdle = true
is_moment a b = false

abbrev pub starts_then : Moment → Option Starter → Bool
starts_then moment starter = option_map_or (λ s. is_moment s.moment moment) starter false

-- the starts of a moment, in the order of file names, from the n-th script on
abbrev pub starts_at : Moment → ℕ → List Userscript → List Task
starts_at moment n [] = []
starts_at moment n (script ∷ scripts) =
    if starts_then moment script.starter then Start n ∷ starts_at moment (n + 1) scripts else starts_at moment (n + 1) scripts

abbrev pub pieces_from : ℕ → List Piece → List Task
pieces_from n [] = []
pieces_from n (piece ∷ pieces) = PieceTask n ∷ pieces_from (n + 1) pieces

-- document-start, the page in pieces, DOMContentLoaded, document-end, load, document-idle (HTML, The end)
abbrev pub first_tasks : Given → List Task
first_tasks given =
    starts_at DocumentStart 0 given.scripts ++ (pieces_from 0 given.pieces ++ (Ready ∷ (starts_at DocumentEnd 0 given.scripts
    ++ (Load ∷ starts_at DocumentIdle 0 given.scripts))))

-- ---- the scenario

-- a timer's task, or else what comes later
abbrev pub timer_or : Option Timer → Option Task → Option Task
timer_or (Some t) later = Some (TimerTask t.actor t.number)
timer_or None later = later

-- the next task of these lines, where the clock begins so: the first line that is a task, or a timer that is due at a tick before it
abbrev pub task_in : List Timer → ℕ → List Line → Option Task
task_in waiting clock [] = None
task_in waiting clock (Click k chains ∷ lines) = Some (LineTask k)
task_in waiting clock (Input k chains text ∷ lines) = Some (LineTask k)
task_in waiting clock (Event k chains kind ∷ lines) = Some (LineTask k)
task_in waiting clock (Tick k n ∷ lines) = timer_or (next_due waiting (clock + n)) (task_in waiting (clock + n) lines)

-- the lines behind that of a number
abbrev pub lines_after : ℕ → List Line → List Line
lines_after k lines = filter (λ line. nat_lt k (line_number line)) lines

-- ---- the next task

-- the next task where so many turns were made, the last line of them was that one, 0 for none, and these timers wait; a tick has no mark, so
-- the ticks behind that line are gone through again
abbrev pub next_task : Given → (turns line : ℕ) → List Timer → Option Task
next_task given turns line waiting =
    if nat_lt turns (length (first_tasks given)) then slice_get (first_tasks given) turns
    else task_in waiting (clock_before (suc line) given.lines) (lines_after line given.lines)
