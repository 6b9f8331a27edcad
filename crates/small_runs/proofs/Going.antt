-- Which mark comes next in a small run, and how a mark more leads it on.
use Rattle.std.proofs.Common.{◌≡◌, ◌∙◌, ap, sym, refl, subst, ℕ, ◌+◌, ◌<◌, true, false, List, [], ◌∷◌, ◌++◌, append_assoc, arith, length, nat_lt, slice_get, take, Option, Some, None}
use Rattle.std.proofs.lemmas.Bool.Decides.{nat_tests}
use Rattle.door.specs.declared.values.Actor.{Actor}
use Rattle.door.specs.declared.values.Thing.{Thing}
use Rattle.door.specs.declared.requests.Answer.{Answer}
use Rattle.door.specs.declared.requests.Request.{Request}
use Rattle.door.specs.declared.marks.Task.{Task}
use Rattle.door.specs.declared.marks.Task.TheVariants.{Line, Start, Piece as PieceTask, Ready, Load, Timer}
use Rattle.door.specs.declared.marks.Entry.{Entry}
use Rattle.door.specs.declared.marks.Outcome.{Outcome}
use Rattle.door.specs.declared.marks.Mark.{Mark}
use Rattle.door.specs.declared.marks.Mark.TheVariants.{Turn, Build, Enter, Ask, Dispatch, Back, Leave}
use Rattle.dom_semantics.specs.declared.timers.Timer.{Timer as TimerRecord}
use Rattle.dom_semantics.specs.Stage.{Setting}
use Rattle.dom_semantics.specs.StageOf.{course_of, first_step, stage_of}
use Rattle.solo_model.specs.Given.{Given, origin_of}
use Rattle.solo_model.specs.Nesting.{Progress, Running, Unfinished, Walking, advanced, at_first, progress_of}
use Rattle.solo_model.specs.NextMark.{Allows, AreAllowed, Exactly, MayEnd, Next, Nothing, next_after, next_in, next_of, turn_or_nothing, turn_steps, walk_next}
use Rattle.solo_model.specs.Tasks.{TASK_LIMIT, first_tasks, next_task}
use Rattle.solo_model.specs.Turns.{Step, mark_of, steps_of}
use Rattle.solo_model.proofs.Growing.{allowed-more}
use Rattle.small_runs.proofs.Courses.{IsNoLine, front_is, progress-more, quiet}

-- a run without a scenario, whose store is empty at first
abbrev pub setting : Given → Setting
setting given = quiet (origin_of given)

-- a journal whose marks may come so, and how far it is
pub record Going (given : Given) (marks : List Mark) (p : Progress) : Type 0 where
  pub progress : progress_of marks ≡ p
  pub allowed : AreAllowed given (setting given) [] marks

pub going_first : (given : Given) → Going given [] at_first
unfolding AreAllowed Rattle.solo_model.specs.Nesting.progress_from
going_first given = record { progress = refl; allowed = tt }

pub going-more : (given : Given) (marks : List Mark) (p : Progress) (mark : Mark) → Going given marks p → Allows given marks (next_of given (setting given) marks) mark
    → Going given (marks ++ mark ∷ []) (advanced (length marks) p mark)
going-more given marks p mark g may = record {
  progress = progress-more marks mark ∙ ap (λ q. advanced (length marks) q mark) g.progress;
  allowed = allowed-more given (setting given) [] marks mark g.allowed may;
}

-- what comes next by the progress
next_by : (given : Given) (marks : List Mark) (p : Progress) → Going given marks p
    → next_of given (setting given) marks ≡ next_in given (stage_of (setting given) (take p.before marks)) (course_of (setting given) marks) p p.unfinished
next_by given marks p g = ap (λ q. next_after given (setting given) marks q) g.progress

-- ---- in a turn

abbrev pub at_turn : ℕ → Task → ℕ → ℕ → List Unfinished → Progress
at_turn n task before k unfinished = record { unfinished = unfinished; turns = n + 1; task = Some task; before = before; made = k; line = 0 }

-- the turn of a task began after those marks, of which there are so many turns; the host has made so many steps of it, and this is unfinished
pub record InTurn (given : Given) (before : List Mark) (n : ℕ) (task : Task) (marks : List Mark) (k : ℕ) (unfinished : List Unfinished) : Type 0 where
  pub rest : List Mark
  pub whole : marks ≡ before ++ rest
  pub going : Going given marks (at_turn n task (length before) k unfinished)

whole_more : (before marks : List Mark) (mark : Mark) (rest : List Mark) → marks ≡ before ++ rest → marks ++ mark ∷ [] ≡ before ++ (rest ++ mark ∷ [])
whole_more before marks mark rest e = ap (λ ms. ms ++ mark ∷ []) e ∙ append_assoc before rest (mark ∷ [])

front : (before marks rest : List Mark) → marks ≡ before ++ rest → take (length before) marks ≡ before
front before marks rest e = ap (take (length before)) e ∙ front_is before rest

-- what comes next in a turn
turn_by : (given : Given) (before : List Mark) (n : ℕ) (task : Task) (marks : List Mark) (k : ℕ) (unfinished : List Unfinished) → InTurn given before n task marks k unfinished
    → next_of given (setting given) marks ≡ next_in given (stage_of (setting given) before) (course_of (setting given) marks) (at_turn n task (length before) k unfinished) unfinished
turn_by given before n task marks k unfinished t =
    let p : Progress = at_turn n task (length before) k unfinished in
    next_by given marks p t.going ∙ ap (λ ms. next_in given (stage_of (setting given) ms) (course_of (setting given) marks) p unfinished) (front before marks t.rest t.whole)

-- the host's next step
step_next : (given : Given) (before : List Mark) (n : ℕ) (task : Task) (marks : List Mark) (k : ℕ) (step : Step) → InTurn given before n task marks k []
    → slice_get (steps_of given (stage_of (setting given) before) task) k ≡ Some step
    → next_of given (setting given) marks ≡ Exactly (mark_of (stage_of (setting given) marks).nodes step)
step_next given before n task marks k step t e =
    turn_by given before n task marks k [] t
    ∙ ap (λ s. Rattle.solo_model.specs.NextMark.step_or_turn given (stage_of (setting given) marks) (at_turn n task (length before) k []) s) e

-- it is allowed
step_may : (given : Given) (before : List Mark) (n : ℕ) (task : Task) (marks : List Mark) (k : ℕ) (step : Step) (mark : Mark) → InTurn given before n task marks k []
    → slice_get (steps_of given (stage_of (setting given) before) task) k ≡ Some step → mark ≡ mark_of (stage_of (setting given) marks).nodes step
    → Allows given marks (next_of given (setting given) marks) mark
step_may given before n task marks k step mark t e same =
    let P : Next → Type 0 = λ next. Allows given marks next mark in subst P (sym (step_next given before n task marks k step t e)) same

more : (given : Given) (before : List Mark) (n : ℕ) (task : Task) (marks : List Mark) (k j : ℕ) (unfinished next : List Unfinished) (mark : Mark) → InTurn given before n task marks k unfinished
    → Allows given marks (next_of given (setting given) marks) mark
    → advanced (length marks) (at_turn n task (length before) k unfinished) mark ≡ at_turn n task (length before) j next
    → InTurn given before n task (marks ++ mark ∷ []) j next
more given before n task marks k j unfinished next mark t may e =
    let p : Progress = at_turn n task (length before) k unfinished in
    let P : Progress → Type 0 = λ q. Going given (marks ++ mark ∷ []) q in
    record { rest = t.rest ++ mark ∷ []; whole = whole_more before marks mark t.rest t.whole; going = subst P e (going-more given marks p mark t.going may) }

-- the host builds
pub build-more : (given : Given) (before : List Mark) (n : ℕ) (task : Task) (marks : List Mark) (k : ℕ) (step : Step) (request : Request) → InTurn given before n task marks k []
    → slice_get (steps_of given (stage_of (setting given) before) task) k ≡ Some step → Build request ≡ mark_of (stage_of (setting given) marks).nodes step
    → InTurn given before n task (marks ++ Build request ∷ []) (k + 1) []
build-more given before n task marks k step request t e same = more given before n task marks k (k + 1) [] [] (Build request) t (step_may given before n task marks k step (Build request) t e same) refl

-- a script is entered
pub enter-more : (given : Given) (before : List Mark) (n : ℕ) (task : Task) (marks : List Mark) (k : ℕ) (step : Step) (i : Actor) (entry : Entry) → InTurn given before n task marks k []
    → slice_get (steps_of given (stage_of (setting given) before) task) k ≡ Some step → Enter i entry ≡ mark_of (stage_of (setting given) marks).nodes step
    → InTurn given before n task (marks ++ Enter i entry ∷ []) (k + 1) (Running i entry ∷ [])
enter-more given before n task marks k step i entry t e same = more given before n task marks k (k + 1) [] (Running i entry ∷ []) (Enter i entry) t (step_may given before n task marks k step (Enter i entry) t e same) refl

-- an event is dispatched
pub dispatch-more : (given : Given) (before : List Mark) (n : ℕ) (task : Task) (marks : List Mark) (k : ℕ) (step : Step) (i : Actor) (event : ℕ) (target : Thing)
    → InTurn given before n task marks k [] → slice_get (steps_of given (stage_of (setting given) before) task) k ≡ Some step
    → Dispatch i event target ≡ mark_of (stage_of (setting given) marks).nodes step
    → InTurn given before n task (marks ++ Dispatch i event target ∷ []) (k + 1) (Walking i event ∷ [])
dispatch-more given before n task marks k step i event target t e same =
    more given before n task marks k (k + 1) [] (Walking i event ∷ []) (Dispatch i event target) t (step_may given before n task marks k step (Dispatch i event target) t e same) refl

no_more : (k : ℕ) → k + 0 ≡ k
no_more k = omega arith

-- who runs asks
pub ask-more : (given : Given) (before : List Mark) (n : ℕ) (task : Task) (marks : List Mark) (k : ℕ) (i : Actor) (entry : Entry) (request : Request) (answer : Answer)
    → InTurn given before n task marks k (Running i entry ∷ []) → InTurn given before n task (marks ++ Ask i request answer ∷ []) k (Running i entry ∷ [])
ask-more given before n task marks k i entry request answer t =
    let P : Next → Type 0 = λ next. Allows given marks next (Ask i request answer) in
    more given before n task marks k k (Running i entry ∷ []) (Running i entry ∷ []) (Ask i request answer) t
    (subst P (sym (turn_by given before n task marks k (Running i entry ∷ []) t)) refl)
    (ap (λ j. at_turn n task (length before) j (Running i entry ∷ [])) (no_more k))

-- and leaves
pub leave-more : (given : Given) (before : List Mark) (n : ℕ) (task : Task) (marks : List Mark) (k : ℕ) (i : Actor) (entry : Entry) (outcome : Outcome) (units : ℕ) → MayEnd i entry outcome
    → InTurn given before n task marks k (Running i entry ∷ []) → InTurn given before n task (marks ++ Leave i outcome units ∷ []) k []
leave-more given before n task marks k i entry outcome units ends t =
    let P : Next → Type 0 = λ next. Allows given marks next (Leave i outcome units) in
    more given before n task marks k k (Running i entry ∷ []) [] (Leave i outcome units) t
    (subst P (sym (turn_by given before n task marks k (Running i entry ∷ []) t)) (refl, ends))
    (ap (λ j. at_turn n task (length before) j []) (no_more k))

-- a dispatch comes back
pub back-more : (given : Given) (before : List Mark) (n : ℕ) (task : Task) (marks : List Mark) (k : ℕ) (i : Actor) (event : ℕ) (answer : Answer) → InTurn given before n task marks k (Walking i event ∷ [])
    → walk_next (stage_of (setting given) marks) i event (first_step (stage_of (setting given) marks) (course_of (setting given) marks).walks) ≡ Exactly (Back i answer)
    → InTurn given before n task (marks ++ Back i answer ∷ []) k []
back-more given before n task marks k i event answer t e =
    let P : Next → Type 0 = λ next. Allows given marks next (Back i answer) in
    more given before n task marks k k (Walking i event ∷ []) [] (Back i answer) t
    (subst P (sym (turn_by given before n task marks k (Walking i event ∷ []) t ∙ e)) refl)
    (ap (λ j. at_turn n task (length before) j []) (no_more k))

-- ---- between turns

-- so many turns are made, and all of their steps
pub record Between (given : Given) (marks : List Mark) (n : ℕ) : Type 0 where
  pub task : Option Task
  pub before : ℕ
  pub made : ℕ
  pub going : Going given marks (record { unfinished = []; turns = n; task = task; before = before; made = made; line = 0 })
  pub done : slice_get (turn_steps given (stage_of (setting given) (take before marks)) task) made ≡ None

pub between_first : (given : Given) → Between given [] 0
between_first given = record { task = None; before = 0; made = 0; going = going_first given; done = refl }

-- a turn whose steps are all made
pub turn_over : (given : Given) (before : List Mark) (n : ℕ) (task : Task) (marks : List Mark) (k : ℕ) → InTurn given before n task marks k []
    → slice_get (steps_of given (stage_of (setting given) before) task) k ≡ None → Between given marks (n + 1)
turn_over given before n task marks k t e = record {
  task = Some task;
  before = length before;
  made = k;
  going = t.going;
  done = ap (λ ms. slice_get (steps_of given (stage_of (setting given) ms) task) k) (front before marks t.rest t.whole) ∙ e;
}

-- what comes next between turns
between_next : (given : Given) (marks : List Mark) (n : ℕ) → Between given marks n
    → next_of given (setting given) marks ≡ turn_or_nothing n (next_task given n 0 (stage_of (setting given) marks).timers.waiting)
between_next given marks n b =
    let p : Progress = record { unfinished = []; turns = n; task = b.task; before = b.before; made = b.made; line = 0 } in
    next_by given marks p b.going ∙ ap (λ s. Rattle.solo_model.specs.NextMark.step_or_turn given (stage_of (setting given) marks) p s) b.done

below : (n m : ℕ) → n < m → nat_lt n m ≡ true
below n m h = grind (arith, nat_tests)

not_below : (n : ℕ) → nat_lt n n ≡ false
not_below n = grind (arith, nat_tests)

got_below : (tasks : List Task) (n : ℕ) (task : Task) → slice_get tasks n ≡ Some task → n < length tasks
got_below [] n task e = absurd cc
got_below (t ∷ tasks) Prim.Native.Nat.zero task e = omega arith
got_below (t ∷ tasks) (Prim.Native.Nat.suc n) task e = omega (arith, got_below tasks n task e)

line_kept : (task : Task) → IsNoLine (Turn task) → Rattle.solo_model.specs.Nesting.line_of 0 task ≡ 0
line_kept (Line k) h = absurd h
line_kept (Start n) h = refl
line_kept (PieceTask n) h = refl
line_kept Ready h = refl
line_kept Load h = refl
line_kept (Timer i n) h = refl

-- the next of the first tasks begins
pub turn_begins : (given : Given) (marks : List Mark) (n : ℕ) (task : Task) → Between given marks n → slice_get (first_tasks given) n ≡ Some task → length (first_tasks given) < TASK_LIMIT
    → IsNoLine (Turn task) → InTurn given marks n task (marks ++ Turn task ∷ []) 0 []
turn_begins given marks n task b e few no_line =
    let less : n < length (first_tasks given) = got_below (first_tasks given) n task e in
    let waiting : List TimerRecord = (stage_of (setting given) marks).timers.waiting in
    let due : next_task given n 0 waiting ≡ Some task = rw (below n (length (first_tasks given)) less) e in
    let allowed : turn_or_nothing n (Some task) ≡ Exactly (Turn task) = rw (below n TASK_LIMIT (omega (arith, less, few))) refl in
    let P : Next → Type 0 = λ next. Allows given marks next (Turn task) in
    let p : Progress = record { unfinished = []; turns = n; task = b.task; before = b.before; made = b.made; line = 0 } in
    let Q : ℕ → Type 0 = λ line. Going given (marks ++ Turn task ∷ []) (record { unfinished = []; turns = n + 1; task = Some task; before = length marks; made = 0; line = line }) in
    record {
      rest = Turn task ∷ [];
      whole = refl;
      going = subst Q (line_kept task no_line) (going-more given marks p (Turn task) b.going (subst P (sym (between_next given marks n b ∙ ap (turn_or_nothing n) due ∙ allowed)) refl));
    }

-- after the last of them nothing comes, where there is no scenario
pub nothing_next : (given : Given) (marks : List Mark) → given.lines ≡ [] → Between given marks (length (first_tasks given)) → next_of given (setting given) marks ≡ Nothing
nothing_next given marks none b =
    let waiting : List TimerRecord = (stage_of (setting given) marks).timers.waiting in
    let over : next_task given (length (first_tasks given)) 0 waiting ≡ None = rw (not_below (length (first_tasks given)), none) refl in
    between_next given marks (length (first_tasks given)) b ∙ ap (turn_or_nothing (length (first_tasks given))) over
