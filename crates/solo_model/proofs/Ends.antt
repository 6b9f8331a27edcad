-- How many turns a lawful journal has, and what waits where nothing comes next.
use Rattle.std.proofs.Common.{◌≡◌, ◌≤◌, ◌<◌, ◌⊎◌, ◌+◌, ap, cond, sym, refl, subst, inl, inr, true≢false, append_assoc, arith, nat_lt, ℕ, Bool, true, false, List, [], ◌∷◌, ◌++◌, length, slice_get, Option, Some, None}
use Rattle.std.proofs.lemmas.Bool.Decides.{nat_tests}
use Rattle.std.proofs.lemmas.List.{append-nil}
use Rattle.std.specs.Prelude.{take, is_some}
use Rattle.door.specs.declared.values.Actor.{Actor}
use Rattle.door.specs.declared.marks.Task.{Task}
use Rattle.door.specs.declared.marks.Mark.{Mark}
use Rattle.door.specs.declared.marks.Mark.TheVariants.{Turn, Build, Enter, Ask, Dispatch, Back, Leave, Serve, Served}
use Rattle.dom_semantics.specs.Stage.{Stage, Setting}
use Rattle.dom_semantics.specs.StageOf.{Course, course_of, stage_of, first_step}
use Rattle.dom_semantics.specs.Walks as walk
use Rattle.solo_model.specs.Given.{Given, setting_of}
use Rattle.solo_model.specs.Nesting.{Unfinished, Running, Walking, Calling, Returning, Progress, advanced, at_first, progress_from, progress_of}
use Rattle.solo_model.specs.NextMark.{Next, Exactly, Nothing, Allows, AreAllowed, IsCutByTasks, IsLawful, next_in, next_of, step_or_turn, turn_or_nothing, turn_steps, waiting_task, walk_next}
use Rattle.solo_model.specs.Tasks.{TASK_LIMIT}
use Rattle.solo_model.proofs.Growing.{progress_from-append}
use Rattle.solo_model.proofs.NextTurns.{allowed_turn, task_of, turn_next}
use Rattle.solo_model.specs.Turns.{Step}

-- ---- nothing comes next

abbrev is_nothing : Next → Bool
is_nothing Nothing = true
is_nothing next = false

-- no task waits, or there are as many turns as may be
abbrev pub IsEnd : Option Task → ℕ → Type 0
IsEnd task turns = (task ≡ None) ⊎ (TASK_LIMIT ≤ turns)

not_below : (a b : ℕ) → nat_lt a b ≡ false → b ≤ a
not_below a b h = grind (arith, nat_tests)

by_limit : (turns : ℕ) (task : Task) (b : Bool) → nat_lt turns TASK_LIMIT ≡ b → cond b (Exactly (Turn task)) Nothing ≡ Nothing → TASK_LIMIT ≤ turns
by_limit turns task true h e = absurd (true≢false (sym (ap is_nothing e)))
by_limit turns task false h e = not_below turns TASK_LIMIT h

by_task : (turns : ℕ) (task : Option Task) → turn_or_nothing turns task ≡ Nothing → IsEnd task turns
by_task turns None e = inl refl
by_task turns (Some task) e = inr (by_limit turns task (nat_lt turns TASK_LIMIT) refl e)

by_step : (given : Given) (s : Stage) (p : Progress) (step : Option Step) → step_or_turn given s p step ≡ Nothing → IsEnd (waiting_task given s p) p.turns
by_step given s p None e = by_task p.turns (waiting_task given s p) e
by_step given s p (Some step) e = absurd (true≢false (sym (ap is_nothing e)))

no_walk : (s : Stage) (i : Actor) (event : ℕ) (step : Option walk.Step) → walk_next s i event step ≡ Nothing → ⊥
no_walk s i event None e = true≢false (sym (ap is_nothing e))
no_walk s i event (Some step) e = true≢false (sym (ap is_nothing e))

-- what is unfinished, and what waits, where nothing comes next
pub at_end : (given : Given) (before : Stage) (now : Course) (p : Progress) (unfinished : List Unfinished) → next_in given before now p unfinished ≡ Nothing
    → (unfinished ≡ []) × IsEnd (waiting_task given now.stage p) p.turns
at_end given before now p [] e = (refl, by_step given now.stage p (slice_get (turn_steps given before p.task) p.made) e)
at_end given before now p (Running i entry ∷ outer) e = absurd (true≢false (sym (ap is_nothing e)))
at_end given before now p (Walking i event ∷ outer) e = absurd (no_walk now.stage i event (first_step now.stage now.walks) e)
at_end given before now p (Calling i owner value operation ∷ outer) e = absurd (true≢false (sym (ap is_nothing e)))
at_end given before now p (Returning i outcome ∷ outer) e = absurd (true≢false (sym (ap is_nothing e)))

-- ---- how many

one_below : (a b : ℕ) → a < b → a + 1 ≤ b
one_below a b h = omega arith

-- a mark more
one_more : (given : Given) (setting : Setting) (before : List Mark) (at : ℕ) (p : Progress) (mark : Mark) → p ≡ progress_of before → p.turns ≤ TASK_LIMIT
    → Allows given before (next_of given setting before) mark → (advanced at p mark).turns ≤ TASK_LIMIT
one_more given setting before at p (Turn task) same few h =
    let now : Progress = progress_of before in
    let P : Progress → Type 0 = λ q. q.turns < TASK_LIMIT in
    let next : task_of (next_of given setting before) ≡ Some task = allowed_turn given before (next_of given setting before) task h in
    let room : now.turns < TASK_LIMIT =
    (turn_next given (stage_of setting (take now.before before)) (course_of setting before) now now.unfinished task next).1 in
    one_below p.turns TASK_LIMIT (subst P (sym same) room)
one_more given setting before at p (Build request) same few h = few
one_more given setting before at p (Enter i entry) same few h = few
one_more given setting before at p (Ask i request answer) same few h = few
one_more given setting before at p (Dispatch i event target) same few h = few
one_more given setting before at p (Back i answer) same few h = few
one_more given setting before at p (Leave i outcome units) same few h = few
one_more given setting before at p (Serve i owner value operation) same few h = few
one_more given setting before at p (Served i answer) same few h = few

-- a journal whose marks are allowed has at most as many turns as the limit
pub few_turns : (given : Given) (setting : Setting) (before marks : List Mark) → (progress_of before).turns ≤ TASK_LIMIT → AreAllowed given setting before marks
    → (progress_of (before ++ marks)).turns ≤ TASK_LIMIT
unfolding AreAllowed progress_from
few_turns given setting before [] few h = let P : List Mark → Type 0 = λ marks. (progress_of marks).turns ≤ TASK_LIMIT in subst P (sym (append-nil before)) few
few_turns given setting before (mark ∷ marks) few h =
    let P : List Mark → Type 0 = λ marks. (progress_of marks).turns ≤ TASK_LIMIT in
    let Q : Progress → Type 0 = λ p. p.turns ≤ TASK_LIMIT in
    let more : Q (progress_of (before ++ mark ∷ [])) =
    subst Q (sym (progress_from-append 0 at_first before (mark ∷ []))) (one_more given setting before (0 + length before) (progress_of before) mark refl few h.0) in
    subst P (append_assoc before (mark ∷ []) marks) (few_turns given setting (before ++ mark ∷ []) marks more h.1)

nothing_before : (limit : ℕ) → 0 ≤ limit
nothing_before limit = omega arith

-- at first there are none
pub few_in_all : (given : Given) (setting : Setting) (marks : List Mark) → AreAllowed given setting [] marks → (progress_of marks).turns ≤ TASK_LIMIT
unfolding progress_from
few_in_all given setting marks h = few_turns given setting [] marks (nothing_before TASK_LIMIT) h

-- ---- a whole journal

-- nothing is unfinished at its end, and no task waits or there are as many as may be
pub ends : (given : Given) (marks : List Mark) → IsLawful given marks
    → ((progress_of marks).unfinished ≡ []) × IsEnd (waiting_task given (stage_of (setting_of given marks) marks) (progress_of marks)) (progress_of marks).turns
ends given marks l =
    let p : Progress = progress_of marks in
    at_end given (stage_of (setting_of given marks) (take p.before marks)) (course_of (setting_of given marks) marks) p p.unfinished l.whole

as_many : (a b : ℕ) → a ≤ b → b ≤ a → a ≡ b
as_many a b h k = omega arith

cut_where : (given : Given) (marks : List Mark) → IsLawful given marks → (task : Option Task)
    → waiting_task given (stage_of (setting_of given marks) marks) (progress_of marks) ≡ task → TASK_LIMIT ≤ (progress_of marks).turns
    → (waiting_task given (stage_of (setting_of given marks) marks) (progress_of marks) ≡ None) ⊎ IsCutByTasks given marks
cut_where given marks l None e all = inl e
cut_where given marks l (Some task) e all =
    let few : (progress_of marks).turns ≤ TASK_LIMIT = few_in_all given (setting_of given marks) marks l.so_far in
    inr (record { lawful = l; turns = as_many (progress_of marks).turns TASK_LIMIT few all; waits = ap is_some e })

-- no task waits, or the limit of tasks has cut the run
pub waits_or_cut : (given : Given) (marks : List Mark) → IsLawful given marks
    → (waiting_task given (stage_of (setting_of given marks) marks) (progress_of marks) ≡ None) ⊎ IsCutByTasks given marks
waits_or_cut given marks l = by (ends given marks l).1
  where
    by : IsEnd (waiting_task given (stage_of (setting_of given marks) marks) (progress_of marks)) (progress_of marks).turns
        → (waiting_task given (stage_of (setting_of given marks) marks) (progress_of marks) ≡ None) ⊎ IsCutByTasks given marks
    by (inl none) = inl none
    by (inr all) = cut_where given marks l (waiting_task given (stage_of (setting_of given marks) marks) (progress_of marks)) refl all
