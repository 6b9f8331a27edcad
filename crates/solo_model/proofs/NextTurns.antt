-- Where a turn comes next: its task waits, and there are fewer than may be.
use Rattle.std.proofs.Common.{◌≡◌, ◌∙◌, ◌<◌, ap, cond, sym, refl, true≢false, arith, nat_lt, ℕ, Bool, true, false, List, [], ◌∷◌, slice_get, Option, Some, None}
use Rattle.std.specs.Prelude.{is_some}
use Rattle.std.proofs.lemmas.Bool.Decides.{nat_tests}
use Rattle.door.specs.declared.values.Actor.{Actor}
use Rattle.door.specs.declared.marks.Task.{Task}
use Rattle.door.specs.declared.marks.Mark.{Mark}
use Rattle.door.specs.declared.marks.Mark.TheVariants.{Turn}
use Rattle.dom_semantics.specs.Forest.{Forest}
use Rattle.dom_semantics.specs.Stage.{Stage}
use Rattle.dom_semantics.specs.StageOf.{Course, first_step}
use Rattle.dom_semantics.specs.Walks as walk
use Rattle.solo_model.specs.Given.{Given}
use Rattle.solo_model.specs.Nesting.{Unfinished, Running, Walking, Calling, Returning, Progress}
use Rattle.solo_model.specs.NextMark.{Next, Exactly, ByActor, ByReturn, Nothing, Allows, next_in, step_or_turn, turn_or_nothing, turn_steps, waiting_task, walk_next}
use Rattle.solo_model.specs.Tasks.{TASK_LIMIT}
use Rattle.solo_model.specs.Turns.{Step, Builds, Places, Enters, Sends, mark_of}

-- the task of the turn that comes next
abbrev pub task_of : Next → Option Task
task_of (Exactly (Turn task)) = Some task
task_of next = None

abbrev pub IsTurn : Option Task → ℕ → Task → Type 0
IsTurn waiting turns task = (waiting ≡ Some task) × (turns < TASK_LIMIT)

pub below : (a b : ℕ) → nat_lt a b ≡ true → a < b
below a b h = grind (arith, nat_tests)

by_limit : (turns : ℕ) (waiting task : Task) (b : Bool) → nat_lt turns TASK_LIMIT ≡ b → task_of (cond b (Exactly (Turn waiting)) Nothing) ≡ Some task
    → IsTurn (Some waiting) turns task
by_limit turns waiting task true h e = (e, below turns TASK_LIMIT h)
by_limit turns waiting task false h e = absurd (true≢false (sym (ap is_some e)))

by_task : (turns : ℕ) (waiting : Option Task) (task : Task) → task_of (turn_or_nothing turns waiting) ≡ Some task → IsTurn waiting turns task
by_task turns None task e = absurd (true≢false (sym (ap is_some e)))
by_task turns (Some waiting) task e = by_limit turns waiting task (nat_lt turns TASK_LIMIT) refl e

no_turn : (f : Forest) (step : Step) → task_of (Exactly (mark_of f step)) ≡ None
no_turn f (Builds request) = refl
no_turn f (Places request) = refl
no_turn f (Enters i entry) = refl
no_turn f (Sends event target) = refl

by_step : (given : Given) (s : Stage) (p : Progress) (step : Option Step) (task : Task) → task_of (step_or_turn given s p step) ≡ Some task
    → IsTurn (waiting_task given s p) p.turns task
by_step given s p None task e = by_task p.turns (waiting_task given s p) task e
by_step given s p (Some step) task e = absurd (true≢false (sym (ap is_some (sym (no_turn s.nodes step) ∙ e))))

no_walk : (s : Stage) (i : Actor) (event : ℕ) (step : Option walk.Step) (task : Task) → task_of (walk_next s i event step) ≡ Some task → ⊥
no_walk s i event None task e = true≢false (sym (ap is_some e))
no_walk s i event (Some step) task e = true≢false (sym (ap is_some e))

pub turn_next : (given : Given) (before : Stage) (now : Course) (p : Progress) (unfinished : List Unfinished) (task : Task)
    → task_of (next_in given before now p unfinished) ≡ Some task → IsTurn (waiting_task given now.stage p) p.turns task
turn_next given before now p [] task e = by_step given now.stage p (slice_get (turn_steps given before p.task) p.made) task e
turn_next given before now p (Running i entry ∷ outer) task e = absurd (true≢false (sym (ap is_some e)))
turn_next given before now p (Walking i event ∷ outer) task e = absurd (no_walk now.stage i event (first_step now.stage now.walks) task e)
turn_next given before now p (Calling i owner value operation ∷ outer) task e = absurd (true≢false (sym (ap is_some e)))
turn_next given before now p (Returning i outcome ∷ outer) task e = absurd (true≢false (sym (ap is_some e)))

-- only the turn that comes next is allowed
pub allowed_turn : (given : Given) (before : List Mark) (next : Next) (task : Task) → Allows given before next (Turn task) → task_of next ≡ Some task
allowed_turn given before (Exactly due) task h = ap (λ mark. task_of (Exactly mark)) (sym h)
allowed_turn given before (ByActor i entry) task h = absurd h
allowed_turn given before (ByReturn i outcome) task h = absurd h
allowed_turn given before Nothing task h = absurd h
