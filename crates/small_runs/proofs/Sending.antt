-- The turn of an event of the host in a small run.
use Rattle.std.proofs.Common.{◌≡◌, ◌∙◌, ap, sym, refl, subst, ℕ, ◌+◌, Bool, true, false, not, List, [], ◌∷◌, ◌++◌, length, length-append, length-set, slice_get, None}
use Rattle.door.specs.declared.values.Kind.{Kind}
use Rattle.door.specs.declared.values.Thing.{Thing}
use Rattle.door.specs.declared.values.Value.TheVariants.{Bool as BoolValue}
use Rattle.door.specs.declared.requests.Answer.TheVariants.{Value as ValueAnswer}
use Rattle.door.specs.declared.marks.Task.{Task}
use Rattle.door.specs.declared.marks.Mark.{Mark}
use Rattle.door.specs.declared.marks.Mark.TheVariants.{Build, Dispatch, Back}
use Rattle.dom_semantics.specs.Bounds.{is_short}
use Rattle.dom_semantics.specs.EventReplies.{event_made}
use Rattle.dom_semantics.specs.Events.{event_at}
use Rattle.dom_semantics.specs.Forest.{the_host}
use Rattle.dom_semantics.specs.Stage.{Origin, Stage}
use Rattle.dom_semantics.specs.StageOf.{Course, after, built, came_back, course_of, first_step, stage_of, walk_of}
use Rattle.dom_semantics.specs.Truth.{reply_to}
use Rattle.dom_semantics.specs.Walks.{Walk, step_of}
use Rattle.solo_model.specs.Acts.{setups_of}
use Rattle.solo_model.specs.Genuine.{AreTrueMarks, IsTrueMark, MayDispatch}
use Rattle.solo_model.specs.Given.{Given, origin_of}
use Rattle.solo_model.specs.Nesting.{Walking}
use Rattle.solo_model.specs.NextMark.{Exactly, walk_next}
use Rattle.solo_model.specs.Stage as old
use Rattle.solo_model.specs.Turns.{Builds, Sends, steps_of}
use Rattle.solo_model.proofs.Growing.{genuine-more}
use Rattle.solo_model.proofs.Journals.{stage-more}
use Rattle.small_runs.proofs.Courses.{course-more, no_lines-append}
use Rattle.small_runs.proofs.Events.{IsTarget, event_request, free_in, host_form, makes_event, may_send, none_due, one_event, sent}
use Rattle.small_runs.proofs.Going.{Between, InTurn, back-more, build-more, dispatch-more, setting, turn_over}
use Rattle.small_runs.proofs.Same.{Same, root_there}
use Rattle.small_runs.proofs.Sound.{Sound}
use Rattle.small_runs.proofs.Writes.{came, came_to}

-- what an event of the host is
pub record IsEvent (kind : List ℕ) (target : Thing) : Type 0 where
  pub short : is_short kind ≡ true
  pub sendable : IsTarget target

abbrev made_mark : List ℕ → Bool → Mark
made_mark kind bubbles = Build (event_request kind bubbles)

abbrev sent_mark : ℕ → Thing → Mark
sent_mark number target = Dispatch the_host number target

abbrev back_mark : Mark
back_mark = Back the_host (ValueAnswer (BoolValue true))

abbrev one_more : List Mark → List ℕ → Bool → List Mark
one_more marks kind bubbles = marks ++ made_mark kind bubbles ∷ []

abbrev two_more : List Mark → List ℕ → Bool → ℕ → Thing → List Mark
two_more marks kind bubbles number target = one_more marks kind bubbles ++ sent_mark number target ∷ []

abbrev pub three_more : List Mark → List ℕ → Bool → ℕ → Thing → List Mark
three_more marks kind bubbles number target = two_more marks kind bubbles number target ++ back_mark ∷ []

-- ---- the course

built_event : (origin : Origin) (s : Stage) (kind : List ℕ) (bubbles : Bool) → is_short kind ≡ true → built origin s (event_request kind bubbles) ≡ event_made s (host_form kind bubbles)
built_event origin s kind bubbles short = came_to (reply_to origin s the_host (event_request kind bubbles)) s (event_made s (host_form kind bubbles)) (makes_event origin s kind bubbles short)

course_one : (given : Given) (marks : List Mark) (kind : List ℕ) (bubbles : Bool) → is_short kind ≡ true
    → course_of (setting given) (one_more marks kind bubbles)
    ≡ record { stage = event_made (stage_of (setting given) marks) (host_form kind bubbles); walks = (course_of (setting given) marks).walks }
course_one given marks kind bubbles short =
    course-more (origin_of given) marks (made_mark kind bubbles)
    ∙ ap (λ (s : Stage). record { stage = s; walks = (course_of (setting given) marks).walks }) (built_event (origin_of given) (stage_of (setting given) marks) kind bubbles short)

-- the walk of it
abbrev walk_in : Stage → List ℕ → Bool → Thing → Walk
walk_in s kind bubbles target = walk_of (event_made s (host_form kind bubbles)) (length s.events) target

course_two : (given : Given) (marks : List Mark) (kind : List ℕ) (bubbles : Bool) (target : Thing) → is_short kind ≡ true
    → course_of (setting given) (two_more marks kind bubbles (length (stage_of (setting given) marks).events) target)
    ≡ record {
      stage = sent (stage_of (setting given) marks) kind bubbles target;
      walks = walk_in (stage_of (setting given) marks) kind bubbles target ∷ (course_of (setting given) marks).walks;
    }
course_two given marks kind bubbles target short =
    let number : ℕ = length (stage_of (setting given) marks).events in
    course-more (origin_of given) (one_more marks kind bubbles) (sent_mark number target)
    ∙ ap (λ (c : Course). after (setting given) c.stage c.walks (sent_mark number target)) (course_one given marks kind bubbles short)

course_three : (given : Given) (marks : List Mark) (kind : List ℕ) (bubbles : Bool) (target : Thing) → is_short kind ≡ true
    → course_of (setting given) (three_more marks kind bubbles (length (stage_of (setting given) marks).events) target)
    ≡ came_back (sent (stage_of (setting given) marks) kind bubbles target) (walk_in (stage_of (setting given) marks) kind bubbles target ∷ (course_of (setting given) marks).walks)
course_three given marks kind bubbles target short =
    let number : ℕ = length (stage_of (setting given) marks).events in
    course-more (origin_of given) (two_more marks kind bubbles number target) back_mark
    ∙ ap (λ (c : Course). after (setting given) c.stage c.walks back_mark) (course_two given marks kind bubbles target short)

-- ---- the stage by the definitions before

old_three : (marks : List Mark) (kind : List ℕ) (bubbles : Bool) (number : ℕ) (target : Thing)
    → old.stage_of (three_more marks kind bubbles number target)
    ≡ old.with_event (old.stage_of marks) (record { kind = kind; bubbles = bubbles; cancelable = false; trusted = true })
old_three marks kind bubbles number target =
    stage-more (two_more marks kind bubbles number target) back_mark ∙ stage-more (one_more marks kind bubbles) (sent_mark number target) ∙ stage-more marks (made_mark kind bubbles)

same_sent : (kinds : List Kind) (s : old.Stage) (c : Course) (kind : List ℕ) (bubbles : Bool) (target : Thing) → Same kinds s c
    → Same kinds (old.with_event s (record { kind = kind; bubbles = bubbles; cancelable = false; trusted = true })) (came_back (sent c.stage kind bubbles target) (walk_in c.stage kind bubbles target ∷ c.walks))
same_sent kinds s c kind bubbles target same = record {
  nodes = same.nodes;
  events =
      length-set (sent c.stage kind bubbles target).events (length c.stage.events) _ ∙ one_event c.stage kind bubbles target ∙ ap (λ n. n + 1) same.events
      ∙ sym (length-append s.events (record { kind = kind; bubbles = bubbles; cancelable = false; trusted = true } ∷ []));
  silent = same.silent;
  waiting = same.waiting;
  walks = same.walks;
  rooted = same.rooted;
  own = same.own;
}

-- ---- true marks

true_three : (given : Given) (kinds : List Kind) (marks : List Mark) (kind : List ℕ) (bubbles : Bool) (target : Thing) → Sound given kinds marks → IsEvent kind target
    → AreTrueMarks (setups_of given) (setting given) [] (three_more marks kind bubbles (length (stage_of (setting given) marks).events) target)
true_three given kinds marks kind bubbles target s is =
    let stage : Stage = stage_of (setting given) marks in
    let number : ℕ = length stage.events in
    let may : Course → Type 0 = λ c. MayDispatch c.stage the_host number target in
    let first : IsTrueMark (setups_of given) (setting given) marks (made_mark kind bubbles) =
    (came (reply_to (origin_of given) stage the_host (event_request kind bubbles)) (event_made stage (host_form kind bubbles)) (makes_event (origin_of given) stage kind bubbles is.short), refl) in
    let second : IsTrueMark (setups_of given) (setting given) (one_more marks kind bubbles) (sent_mark number target) =
    (subst may (sym (course_one given marks kind bubbles is.short)) (may_send stage kind bubbles target (root_there stage.nodes s.same.rooted) is.sendable), refl) in
    let third : IsTrueMark (setups_of given) (setting given) (two_more marks kind bubbles number target) back_mark = (tt, refl) in
    genuine-more (setups_of given) (setting given) [] (two_more marks kind bubbles number target) back_mark
    (genuine-more (setups_of given) (setting given) [] (one_more marks kind bubbles) (sent_mark number target)
    (genuine-more (setups_of given) (setting given) [] marks (made_mark kind bubbles) s.genuine first) second) third

pub sound_sent : (given : Given) (kinds : List Kind) (marks : List Mark) (kind : List ℕ) (bubbles : Bool) (target : Thing) → Sound given kinds marks → IsEvent kind target
    → Sound given kinds (three_more marks kind bubbles (length (stage_of (setting given) marks).events) target)
sound_sent given kinds marks kind bubbles target s is =
    let number : ℕ = length (stage_of (setting given) marks).events in
    let P : old.Stage → Type 0 = λ t. Same kinds t (course_of (setting given) (three_more marks kind bubbles number target)) in
    let Q : Course → Type 0 = λ c. Same kinds (old.with_event (old.stage_of marks) (record { kind = kind; bubbles = bubbles; cancelable = false; trusted = true })) c in
    record {
      same = subst P (sym (old_three marks kind bubbles number target)) (subst Q (sym (course_three given marks kind bubbles target is.short)) (same_sent kinds (old.stage_of marks) (course_of (setting given) marks) kind bubbles target s.same));
      genuine = true_three given kinds marks kind bubbles target s is;
      no_lines =
          no_lines-append (two_more marks kind bubbles number target) (back_mark ∷ [])
          (no_lines-append (one_more marks kind bubbles) (sent_mark number target ∷ []) (no_lines-append marks (made_mark kind bubbles ∷ []) s.no_lines (tt, tt)) (tt, tt)) (tt, tt);
    }

-- ---- the turn

walk_over : (s : Stage) (kind : List ℕ) (bubbles : Bool) (target : Thing) (outer : List Walk) → s.listeners.registered ≡ []
    → walk_next (sent s kind bubbles target) the_host (length s.events) (first_step (sent s kind bubbles target) (walk_in s kind bubbles target ∷ outer)) ≡ Exactly back_mark
walk_over s kind bubbles target outer silent =
    let stage : Stage = sent s kind bubbles target in
    let walk : Walk = walk_in s kind bubbles target in
    let none : first_step stage (walk ∷ outer) ≡ None = ap (λ registered. step_of registered (event_at stage.events walk.event) walk) silent ∙ none_due (event_at stage.events walk.event) walk refl in
    ap (walk_next stage the_host (length s.events)) none ∙ ap (λ b. Exactly (Back the_host (ValueAnswer (BoolValue (not b))))) (free_in s kind bubbles target)

-- the host makes the event and dispatches it, nobody listens, and the turn is over
pub event_turn : (given : Given) (before : List Mark) (n : ℕ) (task : Task) (kinds : List Kind) (marks : List Mark) (kind : List ℕ) (bubbles : Bool) (target : Thing)
    → InTurn given before n task marks 0 [] → Sound given kinds marks → IsEvent kind target
    → steps_of given (stage_of (setting given) before) task ≡ Builds (event_request kind bubbles) ∷ (Sends (length (stage_of (setting given) marks).events) target ∷ [])
    → Between given (three_more marks kind bubbles (length (stage_of (setting given) marks).events) target) (n + 1)
event_turn given before n task kinds marks kind bubbles target t s is steps =
    let number : ℕ = length (stage_of (setting given) marks).events in
    let got : (k : ℕ) → slice_get (steps_of given (stage_of (setting given) before) task) k ≡ slice_get (Builds (event_request kind bubbles) ∷ (Sends number target ∷ [])) k = λ k. ap (λ ss. slice_get ss k) steps in
    let one : InTurn given before n task (one_more marks kind bubbles) 1 [] = build-more given before n task marks 0 (Builds (event_request kind bubbles)) (event_request kind bubbles) t (got 0) refl in
    let two : InTurn given before n task (two_more marks kind bubbles number target) 2 (Walking the_host number ∷ []) =
    dispatch-more given before n task (one_more marks kind bubbles) 1 (Sends number target) the_host number target one (got 1) refl in
    let P : Course → Type 0 = λ c. walk_next c.stage the_host number (first_step c.stage c.walks) ≡ Exactly back_mark in
    let over : P (course_of (setting given) (two_more marks kind bubbles number target)) =
    subst P (sym (course_two given marks kind bubbles target is.short)) (walk_over (stage_of (setting given) marks) kind bubbles target (course_of (setting given) marks).walks s.same.silent) in
    let three : InTurn given before n task (three_more marks kind bubbles number target) 2 [] =
    back-more given before n task (two_more marks kind bubbles number target) 2 the_host number (ValueAnswer (BoolValue true)) two over in
    turn_over given before n task (three_more marks kind bubbles number target) 2 three (got 2)
