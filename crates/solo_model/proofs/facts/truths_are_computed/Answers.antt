use Rattle.std.proofs.Common.{◌≡◌, ap, refl, sym, subst, ◌∙◌, true≢false, Bool, true, false, List, [], ◌∷◌, ℕ, codes, pos, is_some}
use Rattle.std.specs.Char.{encode_utf8}
use Rattle.dom_semantics.specs.Forest.{DEPTH_LIMIT, NODE_LIMIT}
use Rattle.dom_semantics.specs.Listeners.{LISTENER_LIMIT}
use Rattle.dom_semantics.specs.Timers.{TIMER_LIMIT}
use Rattle.dom_semantics.specs.Stage.{NESTED_DISPATCH_LIMIT, DISPATCH_LIMIT}
use Rattle.dom_semantics.specs.StageOf.{course_from}
use Rattle.solo_model.specs.Nesting.{progress_from}
use Rattle.solo_model.specs.Tasks.{TASK_LIMIT}
use Rattle.std.specs.Str.{bytes_eq}
use Rattle.std.specs.Fmt.{digits}
use Rattle.door.specs.declared.requests.Answer.{Answer}
use Rattle.door.specs.declared.requests.Answer.TheVariants.{Value as ValueAnswer, Absent, Stopped}
use Rattle.door.specs.declared.values.Value.TheVariants.{Str, Null, Number}
use Rattle.door.specs.declared.marks.Outcome.TheVariants.{Done}
use Rattle.js_semantics.specs.Entries.{FUEL, LEVELS, beginning, enters}
use Rattle.js_semantics.specs.Intrinsics.{fresh}
use Rattle.js_semantics.specs.Machine.{Machine}
use Rattle.js_semantics.specs.Meaning.{evaluator, with_level, timer_entry}
use Rattle.js_semantics.specs.Solo.{Program, Emits, Stuck, Leaves, State, Runs, Awaits}
use Rattle.solo_model.specs.ActorView.{Seen, Said, view_from, view_of, met_from}
use Rattle.solo_model.specs.MachineStates.{Reaches}
use Rattle.solo_model.specs.Genuine.{IsLook}
use Rattle.solo_model.specs.GenuineFacts.{setups, made_list}
use Rattle.solo_model.specs.RunFacts.{actor}
use Rattle.solo_model.specs.Shown.{peeked_answer}
use Rattle.solo_model.proofs.facts.truths_are_computed.Goals as goal

-- whether this text is answered
abbrev tells : List ℕ → Answer → Bool
tells text (ValueAnswer (Str told)) = bytes_eq text told
tells text answer = false

abbrev is_value : Answer → Bool
is_value (ValueAnswer v) = true
is_value answer = false

-- what a machine that waits shows at that place
abbrev shown_by : State Machine → Answer
shown_by (Awaits levels m back) = peeked_answer m 301 (codes "k")
shown_by state = Stopped

-- the page's machine has met nothing yet, and shows nothing there
no_null : IsLook setups [] (actor 1) (λ m. peeked_answer m 301 (codes "k")) (ValueAnswer Null) → ⊥
unfolding encode_utf8 digits fresh view_from met_from Reaches
no_null l = true≢false (ap is_value (l.shown ∙ sym (ap shown_by l.waits)))

-- ---- a look after an entry of the page

-- what a machine that waits shows of the length of its first object
abbrev length_by : State Machine → Answer
length_by (Awaits levels m back) = peeked_answer m 300 (codes "length")
length_by state = Stopped

abbrev waits_no_more : Machine → Answer → Program Machine
waits_no_more m answer = Stuck

-- the timer's entry, and the machine that it leaves
abbrev array_entry : Program Machine
array_entry = timer_entry FUEL LEVELS 13 (fresh (setups (actor 1))) waits_no_more

abbrev left_by : Program Machine → Machine
left_by (Emits act levels m back) = m
left_by tree = fresh (setups (actor 1))

abbrev leaves : List Seen
leaves = Said (Leaves Done 0) ∷ []

no_length_yet : IsLook setups [] (actor 1) (λ m. peeked_answer m 300 (codes "length")) (ValueAnswer (Number (pos 0))) → ⊥
unfolding encode_utf8 digits fresh view_from met_from Reaches
no_length_yet l = true≢false (ap is_value (l.shown ∙ sym (ap length_by l.waits)))

-- the page's view of the entry leads its machine here alone
left_so : (to : State Machine) → Reaches enters (beginning (setups (actor 1))) (view_of (actor 1) made_list) to
    → Awaits LEVELS (left_by array_entry) waits_no_more ≡ to
unfolding fresh view_from Reaches evaluator with_level
left_so to (tree, e, r) = let P : Program Machine → Type 0 = λ t. Reaches enters (Runs t) leaves to in (subst P e r).1

some_length : IsLook setups made_list (actor 1) (λ m. peeked_answer m 300 (codes "length")) Absent → ⊥
unfolding encode_utf8 digits fresh view_from met_from Reaches evaluator with_level
some_length l = true≢false (sym (ap is_value (l.shown ∙ sym (ap length_by (left_so (Awaits l.levels l.machine l.back) l.waits)))))

pub returns : goal.returns
unfolding encode_utf8 DEPTH_LIMIT NODE_LIMIT LISTENER_LIMIT TIMER_LIMIT NESTED_DISPATCH_LIMIT DISPATCH_LIMIT course_from progress_from TASK_LIMIT digits fresh view_from met_from Reaches evaluator with_level
returns c = record {
  title_told = refl;
  no_title_yet = refl;
  wrong_title = λ h. true≢false (sym (ap (tells (codes "Hi")) h.possible));
  wrong_refusal = λ h. true≢false (sym (ap (tells (codes "Hi")) h.possible));
  not_granted = refl;
  not_for_page = refl;
  free = refl;
  busy = refl;
  dispatch = record { fits = refl; there = refl; free = refl };
  no_such_event = λ h. true≢false (sym h.there);
  not_while_busy = λ h. true≢false (ap is_some h.free);
  no_build = λ h. true≢false (sym h);
  xrays = refl;
  look = record {
    possible = refl;
    answered = record {
      denied = refl;
      told = λ xray closed. record { levels = LEVELS; machine = fresh (setups (actor 1)); back = λ m answer. Stuck; waits = refl; shown = refl };
    };
    names = refl;
    tells = refl;
  };
  no_such_value = λ h. no_null (h.answered.told refl refl);
  not_denied = λ h. true≢false h.answered.denied;
  nothing_yet = record {
    possible = refl;
    answered = record {
      denied = refl;
      told = λ xray closed. record { levels = LEVELS; machine = fresh (setups (actor 1)); back = waits_no_more; waits = refl; shown = refl };
    };
    names = refl;
    tells = refl;
  };
  not_yet = λ h. no_length_yet (h.answered.told refl refl);
  made_by_then = record {
    possible = refl;
    answered = record {
      denied = refl;
      told = λ xray closed.
          record { levels = LEVELS; machine = left_by array_entry; back = waits_no_more; waits = (array_entry, refl, (refl, refl)); shown = refl };
    };
    names = refl;
    tells = refl;
  };
  not_absent = λ h. some_length (h.answered.told refl refl);
  no_keys = record {
    possible = refl;
    answered = record {
      denied = refl;
      told = λ xray closed. record { levels = LEVELS; machine = fresh (setups (actor 1)); back = waits_no_more; waits = refl; shown = refl };
    };
    names = refl;
    tells = refl;
  };
  denied = record {
    possible = refl;
    answered = record { denied = refl; told = λ xray closed. absurd (true≢false (sym xray)) };
    names = refl;
    tells = refl;
  };
  not_shown = λ h. true≢false (sym h.answered.denied);
  no_cell_of_the_host = λ h. true≢false (sym h.possible);
  no_look_at_the_host = λ h. true≢false (sym h.possible);
  no_look_at_itself = λ h. true≢false (sym h.possible);
  kept_from_page = λ h. true≢false (sym h.tells);
  given_to_page = record {
    possible = refl;
    answered = record { denied = refl; told = λ xray closed. absurd (true≢false closed) };
    names = refl;
    tells = refl;
  };
  no_cell_built = λ h. true≢false (sym h.1);
  no_cell_entered = λ h. true≢false (sym h.1);
  owned = (tt, refl);
  not_given = refl;
  named = refl;
  served = record { fits = refl; there = refl; keys = refl; named = refl };
  not_on_itself = λ h. true≢false (sym h.fits);
  not_of_it = λ h. true≢false (sym h.fits);
  not_named = λ h. true≢false (sym h.named);
  named_then = record { fits = refl; there = refl; keys = refl; named = refl };
  told = record { kind = refl; there = refl; keys = refl; named = refl };
  not_absent_there = λ h. true≢false (sym h.kind);
  not_there = λ h. true≢false (sym h.there);
  not_told = λ h. true≢false (sym h.named);
  defined = record { fits = refl; there = refl; keys = refl; named = refl };
  not_on_window = λ h. true≢false (sym h.fits);
}
