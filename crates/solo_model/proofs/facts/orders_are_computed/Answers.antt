use Rattle.std.proofs.Common.{ap, refl, sym, true≢false, Bool, false}
use Rattle.std.specs.Char.{encode_utf8}
use Rattle.dom_semantics.specs.Forest.{DEPTH_LIMIT, NODE_LIMIT}
use Rattle.dom_semantics.specs.Listeners.{LISTENER_LIMIT}
use Rattle.dom_semantics.specs.Timers.{TIMER_LIMIT}
use Rattle.dom_semantics.specs.Stage.{NESTED_DISPATCH_LIMIT, DISPATCH_LIMIT}
use Rattle.dom_semantics.specs.StageOf.{course_from}
use Rattle.solo_model.specs.Nesting.{progress_from}
use Rattle.solo_model.specs.Tasks.{TASK_LIMIT}
use Rattle.door.specs.declared.marks.Mark.{Mark}
use Rattle.door.specs.declared.marks.Mark.TheVariants.{Back}
use Rattle.door.specs.declared.requests.Answer.TheVariants.{Value as ValueAnswer}
use Rattle.door.specs.declared.values.Value.TheVariants.{Bool as BoolValue}
use Rattle.dom_semantics.specs.Things.{is_actor}
use Rattle.solo_model.specs.RunFacts.{actor}
use Rattle.solo_model.proofs.facts.orders_are_computed.Goals as goal

-- what a mark says of a dispatch that comes back
abbrev comes_back_true : Mark → Bool
comes_back_true (Back i (ValueAnswer (BoolValue flag))) = flag
comes_back_true mark = false

pub returns : goal.returns
unfolding encode_utf8 DEPTH_LIMIT NODE_LIMIT LISTENER_LIMIT TIMER_LIMIT NESTED_DISPATCH_LIMIT DISPATCH_LIMIT course_from progress_from TASK_LIMIT
returns c = record {
  by_script = refl;
  not_by_page = λ h. true≢false (ap (λ i. is_actor i (actor 1)) h);
  not_by_host = λ h. h;
  no_entry = λ h. h;
  comes_back_true = refl;
  not_false = λ h. true≢false (sym (ap comes_back_true h));
  prevented = refl;
  ended = refl;
  nothing_more = λ h. h;
  syntax = refl;
  no_syntax = λ h. h;
  no_syntax_of_script = λ h. true≢false (ap (λ i. is_actor i (actor 2)) h);
  entry_of_owner = refl;
  served_next = refl;
  caller_next = refl;
  told = (refl, refl, refl);
  told_stopped = (refl, refl, refl);
  not_stopped = λ h. true≢false h.1;
  not_told = λ h. true≢false (sym h.1);
  not_thrown = λ h. true≢false h.2;
  not_for_owner = λ h. true≢false (ap (λ i. is_actor i (actor 1)) h.0);
  both_open = (refl, refl, refl);
  both_closed = λ h. true≢false (sym h.1);
  owner_closed = λ h. true≢false (sym h.2);
  asker_closed = λ h. true≢false (sym h.1);
  by_another = λ h. true≢false (ap (λ i. is_actor i (actor 2)) h.0);
  sixty_fourth = refl;
  sixty_fifth = refl;
  of_others = refl;
  next_turn = refl;
  fifth_inside = refl;
  host_inside = refl;
}
