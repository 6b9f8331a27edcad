use Rattle.std.proofs.Common.{ap, refl, sym, true≢false, is_some}
use Rattle.std.specs.Char.{encode_utf8}
use Rattle.dom_semantics.specs.Forest.{DEPTH_LIMIT, NODE_LIMIT}
use Rattle.dom_semantics.specs.Listeners.{LISTENER_LIMIT}
use Rattle.dom_semantics.specs.Timers.{TIMER_LIMIT}
use Rattle.dom_semantics.specs.Stage.{NESTED_DISPATCH_LIMIT, DISPATCH_LIMIT}
use Rattle.dom_semantics.specs.StageOf.{course_from}
use Rattle.dom_semantics.specs.SelectorReadingModel.{next, build, finish, run}
use Rattle.solo_model.specs.Given.{Userscript}
use Rattle.solo_model.specs.Nesting.{progress_from}
use Rattle.solo_model.specs.Tasks.{TASK_LIMIT}
use Rattle.solo_model.specs.NextMark.{AreAllowed}
use Rattle.solo_model.specs.Genuine.{AreTrueMarks}
use Rattle.solo_model.specs.Runs.{ran}
use Rattle.solo_model.proofs.facts.runs_are_computed.Goals as goal

pub returns : goal.returns
unfolding DEPTH_LIMIT NODE_LIMIT LISTENER_LIMIT TIMER_LIMIT NESTED_DISPATCH_LIMIT DISPATCH_LIMIT course_from next build finish run progress_from TASK_LIMIT ran encode_utf8 AreAllowed AreTrueMarks
returns c = record {
  moments = refl;
  moment_entries = refl;
  ready_states = refl;
  titled = refl;
  due_order = refl;
  not_due = refl;
  due_later = refl;
  no_tick = refl;
  meanwhile = refl;
  no_delay = refl;
  again = refl;
  clock_of_line = refl;
  due_after_line = refl;
  two_actors = refl;
  eleven = refl;
  stopped = refl;
  input = refl;
  own_selector = refl;
  click_line = refl;
  missed = refl;
  removed = refl;
  first_that_fits = refl;
  trusted = refl;
  event_line = refl;
  four = refl;
  last_task = refl;
  too_many = refl;
  lawful = record { so_far = (refl, (refl, (refl, (refl, (refl, (refl, (refl, (refl, (refl, (refl, (refl, (refl, (refl, (refl, (refl, (refl, (refl, (refl, (refl, (refl, ((refl, tt), (refl, (refl, (refl, (refl, tt))))))))))))))))))))))))); whole = refl };
  genuine = ((tt, refl), ((refl, refl), ((refl, refl), ((refl, refl), ((refl, refl), ((refl, refl), ((refl, refl), ((refl, refl), ((refl, refl), ((refl, refl), ((refl, refl), ((tt, refl), ((refl, refl), ((record { fits = refl; there = refl; free = refl }, refl), ((tt, refl), ((tt, refl), ((tt, refl), ((record { possible = refl; answered = tt; names = refl; tells = refl }, refl), ((record { possible = refl; answered = tt; names = refl; tells = refl }, refl), ((record { possible = refl; answered = tt; names = refl; tells = refl }, refl), ((tt, refl), ((tt, refl), ((refl, refl), ((record { fits = refl; there = refl; free = refl }, refl), ((tt, refl), tt)))))))))))))))))))))))));
  none_waits = refl;
  waits = refl;
  not_by_tasks = λ h. true≢false (sym h.waits);
  not_by_marks = λ h. h.due refl;
  cut = refl;
  counted = refl;
  apart = refl;
  refused = λ h. refl;
  not_refused = λ h. true≢false (ap (λ (script : Userscript). is_some script.starter) (h refl));
}
