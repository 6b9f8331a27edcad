use Rattle.std.proofs.Common.{ap}
use Rattle.small_forms.specs.declared.script.Line.{Line}
use Rattle.small_meaning.specs.Rows.{line_row}
use Rattle.small_eval.proofs.Rows.{stands_at}
use Rattle.small_eval.proofs.evaluate.line.Goals as goal

pub returns-in-Log-clause-own : goal.returns-in-Log-clause-own
returns-in-Log-clause-own c = λ s c' h. c.log_line.ensures.own s c' (stands_at _ _ _ _ _ (ap (λ (x : Line). line_row c.args.zone x c' c.args.fuel.now) c.in-Log.is) h)

pub returns-in-SetTitle-clause-own : goal.returns-in-SetTitle-clause-own
returns-in-SetTitle-clause-own c = λ s c' h. c.title_line.ensures.own s c' (stands_at _ _ _ _ _ (ap (λ (x : Line). line_row c.args.zone x c' c.args.fuel.now) c.in-SetTitle.is) h)
