use Rattle.std.proofs.Common.{◌∙◌}
use Rattle.small_eval.proofs.Collapses.{text_same}
use Rattle.small_eval.proofs.title.told.Goals as goal

pub returns-in-Ok-clause-ok : goal.returns-in-Ok-clause-ok
returns-in-Ok-clause-ok c = text_same c.of.result _ _ c.of.ensures.ok (c.as_str.ensures.value ∙ c.in-Ok.ensures)
