use Rattle.std.proofs.Common.{◌∙◌, sym}
use Rattle.small_eval.proofs.Collapses.{text_same, untitled}
use Rattle.small_eval.proofs.title.title_of.Goals as goal

pub returns-in-None-clause-ok : goal.returns-in-None-clause-ok
returns-in-None-clause-ok c = text_same c.of.result _ _ c.of.ensures.ok (untitled c.args.tree.now (sym c.title_element.ensures.found ∙ c.in-None.is))
