use Rattle.std.proofs.Common.{sym, ◌∙◌}
use Rattle.small_forms.proofs.PageLines.{same_lines}
use Rattle.small_forms.proofs.page.page_scripts_are_read_one_way.Goals as goal

pub returns : goal.returns
returns c = λ text lines more is so. same_lines lines more is.adds so.adds (sym is.whole ∙ so.whole)
