use Rattle.small_forms.proofs.PageLines.{few_lines}
use Rattle.small_forms.proofs.RawTexts.{page_script_ascii}
use Rattle.small_forms.proofs.page.page_scripts_are_ascii.Goals as goal

pub returns : goal.returns
returns c = record { text = λ text lines is. page_script_ascii text lines is; lines = λ text lines is. few_lines text lines is }
