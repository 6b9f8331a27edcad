use Rattle.small_scripts.proofs.Whole.{page_script_spells}
use Rattle.small_scripts.proofs.laws.page_scripts_spell_their_lines.Goals as goal

pub returns : goal.returns
returns c = page_script_spells
