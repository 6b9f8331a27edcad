use Rattle.small_scripts.proofs.Whole.{userscript_spells}
use Rattle.small_scripts.proofs.laws.userscripts_spell_their_lines.Goals as goal

pub returns : goal.returns
returns c = userscript_spells
