use Rattle.small_scripts.proofs.OfPages.{script_of_page_spells}
use Rattle.small_scripts.proofs.laws.scripts_of_pages_spell_their_lines.Goals as goal

pub returns : goal.returns
returns c = script_of_page_spells
