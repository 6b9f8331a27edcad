use Rattle.small_forms.proofs.Userscripts.{read_one_way}
use Rattle.small_forms.proofs.userscript.userscripts_are_read_one_way.Goals as goal

pub returns : goal.returns
returns c = λ text name other lines more is so. read_one_way text name other lines more is so
