use Rattle.small_forms.proofs.PageFronts.{read_one_way}
use Rattle.small_forms.proofs.page.pages_are_read_one_way.Goals as goal

pub returns : goal.returns
returns c = λ bytes page other is so. read_one_way bytes page other is so
