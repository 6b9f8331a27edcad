use Rattle.solo_model.proofs.FirstFaults.{no_fault}
use Rattle.solo_model.proofs.determinism.scripts_have_no_fault.Goals as goal

pub returns : goal.returns
returns c = λ chains levels tokens script fault a b. no_fault chains levels tokens script fault a b
