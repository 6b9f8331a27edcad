use Rattle.solo_model.proofs.FirstFaults.{one_fault}
use Rattle.solo_model.proofs.determinism.tokens_have_one_first_fault.Goals as goal

pub returns : goal.returns
returns c = λ chains levels tokens fault other a b. one_fault chains levels tokens fault other a b
