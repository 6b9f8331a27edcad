use Rattle.gm_store.proofs.SameText.{one_text}
use Rattle.gm_store.proofs.laws.stores_that_keep_the_same_have_one_text.Goals as goal

pub returns : goal.returns
returns c = λ m n h. one_text m n h
