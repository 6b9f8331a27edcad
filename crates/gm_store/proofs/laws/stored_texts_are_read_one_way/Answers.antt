use Rattle.gm_store.proofs.OneReading.{loads_once, refused_once, not_refused}
use Rattle.gm_store.proofs.laws.stored_texts_are_read_one_way.Goals as goal

pub returns-clause-one : goal.returns-clause-one
returns-clause-one c = λ bytes m n. loads_once bytes m n

pub returns-clause-one_fault : goal.returns-clause-one_fault
returns-clause-one_fault c = λ bytes f g. refused_once bytes f g

pub returns-clause-not_both : goal.returns-clause-not_both
returns-clause-not_both c = λ bytes m f. not_refused bytes m f
