use Rattle.solo_model.proofs.OneName.{one_object, one_thing}
use Rattle.solo_model.proofs.laws.names_tell_what_they_name.Goals as goal

pub returns-clause-things : goal.returns-clause-things
returns-clause-things c = λ met a b known same. one_thing met a b known same

pub returns-clause-objects : goal.returns-clause-objects
returns-clause-objects c = λ met a b known same. one_object met a b known same
