use Rattle.gm_store.proofs.OnStage.{nothing_kept, got, named, refused, set_alike, deleted_alike}
use Rattle.gm_store.proofs.laws.maps_are_kept_as_on_the_stage.Goals as goal

pub returns-clause-new : goal.returns-clause-new
returns-clause-new c = nothing_kept

pub returns-clause-get : goal.returns-clause-get
returns-clause-get c = λ m stores owner key. got m stores owner key

pub returns-clause-names : goal.returns-clause-names
returns-clause-names c = λ m stores owner. named m stores owner

pub returns-clause-limit : goal.returns-clause-limit
returns-clause-limit c = λ m stores owner key. refused m stores owner key

pub returns-clause-set : goal.returns-clause-set
returns-clause-set c = λ m stores owner key v. set_alike m stores owner key v

pub returns-clause-delete : goal.returns-clause-delete
returns-clause-delete c = λ m stores owner key. deleted_alike m stores owner key
