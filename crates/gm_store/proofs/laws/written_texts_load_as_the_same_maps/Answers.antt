use Rattle.std.proofs.Common.{subst}
use Rattle.std.specs.FinMap as map
use Rattle.gm_store.specs.Limits.{MapsFit}
use Rattle.gm_store.specs.Maps.{Maps}
use Rattle.gm_store.proofs.OneReading.{stored_back, stored_the_same}
use Rattle.gm_store.proofs.laws.written_texts_load_as_the_same_maps.Goals as goal

pub returns-clause-some : goal.returns-clause-some
returns-clause-some c =
    let back = stored_back c.args.stores.now (subst (λ (m : Maps). MapsFit (map.entries m)) c.stores.view_is c.stores.invariant) in (back.0, back.1)

pub returns-clause-same : goal.returns-clause-same
returns-clause-same c = λ m p. stored_the_same c.args.stores.now m (subst (λ (m : Maps). MapsFit (map.entries m)) c.stores.view_is c.stores.invariant) p
