use Rattle.std.proofs.Common.{ap, Err}
use Rattle.serde_json.specs.View.{view}
use Rattle.gm_store.proofs.Fits.{loaded_fit}
use Rattle.gm_store.proofs.stores.Stores.load.Goals as goal

pub returns-in-Err-Shape-clause-bad_shape : goal.returns-in-Err-Shape-clause-bad_shape
returns-in-Err-Shape-clause-bad_shape c = λ _. (view c.in-Ok.value, c.in-Ok.ensures.ok, λ h. c.in-Err-Shape.ensures.bad (ap (λ e. Err e) c.in-Err-Shape.field-0-is) h.0 h.1)

pub invariant_of-result : goal.invariant_of-result
invariant_of-result c = loaded_fit (view c.in-Ok.value) c.in-Ok-read_stored.scripts c.in-Ok-read_stored.ensures.ok
