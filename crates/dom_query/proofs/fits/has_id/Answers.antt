use Rattle.std.proofs.Common.{◌∙◌}
use Rattle.dom_query.proofs.SingleTests.{has_id-some, has_id-none}
use Rattle.dom_query.proofs.fits.has_id.Goals as goal

pub returns-in-Some : goal.returns-in-Some
returns-in-Some c = c.eq.ensures ∙ has_id-some c.args.id.now c.in-Some.value.now c.args.attributes.now c.in-Some.ensures

pub returns-in-None : goal.returns-in-None
returns-in-None c = has_id-none c.args.id.now c.args.attributes.now c.in-None.ensures
