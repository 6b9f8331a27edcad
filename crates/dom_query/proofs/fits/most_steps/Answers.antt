use Rattle.std.proofs.Common.{refl}
use Rattle.dom_semantics.specs.Forest.{DEPTH_LIMIT}
use Rattle.dom_query.proofs.fits.most_steps.Goals as goal

pub returns : goal.returns
unfolding DEPTH_LIMIT
returns c = refl
