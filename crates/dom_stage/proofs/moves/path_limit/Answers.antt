use Rattle.std.proofs.Common.{refl}
use Rattle.dom_semantics.specs.Forest.{DEPTH_LIMIT}
use Rattle.dom_stage.proofs.moves.path_limit.Goals as goal

pub returns : goal.returns
unfolding DEPTH_LIMIT
returns c = refl
