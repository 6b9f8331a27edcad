use Rattle.std.proofs.Common.{refl}
use Rattle.dom_semantics.specs.Forest.{DEPTH_LIMIT}
use Rattle.dom_tree.proofs.limits.depth_limit.Goals as goal

pub returns-clause-exact : goal.returns-clause-exact
unfolding DEPTH_LIMIT
returns-clause-exact c = refl
