use Rattle.std.proofs.Common.{refl}
use Rattle.dom_semantics.specs.Forest.{NODE_LIMIT}
use Rattle.dom_tree.proofs.limits.node_limit.Goals as goal

pub returns-clause-exact : goal.returns-clause-exact
unfolding NODE_LIMIT
returns-clause-exact c = refl
