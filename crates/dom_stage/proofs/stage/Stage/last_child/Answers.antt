use Rattle.std.proofs.Common.{length}
use Rattle.dom_stage.proofs.stage.Stage.last_child.Goals as goal

pub node_value-requires : goal.node_value-requires
node_value-requires c = c.in-Some.ensures.known (length c.self.inside.tree) c.children.ensures.known
