use Rattle.dom_stage.proofs.NodeMoves.{parent_known}
use Rattle.dom_stage.proofs.stage.Stage.parent_node.Goals as goal

pub node_or_null-requires : goal.node_or_null-requires
node_or_null-requires c = parent_known c.self.inside.tree c.args.thing.number c.parent-n.result c.parent-n.ensures
