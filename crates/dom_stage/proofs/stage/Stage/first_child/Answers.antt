use Rattle.dom_stage.proofs.NodeMoves.{first_known}
use Rattle.dom_stage.proofs.stage.Stage.first_child.Goals as goal

pub node_or_null-requires : goal.node_or_null-requires
node_or_null-requires c = first_known c.self.inside.tree c.args.thing.number c.first_child-n.result c.is_a_forest.ensures c.first_child-n.ensures
