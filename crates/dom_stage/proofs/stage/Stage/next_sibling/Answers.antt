use Rattle.dom_stage.proofs.NodeMoves.{next_known}
use Rattle.dom_stage.proofs.stage.Stage.next_sibling.Goals as goal

pub node_or_null-requires : goal.node_or_null-requires
node_or_null-requires c = next_known c.self.inside.tree c.args.thing.number c.next_sibling-n.result c.is_a_forest.ensures c.next_sibling-n.ensures
