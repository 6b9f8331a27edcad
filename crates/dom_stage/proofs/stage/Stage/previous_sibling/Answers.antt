use Rattle.std.proofs.Common.{length, sym}
use Rattle.dom_stage.proofs.NodeMoves.{parent_within}
use Rattle.dom_stage.proofs.stage.Stage.previous_sibling.Goals as goal

pub children-requires : goal.children-requires
children-requires c = parent_within c.self.inside.tree c.args.thing.number c.in-Some.parent.0 (sym c.in-Some.ensures)

pub node_value-requires : goal.node_value-requires
node_value-requires c = c.in-Some-before_in.ensures.known (length c.self.inside.tree) c.children.ensures.known
