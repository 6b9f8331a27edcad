use Rattle.std.proofs.Common.{◌∙◌}
use Rattle.dom_tree.proofs.Same.{removed-at}
use Rattle.dom_tree.proofs.node_changes.remove_node.Goals as goal

pub returns : goal.returns
returns c = c.drop_child.ensures ∙ removed-at c.args.nodes.now c.requires.forest c.args.node c.args.parent c.requires.known c.requires.from
