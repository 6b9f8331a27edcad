use Rattle.std.proofs.Common.{◌∙◌, ap}
use Rattle.std.specs.Prelude.{not, ◌||◌}
use Rattle.dom_semantics.specs.Forest.{Node, takes_children, is_inclusive_ancestor}
use Rattle.dom_tree.proofs.NodeLemmas.{node_at-read}
use Rattle.dom_tree.proofs.Rows.{known-rows, above-same}
use Rattle.dom_tree.proofs.inserts.cannot_parent.Goals as goal

pub is_above-above-requires-clause-known : goal.is_above-above-requires-clause-known
is_above-above-requires-clause-known c = known-rows c.args.nodes.now c.args.parents.now c.requires.parents

pub returns-else-not-takes_children : goal.returns-else-not-takes_children
returns-else-not-takes_children c =
    let same = c.is_above-above.ensures ∙ above-same c.args.nodes.now c.args.parents.now c.requires.parents c.depth_limit.result c.args.parent c.args.node c.depth_limit.ensures.exact in
    let f = c.args.nodes.now in
    let kind = c.if-not-takes_children.ensures ∙ ap (λ (y : Node). takes_children y.form) (node_at-read f c.args.parent c.index-nodes-parent.result c.requires.parent c.index-nodes-parent.is) in
    same ∙ ap (λ b. not b || is_inclusive_ancestor f c.args.node c.args.parent) kind
