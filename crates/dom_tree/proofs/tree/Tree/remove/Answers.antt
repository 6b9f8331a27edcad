use Rattle.std.proofs.Common.{sym, ◌∙◌, ap, subst, ◌≡◌, ◌<◌}
use Rattle.std.specs.Prelude.{None, length, slice_set}
use Rattle.dom_semantics.specs.Forest.{Forest, parent_of, is_child}
use Rattle.dom_semantics.specs.Changes.{removed}
use Rattle.dom_tree.specs.Tree.{IsTree}
use Rattle.dom_tree.proofs.Closing.{refilled}
use Rattle.dom_tree.proofs.Moves.{tree-removed}
use Rattle.dom_tree.proofs.NodeLemmas.{length-removed}
use Rattle.dom_tree.proofs.Parents.{own_parents}
use Rattle.dom_tree.proofs.tree.Tree.remove.Goals as goal

pub remove_node-requires-clause-from : goal.remove_node-requires-clause-from
remove_node-requires-clause-from c =
    let f = c.self.inside.nodes.items in
    let child : is_child f c.args.parent.0 c.args.node.0 ≡ _ = sym (c.if-not-has_child.ensures ∙ ap (λ (g : Forest). is_child g c.args.parent.0 c.args.node.0) c.deref.ensures.value) in
    ap (λ (g : Forest). parent_of g c.args.node.0) c.deref_mut.ensures.value ∙ (own_parents f c.self.invariant.forest).up c.args.parent.0 c.args.node.0 child

pub invariant_of-self : goal.invariant_of-self
invariant_of-self c =
    let nodes = c.self.inside.nodes in
    let new = c.remove_node.new.nodes in
    let is = c.remove_node.ensures ∙ ap (λ (g : Forest). removed g c.args.node.0) c.deref_mut.ensures.value in
    let long = ap length is ∙ length-removed nodes.items c.args.node.0 in
    subst (λ (g : Forest). IsTree g (slice_set c.self.inside.parents.items c.args.node.0 None) c.self.inside.counts.items)
    (sym (refilled nodes.len nodes.items new nodes.ok.0 long ∙ is))
    (tree-removed nodes.items c.self.inside.parents.items c.self.inside.counts.items c.args.node.0 (subst (λ (g : Forest). c.args.node.0 < length g) (sym c.self.view_is) c.requires.node) c.self.invariant)
