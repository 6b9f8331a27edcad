use Rattle.std.proofs.Common.{sym, ◌∙◌, ap, refl, subst, ◌<◌}
use Rattle.std.specs.Prelude.{length}
use Rattle.std.proofs.lemmas.List.{length-set}
use Rattle.dom_semantics.specs.Forest.{Forest, node_at, attributes_of}
use Rattle.dom_semantics.specs.Changes.{with_attribute, set_in}
use Rattle.dom_tree.proofs.Closing.{tree_refilled}
use Rattle.dom_tree.proofs.Trees.{tree-set}
use Rattle.dom_tree.proofs.tree.Tree.set_attr.Goals as goal

pub invariant_of-self-2 : goal.invariant_of-self-2
invariant_of-self-2 c =
    let s = c.self.inside in
    let f = s.nodes.items in
    let node = c.args.node.0 in
    let known = subst (λ (g : Forest). node < length g) (sym c.self.view_is) c.requires.known in
    tree_refilled s.nodes.len f c.set_attribute.new.nodes (with_attribute f node c.args.name.now c.args.value.now) s.parents.items s.counts.items s.nodes.ok.0 (length-set f node _)
    (c.in_ok-set_attribute.ensures.ok ∙ ap (λ (g : Forest). with_attribute g node c.args.name.now c.args.value.now) c.deref_mut.ensures.value)
    (tree-set f s.parents.items s.counts.items node (record (node_at f node) { attributes = set_in c.args.name.now c.args.value.now (attributes_of f node) }) known refl refl refl c.self.invariant)
