use Rattle.std.proofs.Common.{sym, ◌∙◌, ap, arith, subst, ◌<◌, ◌^◌}
use Rattle.std.specs.Prelude.{length, [], ◌∷◌, ◌++◌}
use Rattle.dom_semantics.specs.Forest.{Forest, Node}
use Rattle.dom_tree.specs.Forms.{form_of}
use Rattle.dom_tree.proofs.Trees.{tree_of, tree_with, is_document-form_of}
use Rattle.dom_tree.proofs.tree.Tree.create.Goals as goal

pub invariant_of-self : goal.invariant_of-self
invariant_of-self c =
    let s = c.self.inside in
    let e = c.in_err-add_node.ensures in
    tree_of s.nodes.items _ s.parents.items _ s.counts.items _ e.no_nodes e.no_parents e.no_counts c.self.invariant

pub invariant_of-self-2 : goal.invariant_of-self-2
invariant_of-self-2 c =
    let s = c.self.inside in
    let e = c.in_ok-add_node.ensures in
    let small = subst (λ (g : Forest). length g < 2 ^ 31) (sym c.self.view_is) c.requires in
    tree_with s.nodes.items _ s.parents.items _ s.counts.items _ c.args.maker (form_of c.args.form) (is_document-form_of c.args.form) (omega arith)
    (e.nodes ∙ ap (λ (y : Node). s.nodes.items ++ y ∷ []) c.new-node.ensures) e.parents e.counts c.self.invariant
