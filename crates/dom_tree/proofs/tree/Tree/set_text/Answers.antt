use Rattle.std.proofs.Common.{sym, ◌∙◌, ap, refl, subst, ◌<◌}
use Rattle.std.specs.Prelude.{length}
use Rattle.std.proofs.lemmas.List.{length-set}
use Rattle.dom_semantics.specs.Forest.{Forest, node_at, form_at}
use Rattle.dom_semantics.specs.Changes.{with_form}
use Rattle.dom_tree.specs.Forms.{data_in}
use Rattle.dom_tree.proofs.Closing.{tree_refilled}
use Rattle.dom_tree.proofs.Trees.{tree-set, is_document-data_in}
use Rattle.dom_tree.proofs.tree.Tree.set_text.Goals as goal

pub invariant_of-self : goal.invariant_of-self
invariant_of-self c =
    let s = c.self.inside in
    let f = s.nodes.items in
    let node = c.args.node.0 in
    let form = data_in (form_at f node) c.in_ok-text.text in
    let known = subst (λ (g : Forest). node < length g) (sym c.self.view_is) c.requires.known in
    tree_refilled s.nodes.len f c.set_data.new.nodes (with_form f node form) s.parents.items s.counts.items s.nodes.ok.0 (length-set f node _)
    (c.set_data.ensures ∙ ap (λ (g : Forest). with_form g node (data_in (form_at g node) c.in_ok-text.text)) c.deref_mut.ensures.value)
    (tree-set f s.parents.items s.counts.items node (record (node_at f node) { form = form }) known refl (is_document-data_in (form_at f node) c.in_ok-text.text) refl c.self.invariant)
