use Rattle.std.proofs.Common.{sym, ◌∙◌, ap, subst, ◌<◌}
use Rattle.std.specs.Prelude.{length, None, []}
use Rattle.std.proofs.Common.{cond, get_or}
use Rattle.std.proofs.lemmas.List.{length-set}
use Rattle.dom_semantics.specs.Forest.{Node, Forest, is_child, is_among}
use Rattle.dom_semantics.specs.Changes.{with_children}
use Rattle.dom_tree.proofs.Closing.{tree_both}
use Rattle.dom_tree.proofs.NodeLemmas.{node_at-read}
use Rattle.dom_tree.proofs.Replaced.{Orphaned, tree-emptied}
use Rattle.dom_tree.proofs.tree.Tree.drop_children.Goals as goal

pub invariant_of-self : goal.invariant_of-self
invariant_of-self c =
    let s = c.self.inside in
    let f = s.nodes.items in
    let node = c.args.node in
    let known = subst (λ (g : Forest). node < length g) (sym c.self.view_is) c.requires in
    let children = c.children.ensures ∙ ap (λ (y : Node). y.children) (node_at-read f node c.index.result.now known c.index.ensures) in
    let long = c.orphan.auto.parents ∙ ap length c.deref_mut.ensures.value in
    let o : Orphaned f node s.parents.items c.orphan.new.parents = record {
      long = long;
      gone = λ m. c.orphan.ensures m ∙ (ap (λ cs. cond (is_among m cs) None (get_or c.deref_mut.result.now m None)) children ∙ ap (λ rows. cond (is_child f node m) None (get_or rows m None)) c.deref_mut.ensures.value);
    } in
    tree_both s.nodes.len f c.set_children.new.nodes (with_children f node []) s.parents.len s.parents.items c.orphan.new.parents s.counts.items s.nodes.ok.0 (length-set f node _)
    (c.set_children.ensures ∙ (ap (λ cs. with_children c.deref_mut-2.result.now node cs) c.new.ensures.items ∙ ap (λ (g : Forest). with_children g node []) c.deref_mut-2.ensures.value))
    s.parents.ok.0 long (tree-emptied f s.parents.items c.orphan.new.parents s.counts.items node known o c.self.invariant)
