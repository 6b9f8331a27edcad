use Rattle.std.proofs.Common.{sym, ◌∙◌, ap, arith, subst, ◌≡◌, ◌<◌, ◌+◌}
use Rattle.std.specs.Prelude.{length, Some, None, [], ◌∷◌, ◌++◌, ℕ, List, Option, slice_set}
use Rattle.std.proofs.Common.{cond, get_or, ◌^◌}
use Rattle.std.proofs.lemmas.List.{length-set, length_push}
use Rattle.dom_semantics.specs.Forest.{Node, Forest, children_of, is_child, is_among, depth_of, DEPTH_LIMIT, Written, new_node}
use Rattle.dom_tree.specs.Tree.{IsTree}
use Rattle.dom_semantics.specs.Changes.{with_children, created}
use Rattle.dom_tree.proofs.Closing.{tree_refilled, refilled}
use Rattle.dom_tree.proofs.NodeLemmas.{node_at-read}
use Rattle.dom_tree.proofs.Replaced.{Orphaned, tree-texted}
use Rattle.dom_tree.proofs.tree.Tree.put_text.Goals as goal

pub invariant_of-self-2 : goal.invariant_of-self-2
invariant_of-self-2 c =
    let s = c.self.inside in
    let f = s.nodes.items in
    let node = c.args.node in
    let e = c.in_ok-add_node.ensures in
    let t = c.args.t.now in
    let known : node < length f = subst (λ (g : Forest). node < length g) (sym c.self.view_is) c.requires.known in
    let depth : depth_of f node < DEPTH_LIMIT = subst (λ (g : Forest). depth_of g node < DEPTH_LIMIT) (sym c.self.view_is) c.requires.depth in
    let small : length f < 2 ^ 31 = subst (λ (g : Forest). length g < 2 ^ 31) (sym c.self.view_is) c.requires.room in
    let g = created f c.args.maker (Written t) in
    let g-is : c.add_node.new.nodes.items ≡ g = e.nodes ∙ (ap (λ (y : Node). f ++ y ∷ []) c.new-text.ensures ∙ ap (λ w. f ++ new_node c.args.maker (Written w) ∷ []) c.in_ok-share.ensures) in
    let added = c.add_node.new.nodes in
    let g-long : length g ≡ length f + 1 = length_push f _ in
    let within : node < length added.items = let l = ap length g-is in omega arith in
    let children = c.children.ensures ∙ (ap (λ (y : Node). y.children) (node_at-read added.items node c.index.result.now within c.index.ensures) ∙ ap (λ (h : Forest). children_of h node) g-is) in
    let above = s.parents.items ++ None ∷ [] in
    let rows = c.deref_mut.ensures.value ∙ e.parents in
    let long = c.orphan.auto.parents ∙ ap length rows in
    let o : Orphaned g node above c.orphan.new.parents = record {
      long = long;
      gone = λ m. c.orphan.ensures m ∙ (ap (λ cs. cond (is_among m cs) None (get_or c.deref_mut.result.now m None)) children ∙ ap (λ r. cond (is_child g node m) None (get_or r m None)) rows);
    } in
    let id : c.len-id.result ≡ length f = c.len-id.ensures ∙ s.nodes.ok.0 in
    let tree = tree-texted f s.parents.items c.orphan.new.parents s.counts.items c.add_node.new.counts.items c.args.maker t node c.self.invariant known depth (omega arith) e.counts o in
    let whole = with_children g node (length f ∷ []) in
    let nodes : c.set_children.new.nodes ≡ whole =
    c.set_children.ensures ∙ (ap (λ (h : Forest). with_children h node c.in_ok-only.only.items) (c.deref_mut-2.ensures.value ∙ g-is) ∙ ap (λ cs. with_children g node cs) (c.in_ok-only.ensures ∙ ap (λ i. i ∷ []) id)) in
    let row = refilled c.add_node.new.parents.len c.add_node.new.parents.items c.orphan.new.parents c.add_node.new.parents.ok.0 (c.orphan.auto.parents ∙ ap length c.deref_mut.ensures.value) in
    tree_refilled added.len added.items c.set_children.new.nodes whole _ c.add_node.new.counts.items added.ok.0 (length-set g node _ ∙ ap length (sym g-is)) nodes
    (subst (λ (r : List (Option ℕ)). IsTree whole r c.add_node.new.counts.items) (sym (ap (λ r. slice_set r c.len-id.result (Some node)) row ∙ ap (λ i. slice_set c.orphan.new.parents i (Some node)) id)) tree)
