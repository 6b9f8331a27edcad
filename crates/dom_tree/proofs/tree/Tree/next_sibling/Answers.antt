use Rattle.std.proofs.Common.{sym, ◌∙◌, ap, arith, subst, ◌≡◌, ◌<◌}
use Rattle.std.specs.Prelude.{Some, None, length, option_and_then}
use Rattle.std.proofs.lemmas.List.{get_or_read}
use Rattle.dom_semantics.specs.Forest.{Node, Forest, parent_of, children_of, after_in, next_sibling_of}
use Rattle.dom_tree.proofs.NodeLemmas.{node_at-read}
use Rattle.dom_tree.proofs.Parents.{parent_of-child, child-within}
use Rattle.dom_tree.proofs.tree.Tree.next_sibling.Goals as goal

pub index-requires-2 : goal.index-requires-2
index-requires-2 c =
    let f = c.self.inside.nodes.items in
    let n = c.args.n.0 in
    let rows = c.self.invariant.rows in
    let lt = subst (λ (g : Forest). n < length g) (sym c.self.view_is) c.requires in
    let some : parent_of f n ≡ Some c.in_ok-parent.parent = sym (c.self.invariant.parents n) ∙ (sym (get_or_read c.self.inside.parents.items n c.index.result.now (omega arith) c.index.ensures None) ∙ c.in_ok-parent.was) in
    let within = child-within f c.in_ok-parent.parent n (parent_of-child f n c.in_ok-parent.parent some) in
    omega (arith, c.self.inside.nodes.ok.0)

pub returns : goal.returns
returns c =
    let f = c.self.inside.nodes.items in
    let n = c.args.n.0 in
    let rows = c.self.invariant.rows in
    let lt = subst (λ (g : Forest). n < length g) (sym c.self.view_is) c.requires in
    let some : parent_of f n ≡ Some c.in_ok-parent.parent = sym (c.self.invariant.parents n) ∙ (sym (get_or_read c.self.inside.parents.items n c.index.result.now (omega arith) c.index.ensures None) ∙ c.in_ok-parent.was) in
    let within = child-within f c.in_ok-parent.parent n (parent_of-child f n c.in_ok-parent.parent some) in
    let children = c.children.ensures ∙ ap (λ (y : Node). y.children) (node_at-read f c.in_ok-parent.parent c.index-2.result.now within c.index-2.ensures) in
    (c.in_ok-sibling.ensures ∙ ap (λ cs. after_in n cs) children)
    ∙ (ap (λ o. option_and_then (λ p. after_in n (children_of f p)) o) (sym some) ∙ ap (λ (g : Forest). next_sibling_of g n) c.self.view_is)
