use Rattle.std.proofs.Common.{◌≡◌, ◌∙◌, ap, subst, slice_index_or}
use Rattle.dom_semantics.specs.Forest.{Forest, IsForest, Node}
use Rattle.dom_tree.proofs.Children.{children_known}
use Rattle.dom_tree.proofs.NodeLemmas.{node_at-read}
use Rattle.dom_tree.proofs.tree.Tree.children.Goals as goal

pub returns-clause-known : goal.returns-clause-known
returns-clause-known c =
    let f : Forest = c.args.self.now in
    let Reads : Forest → Type 0 = λ g. c.index.result.now ≡ slice_index_or g c.args.n.0 c.index.result.now in
    let read = node_at-read f c.args.n.0 c.index.result.now c.requires (subst Reads c.self.view_is c.index.ensures) in
    children_known f c.args.n.0 c.children.result.now (subst IsForest c.self.view_is c.self.invariant.forest) (c.children.ensures ∙ ap (λ (x : Node). x.children) read)
