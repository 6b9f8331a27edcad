use Rattle.std.proofs.Common.{sym, ◌∙◌, ap, refl, arith, subst, ◌<◌, ◌^◌}
use Rattle.std.specs.Prelude.{length, [], ◌∷◌, ◌++◌}
use Rattle.dom_semantics.specs.Forest.{Forest, Node, node_at}
use Rattle.dom_tree.proofs.Blocks.{no_document-after}
use Rattle.dom_tree.proofs.NodeLemmas.{node_at-read}
use Rattle.dom_tree.proofs.Trees.{tree_with_node}
use Rattle.dom_tree.proofs.tree.Tree.clone_alone.Goals as goal

pub invariant_of-self-2 : goal.invariant_of-self-2
invariant_of-self-2 c =
    let s = c.self.inside in
    let f = s.nodes.items in
    let e = c.in_ok-add_node.ensures in
    let n = c.args.n in
    let known : n < length f = subst (λ (g : Forest). n < length g) (sym c.self.view_is) c.requires.known in
    let small : length f < 2 ^ 31 = subst (λ (g : Forest). length g < 2 ^ 31) (sym c.self.view_is) c.requires.room in
    let read = node_at-read f n c.index.result.now known c.index.ensures in
    let copy = c.in_ok-copy.ensures ∙ ap (λ (x : Node). record x { maker = c.args.maker; children = [] }) read in
    tree_with_node f _ s.parents.items _ s.counts.items _ (record (node_at f n) { maker = c.args.maker; children = [] }) refl (no_document-after f c.self.invariant.forest n c.requires.plain) (omega arith)
    (e.nodes ∙ ap (λ (y : Node). f ++ y ∷ []) copy) e.parents e.counts c.self.invariant
