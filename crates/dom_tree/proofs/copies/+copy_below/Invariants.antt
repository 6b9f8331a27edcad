use Rattle.std.proofs.Common.{◌≡◌, ◌+◌, ◌-◌, ◌++◌, [], ◌∷◌, drop, length, Some}
use Rattle.dom_semantics.specs.Forest.{children_of, node_at}
use Rattle.dom_semantics.specs.Changes.{laid, starts, copied}
use Rattle.dom_tree.specs.Copies.{parents_laid, parents_of_copies}
use Rattle.dom_tree.proofs.copies.+copy_below.Given as goal

abbrev pub decreases-copy_below : goal.decreases-copy_below
decreases-copy_below l = l.levels

-- what is there and the copies of the children that are left are all that is to be there; so are the parents and the children's numbers
abbrev pub invariant-loop-child : goal.invariant-loop-child
invariant-loop-child l = record {
  items : l.child-items ≡ children_of l.nodes l.n;
  nodes : l.copies.nodes.items ++ laid (copied (l.levels - 1) l.nodes l.maker) (length l.nodes + length l.copies.nodes.items) (drop l.child-index l.child-items) ≡ l.fn.copies.nodes.items ++ record (node_at l.nodes l.n) { maker = l.maker; children = [] } ∷ laid (copied (l.levels - 1) l.nodes l.maker) (length l.nodes + length l.fn.copies.nodes.items + 1) (children_of l.nodes l.n);
  parents : l.copies.parents.items ++ parents_laid (parents_of_copies (l.levels - 1) l.nodes (Some (length l.nodes + length l.fn.copies.nodes.items))) (length l.nodes + length l.copies.nodes.items) (drop l.child-index l.child-items) ≡ l.fn.copies.parents.items ++ l.fn.parent ∷ parents_laid (parents_of_copies (l.levels - 1) l.nodes (Some (length l.nodes + length l.fn.copies.nodes.items))) (length l.nodes + length l.fn.copies.nodes.items + 1) (children_of l.nodes l.n);
  children : l.children.items ++ starts (copied (l.levels - 1) l.nodes l.maker) (length l.nodes + length l.copies.nodes.items) (drop l.child-index l.child-items) ≡ starts (copied (l.levels - 1) l.nodes l.maker) (length l.nodes + length l.fn.copies.nodes.items + 1) (children_of l.nodes l.n);
}
