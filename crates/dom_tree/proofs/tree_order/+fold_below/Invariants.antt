use Rattle.std.proofs.Common.{◌≡◌, drop}
use Rattle.dom_semantics.specs.Forest.{children_of}
use Rattle.dom_tree.specs.Folds.{MayFold, TryFolds}
use Rattle.dom_tree.proofs.Folds.{below}
use Rattle.dom_tree.proofs.tree_order.+fold_below.Given as goal

abbrev pub decreases-fold_below : goal.decreases-fold_below
decreases-fold_below g l = l.levels

-- the fold may go on with the children that are left, and what it gives there the whole fold gives
abbrev pub invariant-loop-child : goal.invariant-loop-child
invariant-loop-child g l = record {
  children : l.child-items ≡ children_of l.nodes l.n;
  callable : MayFold (goal.F-pre g l.step) (goal.F-post g l.step) l.nodes l.folded (below l.levels l.nodes (drop l.child-index l.child-items));
  folds : (r : _) → TryFolds (goal.F-post g l.step) l.nodes l.folded (below l.levels l.nodes (drop l.child-index l.child-items)) r
      → TryFolds (goal.F-post g l.step) l.nodes l.fn.init (below l.levels l.nodes (children_of l.nodes l.n)) r;
}
