use Rattle.std.proofs.Common.{arith}
use Rattle.dom_tree.proofs.Children.{forest_some}
use Rattle.dom_tree.proofs.tree.Tree.count.Goals as goal

pub returns-clause-some : goal.returns-clause-some
returns-clause-some c = let some = forest_some _ c.self.invariant.forest in omega (arith, some, c.len.ensures)
