use Rattle.std.proofs.Common.{rules}
use Rattle.dom_tree.proofs.Folds.{finds-find}
use Rattle.dom_query.proofs.walk.first_of_id.Goals as goal

pub returns : goal.returns
returns c = search (rules, finds-find)
