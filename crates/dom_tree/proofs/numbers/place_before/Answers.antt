use Rattle.std.proofs.Common.{sym}
use Rattle.dom_tree.proofs.Lists.{insert-end}
use Rattle.dom_tree.proofs.numbers.place_before.Goals as goal

pub returns-in-None-clause-placed : goal.returns-in-None-clause-placed
returns-in-None-clause-placed c n = rw c.in-None.is (sym (insert-end c.args.numbers.now n))
