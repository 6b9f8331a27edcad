use Rattle.std.proofs.Common.{◌≡◌, ◌++◌, drop}
use Rattle.std.specs.List.{filter}
use Rattle.dom_semantics.specs.SelectorFits.{fits}
use Rattle.dom_tree.specs.Ids.{numbers_of}
use Rattle.dom_query.proofs.queries.select.Given as goal

-- what is found and what passes of the nodes that are left is all that passes
abbrev pub invariant-loop-n : goal.invariant-loop-n
invariant-loop-n l = numbers_of l.found.items ++ filter (λ m. fits l.tree l.s m) (drop l.n-index l.n-items) ≡ filter (λ m. fits l.tree l.s m) l.n-items
