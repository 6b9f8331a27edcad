use Rattle.std.proofs.Common.{◌≡◌, ◌++◌, drop}
use Rattle.std.specs.List.{filter}
use Rattle.dom_semantics.specs.Forest.{form_at}
use Rattle.dom_tree.specs.Ids.{numbers_of}
use Rattle.dom_semantics.specs.Queries.{is_of_tag}
use Rattle.dom_query.proofs.queries.by_tag.Given as goal

-- what is found and what passes of the nodes that are left is all that passes
abbrev pub invariant-loop-n : goal.invariant-loop-n
invariant-loop-n l = numbers_of l.found.items ++ filter (λ m. is_of_tag l.tag (form_at l.tree m)) (drop l.n-index l.n-items) ≡ filter (λ m. is_of_tag l.tag (form_at l.tree m)) l.n-items
