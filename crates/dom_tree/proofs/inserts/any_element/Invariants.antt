use Rattle.std.proofs.Common.{◌≡◌, drop}
use Rattle.std.specs.List.{list_any}
use Rattle.dom_semantics.specs.Forest.{form_at, is_element}
use Rattle.dom_tree.proofs.inserts.any_element.Given as goal

-- whether one that is left is an element decides
abbrev pub invariant-loop-n : goal.invariant-loop-n
invariant-loop-n l = list_any (λ n. is_element (form_at l.nodes n)) (drop l.n-index l.numbers) ≡ list_any (λ n. is_element (form_at l.nodes n)) l.numbers
