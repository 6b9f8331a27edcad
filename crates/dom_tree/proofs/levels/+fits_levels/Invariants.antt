use Rattle.std.proofs.Common.{◌≡◌, ◌-◌, drop}
use Rattle.std.specs.List.{list_all}
use Rattle.dom_semantics.specs.Forest.{has_levels, children_of}
use Rattle.dom_tree.proofs.levels.+fits_levels.Given as goal

abbrev pub decreases-fits_levels : goal.decreases-fits_levels
decreases-fits_levels l = l.levels

-- whether the children that are left fit decides
abbrev pub invariant-loop-child : goal.invariant-loop-child
invariant-loop-child l =
    (l.child-items ≡ children_of l.nodes l.n)
    × (list_all (λ child. has_levels (l.levels - 1) l.nodes child) (drop l.child-index l.child-items) ≡ has_levels l.levels l.nodes l.n)
