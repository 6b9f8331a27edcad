use Rattle.dom_tree.proofs.ancestors.+is_above.Given as goal

abbrev pub decreases-is_above : goal.decreases-is_above
decreases-is_above l = l.limit
