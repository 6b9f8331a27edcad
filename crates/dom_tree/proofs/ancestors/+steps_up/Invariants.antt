use Rattle.dom_tree.proofs.ancestors.+steps_up.Given as goal

abbrev pub decreases-steps_up : goal.decreases-steps_up
decreases-steps_up l = l.limit
