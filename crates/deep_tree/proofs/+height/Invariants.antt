use Rattle.deep_tree.proofs.+height.Given as goal

abbrev pub decreases-height : goal.decreases-height
decreases-height l = l.most
