use Rattle.std.proofs.Common.{All, Contains, take}
use Rattle.compartments.proofs.principals.contains_all.Given as goal

abbrev pub invariant-loop-o : goal.invariant-loop-o
invariant-loop-o l = All (Contains l.origins) (take l.o-index l.others)
