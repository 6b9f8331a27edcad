use Rattle.std.proofs.Common.{length}
use Rattle.small_eval.proofs.evaluate.+addition.Given as goal

abbrev pub decreases-addition : goal.decreases-addition
decreases-addition l = length l.more.now
