use Rattle.std.proofs.Common.{take, IsTrue}
use Rattle.small_forms.specs.Bytes.{are_in}
use Rattle.small_forms.proofs.bytes.front.Given as goal

abbrev pub invariant-loop-at : goal.invariant-loop-at
invariant-loop-at l = IsTrue (are_in l.class (take l.at l.bytes))
