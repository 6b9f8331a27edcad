use Rattle.std.proofs.Common.{◌≡◌, ◌≤◌, drop, length}
use Rattle.dom_semantics.specs.Timers as spec
use Rattle.timers.proofs.timers.first_due.Given as goal

abbrev pub decreases-loop-at : goal.decreases-loop-at
decreases-loop-at l = l.at

-- the first of those from the index on
abbrev pub invariant-loop-at : goal.invariant-loop-at
invariant-loop-at l = (l.first ≡ spec.first_due (drop l.at l.waiting)) × (l.at ≤ length l.waiting)
