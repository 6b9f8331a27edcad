use Rattle.std.proofs.Common.{◌≡◌, ◌≤◌, drop}
use Rattle.js_semantics.specs.Properties.{number_spelled, MAX_NUMBER}
use Rattle.js_objects.proofs.key.number_of.Given as goal

abbrev pub invariant-loop-at : goal.invariant-loop-at
invariant-loop-at l = (number_spelled l.number (drop l.at l.key) ≡ number_spelled 0 l.key) × (l.number ≤ MAX_NUMBER)
