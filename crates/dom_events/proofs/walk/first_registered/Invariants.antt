use Rattle.std.proofs.Common.{◌≡◌, drop}
use Rattle.dom_semantics.specs.Walks as spec
use Rattle.dom_events.proofs.walk.first_registered.Given as goal

-- what is due is due after these
abbrev pub invariant-loop-place : goal.invariant-loop-place
invariant-loop-place l = spec.found_among l.registered l.here l.numbers ≡ spec.found_among l.registered l.here (drop l.place l.numbers)
