use Rattle.std.proofs.Common.{◌≡◌, ℕ, drop}
use Rattle.dom_semantics.specs.Walks as spec
use Rattle.dom_events.proofs.walk.first_visit.Given as goal

-- what is due is due after these
abbrev pub invariant-loop-place : goal.invariant-loop-place
invariant-loop-place l = (event : ℕ) → spec.step_along l.registered l.kind event l.visits ≡ spec.step_along l.registered l.kind event (drop l.place l.visits)
