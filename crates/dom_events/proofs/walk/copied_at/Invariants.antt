use Rattle.std.proofs.Common.{◌≡◌, take}
use Rattle.dom_semantics.specs.Walks as spec
use Rattle.dom_events.proofs.walk.copied_at.Given as goal

abbrev pub invariant-loop-a : goal.invariant-loop-a
invariant-loop-a l = l.copied.items ≡ spec.copied_at (take l.a-index l.registered) l.kind l.visit
