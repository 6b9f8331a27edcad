use Rattle.std.proofs.Common.{◌≡◌, ◌≤◌, ◌+◌, drop}
use Rattle.dom_semantics.specs.Listeners.{listeners_of}
use Rattle.dom_events.proofs.listeners.has_room.Given as goal

-- those before the index are counted
abbrev pub invariant-loop-a : goal.invariant-loop-a
invariant-loop-a l = (l.count + listeners_of (drop l.a-index l.registered) l.owner ≡ listeners_of l.registered l.owner) × (l.count ≤ l.a-index)
