use Rattle.std.proofs.Common.{◌≡◌, ◌≤◌, ◌+◌, drop}
use Rattle.dom_semantics.specs.Timers.{timers_of}
use Rattle.timers.proofs.timers.may_set.Given as goal

-- those before the index are counted
abbrev pub invariant-loop-t : goal.invariant-loop-t
invariant-loop-t l = (l.count + timers_of (drop l.t-index l.waiting) l.actor ≡ timers_of l.waiting l.actor) × (l.count ≤ l.t-index)
