use Rattle.std.proofs.Common.{◌≡◌, ◌≤◌, ◌-◌, ◌++◌, length}
use Rattle.js_objects.specs.Heaps.{no_cells}
use Rattle.js_objects.proofs.owner.fill.Given as goal

abbrev pub invariant-loop-places : goal.invariant-loop-places
invariant-loop-places l = (l.places.items ≡ l.fn.places.items ++ no_cells (length l.places.items - length l.fn.places.items)) × (length l.places.items - length l.fn.places.items ≤ l.to - length l.fn.places.items)

abbrev pub decreases-loop-places : goal.decreases-loop-places
decreases-loop-places l = l.to - length l.places.items
