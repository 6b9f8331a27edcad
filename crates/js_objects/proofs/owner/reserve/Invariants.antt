use Rattle.std.proofs.Common.{◌-◌, suc, length}
use Rattle.js_objects.specs.Heaps.{SameOwners}
use Rattle.js_objects.proofs.owner.reserve.Given as goal

abbrev pub invariant-loop-owner : goal.invariant-loop-owner
invariant-loop-owner l = SameOwners l.fn.owners.items l.owners.items

abbrev pub decreases-loop-owner : goal.decreases-loop-owner
decreases-loop-owner l = suc l.owner.0 - length l.owners.items
