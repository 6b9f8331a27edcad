use Rattle.std.proofs.Common.{subst}
use Rattle.js_objects.specs.Heaps.{Sound}
use Rattle.js_objects.proofs.heap.Heap.count.Goals as goal

pub returns-clause-sound : goal.returns-clause-sound
returns-clause-sound c = subst Sound c.self.view_is c.self.invariant
