use Rattle.std.proofs.Common.{◌≡◌, ◌<◌, length}
use Rattle.std.specs.Prelude.{IfSome}
use Rattle.js_objects.specs.ChainsModel.{comes_to}
use Rattle.js_objects.proofs.heap.Heap.closes.Given as goal

abbrev pub invariant-loop-left : goal.invariant-loop-left
invariant-loop-left l = (comes_to l.left l.self.cells l.c.0 l.next ≡ comes_to (length l.self.cells) l.self.cells l.c.0 l.fn.p) × IfSome l.next (λ q. q.0 < length l.self.cells)

abbrev pub decreases-loop-left : goal.decreases-loop-left
decreases-loop-left l = l.left
