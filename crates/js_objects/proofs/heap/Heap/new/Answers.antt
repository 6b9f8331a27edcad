use Rattle.js_objects.proofs.HeapRows.{empty_sound}
use Rattle.js_objects.proofs.heap.Heap.new.Goals as goal

pub invariant_of-result : goal.invariant_of-result
invariant_of-result c = empty_sound _ c.new.ensures.items c.new-2.ensures.items
