use Rattle.std.proofs.Common.{refl}
use Rattle.js_objects.proofs.HeapRows.{len_within, same_cell}
use Rattle.js_objects.proofs.heap.Heap.place.Goals as goal

pub index-requires : goal.index-requires
index-requires c = len_within _ _ _ _ c.self.view_is c.self.inside.cells.ok.0 c.requires

pub returns : goal.returns
returns c = λ x e. rw (same_cell _ _ _ _ x c.self.view_is c.requires c.index.ensures e) refl
