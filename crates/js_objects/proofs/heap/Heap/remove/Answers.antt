use Rattle.std.proofs.Common.{refl, ap}
use Rattle.js_objects.specs.declared.cell.Cell.{Cell}
use Rattle.js_objects.proofs.HeapRows.{len_within, cell_here, same_head, changed_sound, changed}
use Rattle.js_objects.proofs.Within.{remove_sound}
use Rattle.js_objects.proofs.heap.Heap.remove.Goals as goal

pub index_mut-requires : goal.index_mut-requires
index_mut-requires c = len_within _ _ _ _ c.self.view_is c.self.inside.cells.ok.0 c.requires

pub invariant_of-self : goal.invariant_of-self
invariant_of-self c = changed_sound _ _ _ _ _ c.self.invariant (cell_here _ _ _ _ c.self.view_is c.requires c.index_mut.ensures.value) refl refl (same_head _ _ _ _ c.self.invariant (cell_here _ _ _ _ c.self.view_is c.requires c.index_mut.ensures.value) (ap (λ (k : Cell). k.owner) c.remove.ensures.rest) (ap (λ (k : Cell). k.place) c.remove.ensures.rest) (ap (λ (k : Cell). k.proto) c.remove.ensures.rest) (remove_sound _ _ _ _ c.remove.result (c.self.invariant.cell _ _ (cell_here _ _ _ _ c.self.view_is c.requires c.index_mut.ensures.value)) c.remove.ensures.rest c.remove.ensures.row))

pub returns : goal.returns
returns c = changed _ _ _ _ _ _ _ c.self.view_is (cell_here _ _ _ _ c.self.view_is c.requires c.index_mut.ensures.value) refl (c.remove.ensures.row, c.remove.ensures.rest)
