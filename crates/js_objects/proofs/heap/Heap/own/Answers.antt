use Rattle.js_objects.proofs.HeapRows.{len_within, same_cell, own_in}
use Rattle.js_objects.proofs.heap.Heap.own.Goals as goal

pub index-requires : goal.index-requires
index-requires c = len_within _ _ _ _ c.self.view_is c.self.inside.cells.ok.0 c.requires

pub returns-clause-row : goal.returns-clause-row
returns-clause-row c = λ x e names. rw (same_cell _ _ _ _ x c.self.view_is c.requires c.index.ensures e) at (c.own.ensures names)

pub returns-clause-within : goal.returns-clause-within
returns-clause-within c = own_in _ _ _ _ c.args.key.now _ c.self.view_is c.self.invariant c.requires c.index.ensures c.own.ensures
