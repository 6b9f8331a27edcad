use Rattle.std.proofs.Common.{refl}
use Rattle.js_objects.proofs.HeapRows.{len_within, same_cell, here_sound}
use Rattle.js_objects.proofs.heap.Heap.form.Goals as goal

pub index-requires : goal.index-requires
index-requires c = len_within _ _ _ _ c.self.view_is c.self.inside.cells.ok.0 c.requires

pub returns-clause-exact : goal.returns-clause-exact
returns-clause-exact c = λ x e. rw (same_cell _ _ _ _ x c.self.view_is c.requires c.index.ensures e) refl

pub returns-clause-within : goal.returns-clause-within
returns-clause-within c = (here_sound _ _ _ _ c.self.view_is c.self.invariant c.requires c.index.ensures).form
