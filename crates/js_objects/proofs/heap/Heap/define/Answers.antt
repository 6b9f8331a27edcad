use Rattle.std.proofs.Common.{refl, ap}
use Rattle.js_objects.specs.declared.cell.Cell.{Cell}
use Rattle.js_objects.proofs.HeapRows.{len_within, cell_here, same_head, changed_sound, changed, unchanged, on_err, dense_in, at_count}
use Rattle.js_objects.specs.Within.{PropWithin}
use Rattle.js_objects.proofs.Within.{define_sound}
use Rattle.js_objects.proofs.heap.Heap.define.Goals as goal

pub index_mut-requires : goal.index_mut-requires
index_mut-requires c = len_within _ _ _ _ c.self.view_is c.self.inside.cells.ok.0 c.requires.at

pub invariant_of-self : goal.invariant_of-self
invariant_of-self c = changed_sound _ _ _ _ _ c.self.invariant (cell_here _ _ _ _ c.self.view_is c.requires.at c.index_mut.ensures.value) refl refl (same_head _ _ _ _ c.self.invariant (cell_here _ _ _ _ c.self.view_is c.requires.at c.index_mut.ensures.value) (ap (λ (k : Cell). k.owner) c.define.ensures.rest) (ap (λ (k : Cell). k.place) c.define.ensures.rest) (ap (λ (k : Cell). k.proto) c.define.ensures.rest) (define_sound _ _ _ _ _ c.define.result (c.self.invariant.cell _ _ (cell_here _ _ _ _ c.self.view_is c.requires.at c.index_mut.ensures.value)) (at_count (λ n. PropWithin n c.args.prop) _ _ c.self.view_is c.requires.within) c.define.ensures.rest c.define.ensures.other c.define.ensures.row c.define.ensures.err))

pub returns-clause-row : goal.returns-clause-row
returns-clause-row c = changed _ _ _ _ _ _ _ c.self.view_is (cell_here _ _ _ _ c.self.view_is c.requires.at c.index_mut.ensures.value) refl (c.define.ensures.row, c.define.ensures.rest)

pub returns-clause-err : goal.returns-clause-err
returns-clause-err c = on_err c.define.result (λ q. unchanged _ _ _ _ _ _ c.self.view_is (cell_here _ _ _ _ c.self.view_is c.requires.at c.index_mut.ensures.value) refl q) c.define.ensures.err

pub returns-clause-dense : goal.returns-clause-dense
returns-clause-dense c = λ y e d. dense_in _ _ _ _ _ y (cell_here _ _ _ _ c.self.view_is c.requires.at c.index_mut.ensures.value) refl e (define_sound _ _ _ _ _ c.define.result (c.self.invariant.cell _ _ (cell_here _ _ _ _ c.self.view_is c.requires.at c.index_mut.ensures.value)) (at_count (λ n. PropWithin n c.args.prop) _ _ c.self.view_is c.requires.within) c.define.ensures.rest c.define.ensures.other c.define.ensures.row c.define.ensures.err) d
