use Rattle.std.proofs.Common.{refl}
use Rattle.js_objects.proofs.HeapRows.{len_within, cell_here, changed_sound, changed, on_ok, put_named, same_head, at_count}
use Rattle.js_objects.specs.Within.{SlotWithin}
use Rattle.js_objects.proofs.Within.{bind_sound}
use Rattle.js_objects.proofs.heap.Heap.scope_set.Goals as goal

pub index_mut-requires : goal.index_mut-requires
index_mut-requires c = len_within _ _ _ _ c.self.view_is c.self.inside.cells.ok.0 c.requires.at

pub invariant_of-self : goal.invariant_of-self
invariant_of-self c = changed_sound _ _ _ _ _ c.self.invariant (cell_here _ _ _ _ c.self.view_is c.requires.at c.index_mut.ensures.value) refl refl (same_head _ _ _ _ c.self.invariant (cell_here _ _ _ _ c.self.view_is c.requires.at c.index_mut.ensures.value) refl refl refl (bind_sound _ _ _ _ _ c.put.result (c.self.invariant.cell _ _ (cell_here _ _ _ _ c.self.view_is c.requires.at c.index_mut.ensures.value)) (at_count (λ n. SlotWithin n c.args.value) _ _ c.self.view_is c.requires.within) c.put.ensures.ok c.put.ensures.err))

pub returns-clause-ok : goal.returns-clause-ok
returns-clause-ok c = on_ok c.put.result (λ e. changed _ _ _ _ _ _ _ c.self.view_is (cell_here _ _ _ _ c.self.view_is c.requires.at c.index_mut.ensures.value) refl ((λ names. put_named names c.args.name.now c.args.value c.index_mut.result.now.bindings _ e), refl)) c.put.ensures.ok
