use Rattle.std.proofs.Common.{refl}
use Rattle.js_objects.proofs.HeapRows.{by_result, on_ok, on_err, skipped_sound, skipped, same_sound, same_rest}
use Rattle.js_objects.proofs.heap.Heap.skip_places.Goals as goal

pub invariant_of-self : goal.invariant_of-self
invariant_of-self c = by_result c.skip_to.result c.skip_to.ensures.ok c.skip_to.ensures.err (λ o. skipped_sound _ _ _ _ _ c.self.invariant refl refl c.requires o) (λ o. same_sound _ _ c.self.invariant refl o)

pub returns-clause-ok : goal.returns-clause-ok
returns-clause-ok c = on_ok c.skip_to.result (λ o. skipped _ _ _ _ _ c.self.view_is o refl) c.skip_to.ensures.ok

pub returns-clause-err : goal.returns-clause-err
returns-clause-err c = on_err c.skip_to.result (λ o. same_rest _ _ _ c.self.view_is o refl) c.skip_to.ensures.err
