use Rattle.std.proofs.Common.{◌<◌, refl}
use Rattle.js_objects.proofs.HeapRows.{by_result, on_ok, on_err, standard_put_sound, standard_put, same_sound, same_rest, at_count}
use Rattle.js_objects.proofs.heap.Heap.set_standard.Goals as goal

pub invariant_of-self : goal.invariant_of-self
invariant_of-self c = by_result c.put_standard_for.result c.put_standard_for.ensures.ok c.put_standard_for.ensures.err (λ o. standard_put_sound _ _ _ _ _ c.self.invariant refl (at_count (λ n. c.args.c.0 < n) _ _ c.self.view_is c.requires) o) (λ o. same_sound _ _ c.self.invariant refl o)

pub returns-clause-ok : goal.returns-clause-ok
returns-clause-ok c = on_ok c.put_standard_for.result (λ o. standard_put _ _ _ _ _ _ c.self.view_is o refl) c.put_standard_for.ensures.ok

pub returns-clause-err : goal.returns-clause-err
returns-clause-err c = on_err c.put_standard_for.result (λ o. same_rest _ _ _ c.self.view_is o refl) c.put_standard_for.ensures.err
