use Rattle.std.proofs.Common.{refl, ap}
use Rattle.js_objects.specs.Heaps.{Store}
use Rattle.js_objects.proofs.HeapRows.{err_of, same_sound, same_rest, given_all, gives_all, few_places}
use Rattle.js_objects.proofs.heap.Heap.give_place.Goals as goal

pub invariant_of-self : goal.invariant_of-self
invariant_of-self c = same_sound _ _ c.self.invariant refl c.in_err-place.ensures.err

pub returns-in_err-place-clause-err : goal.returns-in_err-place-clause-err
returns-in_err-place-clause-err c = err_of c.from_residual.result (ap (λ (s : Store). s.cells) c.self.view_is, same_rest _ _ _ c.self.view_is c.in_err-place.ensures.err refl)

pub invariant_of-self-2 : goal.invariant_of-self-2
invariant_of-self-2 c = given_all _ _ _ _ _ c.index.result.now c.index-2.result.now c.index_mut.result.now c.self.view_is c.self.invariant c.requires.at c.index.ensures c.index-2.ensures c.index_mut.ensures.value c.in_default.not-Some c.in_ok-place.ensures.next c.in_ok-place.ensures.ok refl c.requires.may_have_place

pub returns-clause-ok : goal.returns-clause-ok
returns-clause-ok c = λ x e. gives_all _ _ _ _ _ c.index.result.now c.index-2.result.now c.index_mut.result.now x c.self.view_is c.requires.at c.index.ensures c.index-2.ensures c.index_mut.ensures.value c.in_default.not-Some c.in_ok-place.ensures.next c.in_ok-place.ensures.ok refl refl e

pub add_place-requires : goal.add_place-requires
add_place-requires c = few_places _ _ c.self.invariant
