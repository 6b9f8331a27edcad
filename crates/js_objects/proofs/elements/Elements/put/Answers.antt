use Rattle.std.proofs.lemmas.Result.{err_from_is_err_and}
use Rattle.js_objects.proofs.ElementLists.{written_here, written_last}
use Rattle.js_objects.proofs.elements.Elements.put.Goals as goal

pub returns-then-place-count-clause-row : goal.returns-then-place-count-clause-row
returns-then-place-count-clause-row c = λ names cell. written_here names cell _ _ _ _ c.write.ensures (rw c.count.ensures.exact at c.if-place-count.true)

pub returns-in_ok-push-clause-row : goal.returns-in_ok-push-clause-row
returns-in_ok-push-clause-row c = λ names cell. written_last names cell _ _ _ _ c.in_ok-push.ensures.ok c.requires (rw c.count.ensures.exact at c.if-place-count.false)

pub returns-in_err-push-clause-row : goal.returns-in_err-push-clause-row
returns-in_err-push-clause-row c = λ names cell. let p = err_from_is_err_and c.from_residual.result c.from_residual.ensures.1 in rw (p.1, p.2) tt
