use Rattle.std.proofs.Common.{refl, ap, ◌∙◌, Err}
use Rattle.std.proofs.lemmas.Result.{err_from_is_err_and}
use Rattle.js_objects.specs.declared.cell.Cell.{Cell}
use Rattle.js_objects.proofs.HeapRows.{same_sound, same_rest, added_sound, added_rest, not_at_limit, at_limit, fresh_in, bound_here}
use Rattle.js_objects.proofs.heap.Heap.add.Goals as goal

pub invariant_of-self : goal.invariant_of-self
invariant_of-self c = same_sound _ _ c.self.invariant c.in_err-push_cell.ensures.err.0 c.in_err-push_cell.ensures.err.1

pub returns-in_err-push_cell-clause-rest : goal.returns-in_err-push_cell-clause-rest
returns-in_err-push_cell-clause-rest c = same_rest _ _ _ c.self.view_is c.in_err-push_cell.ensures.err.1 refl

pub invariant_of-self-2 : goal.invariant_of-self-2
invariant_of-self-2 c = added_sound _ _ _ c.self.invariant c.in_ok-push_cell.ensures.ok.0 c.in_ok-push_cell.ensures.ok.1 (ap (λ (k : Cell). k.place) c.new-cell.ensures) (ap (λ (k : Cell). k.proto) c.new-cell.ensures) (fresh_in _ _ c.new-cell.result _ _ _ c.self.view_is c.new-cell.ensures c.requires.form c.requires.outer) (bound_here _ _ c.self.view_is c.requires.bound)

pub returns-clause-rest : goal.returns-clause-rest
returns-clause-rest c = added_rest _ _ _ _ c.self.view_is c.in_ok-push_cell.ensures.ok.1 refl

pub returns-clause-limit : goal.returns-clause-limit
returns-clause-limit c = not_at_limit _ _ c.new-cell.result _ c.self.view_is c.self.invariant (ap (λ (k : Cell). k.owner.0) c.new-cell.ensures) c.in_ok-push_cell.ensures.limit

pub returns-in_err-push_cell-clause-limit : goal.returns-in_err-push_cell-clause-limit
returns-in_err-push_cell-clause-limit c =
    let p = err_from_is_err_and c.from_residual.result c.from_residual.ensures.1 in
    at_limit _ (Unit {0}) c.from_residual.result (Err c.in_err-push_cell.field-0.0) c.in_err-push_cell.field-0.0 _ _ c.new-cell.result _ (p.1 ∙ ap (λ e. Err e) p.2) refl c.self.view_is c.self.invariant (ap (λ (k : Cell). k.owner.0) c.new-cell.ensures) c.in_err-push_cell.ensures.limit
