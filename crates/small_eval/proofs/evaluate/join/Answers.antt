use Rattle.std.proofs.Common.{◌∙◌, ap, Err}
use Rattle.std.proofs.lemmas.Result.{err_from_is_err_and}
use Rattle.small_eval.proofs.Rows.{join_charged, join_over, not_both, stands_at}
use Rattle.small_eval.proofs.evaluate.join.Goals as goal

pub returns-in_err-charge-in-Ok-clause-own : goal.returns-in_err-charge-in-Ok-clause-own
returns-in_err-charge-in-Ok-clause-own c = λ s i marks c' h. let p = err_from_is_err_and c.from_residual.result c.from_residual.ensures.1 in
    rw (p.1, p.2) (c.in_err-charge-in-Ok.ensures.own s i marks _ c' (stands_at _ _ _ _ _ (join_charged _ _ c.in-Ok.text c.text_units.result c' _ (λ over. not_both _ _ _ c.in-Ok.is (c.join.ensures.too_long.1 over)) c.in-Ok.ensures.ok c.text_units.ensures) h))

pub returns-in_ok-charge-in-Ok-clause-own : goal.returns-in_ok-charge-in-Ok-clause-own
returns-in_ok-charge-in-Ok-clause-own c = λ s i marks c' h.
    c.in_ok-charge-in-Ok.ensures.own s i marks _ c' (stands_at _ _ _ _ _ (join_charged _ _ c.in-Ok.text c.text_units.result c' _ (λ over. not_both _ _ _ c.in-Ok.is (c.join.ensures.too_long.1 over)) c.in-Ok.ensures.ok c.text_units.ensures) h)

pub returns-in-Err-TooLong-clause-own : goal.returns-in-Err-TooLong-clause-own
returns-in-Err-TooLong-clause-own c = λ s i marks c' h.
    stands_at _ _ _ _ _ (join_over c.args.left.now c.args.right.now c' c.args.fuel.now (c.join.ensures.too_long.0 (c.in-Err-TooLong.is ∙ ap Err c.in-Err-TooLong.field-0-is))) h
