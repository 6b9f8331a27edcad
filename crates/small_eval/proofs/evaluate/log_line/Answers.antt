use Rattle.std.proofs.Common.{ℕ}
use Rattle.std.proofs.lemmas.Result.{err_from_is_err_and}
use Rattle.small_meaning.specs.declared.prim.Prim.{Prim}
use Rattle.small_meaning.specs.Rows.{bind, logged_row}
use Rattle.small_eval.proofs.Rows.{after_line, ends_bound, log_charged, logged_charged, stands_at}
use Rattle.small_eval.proofs.Sound.{keeps_charged, keeps_none, keeps_then}
use Rattle.small_eval.proofs.evaluate.log_line.Goals as goal

pub returns-in_err-charge-clause-own : goal.returns-in_err-charge-clause-own
returns-in_err-charge-clause-own c = λ s c' h. let p = err_from_is_err_and c.from_residual.result c.from_residual.ensures.1 in
    rw (p.1, p.2) (c.in_err-charge.ensures.own s _ _ _ c' (stands_at _ _ _ _ _ (log_charged c.args.zone c.args.sum.now c' _ c.call_units.result c.call_units.ensures) h))

pub returns-in_err-charge-clause-keeps : goal.returns-in_err-charge-clause-keeps
returns-in_err-charge-clause-keeps c = λ _. keeps_none _ _ _ _ c.requires.sound c.charge.ensures.fuel

pub returns-in_err-value-clause-own : goal.returns-in_err-value-clause-own
returns-in_err-value-clause-own c = λ s c' h.
    let k : Prim → ℕ → _ = λ value. logged_row c.args.zone value c' in
    let begun = c.in_ok-charge.ensures.own s _ _ _ c' (stands_at _ _ _ _ _ (log_charged c.args.zone c.args.sum.now c' _ c.call_units.result c.call_units.ensures) h) in
    let p = err_from_is_err_and c.from_residual-in_err-value.result c.from_residual-in_err-value.ensures.1 in
    rw (p.1, p.2) (ends_bound s _ _ _ k c' _ (c.in_err-value.ensures.own s (bind k c') (rw c.as_slice.ensures begun)))

pub returns-in_err-charge-2-clause-own : goal.returns-in_err-charge-2-clause-own
returns-in_err-charge-2-clause-own c = λ s c' h.
    let k : Prim → ℕ → _ = λ value. logged_row c.args.zone value c' in
    let begun = c.in_ok-charge.ensures.own s _ _ _ c' (stands_at _ _ _ _ _ (log_charged c.args.zone c.args.sum.now c' _ c.call_units.result c.call_units.ensures) h) in
    let valued = c.in_ok-value.ensures.own s (bind k c') (rw c.as_slice.ensures begun) in
    let p = err_from_is_err_and c.from_residual-in_err-charge-2.result c.from_residual-in_err-charge-2.ensures.1 in
    rw (p.1, p.2) (c.in_err-charge-2.ensures.own s _ _ _ c' (stands_at _ _ _ _ _ (logged_charged c.args.zone c.in_ok-value.value c.in_ok-text.text c' _ _ c.in_ok-text.ensures c.text_units.ensures) valued))

pub returns-clause-own : goal.returns-clause-own
returns-clause-own c = λ s c' h.
    let k : Prim → ℕ → _ = λ value. logged_row c.args.zone value c' in
    let begun = c.in_ok-charge.ensures.own s _ _ _ c' (stands_at _ _ _ _ _ (log_charged c.args.zone c.args.sum.now c' _ c.call_units.result c.call_units.ensures) h) in
    let valued = c.in_ok-value.ensures.own s (bind k c') (rw c.as_slice.ensures begun) in
    let asks = c.in_ok-charge-2.ensures.own s _ _ _ c' (stands_at _ _ _ _ _ (logged_charged c.args.zone c.in_ok-value.value c.in_ok-text.text c' _ _ c.in_ok-text.ensures c.text_units.ensures) valued) in
    after_line s _ _ _ c' c.ask_log.result (c.ask_log.ensures.own s _ c' asks)

pub returns-clause-keeps : goal.returns-clause-keeps
returns-clause-keeps c = λ g.
    keeps_charged _ _ _ _ _ _ c.in_ok-charge.ensures.fuel (keeps_then _ _ _ _ _ _ _ (c.in_ok-value.ensures.keeps _) (keeps_charged _ _ _ _ _ _ c.in_ok-charge-2.ensures.fuel (c.ask_log.ensures.keeps g)))
