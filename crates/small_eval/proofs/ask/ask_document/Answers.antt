use Rattle.std.proofs.Common.{ap, arith, map, []}
use Rattle.std.proofs.lemmas.Result.{err_from_is_err_and}
use Rattle.small_eval.proofs.Sound.{document_told, headed_still, own_still, journal_of, keeps_none, keeps_one, window_asked}
use Rattle.small_eval.proofs.ask.ask_document.Goals as goal

pub returns-in_err-charge-clause-own : goal.returns-in_err-charge-clause-own
returns-in_err-charge-clause-own c = λ s k c' h. let p = err_from_is_err_and c.from_residual.result c.from_residual.ensures.1 in rw (p.1, p.2) (c.in_err-charge.ensures.own s _ _ _ c' h)

pub returns-in_err-charge-2-clause-own : goal.returns-in_err-charge-2-clause-own
returns-in_err-charge-2-clause-own c = λ s k c' h. let p = err_from_is_err_and c.from_residual-in_err-charge-2.result c.from_residual-in_err-charge-2.ensures.1 in rw (p.1, p.2) (c.in_err-charge-2.ensures.own s _ _ _ c' (c.in_ok-charge.ensures.own s _ _ _ c' h))

pub returns-in_err-charge-clause-keeps : goal.returns-in_err-charge-clause-keeps
returns-in_err-charge-clause-keeps c = λ _. keeps_none _ _ _ _ c.requires.sound c.charge.ensures.fuel

pub returns-in_err-charge-2-clause-keeps : goal.returns-in_err-charge-2-clause-keeps
returns-in_err-charge-2-clause-keeps c = λ _. keeps_none _ _ _ _ c.requires.sound (omega (arith, c.charge.ensures.fuel, c.charge-2.ensures.fuel))

pub returns-clause-own : goal.returns-clause-own
returns-clause-own c = λ s k c' h.
    let asks = c.in_ok-charge-2.ensures.own s _ _ _ c' (c.in_ok-charge.ensures.own s _ _ _ c' h) in
    document_told s _ _ _ k _ c.in_ok-tell.ensures.met (c.in_ok-tell.ensures.own s _ _ (window_asked _ _ _ _ [] (ap (map _) c.new.ensures)) asks)

pub returns-clause-keeps : goal.returns-clause-keeps
returns-clause-keeps c = λ _. keeps_one _ _ _ _ _ _ _ c.in_ok-tell.ensures.sound (journal_of _ _ _ c.in_ok-tell.ensures.ok) (omega (arith, c.in_ok-charge.ensures.spent, c.in_ok-charge-2.ensures.spent)) (headed_still _ _ _ c.in_ok-tell.ensures.ok) (own_still _ _ _ c.in_ok-tell.ensures.ok)
