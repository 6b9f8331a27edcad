use Rattle.std.proofs.Common.{List, ℕ}
use Rattle.std.proofs.lemmas.Result.{err_from_is_err_and}
use Rattle.small_eval.proofs.Sound.{goes_on, keeps_charged, keeps_none, keeps_then}
use Rattle.small_eval.proofs.evaluate.title.Goals as goal

pub returns-in_err-charge-clause-own : goal.returns-in_err-charge-clause-own
returns-in_err-charge-clause-own c = λ s c' h. let p = err_from_is_err_and c.from_residual.result c.from_residual.ensures.1 in rw (p.1, p.2) (c.in_err-charge.ensures.own s _ _ _ c' h)

pub returns-in_err-charge-clause-keeps : goal.returns-in_err-charge-clause-keeps
returns-in_err-charge-clause-keeps c = λ _. keeps_none _ _ _ _ c.requires.sound c.charge.ensures.fuel

pub returns-in_err-ask_document-clause-own : goal.returns-in_err-ask_document-clause-own
returns-in_err-ask_document-clause-own c = λ s c' h. let p = err_from_is_err_and c.from_residual-in_err-ask_document.result c.from_residual-in_err-ask_document.ensures.1 in
    rw (p.1, p.2) (c.in_err-ask_document.ensures.own s _ c' (c.in_ok-charge.ensures.own s _ _ _ c' h))

pub returns-in_err-text-clause-own : goal.returns-in_err-text-clause-own
returns-in_err-text-clause-own c = λ s c' h. let p = err_from_is_err_and c.from_residual-in_err-text.result c.from_residual-in_err-text.ensures.1 in
    rw (p.1, p.2) (c.in_err-text.ensures.own s _ c' (c.in_ok-ask_document.ensures.own s _ c' (c.in_ok-charge.ensures.own s _ _ _ c' h)))

pub returns-in_err-text-clause-keeps : goal.returns-in_err-text-clause-keeps
returns-in_err-text-clause-keeps c = λ g. let p = err_from_is_err_and c.from_residual-in_err-text.result c.from_residual-in_err-text.ensures.1 in
    keeps_charged _ _ _ _ _ _ c.in_ok-charge.ensures.fuel (keeps_then _ _ _ _ _ _ _ (c.in_ok-ask_document.ensures.keeps _) (c.in_err-text.ensures.keeps (goes_on (List ℕ) _ _ _ p.1 p.2 g)))

pub returns-clause-own : goal.returns-clause-own
returns-clause-own c = λ s c' h. c.in_ok-text.ensures.own s _ c' (c.in_ok-ask_document.ensures.own s _ c' (c.in_ok-charge.ensures.own s _ _ _ c' h))

pub returns-clause-keeps : goal.returns-clause-keeps
returns-clause-keeps c = λ g. keeps_charged _ _ _ _ _ _ c.in_ok-charge.ensures.fuel (keeps_then _ _ _ _ _ _ _ (c.in_ok-ask_document.ensures.keeps _) (c.in_ok-text.ensures.keeps _))
