use Rattle.std.proofs.lemmas.Result.{err_from_is_err_and}
use Rattle.small_eval.proofs.Sound.{headed_still, own_still, journal_of, keeps_none, keeps_one, text_asked}
use Rattle.solo_model.proofs.Meets.{window_named}
use Rattle.small_eval.proofs.ask.ask_log.Goals as goal

pub returns-in_err-charge-clause-own : goal.returns-in_err-charge-clause-own
returns-in_err-charge-clause-own c = λ s k c' h. let p = err_from_is_err_and c.from_residual.result c.from_residual.ensures.1 in rw (p.1, p.2) (c.in_err-charge.ensures.own s _ _ _ c' h)

pub returns-in_err-charge-clause-keeps : goal.returns-in_err-charge-clause-keeps
returns-in_err-charge-clause-keeps c = λ _. keeps_none _ _ _ _ c.requires.sound c.charge.ensures.fuel

pub returns-clause-own : goal.returns-clause-own
returns-clause-own c = λ s k c' h. c.in_ok-tell.ensures.own s _ _ (text_asked _ _ _ _ _ _ _ _ _ (window_named _ _) c.log_member.ensures c.in_ok-arguments.ensures c.in_ok-share.ensures) (c.in_ok-charge.ensures.own s _ _ _ c' h)

pub returns-clause-keeps : goal.returns-clause-keeps
returns-clause-keeps c = λ _. keeps_one _ _ _ _ _ _ _ c.in_ok-tell.ensures.sound (journal_of _ _ _ c.in_ok-tell.ensures.ok) c.in_ok-charge.ensures.spent (headed_still _ _ _ c.in_ok-tell.ensures.ok) (own_still _ _ _ c.in_ok-tell.ensures.ok)
