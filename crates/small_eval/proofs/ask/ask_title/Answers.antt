use Rattle.std.proofs.Common.{ap, sym, map, []}
use Rattle.std.proofs.lemmas.Result.{err_from_is_err_and}
use Rattle.small_eval.proofs.Sound.{document_asked, headed_still, own_still, journal_of, keeps_none, keeps_one}
use Rattle.small_eval.proofs.ask.ask_title.Goals as goal

pub returns-in_err-charge-clause-own : goal.returns-in_err-charge-clause-own
returns-in_err-charge-clause-own c = λ s k c' h. let p = err_from_is_err_and c.from_residual.result c.from_residual.ensures.1 in rw (p.1, p.2) (c.in_err-charge.ensures.own s _ _ _ c' h)

pub returns-in_err-charge-clause-keeps : goal.returns-in_err-charge-clause-keeps
returns-in_err-charge-clause-keeps c = λ _. keeps_none _ _ _ _ c.requires.sound c.charge.ensures.fuel

pub returns-in_ok-tell-in-Ok-clause-own : goal.returns-in_ok-tell-in-Ok-clause-own
returns-in_ok-tell-in-Ok-clause-own c = λ s k c' h. rw (sym c.in_ok-share-in-Ok.ensures) (c.in_ok-tell-in-Ok.ensures.own s _ _ (document_asked _ _ _ _ [] (ap (map _) c.new.ensures)) (c.in_ok-charge.ensures.own s _ _ _ c' h))

pub returns-in_ok-tell-in-Ok-clause-keeps : goal.returns-in_ok-tell-in-Ok-clause-keeps
returns-in_ok-tell-in-Ok-clause-keeps c = λ _. keeps_one _ _ _ _ _ _ _ c.in_ok-tell-in-Ok.ensures.sound (journal_of _ _ _ c.in_ok-tell-in-Ok.ensures.ok) c.in_ok-charge.ensures.spent (headed_still _ _ _ c.in_ok-tell-in-Ok.ensures.ok) (own_still _ _ _ c.in_ok-tell-in-Ok.ensures.ok)

pub returns-in_ok-tell-in-Err-TooLong-clause-own : goal.returns-in_ok-tell-in-Err-TooLong-clause-own
returns-in_ok-tell-in-Err-TooLong-clause-own c = λ s k c' h. c.in_ok-tell-in-Err-TooLong.ensures.own s _ _ (document_asked _ _ _ _ [] (ap (map _) c.new.ensures)) (c.in_ok-charge.ensures.own s _ _ _ c' h)

pub returns-in_ok-tell-in-Err-TooLong-clause-keeps : goal.returns-in_ok-tell-in-Err-TooLong-clause-keeps
returns-in_ok-tell-in-Err-TooLong-clause-keeps c = λ _. keeps_one _ _ _ _ _ _ _ c.in_ok-tell-in-Err-TooLong.ensures.sound (journal_of _ _ _ c.in_ok-tell-in-Err-TooLong.ensures.ok) c.in_ok-charge.ensures.spent (headed_still _ _ _ c.in_ok-tell-in-Err-TooLong.ensures.ok) (own_still _ _ _ c.in_ok-tell-in-Err-TooLong.ensures.ok)
