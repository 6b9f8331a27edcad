use Rattle.std.proofs.Common.{ap, refl, sym, subst, Some, [], ◌∷◌, ◌∙◌}
use Rattle.std.proofs.lemmas.Result.{err_from_is_err_and}
use Rattle.door.specs.declared.values.Value.TheVariants.{Str as StrValue}
use Rattle.small_eval.specs.Heads.{IsHeaded}
use Rattle.small_eval.proofs.Sound.{headed_still, own_still, journal_of, keeps_none, keeps_one, text_asked}
use Rattle.small_eval.proofs.Rows.{stands_at}
use Rattle.small_eval.proofs.Titles.{headed_set, on_none, on_some, set_ready_none, title_thrown}
use Rattle.small_eval.proofs.ask.ask_set_title.Goals as goal

pub returns-in_err-charge-clause-own : goal.returns-in_err-charge-clause-own
returns-in_err-charge-clause-own c = λ s k c' h. let p = err_from_is_err_and c.from_residual.result c.from_residual.ensures.1 in rw (p.1, p.2) (c.in_err-charge.ensures.own s _ _ _ c' h)

pub returns-in_err-charge-clause-keeps : goal.returns-in_err-charge-clause-keeps
returns-in_err-charge-clause-keeps c = λ _. keeps_none _ _ _ _ c.requires.sound c.charge.ensures.fuel

pub tell-requires-clause-ready : goal.tell-requires-clause-ready
tell-requires-clause-ready c =
    set_ready_none c.args.world.now c.args.actor c.args.text.now c.in_ok-arguments.arguments c.set_title.new.tree c.requires.sound c.requires.headed c.requires.guest
    (c.in_ok-arguments.ensures ∙ ap (λ t. StrValue t ∷ []) c.in_ok-share.ensures) (sym c.in-None.is ∙ c.in_ok-set_title.ensures.refusal) (on_none _ _ _ c.in-None.is c.in_ok-set_title.ensures.tree)

pub returns-in_ok-tell-in-None-clause-own : goal.returns-in_ok-tell-in-None-clause-own
returns-in_ok-tell-in-None-clause-own c = λ s k c' h. c.in_ok-tell-in-None.ensures.own s _ _ (text_asked _ _ _ _ _ _ _ _ _ refl refl c.in_ok-arguments.ensures c.in_ok-share.ensures) (c.in_ok-charge.ensures.own s _ _ _ c' h)

pub returns-in_ok-tell-in-None-clause-keeps : goal.returns-in_ok-tell-in-None-clause-keeps
returns-in_ok-tell-in-None-clause-keeps c = λ _.
    keeps_one _ _ _ _ _ _ _ c.in_ok-tell-in-None.ensures.sound (journal_of _ _ _ c.in_ok-tell-in-None.ensures.ok) c.in_ok-charge.ensures.spent
    (λ h. headed_still _ _ _ c.in_ok-tell-in-None.ensures.ok (subst IsHeaded (sym (on_none _ _ _ c.in-None.is c.in_ok-set_title.ensures.tree)) (headed_set _ _ _ h))) (own_still _ _ _ c.in_ok-tell-in-None.ensures.ok)

pub returns-in_ok-tell-in-Some-clause-own : goal.returns-in_ok-tell-in-Some-clause-own
returns-in_ok-tell-in-Some-clause-own c = λ s k c' h.
    let told = c.in_ok-tell-in-Some.ensures.own s _ _ (text_asked _ _ _ _ _ _ _ _ _ refl refl c.in_ok-arguments.ensures c.in_ok-share.ensures) (c.in_ok-charge.ensures.own s _ _ _ c' h) in
    let refusal = sym c.in_ok-set_title.ensures.refusal ∙ c.in-Some.is ∙ ap Some (sym c.in_ok-share-in-Some.ensures) in
    rw (sym c.in_ok-share-in-Some.ensures) (stands_at s _ _ _ _ (title_thrown c.args.world.now.tree c.args.actor c.args.text.now _ k c' _ refusal) told)

pub returns-in_ok-tell-in-Some-clause-keeps : goal.returns-in_ok-tell-in-Some-clause-keeps
returns-in_ok-tell-in-Some-clause-keeps c = λ _.
    keeps_one _ _ _ _ _ _ _ c.in_ok-tell-in-Some.ensures.sound (journal_of _ _ _ c.in_ok-tell-in-Some.ensures.ok) c.in_ok-charge.ensures.spent
    (λ h. headed_still _ _ _ c.in_ok-tell-in-Some.ensures.ok (subst IsHeaded (sym (on_some _ _ _ _ c.in-Some.is c.in_ok-set_title.ensures.tree)) h)) (own_still _ _ _ c.in_ok-tell-in-Some.ensures.ok)
