use Rattle.std.proofs.Common.{ap}
use Rattle.std.proofs.lemmas.Result.{err_from_is_err_and}
use Rattle.small_meaning.specs.Rows.{part_row}
use Rattle.small_forms.specs.declared.script.Part.{Part}
use Rattle.small_eval.proofs.Rows.{stands_at}
use Rattle.small_eval.proofs.Sound.{keeps_none}
use Rattle.small_eval.proofs.evaluate.part.Goals as goal

pub returns-in_err-charge-in-Number-clause-own : goal.returns-in_err-charge-in-Number-clause-own
returns-in_err-charge-in-Number-clause-own c = λ s c' h. let p = err_from_is_err_and c.from_residual.result c.from_residual.ensures.1 in
    rw (p.1, p.2) (c.in_err-charge-in-Number.ensures.own s _ _ _ c' (stands_at _ _ _ _ _ (ap (λ (q : Part). part_row q c' c.args.fuel.now) c.in-Number.is) h))

pub returns-in_err-charge-in-Number-clause-keeps : goal.returns-in_err-charge-in-Number-clause-keeps
returns-in_err-charge-in-Number-clause-keeps c = λ _. keeps_none _ _ _ _ c.requires.sound c.charge.ensures.fuel

pub returns-in_err-charge-in-Quoted-clause-own : goal.returns-in_err-charge-in-Quoted-clause-own
returns-in_err-charge-in-Quoted-clause-own c = λ s c' h. let p = err_from_is_err_and c.from_residual-in_err-charge-in-Quoted.result c.from_residual-in_err-charge-in-Quoted.ensures.1 in
    rw (p.1, p.2) (c.in_err-charge-in-Quoted.ensures.own s _ _ _ c' (stands_at _ _ _ _ _ (ap (λ (q : Part). part_row q c' c.args.fuel.now) c.in-Quoted.is) h))

pub returns-in_err-charge-in-Quoted-clause-keeps : goal.returns-in_err-charge-in-Quoted-clause-keeps
returns-in_err-charge-in-Quoted-clause-keeps c = λ _. keeps_none _ _ _ _ c.requires.sound c.charge-in-Quoted.ensures.fuel

pub returns-in-Title-clause-own : goal.returns-in-Title-clause-own
returns-in-Title-clause-own c = λ s c' h. c.title.ensures.own s c' (stands_at _ _ _ _ _ (ap (λ (q : Part). part_row q c' c.args.fuel.now) c.in-Title.is) h)

pub returns-in_ok-charge-in-Number-clause-own : goal.returns-in_ok-charge-in-Number-clause-own
returns-in_ok-charge-in-Number-clause-own c = λ s c' h. rw c.from.ensures (c.in_ok-charge-in-Number.ensures.own s _ _ _ c' (stands_at _ _ _ _ _ (ap (λ (q : Part). part_row q c' c.args.fuel.now) c.in-Number.is) h))

pub returns-in_ok-charge-in-Number-clause-keeps : goal.returns-in_ok-charge-in-Number-clause-keeps
returns-in_ok-charge-in-Number-clause-keeps c = λ _. keeps_none _ _ _ _ c.requires.sound c.charge.ensures.fuel

pub returns-in_ok-share-in-Quoted-clause-own : goal.returns-in_ok-share-in-Quoted-clause-own
returns-in_ok-share-in-Quoted-clause-own c = λ s c' h. rw c.in_ok-share-in-Quoted.ensures (c.in_ok-charge-in-Quoted.ensures.own s _ _ _ c' (stands_at _ _ _ _ _ (ap (λ (q : Part). part_row q c' c.args.fuel.now) c.in-Quoted.is) h))

pub returns-in_ok-share-in-Quoted-clause-keeps : goal.returns-in_ok-share-in-Quoted-clause-keeps
returns-in_ok-share-in-Quoted-clause-keeps c = λ _. keeps_none _ _ _ _ c.requires.sound c.charge-in-Quoted.ensures.fuel
