use Rattle.std.proofs.Common.{ap, sym, ℕ, [], ◌∷◌}
use Rattle.std.proofs.lemmas.Result.{err_from_is_err_and}
use Rattle.door.specs.declared.values.Thing.{Thing}
use Rattle.small_meaning.specs.declared.prim.Prim.{Prim}
use Rattle.small_meaning.specs.Rows.{Next, ask, bind, sum_row, with_title, written_row}
use Rattle.door.specs.declared.values.Value.TheVariants.{Str as StrValue}
use Rattle.door.specs.declared.members.Member.TheVariants.{DocumentSetTitle}
use Rattle.door.specs.declared.requests.Request.TheVariants.{Native}
use Rattle.small_eval.specs.Continuations.{document_for}
use Rattle.small_eval.proofs.Rows.{after_line, ends_bound, stands_at, written_charged}
use Rattle.small_eval.proofs.Sound.{goes_on, keeps_charged, keeps_none, keeps_then, same_document, sound_of}
use Rattle.small_eval.proofs.evaluate.title_line.Goals as goal

pub returns-in_err-charge-clause-own : goal.returns-in_err-charge-clause-own
returns-in_err-charge-clause-own c = λ s c' h. let p = err_from_is_err_and c.from_residual.result c.from_residual.ensures.1 in rw (p.1, p.2) (c.in_err-charge.ensures.own s _ _ _ c' h)

pub returns-in_err-charge-clause-keeps : goal.returns-in_err-charge-clause-keeps
returns-in_err-charge-clause-keeps c = λ _. keeps_none _ _ _ _ c.requires.sound c.charge.ensures.fuel

pub returns-in_err-ask_document-clause-own : goal.returns-in_err-ask_document-clause-own
returns-in_err-ask_document-clause-own c = λ s c' h.
    let row : Thing → ℕ → _ = λ document. sum_row c.args.sum.now (bind (λ value. written_row document value c') c') in
    let p = err_from_is_err_and c.from_residual-in_err-ask_document.result c.from_residual-in_err-ask_document.ensures.1 in
    rw (p.1, p.2) (c.in_err-ask_document.ensures.own s row c' (c.in_ok-charge.ensures.own s _ _ _ c' h))

pub returns-in_err-value-clause-own : goal.returns-in_err-value-clause-own
returns-in_err-value-clause-own c = λ s c' h.
    let row : Thing → ℕ → _ = λ document. sum_row c.args.sum.now (bind (λ value. written_row document value c') c') in
    let k : Prim → ℕ → _ = λ value. written_row (document_for c.args.actor c.ask_document.new.world.journal.marks) value c' in
    let begun = c.in_ok-ask_document.ensures.own s row c' (c.in_ok-charge.ensures.own s _ _ _ c' h) in
    let p = err_from_is_err_and c.from_residual-in_err-value.result c.from_residual-in_err-value.ensures.1 in
    rw (p.1, p.2) (ends_bound s _ _ _ k c' _ (c.in_err-value.ensures.own s (bind k c') (rw c.as_slice.ensures begun)))

pub returns-in_err-value-clause-keeps : goal.returns-in_err-value-clause-keeps
returns-in_err-value-clause-keeps c = λ g. let p = err_from_is_err_and c.from_residual-in_err-value.result c.from_residual-in_err-value.ensures.1 in
    keeps_charged _ _ _ _ _ _ c.in_ok-charge.ensures.fuel (keeps_then _ _ _ _ _ _ _ (c.in_ok-ask_document.ensures.keeps _) (c.in_err-value.ensures.keeps (goes_on Prim _ _ _ p.1 p.2 g)))

pub returns-in_err-charge-2-clause-own : goal.returns-in_err-charge-2-clause-own
returns-in_err-charge-2-clause-own c = λ s c' h.
    let row : Thing → ℕ → _ = λ document. sum_row c.args.sum.now (bind (λ value. written_row document value c') c') in
    let k : Prim → ℕ → _ = λ value. written_row (document_for c.args.actor c.ask_document.new.world.journal.marks) value c' in
    let begun = c.in_ok-ask_document.ensures.own s row c' (c.in_ok-charge.ensures.own s _ _ _ c' h) in
    let valued = c.in_ok-value.ensures.own s (bind k c') (rw c.as_slice.ensures begun) in
    let p = err_from_is_err_and c.from_residual-in_err-charge-2.result c.from_residual-in_err-charge-2.ensures.1 in
    rw (p.1, p.2) (c.in_err-charge-2.ensures.own s _ _ _ c' (stands_at _ _ _ _ _ (written_charged _ c.in_ok-value.value c.in_ok-text.text c' _ _ c.in_ok-text.ensures c.argument_units.ensures) valued))

pub returns-in_err-charge-2-clause-keeps : goal.returns-in_err-charge-2-clause-keeps
returns-in_err-charge-2-clause-keeps c = λ g.
    keeps_charged _ _ _ _ _ _ c.in_ok-charge.ensures.fuel (keeps_then _ _ _ _ _ _ _ (c.in_ok-ask_document.ensures.keeps _)
    (keeps_then _ _ _ _ _ _ _ (c.in_ok-value.ensures.keeps _) (keeps_none _ _ _ _ (sound_of _ _ _ _ _ (c.in_ok-value.ensures.keeps _)) c.charge-2.ensures.fuel)))

pub returns-clause-own : goal.returns-clause-own
returns-clause-own c = λ s c' h.
    let row : Thing → ℕ → _ = λ document. sum_row c.args.sum.now (bind (λ value. written_row document value c') c') in
    let k : Prim → ℕ → _ = λ value. written_row (document_for c.args.actor c.ask_document.new.world.journal.marks) value c' in
    let begun = c.in_ok-ask_document.ensures.own s row c' (c.in_ok-charge.ensures.own s _ _ _ c' h) in
    let valued = c.in_ok-value.ensures.own s (bind k c') (rw c.as_slice.ensures begun) in
    let asks = c.in_ok-charge-2.ensures.own s _ _ _ c' (stands_at _ _ _ _ _ (written_charged _ c.in_ok-value.value c.in_ok-text.text c' _ _ c.in_ok-text.ensures c.argument_units.ensures) valued) in
    after_line s _ _ _ c' c.ask_set_title.result (c.ask_set_title.ensures.own s (c' Next) c'
    (stands_at _ _ _ _ _ (ap (λ (d : Thing). ask (Native DocumentSetTitle d (StrValue c.in_ok-text.text ∷ [])) (with_title (c' Next) c') c' c.charge-2.new.fuel) (sym (same_document _ _ _ (c.in_ok-value.ensures.same _) c.in_ok-ask_document.ensures.met))) asks))

pub returns-clause-keeps : goal.returns-clause-keeps
returns-clause-keeps c = λ g.
    keeps_charged _ _ _ _ _ _ c.in_ok-charge.ensures.fuel (keeps_then _ _ _ _ _ _ _ (c.in_ok-ask_document.ensures.keeps _)
    (keeps_then _ _ _ _ _ _ _ (c.in_ok-value.ensures.keeps _) (keeps_charged _ _ _ _ _ _ c.in_ok-charge-2.ensures.fuel (c.ask_set_title.ensures.keeps g))))
