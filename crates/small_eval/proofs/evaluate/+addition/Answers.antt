use Rattle.std.proofs.Common.{ap, arith, ◌+◌}
use Rattle.std.proofs.lemmas.Result.{err_from_is_err_and}
use Rattle.small_meaning.specs.declared.prim.Prim.{Prim}
use Rattle.small_meaning.specs.Rows.{Lone, bind, part_row, plus_row}
use Rattle.small_eval.proofs.Rows.{addition_lone, addition_plus, ends_bound, no_more, small_at, stands_at}
use Rattle.small_eval.proofs.Sound.{goes_on, keeps_charged, keeps_none, keeps_then, sound_of}
use Rattle.small_eval.proofs.evaluate.+addition.Goals as goal

pub returns-in_default-clause-own : goal.returns-in_default-clause-own
returns-in_default-clause-own t c = λ s c' h. c.part.ensures.own s c' (stands_at _ _ _ _ _ (addition_lone c.args.first.now c' _ c.args.more.now (no_more _ c.in_default.ensures.cases)) h)

pub returns-in_err-charge-clause-own : goal.returns-in_err-charge-clause-own
returns-in_err-charge-clause-own t c = λ s c' h. let p = err_from_is_err_and c.from_residual.result c.from_residual.ensures.1 in
    rw (p.1, p.2) (c.in_err-charge.ensures.own s _ _ _ c' (stands_at _ _ _ _ _ (addition_plus (Lone c.args.first.now) c.in-Some.before.now c.args.more.now c.in-Some.last.now c' _ c.in-Some.ensures.cases.0) h))

pub returns-in_err-charge-clause-keeps : goal.returns-in_err-charge-clause-keeps
returns-in_err-charge-clause-keeps t c = λ _. keeps_none _ _ _ _ c.requires.sound c.charge.ensures.fuel

pub returns-in_err-left-clause-own : goal.returns-in_err-left-clause-own
returns-in_err-left-clause-own t c = λ s c' h.
    let begun = c.in_ok-charge.ensures.own s _ _ _ c' (stands_at _ _ _ _ _ (addition_plus (Lone c.args.first.now) c.in-Some.before.now c.args.more.now c.in-Some.last.now c' _ c.in-Some.ensures.cases.0) h) in
    let p = err_from_is_err_and c.from_residual-in_err-left.result c.from_residual-in_err-left.ensures.1 in
    rw (p.1, p.2) (ends_bound s _ _ _ (λ x. part_row c.in-Some.last.now (bind (λ y. plus_row x y c') c')) c' _ (c.in_err-left.ensures.own s _ begun))

pub returns-in_err-right-clause-own : goal.returns-in_err-right-clause-own
returns-in_err-right-clause-own t c = λ s c' h.
    let begun = c.in_ok-charge.ensures.own s _ _ _ c' (stands_at _ _ _ _ _ (addition_plus (Lone c.args.first.now) c.in-Some.before.now c.args.more.now c.in-Some.last.now c' _ c.in-Some.ensures.cases.0) h) in
    let p = err_from_is_err_and c.from_residual-in_err-right.result c.from_residual-in_err-right.ensures.1 in
    rw (p.1, p.2) (ends_bound s _ _ _ (λ y. plus_row c.in_ok-left.left y c') c' _ (c.in_err-right.ensures.own s _ (c.in_ok-left.ensures.own s _ begun)))

pub returns-in_err-right-clause-keeps : goal.returns-in_err-right-clause-keeps
returns-in_err-right-clause-keeps t c = λ g. let p = err_from_is_err_and c.from_residual-in_err-right.result c.from_residual-in_err-right.ensures.1 in
    keeps_charged _ _ _ _ _ _ c.in_ok-charge.ensures.fuel (keeps_then _ _ _ _ _ _ _ (c.in_ok-left.ensures.keeps _) (c.in_err-right.ensures.keeps (goes_on Prim _ _ _ p.1 p.2 g)))

pub addition-requires : goal.addition-requires
addition-requires t c = let less = c.in-Some.ensures.cases.1 in (omega (arith, less), (c.requires.sound, (omega (arith, less, c.requires.few), omega (arith, c.requires.room, c.in_ok-charge.ensures.fuel))))

pub returns-clause-own : goal.returns-clause-own
returns-clause-own t c = λ s c' h.
    let begun = c.in_ok-charge.ensures.own s _ _ _ c' (stands_at _ _ _ _ _ (addition_plus (Lone c.args.first.now) c.in-Some.before.now c.args.more.now c.in-Some.last.now c' _ c.in-Some.ensures.cases.0) h) in
    c.plus.ensures.own s _ _ c' (c.in_ok-right.ensures.own s _ (c.in_ok-left.ensures.own s _ begun))

pub returns-clause-keeps : goal.returns-clause-keeps
returns-clause-keeps t c = λ g.
    keeps_charged _ _ _ _ _ _ c.in_ok-charge.ensures.fuel (keeps_then _ _ _ _ _ _ _ (c.in_ok-left.ensures.keeps _) (keeps_then _ _ _ _ _ _ _ (c.in_ok-right.ensures.keeps _) (keeps_none _ _ _ _ (sound_of _ _ _ _ _ (c.in_ok-right.ensures.keeps _)) c.plus.ensures.fuel)))

pub returns-clause-small : goal.returns-clause-small
returns-clause-small t c = small_at _ _ _ (ap (λ n. n + 1) c.in-Some.ensures.cases.1) (c.plus.ensures.small _ c.in_ok-left.ensures.small)
