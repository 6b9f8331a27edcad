use Rattle.std.proofs.Common.{sym, ap, ◌∙◌, Some, drop, ◌+◌}
use Rattle.dom_events.proofs.Found.{find-at, find-missing}
use Rattle.dom_events.proofs.Walking.{found_among-passed, found_among-failed}
use Rattle.dom_events.proofs.walk.first_registered.Goals as goal

pub returns-in-Some-clause-found : goal.returns-in-Some-clause-found
returns-in-Some-clause-found c =
    let ns = c.args.numbers.now in
    let found = find-at _ c.args.registered.now c.in-Some.at c.index-registered-at.result (sym c.in-Some.ensures) ∙ ap Some (sym c.index-registered-at.is) in
    c.loop-place.invariant
    ∙ (found_among-passed c.args.registered.now c.args.here ns c.loop-place.place c.index-registered-at.result c.loop-place-test.true found
    ∙ ap (λ due. Some (record { due = due; rest = drop (c.loop-place.place + 1) ns })) (sym c.due_at.ensures))

pub loop-place-preserved : goal.loop-place-preserved
loop-place-preserved c =
    c.loop-place.invariant
    ∙ found_among-failed c.args.registered.now c.args.here c.args.numbers.now c.loop-place.place c.loop-place-test.true (find-missing _ c.args.registered.now (sym c.in_default.ensures))
