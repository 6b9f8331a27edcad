use Rattle.std.proofs.Common.{◌∙◌}
use Rattle.dom_events.proofs.Walking.{step_along-came}
use Rattle.dom_events.proofs.walk.first_visit.Goals as goal

pub returns-in-Some-clause-found : goal.returns-in-Some-clause-found
returns-in-Some-clause-found c =
    let told = c.in-Some.ensures in
    λ event. c.loop-place.invariant event
    ∙ step_along-came c.args.registered.now c.args.kind.now event c.args.visits.now c.loop-place.place _ c.deref.result.now c.in_ok-copied.copied.items c.in-Some.at c.in-Some.due c.loop-place-test.true c.deref.ensures.value c.in_ok-copied.ensures told.found told.visit
