use Rattle.js_objects.proofs.CellRows.{places_step}
use Rattle.js_objects.proofs.cell.push_places.Goals as goal

pub loop-place-preserved : goal.loop-place-preserved
loop-place-preserved c = places_step _ _ _ c.loop-place.place c.args.count _ c.loop-place-test.true c.in_ok-place_key.ensures c.in_ok-push.ensures.items c.loop-place.invariant
