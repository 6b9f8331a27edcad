use Rattle.std.proofs.Common.{◌≡◌, ◌++◌, ◌-◌}
use Rattle.js_semantics.specs.Properties.{places_from}
use Rattle.js_objects.proofs.cell.push_places.Given as goal

abbrev pub invariant-loop-place : goal.invariant-loop-place
invariant-loop-place l = l.keys.items ++ places_from l.place (l.count - l.place) ≡ l.fn.keys.items ++ places_from 0 l.count
