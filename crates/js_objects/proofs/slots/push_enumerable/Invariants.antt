use Rattle.std.proofs.Common.{◌≡◌, ◌++◌, drop}
use Rattle.js_objects.specs.SlotsModel.{enumerable_in}
use Rattle.js_objects.proofs.slots.push_enumerable.Given as goal

abbrev pub invariant-loop-x : goal.invariant-loop-x
invariant-loop-x l = l.keys.items ++ enumerable_in (drop l.x-index l.props) ≡ l.fn.keys.items ++ enumerable_in l.props
