use Rattle.std.proofs.Common.{◌≡◌, ◌+◌, drop}
use Rattle.js_objects.specs.SlotsModel.{index_of}
use Rattle.js_objects.proofs.slots.place_among.Given as goal

abbrev pub invariant-loop-at : goal.invariant-loop-at
invariant-loop-at l = l.at + index_of l.key (drop l.at l.props) ≡ index_of l.key l.props
