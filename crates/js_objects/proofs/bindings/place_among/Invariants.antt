use Rattle.std.proofs.Common.{◌≡◌, ◌+◌, drop}
use Rattle.js_objects.specs.SlotsModel.{name_index}
use Rattle.js_objects.proofs.bindings.place_among.Given as goal

abbrev pub invariant-loop-at : goal.invariant-loop-at
invariant-loop-at l = l.at + name_index l.name (drop l.at l.bound) ≡ name_index l.name l.bound
