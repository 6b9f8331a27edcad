use Rattle.std.proofs.Common.{◌≡◌, ◌+◌, drop}
use Rattle.js_objects.specs.StandardsModel.{standard_index}
use Rattle.js_objects.proofs.owner.index_of.Given as goal

abbrev pub invariant-loop-at : goal.invariant-loop-at
invariant-loop-at l = l.at + standard_index l.standard (drop l.at l.standards) ≡ standard_index l.standard l.standards
