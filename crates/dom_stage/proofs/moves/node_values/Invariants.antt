use Rattle.std.proofs.Common.{◌≡◌, take}
use Rattle.std.specs.Prelude.{map}
use Rattle.dom_semantics.specs.Things.{node_value}
use Rattle.dom_stage.proofs.moves.node_values.Given as goal

abbrev pub invariant-loop-n : goal.invariant-loop-n
invariant-loop-n l = l.values ≡ map (node_value l.tree) (take l.n-index l.numbers)
