use Rattle.std.proofs.Common.{◌≡◌, ◌+◌, ◌*◌, ◌++◌, take}
use Rattle.std.specs.List.{flat_map}
use Rattle.js_code.specs.Walks.{functions_within, names_within}
use Rattle.js_code.proofs.declared.+walk.Given as goal

abbrev pub decreases-each : goal.decreases-each
decreases-each l = 4 * l.levels + 1

abbrev pub decreases-within : goal.decreases-within
decreases-within l = 4 * l.levels

abbrev pub decreases-below : goal.decreases-below
decreases-below l = 4 * l.levels + 2

abbrev pub decreases-perhaps : goal.decreases-perhaps
decreases-perhaps l = 4 * l.levels + 1

abbrev pub decreases-caught : goal.decreases-caught
decreases-caught l = 4 * l.levels + 1

abbrev pub invariant-each-loop-statement : goal.invariant-each-loop-statement
invariant-each-loop-statement l = record {
  names : l.found.names ≡ l.fn.found.names ++ flat_map (names_within l.levels) (take l.statement-index l.statements);
  functions : l.found.functions ≡ l.fn.found.functions ++ flat_map (functions_within l.levels) (take l.statement-index l.statements);
}
