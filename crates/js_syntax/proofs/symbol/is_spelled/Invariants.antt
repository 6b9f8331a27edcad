use Rattle.std.proofs.Common.{◌≡◌, ◌++◌, List, ℕ, true, false}
use Rattle.js_syntax.proofs.Names.{goes_on}
use Rattle.js_syntax.proofs.symbol.is_spelled.Given as goal

abbrev pub invariant-loop-c : goal.invariant-loop-c
invariant-loop-c l = (rest : List ℕ) → goes_on false true (l.yielded ++ rest) ≡ goes_on l.begun l.fits rest
