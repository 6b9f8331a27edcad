use Rattle.std.proofs.Common.{◌≡◌, ◌++◌, List, ℕ}
use Rattle.js_ops.specs.Reading.{answer_from}
use Rattle.js_ops.specs.declared.numeral.Reading.TheVariants.{Start}
use Rattle.js_ops.proofs.numeral.number_spelled.Given as goal

-- what is read and what the rest comes to give what the whole gives
abbrev pub invariant-loop-c : goal.invariant-loop-c
invariant-loop-c l = (rest : List ℕ) → answer_from l.reading rest ≡ answer_from Start (l.yielded ++ rest)
