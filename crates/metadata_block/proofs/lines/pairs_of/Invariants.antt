use Rattle.std.proofs.Common.{List, ◌++◌, ◌+◌, drop}
use Rattle.metadata_block.specs.declared.lines.Pair.{Pair}
use Rattle.metadata_block.specs.Lines.{GivePairs}
use Rattle.metadata_block.specs.LinesModel.{texts}
use Rattle.metadata_block.proofs.lines.pairs_of.Given as goal

-- what the lines that are left give, after the pairs so far, is what all lines give
abbrev pub invariant-loop-i : goal.invariant-loop-i
invariant-loop-i l = (rest : List Pair) → GivePairs (l.number + l.i) (texts (drop l.i l.lines)) rest → GivePairs l.number (texts l.lines) (l.pairs.items ++ rest)
