use Rattle.std.proofs.Common.{◌≡◌, ◌≤◌, length, take}
use Rattle.std.specs.Str.{IsCharBoundary}
use Rattle.metadata_block.specs.BlanksModel.{drop_blanks}
use Rattle.metadata_block.proofs.blanks.drop_blanks.Given as goal

abbrev pub invariant-loop-n : goal.invariant-loop-n
invariant-loop-n l = record { boundary : IsCharBoundary l.bytes l.n; within : l.n ≤ length l.bytes; same : drop_blanks l.bytes ≡ drop_blanks (take l.n l.bytes) }

abbrev pub decreases-loop-n : goal.decreases-loop-n
decreases-loop-n l = l.n
