use Rattle.std.proofs.Common.{◌≡◌, ◌≤◌, ◌-◌, length, drop}
use Rattle.std.specs.Str.{IsCharBoundary}
use Rattle.metadata_block.specs.BlanksModel.{skip_blanks}
use Rattle.metadata_block.proofs.blanks.skip_blanks.Given as goal

abbrev pub invariant-loop-n : goal.invariant-loop-n
invariant-loop-n l = record { boundary : IsCharBoundary l.bytes l.n; within : l.n ≤ length l.bytes; same : skip_blanks l.bytes ≡ skip_blanks (drop l.n l.bytes) }

abbrev pub decreases-loop-n : goal.decreases-loop-n
decreases-loop-n l = length l.bytes - l.n
