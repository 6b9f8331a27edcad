use Rattle.std.proofs.Common.{◌≡◌, ◌≤◌, ◌-◌, ◌++◌, length, drop, take}
use Rattle.metadata_block.specs.BlanksModel.{until_blank, from_blank}
use Rattle.metadata_block.proofs.blanks.split_blank.Given as goal

abbrev pub invariant-loop-n : goal.invariant-loop-n
invariant-loop-n l = record {
  within : l.n ≤ length l.bytes;
  until : until_blank l.bytes ≡ take l.n l.bytes ++ until_blank (drop l.n l.bytes);
  from : from_blank l.bytes ≡ from_blank (drop l.n l.bytes);
}

abbrev pub decreases-loop-n : goal.decreases-loop-n
decreases-loop-n l = length l.bytes - l.n
