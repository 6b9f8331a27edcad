use Rattle.std.proofs.Common.{◌≡◌, ◌≤◌, ◌+◌, ℕ, length, drop}
use Rattle.url_rules.specs.GlobModel.{flag, fits_glob}
use Rattle.url_rules.proofs.globs.glob_over.Given as goal

abbrev pub invariant-loop-left : goal.invariant-loop-left
invariant-loop-left l = record {
  within : l.left ≤ length l.pattern;
  len : length l.row ≡ length l.text + 1;
  row : (k : ℕ) → k ≤ length l.text → flag l.row k ≡ fits_glob (drop l.left l.pattern) (drop k l.text);
}

abbrev pub decreases-loop-left : goal.decreases-loop-left
decreases-loop-left l = l.left
