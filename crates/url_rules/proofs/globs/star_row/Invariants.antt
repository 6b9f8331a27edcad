use Rattle.std.proofs.Common.{◌≡◌, ◌≤◌, ◌<◌, ℕ, length}
use Rattle.url_rules.specs.GlobModel.{flag, any_from}
use Rattle.url_rules.proofs.globs.star_row.Given as goal

abbrev pub invariant-loop-left : goal.invariant-loop-left
invariant-loop-left l = record {
  within : l.left ≤ length l.row;
  len : length l.row ≡ length l.fn.row;
  any : l.any ≡ any_from l.fn.row l.left;
  done : (k : ℕ) → l.left ≤ k → k < length l.row → flag l.row k ≡ any_from l.fn.row k;
  kept : (k : ℕ) → k < l.left → flag l.row k ≡ flag l.fn.row k;
}

abbrev pub decreases-loop-left : goal.decreases-loop-left
decreases-loop-left l = l.left
