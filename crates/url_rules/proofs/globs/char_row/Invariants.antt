use Rattle.std.proofs.Common.{◌≡◌, ◌≤◌, ◌<◌, ◌+◌, ◌==◌, ◌&&◌, ℕ, length, slice_index}
use Rattle.url_rules.specs.GlobModel.{flag}
use Rattle.url_rules.proofs.globs.char_row.Given as goal

abbrev pub invariant-loop-i : goal.invariant-loop-i
invariant-loop-i l = record {
  len : length l.row ≡ length l.fn.row;
  done : (k : ℕ) → k < l.i → flag l.row k ≡ (slice_index l.text k == l.byte && flag l.fn.row (k + 1));
  kept : (k : ℕ) → l.i ≤ k → flag l.row k ≡ flag l.fn.row k;
}
