use Rattle.std.proofs.Common.{◌≡◌, ◌≤◌, length, drop}
use Rattle.page_text.specs.Bytes.{opens}
use Rattle.page_text.proofs.scan.opens.Given as goal

abbrev pub invariant-loop-i : goal.invariant-loop-i
invariant-loop-i l = record {
  within : l.i ≤ length l.text;
  same : opens (drop l.i l.word) (drop l.i l.text) ≡ opens l.word l.text;
}
