use Rattle.std.proofs.Common.{◌≡◌, ◌++◌, take, drop}
use Rattle.page_text.specs.ScansModel.{before, from, stops}
use Rattle.page_text.proofs.scan.place.Given as goal

abbrev pub invariant-loop-i : goal.invariant-loop-i
invariant-loop-i l = record {
  front : take l.i l.text ++ before (stops l.stop) (drop l.i l.text) ≡ before (stops l.stop) l.text;
  back : from (stops l.stop) (drop l.i l.text) ≡ from (stops l.stop) l.text;
}
