use Rattle.std.proofs.Common.{◌≡◌, drop}
use Rattle.small_forms.specs.Bytes.{are_in}
use Rattle.small_forms.proofs.bytes.are_all.Given as goal

abbrev pub invariant-loop-byte : goal.invariant-loop-byte
invariant-loop-byte l = are_in l.class l.bytes ≡ are_in l.class (drop l.byte-index l.bytes)
