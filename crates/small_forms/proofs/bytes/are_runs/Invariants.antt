use Rattle.std.proofs.Common.{◌≡◌, drop, false}
use Rattle.small_forms.proofs.Runs.{is_runs}
use Rattle.small_forms.proofs.bytes.are_runs.Given as goal

abbrev pub invariant-loop-byte : goal.invariant-loop-byte
invariant-loop-byte l = is_runs l.letter l.separator l.in_run (drop l.byte-index l.bytes) ≡ is_runs l.letter l.separator false l.bytes
