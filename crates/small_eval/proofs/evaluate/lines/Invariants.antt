use Rattle.std.proofs.Common.{drop}
use Rattle.js_semantics.specs.Intrinsics.{Setup}
use Rattle.small_meaning.specs.Rows.{Cont, lines_row}
use Rattle.small_meaning.specs.Reached.{HasReached}
use Rattle.small_eval.specs.Worlds.{PreservesRest}
use Rattle.small_eval.proofs.evaluate.lines.Given as goal

abbrev pub invariant-loop-next : goal.invariant-loop-next
invariant-loop-next l = PreservesRest l.actor l.fn.world l.world l.fn.fuel l.fuel
    × ((s : Setup) (c : Cont) → HasReached s l.actor l.fn.world.journal.marks (lines_row l.zone l.lines c l.fn.fuel) → HasReached s l.actor l.world.journal.marks (lines_row l.zone (drop l.next-index l.lines) c l.fuel))
