use Rattle.std.proofs.Common.{◌≡◌, ◌≤◌, length}
use Rattle.small_eval.proofs.Loops.{AtPiece}
use Rattle.small_eval.proofs.run.play_pieces.Given as goal

abbrev pub invariant-loop-script : goal.invariant-loop-script
invariant-loop-script l =
    record {
      at : AtPiece l.page l.n l.fn.world l.world;
      number : l.n ≡ l.script-index;
      within : l.script-index ≤ length l.script-items;
    }
