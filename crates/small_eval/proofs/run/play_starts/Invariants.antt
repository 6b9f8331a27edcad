use Rattle.std.proofs.Common.{◌≡◌, ◌≤◌, length}
use Rattle.small_eval.specs.Turns.{file_texts}
use Rattle.small_eval.proofs.Loops.{AtStart}
use Rattle.small_eval.proofs.run.play_starts.Given as goal

abbrev pub invariant-loop-file : goal.invariant-loop-file
invariant-loop-file l =
    record {
      at : AtStart (file_texts l.scripts) l.n l.fn.world l.world;
      number : l.n ≡ l.file-index;
      within : l.file-index ≤ length l.scripts;
    }
