use Rattle.base_text.specs.declared.text.TheConstants.{SOURCE_LIMIT}
use Rattle.std.proofs.Common.{◌≡◌, ◌≤◌, ◌++◌, List, length}
use Rattle.std.specs.List.{flat_map}
use Rattle.small_forms.specs.declared.script.Line.{Line}
use Rattle.small_forms.specs.Scripts.{AreLines, userscript_line}
use Rattle.small_forms.proofs.LineFronts.{AreLeft}
use Rattle.small_forms.proofs.lines.userscript_lines_in.Given as goal

abbrev pub invariant-loop-rest : goal.invariant-loop-rest
invariant-loop-rest l =
    record {
      front : l.bytes ≡ flat_map userscript_line l.lines ++ l.rest;
      lines : AreLines l.lines;
      only : (lines : List Line) → AreLines lines → l.bytes ≡ flat_map userscript_line lines → AreLeft l.rest;
      short : length l.rest ≤ SOURCE_LIMIT;
    }

abbrev pub decreases-loop-rest : goal.decreases-loop-rest
decreases-loop-rest l = length l.rest
