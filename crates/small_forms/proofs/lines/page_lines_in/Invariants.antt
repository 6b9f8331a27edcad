use Rattle.base_text.specs.declared.text.TheConstants.{SOURCE_LIMIT}
use Rattle.std.proofs.Common.{◌≡◌, ◌≤◌, ◌++◌, List, length}
use Rattle.std.specs.List.{flat_map}
use Rattle.small_forms.specs.declared.script.Line.{Line}
use Rattle.small_forms.specs.Scripts.{AreLines, IsPageScript}
use Rattle.small_forms.proofs.PageLines.{AreLeft, ended_line}
use Rattle.small_forms.proofs.lines.page_lines_in.Given as goal

abbrev pub invariant-loop-lines : goal.invariant-loop-lines
invariant-loop-lines l =
    record {
      front : l.bytes ≡ flat_map ended_line l.lines ++ l.rest;
      lines : AreLines l.lines;
      only : (lines : List Line) → IsPageScript l.bytes lines → AreLeft l.rest;
      short : length l.rest ≤ SOURCE_LIMIT;
    }

abbrev pub decreases-loop-lines : goal.decreases-loop-lines
decreases-loop-lines l = length l.rest
