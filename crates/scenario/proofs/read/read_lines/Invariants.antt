use Rattle.scenario.proofs.Walks.{Goes, Hands}
use Rattle.scenario.proofs.read.read_lines.Given as goal

-- what the lines that are left say, after what is read, is what all say, and their first fault is that of all
abbrev pub invariant-loop-i : goal.invariant-loop-i
invariant-loop-i l = record { on : Goes l.lines l.i l.read.items; bad : Hands l.lines l.i }
