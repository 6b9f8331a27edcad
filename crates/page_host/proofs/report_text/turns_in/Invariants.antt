use Rattle.std.proofs.Common.{◌≡◌, ◌≤◌, ◌+◌, drop}
use Rattle.page_host.specs.Report.{turns_in}
use Rattle.page_host.proofs.report_text.turns_in.Given as goal

abbrev pub invariant-loop-mark : goal.invariant-loop-mark
invariant-loop-mark l = record { turns : turns_in l.mark-items ≡ l.turns + turns_in (drop l.mark-index l.mark-items); few : l.turns ≤ l.mark-index }
