use Rattle.std.proofs.Common.{◌≡◌, ◌++◌, take}
use Rattle.std.specs.List.{flat_map}
use Rattle.page_host.specs.Report.{mark_line}
use Rattle.page_host.specs.Scripts.{files_in}
use Rattle.page_host.proofs.report_text.push_log.Given as goal

abbrev pub invariant-loop-mark : goal.invariant-loop-mark
invariant-loop-mark l = l.out.items ≡ l.fn.out.items ++ flat_map (mark_line (files_in l.scripts)) (take l.mark-index l.mark-items)
