use Rattle.std.proofs.Common.{◌≡◌, ◌++◌, take}
use Rattle.std.specs.List.{flat_map}
use Rattle.page_host.specs.Report.{script_line}
use Rattle.page_host.specs.Scripts.{files_in}
use Rattle.page_host.proofs.report_text.push_scripts.Given as goal

abbrev pub invariant-loop-script : goal.invariant-loop-script
invariant-loop-script l = l.out.items ≡ l.fn.out.items ++ flat_map script_line (files_in (take l.script-index l.scripts))
