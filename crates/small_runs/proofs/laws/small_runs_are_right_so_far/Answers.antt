use Rattle.small_runs.proofs.Readings.{SmallLaws}
use Rattle.small_runs.proofs.Right.{Laws}
use Rattle.small_runs.proofs.SoFar.{cut_right}
use Rattle.small_runs.proofs.laws.small_runs_are_right_so_far.Goals as goal

pub returns : goal.returns
returns c =
    let small : SmallLaws = record { page = c.page_scripts_spell_their_lines.ensures; userscript = c.userscripts_spell_their_lines.ensures } in
    let laws : Laws = record { small = small; one_way = c.entries_go_on_one_way.ensures } in
    λ address bytes page scripts read marks. cut_right address bytes page scripts read marks laws
