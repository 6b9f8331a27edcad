use Rattle.std.proofs.Common.{refl, rules, to_z-of_z}
use mir.Syntax.{w64}
use mir.Val.{SFits}
use Rattle.js_objects.proofs.ElementLists.{not_number}
use Rattle.js_objects.proofs.elements.Elements.cut_by_number.Goals as goal

pub returns-in_default : goal.returns-in_default
returns-in_default c = record { row = λ names cell. not_number cell _ _ c.args.prim.now c.in_default.not-Number; err = refl }

pub returns-in-Number-clause-row : goal.returns-in-Number-clause-row
returns-in-Number-clause-row c = λ names cell.
    let fits : SFits w64 c.in-Number.count = search rules in
    rw c.in-Number.is (rw (to_z-of_z fits) at (c.cut_to.ensures.row names cell))
