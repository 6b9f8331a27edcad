use Rattle.std.proofs.Common.{refl}
use Rattle.js_objects.proofs.elements.Elements.cut_by.Goals as goal

pub returns-in-Prim-clause-row : goal.returns-in-Prim-clause-row
returns-in-Prim-clause-row c = λ names cell. rw c.in-Prim.is (c.cut_by_number.ensures.row names cell)
