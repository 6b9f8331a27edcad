use Rattle.std.proofs.Common.{◌∙◌, sym}
use Rattle.js_objects.proofs.CellRows.{removed_place}
use Rattle.js_objects.proofs.cell.Cell.remove_from_array.Goals as goal

pub returns-in-Some-clause-row : goal.returns-in-Some-clause-row
returns-in-Some-clause-row c = λ names. removed_place names c.args.self.now c.args.key.now c.in-Some.field-0 c.requires (sym c.place_of.ensures ∙ c.in-Some.is)
