use Rattle.js_objects.proofs.CellRows.{own_array, own_other}
use Rattle.js_objects.proofs.cell.Cell.own.Goals as goal

pub returns-in-Array : goal.returns-in-Array
returns-in-Array c = λ names. own_array names c.args.self.now c.args.key.now _ c.in-Array.is (c.own_of_array.ensures names)

pub returns-in_default : goal.returns-in_default
returns-in_default c = λ names. own_other names c.args.self.now c.args.key.now _ c.in_default.not-Array c.find.ensures
