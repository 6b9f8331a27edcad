use Rattle.std.proofs.Common.{◌∙◌, sym, refl, ap, List}
use Rattle.js_objects.specs.declared.slots.KeyedProp.{KeyedProp}
use Rattle.js_objects.proofs.CellRows.{removed_other}
use Rattle.js_objects.proofs.cell.Cell.remove.Goals as goal

pub returns-in_default : goal.returns-in_default
returns-in_default c = record { row = λ names. removed_other names c.args.self.now _ c.args.key.now _ c.in_default.not-Array (ap (λ (s : List KeyedProp). record c.args.self.now { slots = s }) c.take.ensures.rest) c.take.ensures.there; rest = refl }
