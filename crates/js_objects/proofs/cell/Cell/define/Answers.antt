use Rattle.std.proofs.Common.{◌∙◌, sym, refl, ap, List}
use Rattle.js_objects.specs.declared.slots.KeyedProp.{KeyedProp}
use Rattle.js_objects.proofs.CellRows.{defined_other}
use Rattle.js_objects.proofs.cell.Cell.define.Goals as goal

pub returns-in_ok-put-in_default : goal.returns-in_ok-put-in_default
returns-in_ok-put-in_default c = record { row = λ names. defined_other names c.args.self.now _ c.args.key.now c.args.prop c.in_default.not-Array (ap (λ (s : List KeyedProp). record c.args.self.now { slots = s }) c.in_ok-put-in_default.ensures.ok); rest = refl; other = λ d. refl; err = tt }
