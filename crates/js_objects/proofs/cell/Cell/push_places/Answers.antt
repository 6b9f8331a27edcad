use Rattle.std.proofs.Common.{ap, sym, ◌++◌}
use Rattle.js_objects.proofs.CellRows.{on_ok, keys_pushed, keys_other}
use Rattle.js_objects.proofs.cell.Cell.push_places.Goals as goal

pub returns-in-Array : goal.returns-in-Array
returns-in-Array c = on_ok c.push_places.result (λ e names. keys_pushed names c.args.self.now _ _ _ c.in-Array.is e c.count.ensures.exact) c.push_places.ensures

pub returns-in_default : goal.returns-in_default
returns-in_default c = λ names. ap (λ r. c.args.keys.now.items ++ r) (sym (keys_other names c.args.self.now c.in_default.not-Array))
