use Rattle.std.proofs.Common.{◌∙◌, sym, refl}
use Rattle.js_objects.specs.Naming.{holder_of}
use Rattle.js_objects.specs.Defines.{Conforms}
use Rattle.js_objects.proofs.CellRows.{defined_place}
use Rattle.js_objects.proofs.cell.Cell.define_in_array.Goals as goal

pub returns-in-Some-clause-row : goal.returns-in-Some-clause-row
returns-in-Some-clause-row c = λ names. defined_place names c.args.self.now (record c.args.self.now { elements = c.define.new.self }) c.args.key.now c.args.prop c.in-Some.place (Conforms c.define.result) c.requires (sym c.place_of.ensures ∙ c.in-Some.is) refl (c.define.ensures.row names (holder_of names c.args.self.now))
