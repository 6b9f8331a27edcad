use Rattle.std.proofs.Common.{◌∙◌, sym, refl, ap, List}
use Rattle.js_objects.specs.declared.slots.KeyedProp.{KeyedProp}
use Rattle.js_objects.specs.Naming.{holder_of}
use Rattle.js_objects.specs.Defines.{Conforms}
use Rattle.js_objects.proofs.CellRows.{defined_length, defined_slot_of_array}
use Rattle.js_objects.proofs.cell.Cell.define_length_or_slot.Goals as goal

pub returns-then-is_length-clause-row : goal.returns-then-is_length-clause-row
returns-then-is_length-clause-row c = λ names. defined_length names c.args.self.now (record c.args.self.now { elements = c.define_length.new.self }) c.args.key.now c.args.prop (Conforms c.define_length.result) c.requires.array c.requires.no_place (sym c.is_length.ensures ∙ c.if-is_length.true) refl (c.define_length.ensures.row names (holder_of names c.args.self.now))

pub returns-clause-row : goal.returns-clause-row
returns-clause-row c = λ names. defined_slot_of_array names c.args.self.now _ c.args.key.now c.args.prop c.requires.array c.requires.no_place (sym c.is_length.ensures ∙ c.if-is_length.false) (ap (λ (s : List KeyedProp). record c.args.self.now { slots = s }) c.in_ok-put.ensures.ok)
