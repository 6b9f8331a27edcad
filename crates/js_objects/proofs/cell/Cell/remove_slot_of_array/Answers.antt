use Rattle.std.proofs.Common.{◌∙◌, sym, refl, ap, List}
use Rattle.js_objects.specs.declared.slots.KeyedProp.{KeyedProp}
use Rattle.js_objects.proofs.CellRows.{removed_length, removed_slot}
use Rattle.js_objects.proofs.cell.Cell.remove_slot_of_array.Goals as goal

pub returns-then-is_length-clause-row : goal.returns-then-is_length-clause-row
returns-then-is_length-clause-row c = λ names. removed_length names c.args.self.now c.args.key.now c.requires.array c.requires.no_place (sym c.is_length.ensures ∙ c.if-is_length.true)

pub returns-clause-row : goal.returns-clause-row
returns-clause-row c = λ names. removed_slot names c.args.self.now _ c.args.key.now _ c.requires.array c.requires.no_place (sym c.is_length.ensures ∙ c.if-is_length.false) (ap (λ (s : List KeyedProp). record c.args.self.now { slots = s }) c.take.ensures.rest) c.take.ensures.there
