use Rattle.std.proofs.Common.{◌∙◌, sym}
use Rattle.js_objects.specs.Naming.{slots_of}
use Rattle.js_objects.proofs.CellRows.{own_length, own_slot}
use Rattle.js_objects.proofs.cell.Cell.length_or_slot.Goals as goal

pub returns-then-is_length : goal.returns-then-is_length
returns-then-is_length c = λ names. own_length names c.args.self.now.elements (slots_of names c.args.self.now.slots) c.args.key.now _ (sym c.is_length.ensures ∙ c.if-is_length.true) c.length.ensures

pub returns-else-is_length : goal.returns-else-is_length
returns-else-is_length c = λ names. own_slot names c.args.self.now.elements c.args.self.now.slots c.args.key.now _ (sym c.is_length.ensures ∙ c.if-is_length.false) c.find.ensures
