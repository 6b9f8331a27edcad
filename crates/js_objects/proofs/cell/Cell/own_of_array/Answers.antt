use Rattle.std.proofs.Common.{◌∙◌, sym}
use Rattle.js_semantics.specs.Properties.{place_spelled}
use Rattle.js_objects.specs.Naming.{slots_of}
use Rattle.js_objects.proofs.CellRows.{own_place}
use Rattle.js_objects.proofs.cell.Cell.own_of_array.Goals as goal

pub returns-in-Some : goal.returns-in-Some
returns-in-Some c = λ names. own_place names c.args.self.now.elements (slots_of names c.args.self.now.slots) c.args.key.now (place_spelled c.args.key.now) c.in-Some.place _ (sym c.place_of.ensures ∙ c.in-Some.is) c.at.ensures

pub returns-in-None : goal.returns-in-None
returns-in-None c = λ names. rw (sym c.place_of.ensures ∙ c.in-None.is) (c.length_or_slot.ensures names)
