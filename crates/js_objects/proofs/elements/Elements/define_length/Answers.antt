use Rattle.std.proofs.Common.{refl}
use Rattle.js_objects.specs.Naming.{value_of, values_of}
use Rattle.js_objects.proofs.ElementLists.{length_slot}
use Rattle.js_objects.proofs.elements.Elements.define_length.Goals as goal

pub returns-in-Slot-clause-row : goal.returns-in-Slot-clause-row
returns-in-Slot-clause-row c = λ names cell. rw (c.in-Slot.is, length_slot cell (values_of names c.args.self.now) (value_of names c.in-Slot.value) c.in-Slot.writable c.in-Slot.enumerable) (c.cut_by.ensures.row names cell)

pub returns-in-Accessor-clause-row : goal.returns-in-Accessor-clause-row
returns-in-Accessor-clause-row c = λ names cell. rw c.in-Accessor.is refl
