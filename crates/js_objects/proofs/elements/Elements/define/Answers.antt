use Rattle.js_objects.specs.Naming.{value_of, place_of}
use Rattle.js_objects.proofs.ElementLists.{defined_sparse, defined_slot, defined_accessor}
use Rattle.js_objects.proofs.elements.Elements.define.Goals as goal

pub returns-then-place-count-clause-row : goal.returns-then-place-count-clause-row
returns-then-place-count-clause-row c = λ names cell. defined_sparse names cell _ _ _ _ c.count.ensures.exact c.if-place-count.true

pub returns-in-Slot-clause-row : goal.returns-in-Slot-clause-row
returns-in-Slot-clause-row c = λ names cell. rw (c.in-Slot.is, defined_slot names cell c.args.self.now c.args.place (value_of names c.in-Slot.value) c.in-Slot.writable c.in-Slot.enumerable (rw c.count.ensures.exact at c.if-place-count.false)) (c.put_if.ensures.row names cell)

pub returns-in-Accessor-clause-row : goal.returns-in-Accessor-clause-row
returns-in-Accessor-clause-row c = λ names cell. rw c.in-Accessor.is (defined_accessor names cell c.args.self.now c.args.place (place_of names c.in-Accessor.get) (place_of names c.in-Accessor.set) c.in-Accessor.enumerable (rw c.count.ensures.exact at c.if-place-count.false))
