use Rattle.std.proofs.Common.{refl}
use Rattle.js_objects.proofs.elements.Elements.put_if.Goals as goal

pub returns-then-not-writable-clause-row : goal.returns-then-not-writable-clause-row
returns-then-not-writable-clause-row c = λ names cell. rw c.if-not-writable.true refl

pub returns-then-not-enumerable-clause-row : goal.returns-then-not-enumerable-clause-row
returns-then-not-enumerable-clause-row c = λ names cell. rw (c.if-not-writable.false, c.if-not-enumerable.true) refl

pub returns-clause-row : goal.returns-clause-row
returns-clause-row c = λ names cell. rw (c.if-not-writable.false, c.if-not-enumerable.false) (c.put.ensures.row names cell)
