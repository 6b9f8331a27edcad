use Rattle.std.proofs.Common.{◌∙◌, refl, to_z-of_z}
use Rattle.js_objects.proofs.ElementLists.{cut_negative, cut_over, cut_refused, cut_taken}
use Rattle.js_objects.proofs.elements.Elements.cut_to.Goals as goal

pub returns-then-count-lt0-clause-row : goal.returns-then-count-lt0-clause-row
returns-then-count-lt0-clause-row c = λ names cell. cut_negative _ cell _ c.args.count (rw (to_z-of_z c.ranges.count) at c.if-count-lt0.true)

pub returns-then-count-clause-row : goal.returns-then-count-clause-row
returns-then-count-clause-row c = λ names cell. cut_over names _ cell c.args.self.now c.args.count _ (rw (to_z-of_z c.ranges.count) at c.if-count-lt0.false) c.count.ensures.exact (rw (to_z-of_z c.ranges.count) at c.if-count.true)

pub returns-then-not-writable-clause-row : goal.returns-then-not-writable-clause-row
returns-then-not-writable-clause-row c = λ names cell. cut_refused names _ cell c.args.self.now c.args.count _ (rw c.if-not-writable.true refl) (rw (to_z-of_z c.ranges.count) at c.if-count-lt0.false) c.count.ensures.exact (rw (to_z-of_z c.ranges.count) at c.if-count.false)

pub returns-then-enumerable-clause-row : goal.returns-then-enumerable-clause-row
returns-then-enumerable-clause-row c = λ names cell. cut_refused names _ cell c.args.self.now c.args.count _ (rw (c.if-not-writable.false, c.if-enumerable.true) refl) (rw (to_z-of_z c.ranges.count) at c.if-count-lt0.false) c.count.ensures.exact (rw (to_z-of_z c.ranges.count) at c.if-count.false)

pub returns-clause-row : goal.returns-clause-row
returns-clause-row c = λ names cell. cut_taken names _ cell c.args.self.now c.cut.new.self c.args.count _ (rw (c.if-not-writable.false, c.if-enumerable.false) refl) (rw (to_z-of_z c.ranges.count) at c.if-count-lt0.false) c.count.ensures.exact (rw (to_z-of_z c.ranges.count) at c.if-count.false) (rw (to_z-of_z c.ranges.count) at c.cut.ensures)
