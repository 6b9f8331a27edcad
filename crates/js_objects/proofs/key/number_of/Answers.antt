use Rattle.js_objects.proofs.Keys.{spelled_over}
use Rattle.js_objects.proofs.key.number_of.Goals as goal

pub returns-then-number-clause-none : goal.returns-then-number-clause-none
returns-then-number-clause-none c = spelled_over c.loop-at.number _ _ c.loop-at.at c.args.key.now (rw c.count-count.ensures.exact at c.loop-at-test.true) c.scalar_at.ensures.exact c.saturating_sub.ensures c.loop-at.invariant.0 c.if-number.true
