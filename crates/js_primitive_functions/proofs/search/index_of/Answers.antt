use Rattle.std.specs.Prelude.{◌+◌}
use Rattle.std.specs.Str.{chars}
use Rattle.std.proofs.Common.{arith, to_z-of_z}
use Rattle.js_primitive_functions.proofs.PlacesFrom.{none_from, none_from_past, some_from}
use Rattle.js_primitive_functions.proofs.search.index_of.Goals as goal

pub returns-then-start-end : goal.returns-then-start-end
returns-then-start-end c =
    none_from_past c.args.wanted.now c.args.text.now c.args.from c.clamped-start.result (c.count-end.result + 1) (omega arith) (rw (to_z-of_z c.ranges.from) at c.clamped-start.ensures.exact) (omega arith)

pub returns-in_default : goal.returns-in_default
returns-in_default c =
    none_from c.args.wanted.now c.args.text.now (chars c.as_str.result.now) (chars c.rest_from.result.now) c.args.from c.clamped-start.result (c.count-end.result + 1)
    (omega arith) (rw (to_z-of_z c.ranges.from) at c.clamped-start.ensures.exact) (omega arith) c.rest_from.ensures.scalars c.as_str.ensures.scalars c.in_default.ensures.cases

pub returns : goal.returns
returns c =
    some_from c.args.wanted.now c.args.text.now (chars c.as_str.result.now) (chars c.rest_from.result.now) (chars c.in-Some.before.now) _
    c.args.from c.clamped-start.result (c.count-end.result + 1) c.scalar_count.result
    (omega arith) (rw (to_z-of_z c.ranges.from) at c.clamped-start.ensures.exact) (omega arith) c.rest_from.ensures.scalars c.as_str.ensures.scalars c.in-Some.ensures.cases c.scalar_count.ensures.exact
