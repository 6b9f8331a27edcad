use Rattle.std.proofs.Common.{ap, arith, ◌<◌}
use Rattle.std.specs.Prelude.{vec_len, vec_capacity, length}
use Rattle.std.proofs.lemmas.Bool.{both_ways}
use Rattle.dom_tree.proofs.Lists.{shorter_without}
use Rattle.dom_tree.proofs.numbers.shift.Goals as goal

pub returns-then-is_err : goal.returns-then-is_err
returns-then-is_err c =
    let old = c.args.numbers.now in
    let less = shorter_without c.args.n old.items c.requires in
    let shorter = ap length c.take_out.ensures.items in
    let room : vec_len c.take_out.new.numbers < vec_capacity c.take_out.new.numbers =
    omega (arith, less, shorter, old.ok.0, old.ok.1, c.take_out.new.numbers.ok.0, c.take_out.ensures.capacity) in
    absurd (both_ways _ c.if-is_err.ensures.negation (c.put.ensures.succeeds room))
