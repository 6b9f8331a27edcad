use Rattle.std.proofs.Common.{arith}
use Rattle.scenario.proofs.Walks.{goes_end, goes_more, hands_more}
use Rattle.scenario.proofs.read.read_lines.Goals as goal

pub loop-i-preserved : goal.loop-i-preserved
loop-i-preserved c = record {
  on = goes_more c.args.lines.now c.loop-i.i _ c.loop-i.read.items c.push_line.new.read.items c.loop-i-test.true c.in_ok-push_line.ensures.ok c.loop-i.invariant.on;
  bad = hands_more c.args.lines.now c.loop-i.i _ c.loop-i.read.items c.push_line.new.read.items c.loop-i-test.true c.in_ok-push_line.ensures.ok c.loop-i.invariant.bad;
}

pub returns-clause-ok : goal.returns-clause-ok
returns-clause-ok c = goes_end c.args.lines.now c.loop-i.i c.loop-i.read.items (omega arith) c.loop-i.invariant.on
