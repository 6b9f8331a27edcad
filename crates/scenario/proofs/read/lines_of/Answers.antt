use Rattle.std.proofs.Common.{arith, length, ap, ◌≡◌}
use Rattle.std.proofs.lemmas.Iterator.Consumers.{map_from_collect}
use Rattle.std.proofs.lemmas.Iterator.Splits.{YieldsList-from_lines}
use Rattle.std.specs.Str.Lines.{lines}
use Rattle.scenario.specs.Parts.{texts}
use Rattle.scenario.proofs.Shorts.{each_short, few_lines, texts-length}
use Rattle.scenario.proofs.read.lines_of.Goals as goal

pub returns : goal.returns
returns c =
    let same : texts c.in_ok-collect.field-0.items ≡ lines c.args.s.now = rw c.in_ok-collect.was at (map_from_collect c.collect.result c.collect.ensures.ran (YieldsList-from_lines c.args.s.now c.lines.ensures.rest)) in
    record {
      exact = same;
      count = omega (arith, ap length same, texts-length c.in_ok-collect.field-0.items, few_lines c.args.s.now);
      short = each_short c.in_ok-collect.field-0.items c.args.s.now same;
    }
