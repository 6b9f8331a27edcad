use Rattle.std.proofs.Common.{arith, ap, length, codes}
use Rattle.small_forms.proofs.LineFronts.{are-more, left-more, line-ended, line-none, line_long, lines_read}
use Rattle.small_forms.proofs.Options.{nonempty}
use Rattle.small_forms.proofs.SumFronts.{shorter}
use Rattle.small_forms.proofs.lines.userscript_lines_in.Goals as goal

pub returns-in_default-clause-none : goal.returns-in_default-clause-none
returns-in_default-clause-none c lines are e =
    let none = rw c.in_default.is at c.in_ok-line.ensures.none in
    line-none c.loop-rest.rest.now (nonempty (length c.loop-rest.rest.now) c.loop-rest-test.ensures) none (c.loop-rest.invariant.only lines are e)

pub returns-in_default-after-clause-none : goal.returns-in_default-after-clause-none
returns-in_default-after-clause-none c lines are e =
    let fact = rw c.in-Some.is at c.in_ok-line.ensures.some in
    let ended = line-ended c.loop-rest.rest.now c.in-Some.line c.in-Some.end.now (nonempty (length c.loop-rest.rest.now) c.loop-rest-test.ensures) fact.0 fact.1 (c.loop-rest.invariant.only lines are e) in
    c.in_default-after.ensures.none ended.more ended.text

pub loop-rest-preserved : goal.loop-rest-preserved
loop-rest-preserved c =
    let fact = rw c.in-Some.is at c.in_ok-line.ensures.some in
    let more = c.in_ok-push.ensures.ok in
    let some = nonempty (length c.loop-rest.rest.now) c.loop-rest-test.ensures in
    let long = line_long (codes "GM_log") c.in-Some.line c.in-Some.end.now in
    let left = shorter c.in-Some.end.now (codes "\n") c.in-Some-after.left.now c.in-Some-after.ensures.some in
    record {
      front = rw more (lines_read (codes "GM_log") c.args.bytes.now c.loop-rest.lines c.in-Some.line c.loop-rest.rest.now c.in-Some.end.now c.in-Some-after.left.now c.loop-rest.invariant.front fact.0 c.in-Some-after.ensures.some);
      lines = rw more (are-more c.loop-rest.lines c.in-Some.line c.loop-rest.invariant.lines fact.1);
      only = λ lines are e. left-more c.in-Some.end.now c.in-Some-after.left.now c.in-Some-after.ensures.some (line-ended c.loop-rest.rest.now c.in-Some.line c.in-Some.end.now some fact.0 fact.1 (c.loop-rest.invariant.only lines are e));
      short = omega (arith, c.loop-rest.invariant.short, long, left, ap length fact.0);
    }
