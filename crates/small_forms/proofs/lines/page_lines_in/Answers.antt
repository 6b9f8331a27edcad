use Rattle.std.proofs.Common.{arith, ap, refl, length, codes}
use Rattle.small_forms.proofs.LineFronts.{are-more, line_long, lines_read}
use Rattle.small_forms.proofs.PageLines.{all_read, left-begin, left-tail, tail-more, tail-none}
use Rattle.small_forms.proofs.Options.{empty, nonempty}
use Rattle.small_forms.proofs.SumFronts.{shorter}
use Rattle.small_forms.proofs.lines.page_lines_in.Goals as goal

pub loop-lines-init : goal.loop-lines-init
loop-lines-init c =
    record {
      front = rw c.new-lines.ensures refl;
      lines = rw c.new-lines.ensures tt;
      only = λ lines is. left-begin c.args.bytes.now lines (nonempty (length c.args.bytes.now) c.if-is_empty.ensures) is;
      short = c.requires;
    }

pub returns-then-is_empty-2-clause-some : goal.returns-then-is_empty-2-clause-some
returns-then-is_empty-2-clause-some c =
    let fact = rw c.in-Some.is at c.in_ok-line.ensures.some in
    rw c.in_ok-push.ensures.ok
    (all_read c.args.bytes.now c.loop-lines.lines c.in-Some.line c.loop-lines.rest.now c.in-Some.end.now c.loop-lines.invariant.front fact.0 (empty (length c.in-Some.end.now) c.if-is_empty-2.ensures)
    (are-more c.loop-lines.lines c.in-Some.line c.loop-lines.invariant.lines fact.1))

pub returns-in_default-after-clause-none : goal.returns-in_default-after-clause-none
returns-in_default-after-clause-none c lines is =
    let fact = rw c.in-Some.is at c.in_ok-line.ensures.some in
    tail-none c.in-Some.end.now (nonempty (length c.in-Some.end.now) c.if-is_empty-2.ensures) c.in_default-after.ensures.none
    (left-tail c.loop-lines.rest.now c.in-Some.line c.in-Some.end.now fact.0 fact.1 (c.loop-lines.invariant.only lines is))

pub loop-lines-preserved : goal.loop-lines-preserved
loop-lines-preserved c =
    let fact = rw c.in-Some.is at c.in_ok-line.ensures.some in
    let more = c.in_ok-push.ensures.ok in
    let long = line_long (codes "console.log") c.in-Some.line c.in-Some.end.now in
    let left = shorter c.in-Some.end.now (codes "\n") c.in-Some-after.left.now c.in-Some-after.ensures.some in
    record {
      front = rw more (lines_read (codes "console.log") c.args.bytes.now c.loop-lines.lines c.in-Some.line c.loop-lines.rest.now c.in-Some.end.now c.in-Some-after.left.now c.loop-lines.invariant.front fact.0 c.in-Some-after.ensures.some);
      lines = rw more (are-more c.loop-lines.lines c.in-Some.line c.loop-lines.invariant.lines fact.1);
      only = λ lines is. tail-more c.in-Some.end.now c.in-Some-after.left.now c.in-Some-after.ensures.some (left-tail c.loop-lines.rest.now c.in-Some.line c.in-Some.end.now fact.0 fact.1 (c.loop-lines.invariant.only lines is));
      short = omega (arith, c.loop-lines.invariant.short, long, left, ap length fact.0);
    }
