use Rattle.std.proofs.Common.{sym, subst, ◌++◌}
use Rattle.small_forms.specs.Pages.{IsTitle}
use Rattle.small_forms.proofs.Options.{false_true}
use Rattle.small_forms.proofs.PageFronts.{head_end, head_parts, title_front}
use Rattle.small_forms.proofs.page.title_in.Goals as goal

pub returns-in_default-clause-none : goal.returns-in_default-clause-none
returns-in_default-clause-none c title rest is e = c.in_default.ensures.none (title ++ (head_end ++ rest)) e

pub returns-in_default-after-clause-none : goal.returns-in_default-after-clause-none
returns-in_default-after-clause-none c title rest is e =
    let same = title_front c.args.bytes.now c.in-Some.head.now c.front.result.0.now c.front.result.1.now title rest c.in-Some.ensures.some c.front.ensures.whole c.front.ensures.inside c.front.ensures.stops is e in
    c.in_default-after.ensures.none rest same.1

pub returns-then-are_runs-clause-some : goal.returns-then-are_runs-clause-some
returns-then-are_runs-clause-some c = (
  c.are_runs.ensures.0 c.if-are_runs.true,
  head_parts c.args.bytes.now c.in-Some.head.now c.front.result.0.now c.front.result.1.now c.in-Some-after.body.now c.in-Some.ensures.some c.front.ensures.whole c.in-Some-after.ensures.some,
)

pub returns-else-are_runs-clause-none : goal.returns-else-are_runs-clause-none
returns-else-are_runs-clause-none c title rest is e =
    let same = title_front c.args.bytes.now c.in-Some.head.now c.front.result.0.now c.front.result.1.now title rest c.in-Some.ensures.some c.front.ensures.whole c.front.ensures.inside c.front.ensures.stops is e in
    false_true c.are_runs.result c.if-are_runs.false (c.are_runs.ensures.1 (subst IsTitle (sym same.0) is))
