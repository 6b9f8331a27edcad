use Rattle.std.proofs.Common.{arith, [], Err}
use Rattle.page_text.specs.TagsModel.{Attributes, found_of, closed, more, stuck, next_at}
use Rattle.page_text.proofs.Reading.{handed_on}
use Rattle.page_text.proofs.tags.attributes.Goals as goal

pub returns-in-Err-clause-value : goal.returns-in-Err-clause-value
returns-in-Err-clause-value c =
    let start = c.args.start.now in
    let rest = c.loop-failed.rest.now in
    handed_on found_of (Attributes start [] c.args.text.now) (next_at start rest) c.in-Err.failed c.in-Err.ensures.value
    (λ x e. c.loop-failed.invariant.2 (Err x) (stuck c.loop-failed.found.items rest x e))

pub returns-in-None-clause-value : goal.returns-in-None-clause-value
returns-in-None-clause-value c =
    c.loop-failed.invariant.2 _ (closed c.loop-failed.found.items c.loop-failed.rest.now c.in-Ok.read.1.now (rw c.in-None.is at c.in-Ok.ensures.value))

pub loop-failed-preserved : goal.loop-failed-preserved
loop-failed-preserved c =
    (c.in-Ok.ensures.rest.1, omega (arith, c.in-Ok.ensures.rest.0), λ out h. c.loop-failed.invariant.2 out (more c.loop-failed.found.items c.in-Some.attribute c.loop-failed.rest.now c.in-Ok.read.1.now out (rw c.in-Some.is at c.in-Ok.ensures.value) (rw c.in_ok-with_attribute.ensures.added at h)), c.in_ok-with_attribute.ensures.named)
