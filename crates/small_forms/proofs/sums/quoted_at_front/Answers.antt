use Rattle.small_forms.proofs.PartFronts.{quoted_front}
use Rattle.small_forms.proofs.sums.quoted_at_front.Goals as goal

pub returns-in_default-after-clause-none : goal.returns-in_default-after-clause-none
returns-in_default-after-clause-none c text rest is e =
    c.in_default-after.ensures.none rest (quoted_front c.args.bytes.now c.in-Some.quoted.now c.front.result.0.now c.front.result.1.now text rest c.in-Some.ensures.some c.front.ensures.whole c.front.ensures.inside c.front.ensures.stops is e)
