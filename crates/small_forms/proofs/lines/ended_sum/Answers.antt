use Rattle.small_forms.proofs.LineFronts.{not_ended}
use Rattle.small_forms.proofs.lines.ended_sum.Goals as goal

pub returns-in_default-after-clause-none : goal.returns-in_default-after-clause-none
returns-in_default-after-clause-none c other left so h =
    let fact = rw c.in-Some.is at c.in_ok-sum.ensures.some in
    not_ended c.args.bytes.now c.args.end.now c.in-Some.sum c.in-Some.rest.now fact.0 fact.1 fact.2 c.requires.end c.in_default-after.ensures.none other left so h
