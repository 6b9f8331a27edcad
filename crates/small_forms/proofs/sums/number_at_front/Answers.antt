use Rattle.std.proofs.Common.{◌∙◌, sym, arith}
use Rattle.std.proofs.lemmas.Fmt.{decimal_injective}
use Rattle.small_forms.proofs.PartFronts.{number_front}
use Rattle.small_forms.proofs.sums.number_at_front.Goals as goal

pub returns-in_default-clause-none : goal.returns-in_default-clause-none
returns-in_default-clause-none c n rest h s e =
    let parts = number_front c.args.bytes.now c.front.result.0.now c.front.result.1.now n rest c.front.ensures.whole c.front.ensures.inside c.front.ensures.stops h s e in
    c.in_default.ensures.none n (omega arith) parts.0

pub returns-else-number-le999-clause-none : goal.returns-else-number-le999-clause-none
returns-else-number-le999-clause-none c n rest h s e =
    let parts = number_front c.args.bytes.now c.front.result.0.now c.front.result.1.now n rest c.front.ensures.whole c.front.ensures.inside c.front.ensures.stops h s e in
    let same = decimal_injective c.in-Some.number n (omega (arith, c.in-Some.ensures.some.1)) (omega arith) (sym c.in-Some.ensures.some.0 ∙ parts.0) in
    omega (arith, same, h, c.if-number-le999.false)
