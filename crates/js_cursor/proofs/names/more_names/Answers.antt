use Rattle.std.proofs.Common.{rules, arith}
use Rattle.std.proofs.lemmas.Grind.{common_steps}
use Rattle.js_combinators.specs.Readers.{rounds}
use Rattle.js_reference_parser.specs.ExpressionsModel.{not_comma, next_name}
use Rattle.js_reference_parser.proofs.Turns as turns
use Rattle.js_cursor.proofs.names.more_names.Goals as goal

pub returns-in_err-found : goal.returns-in_err-found
unfolding rounds
returns-in_err-found c =
    let e = turns.one_more (λ n. rounds n not_comma next_name c.loop-turn.found c.loop-turn.tokens) _ c.loop-turn._turn c.loop-turn-test.true c.loop-turn.invariant in
    first_of (search rules, grind (arith, common_steps))

pub returns-in_default : goal.returns-in_default
unfolding rounds
returns-in_default c =
    let e = turns.one_more (λ n. rounds n not_comma next_name c.loop-turn.found c.loop-turn.tokens) _ c.loop-turn._turn c.loop-turn-test.true c.loop-turn.invariant in
    first_of (search rules, grind (arith, common_steps))

pub loop-turn-preserved : goal.loop-turn-preserved
unfolding rounds
loop-turn-preserved c =
    let e = turns.one_more (λ n. rounds n not_comma next_name c.loop-turn.found c.loop-turn.tokens) _ c.loop-turn._turn c.loop-turn-test.true c.loop-turn.invariant in
    first_of (search rules, grind (arith, common_steps))
