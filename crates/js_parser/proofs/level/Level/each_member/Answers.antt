use Rattle.std.proofs.Common.{rules, arith}
use Rattle.std.proofs.lemmas.Grind.{common_steps}
use Rattle.js_syntax.specs.declared.symbol.Symbol.TheVariants as s
use Rattle.js_syntax.specs.Symbols.{is}
use Rattle.js_combinators.specs.Readers.{rounds}
use Rattle.js_reference_parser.specs.ExpressionsModel.{entry, one_more}
use Rattle.js_reference_parser.specs.StatementsModel.{within}
use Rattle.js_reference_parser.proofs.Turns as turns
use Rattle.js_parser.proofs.level.Level.each_member.Goals as goal

pub returns-in_err-item : goal.returns-in_err-item
unfolding rounds entry
returns-in_err-item g c =
    let e = turns.one_more (λ n. rounds n (is s.CloseBrace) (one_more (entry s.CloseBrace (within 64 c.args.self.now.left).member)) c.loop-turn.found c.loop-turn.tokens) _ c.loop-turn._turn c.loop-turn-test.true c.loop-turn.invariant in
    first_of (search rules, grind (arith, common_steps))

pub returns-in_err-part : goal.returns-in_err-part
unfolding rounds entry
returns-in_err-part g c =
    let e = turns.one_more (λ n. rounds n (is s.CloseBrace) (one_more (entry s.CloseBrace (within 64 c.args.self.now.left).member)) c.loop-turn.found c.loop-turn.tokens) _ c.loop-turn._turn c.loop-turn-test.true c.loop-turn.invariant in
    first_of (search rules, grind (arith, common_steps))

pub loop-turn-preserved : goal.loop-turn-preserved
unfolding rounds entry
loop-turn-preserved g c =
    let e = turns.one_more (λ n. rounds n (is s.CloseBrace) (one_more (entry s.CloseBrace (within 64 c.args.self.now.left).member)) c.loop-turn.found c.loop-turn.tokens) _ c.loop-turn._turn c.loop-turn-test.true c.loop-turn.invariant in
    first_of (search rules, grind (arith, common_steps))
