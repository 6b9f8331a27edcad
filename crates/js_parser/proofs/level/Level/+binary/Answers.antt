use Rattle.std.proofs.Common.{rules, arith, ◌≡◌, ◌-◌, ◌+◌, sym, ap, ◌∙◌, None}
use Rattle.js_syntax.specs.Symbols.{among, next, symbol_of}
use Rattle.js_syntax.specs.Words.{operators, operation}
use Rattle.js_combinators.specs.Readers.{chain, and_then, pure}
use Rattle.js_reference_parser.specs.ExpressionsModel.{operand_of, binary, chained}
use Rattle.js_reference_parser.specs.StatementsModel.{within}
use Rattle.js_reference_parser.proofs.Turns as turns
use Rattle.js_reference_parser.proofs.Links as links
use Rattle.js_parser.proofs.level.Level.+binary.Goals as goal

pub binary-returns-in_err-first : goal.binary-returns-in_err-first
unfolding binary chained
binary-returns-in_err-first g t c = rw (turns.deeper (λ n. binary 64 c.args.self.now.left (within 64 c.args.self.now.left) c.args.in_allowed n c.args.tokens.now) c.args.levels (omega arith)) (search rules)

pub binary-returns : goal.binary-returns
unfolding binary chained
binary-returns g t c = rw (turns.deeper (λ n. binary 64 c.args.self.now.left (within 64 c.args.self.now.left) c.args.in_allowed n c.args.tokens.now) c.args.levels (omega arith)) (search rules)

pub operations-loop-link-preserved : goal.operations-loop-link-preserved
operations-loop-link-preserved g t c =
    let e = turns.one_more (λ n. chain n None (among (operators c.args.in_allowed c.args.level)) (operand_of (binary 64 c.args.self.now.left (within 64 c.args.self.now.left) c.args.in_allowed c.args.level)) c.loop-link.found c.loop-link.tokens) 64 c.loop-link._link c.loop-link-test.true c.loop-link.invariant in
    let f = links.link_taken (64 - (c.loop-link._link + 1)) None (among (operators c.args.in_allowed c.args.level)) (operand_of (binary 64 c.args.self.now.left (within 64 c.args.self.now.left) c.args.in_allowed c.args.level)) c.loop-link.found c.loop-link.tokens c.eat_any.new.self c.in-Some.token.now (links.nothing_denied (next c.loop-link.tokens)) c.in-Some.ensures.0 c.in-Some.ensures.1 in
    let h : c.in_ok-found.found ≡ operation (symbol_of c.in-Some.token.now) c.loop-link.found c.in_ok-operand.operand = c.in_ok-found.ensures ∙ c.operation-operation.ensures ∙ ap (λ x. operation x c.loop-link.found c.in_ok-operand.operand) c.symbol.ensures in
    ap (λ x. chain (64 - (c.loop-link._link + 1)) None (among (operators c.args.in_allowed c.args.level)) (operand_of (binary 64 c.args.self.now.left (within 64 c.args.self.now.left) c.args.in_allowed c.args.level)) x c.binary.new.tokens) h ∙ sym (ap (λ o. and_then (and_then o (λ b. pure (operation (symbol_of c.in-Some.token.now) c.loop-link.found b))) (chain (64 - (c.loop-link._link + 1)) None (among (operators c.args.in_allowed c.args.level)) (operand_of (binary 64 c.args.self.now.left (within 64 c.args.self.now.left) c.args.in_allowed c.args.level)))) c.in_ok-operand.ensures) ∙ sym f ∙ e
