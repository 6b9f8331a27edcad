use Rattle.std.proofs.Common.{rules, ◌-◌, ◌+◌, sym, ap, ◌∙◌, Ok}
use Rattle.js_syntax.specs.Symbols.{among}
use Rattle.js_combinators.specs.Readers.{chain, and_then}
use Rattle.js_cursor.specs.Sets.{symbols_of}
use Rattle.js_reference_parser.specs.ExpressionsModel.{denied, suffix}
use Rattle.js_reference_parser.specs.StatementsModel.{within}
use Rattle.js_reference_parser.proofs.Turns as turns
use Rattle.js_reference_parser.proofs.Links as links
use Rattle.js_parser.proofs.Denied.{reads_denied}
use Rattle.js_parser.proofs.level.Level.chain.Goals as goal

pub returns-in_err-undenied : goal.returns-in_err-undenied
returns-in_err-undenied g c =
    let e = turns.one_more (λ n. chain n (denied c.args.self.now.left) (among (symbols_of c.args.of)) (suffix c.args.self.now.left (within 64 c.args.self.now.left)) c.loop-link.found c.loop-link.tokens) 64 c.loop-link._link c.loop-link-test.true c.loop-link.invariant in
    let r = reads_denied c.args.self.now.left (64 - (c.loop-link._link + 1)) (among (symbols_of c.args.of)) (suffix c.args.self.now.left (within 64 c.args.self.now.left)) c.loop-link.found c.loop-link.tokens _ c.in_err-undenied.ensures in
    rw (sym e) (search rules)

pub returns-in_err-found : goal.returns-in_err-found
returns-in_err-found g c =
    let e = turns.one_more (λ n. chain n (denied c.args.self.now.left) (among (symbols_of c.args.of)) (suffix c.args.self.now.left (within 64 c.args.self.now.left)) c.loop-link.found c.loop-link.tokens) 64 c.loop-link._link c.loop-link-test.true c.loop-link.invariant in
    let f = links.link_taken (64 - (c.loop-link._link + 1)) (denied c.args.self.now.left) (among (symbols_of c.args.of)) (suffix c.args.self.now.left (within 64 c.args.self.now.left)) c.loop-link.found c.loop-link.tokens c.eat_any.new.self c.in-Some.token.now c.in_ok-undenied.ensures c.in-Some.ensures.0 c.in-Some.ensures.1 in
    rw (sym e) (rw f (search rules))

pub returns-in_default : goal.returns-in_default
returns-in_default g c =
    let e = turns.one_more (λ n. chain n (denied c.args.self.now.left) (among (symbols_of c.args.of)) (suffix c.args.self.now.left (within 64 c.args.self.now.left)) c.loop-link.found c.loop-link.tokens) 64 c.loop-link._link c.loop-link-test.true c.loop-link.invariant in
    let f = links.link_ends (64 - (c.loop-link._link + 1)) (denied c.args.self.now.left) (among (symbols_of c.args.of)) (suffix c.args.self.now.left (within 64 c.args.self.now.left)) c.loop-link.found c.loop-link.tokens c.in_ok-undenied.ensures c.in_default.ensures.0 in
    sym e ∙ f ∙ ap (λ x. Ok (c.loop-link.found, x)) (sym c.in_default.ensures.1)

pub loop-link-preserved : goal.loop-link-preserved
loop-link-preserved g c =
    let e = turns.one_more (λ n. chain n (denied c.args.self.now.left) (among (symbols_of c.args.of)) (suffix c.args.self.now.left (within 64 c.args.self.now.left)) c.loop-link.found c.loop-link.tokens) 64 c.loop-link._link c.loop-link-test.true c.loop-link.invariant in
    let f = links.link_taken (64 - (c.loop-link._link + 1)) (denied c.args.self.now.left) (among (symbols_of c.args.of)) (suffix c.args.self.now.left (within 64 c.args.self.now.left)) c.loop-link.found c.loop-link.tokens c.eat_any.new.self c.in-Some.token.now c.in_ok-undenied.ensures c.in-Some.ensures.0 c.in-Some.ensures.1 in
    sym (ap (λ o. and_then o (chain (64 - (c.loop-link._link + 1)) (denied c.args.self.now.left) (among (symbols_of c.args.of)) (suffix c.args.self.now.left (within 64 c.args.self.now.left)))) c.in_ok-found.ensures) ∙ sym f ∙ e
