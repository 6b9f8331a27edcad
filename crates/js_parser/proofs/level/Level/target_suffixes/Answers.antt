use Rattle.std.proofs.Common.{rules, arith, ◌≡◌, ◌-◌, suc, sym, ap, ◌∙◌}
use Rattle.js_combinators.specs.Readers.{and_then}
use Rattle.js_reference_parser.specs.ExpressionsModel.{target_chain}
use Rattle.js_reference_parser.specs.StatementsModel.{within}
use Rattle.js_reference_parser.proofs.TargetLinks as links
use Rattle.js_parser.proofs.level.Level.target_suffixes.Goals as goal

pub returns-in_err-found : goal.returns-in_err-found
returns-in_err-found g c =
    let e = ap (λ n. target_chain n c.args.self.now.left (within 64 c.args.self.now.left) c.loop-link.found c.loop-link.tokens) (sym (links.here c.loop-link._link c.loop-link-test.true)) ∙ c.loop-link.invariant in
    let f = links.taken (62 - c.loop-link._link) c.args.self.now.left (within 64 c.args.self.now.left) c.loop-link.found c.loop-link.tokens c.eat_any.new.self c.in-Some.token.now c.in_ok-undenied.ensures c.in-Some.ensures.0 c.in-Some.ensures.1 in
    rw (sym e) (rw f (search rules))

pub returns-in_default : goal.returns-in_default
returns-in_default g c =
    let e = ap (λ n. target_chain n c.args.self.now.left (within 64 c.args.self.now.left) c.loop-link.found c.loop-link.tokens) (sym (links.here c.loop-link._link c.loop-link-test.true)) ∙ c.loop-link.invariant in
    let f = links.ends (62 - c.loop-link._link) c.args.self.now.left (within 64 c.args.self.now.left) c.loop-link.found c.loop-link.tokens c.in_ok-undenied.ensures c.in_default.ensures.0 in
    rw (sym e) (rw f (search rules))

pub loop-link-preserved : goal.loop-link-preserved
loop-link-preserved g c =
    let e = ap (λ n. target_chain n c.args.self.now.left (within 64 c.args.self.now.left) c.loop-link.found c.loop-link.tokens) (sym (links.here c.loop-link._link c.loop-link-test.true)) ∙ c.loop-link.invariant in
    let f = links.taken (62 - c.loop-link._link) c.args.self.now.left (within 64 c.args.self.now.left) c.loop-link.found c.loop-link.tokens c.eat_any.new.self c.in-Some.token.now c.in_ok-undenied.ensures c.in-Some.ensures.0 c.in-Some.ensures.1 in
    ap (λ n. target_chain n c.args.self.now.left (within 64 c.args.self.now.left) c.in_ok-found.found c.suffix.new.tokens) (links.after c.loop-link._link c.loop-link-test.true) ∙ sym (ap (λ o. and_then o (target_chain (suc (62 - c.loop-link._link)) c.args.self.now.left (within 64 c.args.self.now.left))) c.in_ok-found.ensures) ∙ sym f ∙ e

pub returns : goal.returns
returns g c =
    let last : 64 - c.loop-link._link ≡ 1 = omega arith in
    let e = ap (λ n. target_chain n c.args.self.now.left (within 64 c.args.self.now.left) c.loop-link.found c.loop-link.tokens) (sym last) ∙ c.loop-link.invariant in
    rw (sym e) c.last_suffix.ensures
