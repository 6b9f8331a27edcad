use Rattle.std.proofs.Common.{Option, Ok, subst}
use denote.Bor.{Bor}
use Rattle.js_syntax.specs.declared.token.Token.{Token}
use Rattle.js_syntax.specs.declared.symbol.Symbol.TheVariants as s
use Rattle.js_syntax.specs.Symbols.{is}
use Rattle.js_combinators.specs.Readers.{pure}
use Rattle.js_cursor.specs.Reads.{Begins}
use Rattle.js_reference_parser.specs.ExpressionsModel.{conditional_branches}
use Rattle.js_reference_parser.specs.StatementsModel.{within}
use Rattle.js_reference_parser.proofs.Begun as begun
use Rattle.js_parser.proofs.level.Level.conditional_tail.Goals as goal

pub returns-in-Some : goal.returns-in-Some
returns-in-Some g c =
    let h = subst (λ (o : Option (Bor Token)). Begins c.args.self.now.left (is s.Question) c.args.tokens.now (Ok o) c.begin.new.self) c.in-Some.is c.in_ok-begin.ensures in
    rw (begun.taken c.args.self.now.left (is s.Question) (λ t. conditional_branches (within 64 c.args.self.now.left) c.args.in_allowed c.args.test) (pure c.args.test) c.args.tokens.now c.begin.new.self c.in-Some.field-0.now h.0 h.1.0 h.1.1) c.conditional_branches.ensures
