use Rattle.std.proofs.Common.{Option, Ok, subst}
use denote.Bor.{Bor}
use Rattle.js_syntax.specs.declared.token.Token.{Token}
use Rattle.js_syntax.specs.declared.tree.Expr.{Expr}
use Rattle.js_syntax.specs.Words.{assigns}
use Rattle.js_combinators.specs.Readers.{pure}
use Rattle.js_cursor.specs.Reads.{Begins}
use Rattle.js_parser.specs.ExpressionPartsModel.{assigned}
use Rattle.js_reference_parser.specs.StatementsModel.{within}
use Rattle.js_reference_parser.proofs.Begun as begun
use Rattle.js_parser.proofs.level.Level.assignment_tail.Goals as goal

pub returns-in-Some : goal.returns-in-Some
returns-in-Some g c =
    let k = subst (λ (a : Expr). Begins c.args.self.now.left (assigns a) c.args.tokens.now (Ok c.in_ok-token.field-0) c.begin_assign.new.tokens) c.get.ensures c.in_ok-token.ensures in
    let h = subst (λ (o : Option (Bor Token)). Begins c.args.self.now.left (assigns c.args.target) c.args.tokens.now (Ok o) c.begin_assign.new.tokens) c.in-Some.is k in
    rw (begun.taken c.args.self.now.left (assigns c.args.target) (λ t. assigned (within 64 c.args.self.now.left) c.args.in_allowed c.args.target t) (pure c.args.target) c.args.tokens.now c.begin_assign.new.tokens c.in-Some.token.now h.0 h.1.0 h.1.1) c.assigned.ensures
