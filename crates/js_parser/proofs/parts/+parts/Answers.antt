use Rattle.std.proofs.Common.{◌≡◌, ap, arith, ℕ}
use Rattle.js_syntax.specs.Symbols.{among}
use Rattle.js_parser.specs.declared.level.Part.TheVariants as part
use Rattle.js_parser.specs.declared.level.Form.TheVariants as form
use Rattle.js_reference_parser.specs.ExpressionsModel.{member_firsts}
use Rattle.js_parser.specs.Nests.{part_of, form_of}
use Rattle.js_parser.specs.Parts.{begins_part, begins_form}
use Rattle.js_reference_parser.specs.StatementsModel.{within}
use Rattle.js_reference_parser.proofs.Turns.{deeper}
use Rattle.js_parser.proofs.Deep.{refused, no_part, no_form, reads_part, reads_form}
use Rattle.js_parser.proofs.parts.+parts.Goals as goal

pub expr-returns-then-levels-eq0 : goal.expr-returns-then-levels-eq0
expr-returns-then-levels-eq0 t c =
    refused (part_of (within 64 c.args.levels) c.args.part c.args.tokens.now) (begins_part c.args.part) c.args.tokens.now c.begins_part.result c.refuse_part.result
    (no_part c.args.levels c.args.part c.args.tokens.now (omega arith)) c.begins_part.ensures c.refuse_part.ensures

pub expr-returns-in-Whole : goal.expr-returns-in-Whole
unfolding within
expr-returns-in-Whole t c = reads_part c.args.levels c.args.part (part.Whole c.in-Whole.in_allowed) c.args.tokens.now c.assign.result c.assign.new.tokens (omega arith) c.in-Whole.is c.assign.ensures

pub expr-returns-in-Operand : goal.expr-returns-in-Operand
unfolding within
expr-returns-in-Operand t c = reads_part c.args.levels c.args.part part.Operand c.args.tokens.now c.unary.result c.unary.new.tokens (omega arith) c.in-Operand.is c.unary.ensures

pub expr-returns-in-Target : goal.expr-returns-in-Target
unfolding within
expr-returns-in-Target t c = reads_part c.args.levels c.args.part part.Target c.args.tokens.now c.update_target.result c.update_target.new.tokens (omega arith) c.in-Target.is c.update_target.ensures

pub expr-returns-in-Callee : goal.expr-returns-in-Callee
unfolding within
expr-returns-in-Callee t c = reads_part c.args.levels c.args.part part.Callee c.args.tokens.now c.callee.result c.callee.new.tokens (omega arith) c.in-Callee.is c.callee.ensures

pub expr-returns-in-NewTarget : goal.expr-returns-in-NewTarget
unfolding within
expr-returns-in-NewTarget t c = reads_part c.args.levels c.args.part part.NewTarget c.args.tokens.now c.new_target.result c.new_target.new.tokens (omega arith) c.in-NewTarget.is c.new_target.ensures

pub member-returns-then-levels-eq0 : goal.member-returns-then-levels-eq0
unfolding within
member-returns-then-levels-eq0 t c =
    let none : c.args.levels ≡ 0 = omega arith in
    refused ((within 64 c.args.levels).member c.args.tokens.now) (among member_firsts) c.args.tokens.now c.sees_any.result c.refuse_part.result
    (ap (λ (n : ℕ). (within 64 n).member c.args.tokens.now) none) c.sees_any.ensures c.refuse_part.ensures

pub member-returns : goal.member-returns
unfolding within
member-returns t c = rw (deeper (λ n. (within 64 n).member c.args.tokens.now) c.args.levels (omega arith)) c.member.ensures

pub stmt-returns-then-levels-eq0 : goal.stmt-returns-then-levels-eq0
stmt-returns-then-levels-eq0 t c =
    refused (form_of (within 64 c.args.levels) c.args.form c.args.in_function c.args.in_loop c.args.tokens.now) (begins_form c.args.form c.args.in_function c.args.in_loop) c.args.tokens.now c.begins_form.result c.refuse_part.result
    (no_form c.args.levels c.args.form c.args.in_function c.args.in_loop c.args.tokens.now (omega arith)) c.begins_form.ensures c.refuse_part.ensures

pub stmt-returns-in-Any : goal.stmt-returns-in-Any
unfolding within
stmt-returns-in-Any t c = reads_form c.args.levels c.args.form form.Any c.args.in_function c.args.in_loop c.args.tokens.now c.statement.result c.statement.new.tokens (omega arith) c.in-Any.is c.statement.ensures

pub stmt-returns-in-Block : goal.stmt-returns-in-Block
unfolding within
stmt-returns-in-Block t c = reads_form c.args.levels c.args.form form.Block c.args.in_function c.args.in_loop c.args.tokens.now c.block.result c.block.new.tokens (omega arith) c.in-Block.is c.block.ensures
