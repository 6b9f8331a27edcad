-- Each level has its laws where the level below has them.
use Rattle.std.proofs.Common.{◌≡◌, ℕ, zero, suc, ◌+◌, ◌≤◌, Bool, true, false, refl, arith}
use Rattle.js_syntax.specs.declared.token.Token.{Token}
use Rattle.js_syntax.specs.declared.symbol.Symbol.TheVariants as s
use Rattle.js_syntax.specs.declared.tree.Expr.{Expr}
use Rattle.js_syntax.specs.Symbols.{is, among}
use Rattle.js_syntax.specs.Spelling.{Spelling}
use Rattle.js_syntax.specs.Grammar.{Parts, Callee, Unary, Assign, Member, Block, Statement, parts_within}
use Rattle.js_combinators.specs.Readers.{Reader, not_taken}
use Rattle.js_combinators.proofs.Laws.{Sane}
use Rattle.js_combinators.proofs.Begin.{Takes}
use Rattle.js_combinators.proofs.Sets.{Follow, May}
use Rattle.js_combinators.proofs.Spells.{Nothing, positive}
use Rattle.js_combinators.proofs.Good.{Good, Part, Laws, part_of}
use Rattle.js_combinators.proofs.Begin.{Begins}
use Rattle.js_reference_parser.specs.ExpressionsModel.{Inside, expr_firsts, base_firsts, callee, unary, assign, new_target, update_target, member, member_firsts}
use Rattle.js_reference_parser.proofs.Lists.{closer, ender}
use Rattle.js_reference_parser.proofs.Forms as forms
use Rattle.js_reference_parser.proofs.Forms.{Inner}
use Rattle.js_combinators.proofs.Begin.{sane_not_taken, wider_not_taken}
use Rattle.js_combinators.proofs.More.{takes_not_taken}
use Rattle.js_combinators.proofs.Spells.{spell_not_taken}
use Rattle.js_syntax.specs.Grammar.{no_parts}
use Rattle.js_reference_parser.specs.StatementsModel.{statement, block, begins_stmt, within as levels_within}
use Rattle.js_reference_parser.proofs.Targets.{AppliedOf}
use Rattle.js_reference_parser.proofs.UpdateTargets as updates
use Rattle.js_reference_parser.proofs.ObjectMembers as members
use Rattle.js_reference_parser.proofs.Stmts as stmts
use Rattle.js_reference_parser.proofs.Firsts as firsts

-- one level more
abbrev pub more_parts : ℕ → Parts → Parts
more_parts chains P = record { expr = Assign chains P; operand = Unary chains P; callee = Callee chains P; member = Member chains P; stmt = Statement chains P; block = Block P; deeper = Unit {0} }

abbrev pub more_inside : ℕ → ℕ → Inside → Inside
more_inside chains left i = record {
  expr = assign chains left i;
  operand = unary chains left i;
  target = update_target chains left i;
  callee = callee chains left i;
  new_target = new_target chains left i;
  member = member chains left i;
  stmt = statement chains left i;
  block = block i;
}

pub next_level : (p : Bool) (left left' : ℕ) (P : Parts) (Applied : Spelling Expr) (i i' : Inside) → Inner p left left' P Applied i i' → (chains chains' : ℕ) → 1 ≤ chains → 1 ≤ chains' → (p ≡ true → chains + 2 ≤ chains')
    → Inner p (suc left) (suc left') (more_parts chains P) (AppliedOf chains left P Applied) (more_inside chains left i) (more_inside chains' left' i')
next_level p left left' P Applied i i' inner chains chains' some some' lt = record {
  grows = λ e. refl;
  expr = λ b. part_of (forms.good_assign p left left' P Applied i i' inner chains chains' lt b);
  expr_good = λ b. forms.good_assign p left left' P Applied i i' inner chains chains' lt b;
  expr_starts = λ b a ts rest q. forms.assign_starts p left left' P Applied i i' inner chains chains' lt b a ts rest q;
  expr_begins = λ e b. firsts.assign_begins p left left' P Applied i i' inner chains chains' lt (inner.grows e) b;
  operand = forms.good_unary p left left' P Applied i i' inner chains chains' lt;
  target = updates.good_target p left left' P Applied i i' inner chains chains' lt some some';
  callee = forms.good_callee p left left' P Applied i i' inner chains chains' lt;
  new_target = updates.good_new_target p left left' P Applied i i' inner chains chains' lt;
  applied_is = λ a ts rest q. updates.applied_is p left left' P Applied i i' inner chains chains' lt a ts rest q;
  is_applied = λ a ts o rest q h. updates.is_applied p left left' P Applied i i' inner chains chains' lt a ts o rest q h;
  callee_ends = λ a ts rest q. updates.callee_ends p left left' P Applied i i' inner chains chains' lt a ts rest q;
  member = members.part_member p left left' P Applied i i' inner chains chains' lt;
  member_starts = λ m ts rest q. members.member_starts p left left' P Applied i i' inner chains chains' lt m ts rest q;
  stmt = λ f l. part_of (stmts.good_statement p left left' P Applied i i' inner chains chains' lt f l);
  stmt_good = λ f l. stmts.good_statement p left left' P Applied i i' inner chains chains' lt f l;
  stmt_starts = λ f l x ts rest q. stmts.statement_starts p left left' P Applied i i' inner chains chains' lt f l x ts rest q;
  block = λ f l. stmts.good_block p left left' P Applied i i' inner chains chains' lt f l;
  deeper = λ e. tt;
  is_deeper = λ d. refl;
  some_expr = λ b a ts rest q. refl;
  some_operand = λ a ts rest q. refl;
  some_callee = λ a ts rest q. refl;
  some_stmt = λ f l x ts rest q. refl;
  some_block = λ f l x ts rest q. refl;
}

-- ---- past the last level

none_part : {A : Type 0} {p : Bool} {F : Follow} (q : Token → Bool) (w : Reader A) → Sane (May F) w → Takes w → (p ≡ true → Begins q w) → Part p true true true F Nothing (not_taken q) w
none_part {F = F} q w sane takes begins = record { sane = λ e. sane_not_taken (May F) q; sane_w = λ e. sane; takes = λ e h. takes_not_taken q; takes_w = λ e h. takes; wider = λ e h k. wider_not_taken q w (begins e); spell = λ e. spell_not_taken q }

none_good : {A : Type 0} {p o' n : Bool} {E F : Follow} {R : Spelling A} (r w : Reader A) → (o' ≡ true → Laws n E F w) → Good p false o' n E F R r w
none_good r w laws = record { laws = λ e. absurd cc; laws_w = laws; wider = λ e h k. absurd cc; spell = λ e. absurd cc }

abbrev NoApplied : Spelling Expr
NoApplied a ts rest = ⊥

abbrev no_inside : Inside
no_inside = record {
  expr = λ in_allowed. not_taken (among expr_firsts);
  operand = not_taken (among expr_firsts);
  target = not_taken (among base_firsts);
  callee = not_taken (among base_firsts);
  new_target = not_taken (among base_firsts);
  member = not_taken (among member_firsts);
  stmt = λ f l. not_taken (begins_stmt f l);
  block = λ f l. not_taken (is s.OpenBrace);
}

no_level : Inner false zero zero no_parts NoApplied no_inside no_inside
no_level = record {
  grows = λ e. absurd cc;
  expr = λ b. none_part (among expr_firsts) (not_taken (among expr_firsts)) (sane_not_taken (May closer) (among expr_firsts)) (takes_not_taken (among expr_firsts)) (λ e. absurd cc);
  expr_good = λ b. none_good _ _ (λ e. absurd cc);
  expr_starts = λ b a ts rest q. absurd q;
  expr_begins = λ e. absurd cc;
  operand = none_good _ _ (λ e. absurd cc);
  target = none_good _ _ (λ e. absurd cc);
  callee = none_good _ _ (λ e. absurd cc);
  new_target = none_good _ _ (λ e. absurd cc);
  applied_is = λ a ts rest q. absurd q;
  is_applied = λ a ts o rest q h. absurd q;
  callee_ends = λ a ts rest q. absurd q;
  member = none_part (among member_firsts) (not_taken (among member_firsts)) (sane_not_taken (May closer) (among member_firsts)) (takes_not_taken (among member_firsts)) (λ e. absurd cc);
  member_starts = λ m ts rest q. absurd q;
  stmt = λ f l. none_part (begins_stmt f l) (not_taken (begins_stmt f l)) (sane_not_taken (May ender) (begins_stmt f l)) (takes_not_taken (begins_stmt f l)) (λ e. absurd cc);
  stmt_good = λ f l. none_good _ _ (λ e. absurd cc);
  stmt_starts = λ f l x ts rest q. absurd q;
  block = λ f l. none_good _ _ (λ e. absurd cc);
  deeper = λ e. absurd cc;
  is_deeper = λ d. absurd d;
  some_expr = λ b a ts rest q. absurd q;
  some_operand = λ a ts rest q. absurd q;
  some_callee = λ a ts rest q. absurd q;
  some_stmt = λ f l x ts rest q. absurd q;
  some_block = λ f l x ts rest q. absurd q;
}

-- nothing beside a level whose readers begin as they should
beside_none : (left' : ℕ) (P : Parts) (Applied : Spelling Expr) (w : Inside) → positive left' ≡ true → Inner false left' left' P Applied w w → ((b : Bool) → Begins (among expr_firsts) (w.expr b)) → Begins (among member_firsts) w.member → ((f l : Bool) → Begins (begins_stmt f l) (w.stmt f l))
    → Inner true zero left' no_parts NoApplied no_inside w
beside_none left' P Applied w up whole expr member stmt = record {
  grows = λ e. up;
  expr = λ b. none_part (among expr_firsts) (w.expr b) ((whole.expr b).sane refl) ((whole.expr b).takes refl refl) (λ e. expr b);
  expr_good = λ b. none_good _ _ (λ e. (whole.expr_good b).laws e);
  expr_starts = λ b a ts rest q. absurd q;
  expr_begins = λ e b. expr b;
  operand = none_good _ _ (λ e. whole.operand.laws e);
  target = none_good _ _ (λ e. whole.target.laws e);
  callee = none_good _ _ (λ e. whole.callee.laws e);
  new_target = none_good _ _ (λ e. whole.new_target.laws e);
  applied_is = λ a ts rest q. absurd q;
  is_applied = λ a ts o rest q h. absurd q;
  callee_ends = λ a ts rest q. absurd q;
  member = none_part (among member_firsts) w.member (whole.member.sane refl) (whole.member.takes refl refl) (λ e. member);
  member_starts = λ m ts rest q. absurd q;
  stmt = λ f l. none_part (begins_stmt f l) (w.stmt f l) ((whole.stmt f l).sane refl) ((whole.stmt f l).takes refl refl) (λ e. stmt f l);
  stmt_good = λ f l. none_good _ _ (λ e. (whole.stmt_good f l).laws e);
  stmt_starts = λ f l x ts rest q. absurd q;
  block = λ f l. none_good _ _ (λ e. (whole.block f l).laws e);
  deeper = λ e. absurd cc;
  is_deeper = λ d. absurd d;
  some_expr = λ b a ts rest q. absurd q;
  some_operand = λ a ts rest q. absurd q;
  some_callee = λ a ts rest q. absurd q;
  some_stmt = λ f l x ts rest q. absurd q;
  some_block = λ f l x ts rest q. absurd q;
}

-- ---- all levels

unfoldable pub applied_within : ℕ → ℕ → Spelling Expr
applied_within chains zero = λ a ts rest. ⊥
applied_within chains (suc left) = AppliedOf chains left (parts_within chains left) (applied_within chains left)

pub same_levels : (chains n : ℕ) → 1 ≤ chains → Inner false n n (parts_within chains n) (applied_within chains n) (levels_within chains n) (levels_within chains n)
unfolding parts_within applied_within levels_within
same_levels chains zero some = no_level
same_levels chains (suc n) some = next_level false n n (parts_within chains n) (applied_within chains n) (levels_within chains n) (levels_within chains n) (same_levels chains n some) chains chains some some (λ e. absurd cc)

pub wider_levels : (chains chains' n n' : ℕ) → 1 ≤ chains → 1 ≤ chains' → chains + 2 ≤ chains' → n + 2 ≤ n' → Inner true n n' (parts_within chains n) (applied_within chains n) (levels_within chains n) (levels_within chains' n')
unfolding parts_within applied_within levels_within
wider_levels chains chains' n zero some some' lt le = absurd (omega arith)
wider_levels chains chains' n (suc zero) some some' lt le = absurd (omega arith)
wider_levels chains chains' zero (suc (suc m)) some some' lt le =
    let P = parts_within chains' (suc m) in
    let Applied = applied_within chains' (suc m) in
    let w = levels_within chains' (suc m) in
    let inner = same_levels chains' (suc m) some' in
    beside_none (suc (suc m)) (parts_within chains' (suc (suc m))) (applied_within chains' (suc (suc m))) (levels_within chains' (suc (suc m))) refl (same_levels chains' (suc (suc m)) some')
    (λ b. firsts.assign_begins false (suc m) (suc m) P Applied w w inner chains' chains' (λ e. absurd cc) refl b)
    (members.member_begins false (suc m) (suc m) P Applied w w inner chains' chains' (λ e. absurd cc))
    (λ f l. firsts.statement_begins false (suc m) (suc m) P Applied w w inner chains' chains' (λ e. absurd cc) refl f l)
wider_levels chains chains' (suc n) (suc (suc m)) some some' lt le =
    next_level true n (suc m) (parts_within chains n) (applied_within chains n) (levels_within chains n) (levels_within chains' (suc m)) (wider_levels chains chains' n (suc m) some some' lt (omega arith)) chains chains' some some' (λ e. lt)
