-- One level of the expressions and statements of small scripts, and their units.
use Rattle.std.proofs.Common.{◌≡◌, refl, sym, subst, ℕ, suc, Bool, List, [], ◌∷◌}
use Rattle.std.specs.Prelude.{ℤ}
use denote.Hole.Carrier.{out, shown, hidden}
use Rattle.base_text.specs.declared.operators.BinaryOp.{BinaryOp}
use Rattle.js_syntax.specs.declared.tree.Expr.{Expr, out-Expr}
use Rattle.js_syntax.specs.declared.tree.Expr.TheVariants as ex
use Rattle.js_syntax.specs.declared.tree.Expr.TheOpen as o
use Rattle.js_syntax.specs.declared.tree.Expr.TheBlock as b
use Rattle.js_syntax.specs.declared.tree.Stmt.{Stmt, out-Stmt}
use Rattle.js_syntax.specs.declared.tree.Stmt.TheVariants as st
use Rattle.js_semantics.specs.Evaluator.{With}
use Rattle.js_semantics.specs.Evaluator as ev
use Rattle.js_semantics.specs.Expressions.{callee_row, expr_row}
use Rattle.js_semantics.specs.Forms.{ExprForm, StmtForm}
use Rattle.js_semantics.specs.Intrinsics.{Setup}
use Rattle.js_semantics.specs.Machine.{Machine, Value}
use Rattle.js_semantics.specs.Meaning.{evaluator, at_top}
use Rattle.js_semantics.specs.Solo.{Program}
use Rattle.js_semantics.specs.Statements.{stmt_row}
use Rattle.small_meaning.specs.Rows.{Bare}
use Rattle.small_meaning.specs.Rows as small
use Rattle.small_meaning.proofs.Alike.{Alike, Ready, Stops}
use Rattle.small_meaning.proofs.Charges.{charge_alike}

pub name_form : (x : List ℕ) → out-Expr (ex.Name x) ≡ o.Name x
unfolding out-Expr out-Stmt out shown hidden b.shown-the_row-Expr-0 b.shown-the_row-Property-1 b.shown-the_row-Stmt-2 b.shown-the_row-Function-3 b.shown-the_row-Expr-4 b.shown-the_row-Declaration-5 b.shown-the_row-Stmt-6
name_form x = refl

pub member_form : (e : Expr) (x : List ℕ) → out-Expr (ex.Member e x) ≡ o.Member e x
unfolding out-Expr out-Stmt out shown hidden b.shown-the_row-Expr-0 b.shown-the_row-Property-1 b.shown-the_row-Stmt-2 b.shown-the_row-Function-3 b.shown-the_row-Expr-4 b.shown-the_row-Declaration-5 b.shown-the_row-Stmt-6
member_form e x = refl

pub number_form : (z : ℤ) → out-Expr (ex.Number z) ≡ o.Number z
unfolding out-Expr out-Stmt out shown hidden b.shown-the_row-Expr-0 b.shown-the_row-Property-1 b.shown-the_row-Stmt-2 b.shown-the_row-Function-3 b.shown-the_row-Expr-4 b.shown-the_row-Declaration-5 b.shown-the_row-Stmt-6
number_form z = refl

pub text_form : (t : List ℕ) → out-Expr (ex.Str t) ≡ o.Str t
unfolding out-Expr out-Stmt out shown hidden b.shown-the_row-Expr-0 b.shown-the_row-Property-1 b.shown-the_row-Stmt-2 b.shown-the_row-Function-3 b.shown-the_row-Expr-4 b.shown-the_row-Declaration-5 b.shown-the_row-Stmt-6
text_form t = refl

pub binary_form : (op : BinaryOp) (l r : Expr) → out-Expr (ex.Binary op l r) ≡ o.Binary op l r
unfolding out-Expr out-Stmt out shown hidden b.shown-the_row-Expr-0 b.shown-the_row-Property-1 b.shown-the_row-Stmt-2 b.shown-the_row-Function-3 b.shown-the_row-Expr-4 b.shown-the_row-Declaration-5 b.shown-the_row-Stmt-6
binary_form op l r = refl

pub call_form : (e a : Expr) → out-Expr (ex.Call e (a ∷ [])) ≡ o.Call e (a ∷ [])
unfolding out-Expr out-Stmt out shown hidden b.shown-the_row-Expr-0 b.shown-the_row-Property-1 b.shown-the_row-Stmt-2 b.shown-the_row-Function-3 b.shown-the_row-Expr-4 b.shown-the_row-Declaration-5 b.shown-the_row-Stmt-6
call_form e a = refl

pub assign_form : (l r : Expr) → out-Expr (ex.Assign l r) ≡ o.Assign l r
unfolding out-Expr out-Stmt out shown hidden b.shown-the_row-Expr-0 b.shown-the_row-Property-1 b.shown-the_row-Stmt-2 b.shown-the_row-Function-3 b.shown-the_row-Expr-4 b.shown-the_row-Declaration-5 b.shown-the_row-Stmt-6
assign_form l r = refl

pub expression_form : (e : Expr) → out-Stmt (st.Expression e) ≡ o.Stmt::Expression e
unfolding out-Expr out-Stmt out shown hidden b.shown-the_row-Expr-0 b.shown-the_row-Property-1 b.shown-the_row-Stmt-2 b.shown-the_row-Function-3 b.shown-the_row-Expr-4 b.shown-the_row-Declaration-5 b.shown-the_row-Stmt-6
expression_form e = refl

-- ---- a unit, and then the row of the form

pub expr_charged : (setup : Setup) (k : ℕ) (least : Bool) (n : ℕ) (e : Expr) (x : ExprForm) (next : ℕ → Program Bare) (c : small.Cont) (d : ev.Cont) (m : Machine) (f : ℕ) → out-Expr e ≡ x → Stops setup k least c d → Ready setup least (suc k) m
    → ((left : ℕ) → Alike setup k (next left) (expr_row (evaluator n) x at_top m left d)) → Alike setup k (small.charge 1 next c f) ((evaluator (suc n)).expr e at_top m f d)
unfolding evaluator
expr_charged setup k least n e x next c d m f form s r h =
    charge_alike setup k least 1 next c (λ m f. expr_row (evaluator n) (out-Expr e) at_top m f d) d m f s r
    (λ left. let P : ExprForm → Type 0 = λ x. Alike setup k (next left) (expr_row (evaluator n) x at_top m left d) in subst P (sym form) (h left))

pub callee_charged : (setup : Setup) (k : ℕ) (least : Bool) (n : ℕ) (e : Expr) (x : ExprForm) (next : ℕ → Program Bare) (c : small.Cont) (rest : With (Value × Value)) (d : ev.Cont) (m : Machine) (f : ℕ) → out-Expr e ≡ x → Stops setup k least c d → Ready setup least (suc k) m
    → ((left : ℕ) → Alike setup k (next left) (callee_row (evaluator n) x at_top rest m left d)) → Alike setup k (small.charge 1 next c f) ((evaluator (suc n)).callee e at_top rest m f d)
unfolding evaluator
callee_charged setup k least n e x next c rest d m f form s r h =
    charge_alike setup k least 1 next c (λ m f. callee_row (evaluator n) (out-Expr e) at_top rest m f d) d m f s r
    (λ left. let P : ExprForm → Type 0 = λ x. Alike setup k (next left) (callee_row (evaluator n) x at_top rest m left d) in subst P (sym form) (h left))

pub stmt_charged : (setup : Setup) (k : ℕ) (least : Bool) (n : ℕ) (y : Stmt) (x : StmtForm) (next : ℕ → Program Bare) (c : small.Cont) (d : ev.Cont) (m : Machine) (f : ℕ) → out-Stmt y ≡ x → Stops setup k least c d → Ready setup least (suc k) m
    → ((left : ℕ) → Alike setup k (next left) (stmt_row (evaluator n) x at_top m left d)) → Alike setup k (small.charge 1 next c f) ((evaluator (suc n)).stmt y at_top m f d)
unfolding evaluator
stmt_charged setup k least n y x next c d m f form s r h =
    charge_alike setup k least 1 next c (λ m f. stmt_row (evaluator n) (out-Stmt y) at_top m f d) d m f s r
    (λ left. let P : StmtForm → Type 0 = λ x. Alike setup k (next left) (stmt_row (evaluator n) x at_top m left d) in subst P (sym form) (h left))
