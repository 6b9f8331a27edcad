-- The statements, one row for each form (ECMAScript, 14). A row is given the meanings of its parts with the levels that are left.
use Rattle.std.specs.Prelude.{ℕ, zero, suc, Bool, true, List, [], ◌∷◌, Option, Some, None, length}
use Rattle.door.specs.declared.marks.StopKind.TheVariants.{Fuel}
use Rattle.js_syntax.specs.declared.tree.Expr.{Expr, out-Expr}
use Rattle.js_syntax.specs.declared.tree.Expr.TheOpen as o
use Rattle.js_syntax.specs.declared.tree.Stmt.{Stmt}
use Rattle.js_syntax.specs.declared.tree.Declaration.{Declaration}
use Rattle.js_syntax.specs.declared.tree.Catch.{Catch}
use Rattle.js_syntax.specs.declared.tree.ForStart.{ForStart, out-ForStart}
use Rattle.js_syntax.specs.declared.tree.ForTarget.{ForTarget, out-ForTarget}
use Rattle.js_semantics.specs.Forms.{StmtForm, StartForm, TargetForm}
use Rattle.js_semantics.specs.Primitives.{Undefined, Null}
use Rattle.js_semantics.specs.Machine.{Value, Primitive, undefined, text}
use Rattle.js_semantics.specs.Evaluator.{Done, Ends, Breaks, Continues, Returns, Throws, Halts, Rest, With, Cont, Meaning, Evaluator, Context, bind, follow, unvalued, choose, charge, scope_made}
use Rattle.js_semantics.specs.Members.{keys_row}
use Rattle.js_semantics.specs.Names.{write_name_row}
use Rattle.js_semantics.specs.Functions.{block_row}
use Rattle.js_semantics.specs.Operations.{to_boolean}
use Rattle.js_semantics.specs.Targets.{target_row, write_target_row}

-- ---- declarations

-- a declared name is written where a value is given (14.3.2)
abbrev pub declaration_row : Evaluator → List ℕ → Option Expr → Context → Meaning
declaration_row ev name None here m f c = c Ends m f
declaration_row ev name (Some e) here m f c = ev.expr e here m f (bind (λ value m f. write_name_row ev name value here m f c) c)

abbrev pub var_row : Evaluator → List Declaration → Context → Meaning
var_row ev [] here m f c = c Ends m f
var_row ev (d ∷ ds) here m f c = declaration_row ev d.name d.value here m f (follow (λ m f. var_row ev ds here m f c) c)

-- ---- branches and loops

abbrev pub else_row : Evaluator → Option Stmt → Context → Meaning
else_row ev None here m f c = c Ends m f
else_row ev (Some x) here m f c = ev.stmt x here m f c

-- `if (a) b else c` (14.6)
abbrev pub if_row : Evaluator → Expr → Stmt → Option Stmt → Context → Meaning
if_row ev e x y here m f c = ev.expr e here m f (bind (λ v. choose (to_boolean v) (λ m f. ev.stmt x here m f c) (λ m f. else_row ev y here m f c)) c)

-- after a turn of a loop: the next one, the loop's end, or what is passed on (14.7.1.1)
abbrev pub after_turn : Rest → Cont → Cont
after_turn again c Ends = again
after_turn again c Continues = again
after_turn again c Breaks = c Ends
after_turn again c done = c done

-- a test that is left out is true
abbrev pub test_row : Evaluator → Option Expr → Context → With Bool → Meaning
test_row ev None here k m f c = k true m f
test_row ev (Some e) here k m f c = ev.expr e here m f (bind (λ v. k (to_boolean v)) c)

-- the last part of the head of a `for`, whose value isn't looked at
abbrev pub step_row : Evaluator → Option Expr → Context → Meaning
step_row ev None here m f c = c Ends m f
step_row ev (Some e) here m f c = ev.expr e here m f (unvalued c)

-- Turns of a loop: the test, the body, and the step (14.7.4.3). Each turn costs a unit at least, so the fuel bounds their number.
abbrev pub turns : Evaluator → Option Expr → Option Expr → Stmt → ℕ → Context → Meaning
turns ev test step x zero here m f c = c (Halts Fuel) m 0
turns ev test step x (suc n) here m f c =
    test_row ev test here (λ goes. choose goes (λ m f. ev.stmt x here m f (after_turn (λ m f. step_row ev step here m f (follow (λ m f.
    turns ev test step x n here m f c) c)) c)) (c Ends)) m f c

-- what stands first in the head of a `for` (14.7.4.2)
abbrev pub start_row : Evaluator → StartForm → Context → Meaning
start_row ev o.Nothing here m f c = c Ends m f
start_row ev (o.ForStart::Var ds) here m f c = var_row ev ds here m f c
start_row ev (o.ForStart::Expression e) here m f c = ev.expr e here m f (unvalued c)

-- `for (a; b; c) d` (14.7.4)
abbrev pub for_row : Evaluator → ForStart → Option Expr → Option Expr → Stmt → Context → Meaning
for_row ev start test step x here m f c = start_row ev (out-ForStart start) here m f (follow (λ m f. turns ev test step x (suc f) here m f c) c)

-- ---- keys

-- the target of a `for` over keys is set to a key (14.7.5.7)
abbrev pub key_target_row : Evaluator → TargetForm → List ℕ → Context → Meaning
key_target_row ev (o.ForTarget::Var name) key here m f c = write_name_row ev name (text key) here m f c
key_target_row ev (o.ForTarget::Expression e) key here m f c =
    target_row ev (out-Expr e) here (λ target m f. write_target_row ev target (text key) here m f c) m f c

-- the body runs for each key
abbrev pub key_turns : Evaluator → TargetForm → Stmt → List (List ℕ) → Context → Meaning
key_turns ev target x [] here m f c = c Ends m f
key_turns ev target x (key ∷ keys) here m f c =
    key_target_row ev target key here m f (follow (λ m f. ev.stmt x here m f (after_turn (λ m f. key_turns ev target x keys here m f c) c)) c)

-- the keys are listed once, at the start, a unit for each; undefined and null have none (14.7.5.9, and own keys alone)
abbrev pub keys_of_row : Evaluator → ForTarget → Stmt → Value → Context → Meaning
keys_of_row ev target x (Primitive Undefined) here m f c = c Ends m f
keys_of_row ev target x (Primitive Null) here m f c = c Ends m f
keys_of_row ev target x value here m f c =
    keys_row value (λ keys. charge (length keys) (λ m f. key_turns ev (out-ForTarget target) x keys here m f c) c) c m f

-- `for (a in b) c` (14.7.5)
abbrev pub for_in_row : Evaluator → ForTarget → Expr → Stmt → Context → Meaning
for_in_row ev target e x here m f c = ev.expr e here m f (bind (λ value m f. keys_of_row ev target x value here m f c) c)

-- ---- jumps

-- `return a;` (14.10)
abbrev pub return_row : Evaluator → Option Expr → Context → Meaning
return_row ev None here m f c = c (Returns undefined) m f
return_row ev (Some e) here m f c = ev.expr e here m f (bind (λ value. c (Returns value)) c)

-- `throw a;` (14.14)
abbrev pub throw_row : Evaluator → Expr → Context → Meaning
throw_row ev e here m f c = ev.expr e here m f (bind (λ value. c (Throws value)) c)

-- ---- `try`

-- a thrown value is caught, in a scope of its own; a stop isn't (14.15.2)
abbrev pub caught : Evaluator → Option Catch → Context → Cont → Cont
caught ev (Some handler) here c (Throws value) =
    scope_made (record { outer = here.scope; bindings = record { name = handler.name; value = value } ∷ [] }) (λ s m f.
    ev.stmt handler.block (record { scope = Some s; this = here.this }) m f c) c
caught ev handler here c done = c done

-- after a `finally` that came to its end what was before goes on, and else its own end takes the place (14.15.3)
abbrev pub after_finally : Done → Cont → Cont
after_finally before c Ends = c before
after_finally before c done = c done

-- a `finally` runs whatever came before, but for a stop
abbrev pub finally_row : Evaluator → Option Stmt → Context → Cont → Cont
finally_row ev None here c done = c done
finally_row ev (Some x) here c (Halts stop) = c (Halts stop)
finally_row ev (Some x) here c done = λ m f. ev.stmt x here m f (after_finally done c)

-- `try { } catch (a) { } finally { }` (14.15)
abbrev pub try_row : Evaluator → Stmt → Option Catch → Option Stmt → Context → Meaning
try_row ev x handler y here m f c = ev.stmt x here m f (caught ev handler here (finally_row ev y here c))

-- ---- the table of statements

abbrev pub stmt_row : Evaluator → StmtForm → Context → Meaning
stmt_row ev (o.Block xs) here m f c = block_row ev xs here m f c
stmt_row ev (o.Stmt::Var ds) here m f c = var_row ev ds here m f c
stmt_row ev (o.Stmt::Function code) here m f c = c Ends m f
stmt_row ev o.Empty here m f c = c Ends m f
stmt_row ev (o.Stmt::Expression e) here m f c = ev.expr e here m f (unvalued c)
stmt_row ev (o.If e x y) here m f c = if_row ev e x y here m f c
stmt_row ev (o.While e x) here m f c = turns ev (Some e) None x (suc f) here m f c
stmt_row ev (o.For start test step x) here m f c = for_row ev start test step x here m f c
stmt_row ev (o.ForIn target e x) here m f c = for_in_row ev target e x here m f c
stmt_row ev o.Break here m f c = c Breaks m f
stmt_row ev o.Continue here m f c = c Continues m f
stmt_row ev (o.Return e) here m f c = return_row ev e here m f c
stmt_row ev (o.Throw e) here m f c = throw_row ev e here m f c
stmt_row ev (o.Try x handler y) here m f c = try_row ev x handler y here m f c
