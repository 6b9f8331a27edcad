-- The meaning of the language while so many levels are left, and how an entry goes. A level is taken by each expression, statement and call
-- that isn't finished, and a unit is charged for each expression and statement when it begins (this project's own).
use Rattle.std.specs.Prelude.{ℕ, zero, suc, ◌-◌, ◌++◌, [], List, Option, Some, None, codes}
use Rattle.door.specs.declared.marks.StopKind.TheVariants.{Levels}
use Rattle.door.specs.declared.marks.Outcome.{Outcome}
use Rattle.door.specs.declared.marks.Outcome.TheVariants.{Done as DoneOutcome, Throw, Stop}
use Rattle.door.specs.declared.requests.Answer.{Answer}
use Rattle.js_syntax.specs.declared.tree.Expr.{out-Expr}
use Rattle.js_syntax.specs.declared.tree.Stmt.{Stmt, out-Stmt}
use Rattle.js_semantics.specs.Primitives.{text_of}
use Rattle.js_semantics.specs.Machine.{Machine, Cell, Form, Error, Value, Primitive, Refers, Own, cell_at, undefined, the_window}
use Rattle.js_semantics.specs.Solo.{Program, Emits, Leaves}
use Rattle.js_semantics.specs.Evaluator.{Done, Throws, Halts, Cont, Meaning, Evaluator, Context, charge, choose}
use Rattle.js_semantics.specs.Meetings.{misfit}
use Rattle.js_semantics.specs.Operations.{is_own_function}
use Rattle.js_semantics.specs.Expressions.{expr_row, operand_row, callee_row}
use Rattle.js_semantics.specs.Statements.{stmt_row}
use Rattle.js_semantics.specs.Functions.{script_row}
use Rattle.js_semantics.specs.Calls.{called_row, constructed_row}

-- no level is left
abbrev pub too_deep : Meaning
too_deep m f c = c (Halts Levels) m f

unfoldable pub evaluator : ℕ → Evaluator
evaluator zero = record {
  levels = zero;
  expr = λ e here. too_deep;
  operand = λ e here. too_deep;
  callee = λ e here k. too_deep;
  stmt = λ x here. too_deep;
  call = λ callee this arguments. too_deep;
  construct = λ callee arguments. too_deep;
}
evaluator (suc n) = record {
  levels = suc n;
  expr = λ e here m f c. charge 1 (λ m f. expr_row (evaluator n) (out-Expr e) here m f c) c m f;
  operand = λ e here m f c. charge 1 (λ m f. operand_row (evaluator n) (out-Expr e) here m f c) c m f;
  callee = λ e here k m f c. charge 1 (λ m f. callee_row (evaluator n) (out-Expr e) here k m f c) c m f;
  stmt = λ x here m f c. charge 1 (λ m f. stmt_row (evaluator n) (out-Stmt x) here m f c) c m f;
  call = λ callee this arguments m f c. called_row (evaluator n) callee this arguments m f c;
  construct = λ callee arguments m f c. constructed_row (evaluator n) callee arguments m f c;
}

-- ---- entries

-- at the top there is no scope, and `this` is the window
abbrev pub at_top : Context
at_top = record { scope = None; this = Refers the_window }

abbrev pub thrown_by_form : Form → List ℕ
thrown_by_form (Error name message) = name ++ (codes ": " ++ message)
thrown_by_form form = codes "[object]"

abbrev pub thrown_by_cell : Option Cell → List ℕ
thrown_by_cell None = codes "[object]"
thrown_by_cell (Some cell) = thrown_by_form cell.form

-- what is shown of a thrown value: a primitive's text, or an own error as it was made
abbrev pub thrown_text : Machine → Value → List ℕ
thrown_text m (Primitive prim) = text_of prim
thrown_text m (Refers (Own place)) = thrown_by_cell (cell_at m place)
thrown_text m (Refers r) = codes "[object]"

-- how an entry ends
abbrev pub outcome_of : Machine → Done → Outcome
outcome_of m (Throws value) = Throw (thrown_text m value)
outcome_of m (Halts stop) = Stop stop
outcome_of m done = DoneOutcome

-- the entry is left, and the script waits as before
abbrev pub leave : (fuel levels : ℕ) → (Machine → Answer → Program Machine) → Cont
leave fuel levels back done m f = Emits (Leaves (outcome_of m done) (fuel - f)) levels m back

-- an entry takes a level
unfoldable pub with_level : ℕ → (Evaluator → Meaning) → Meaning
with_level zero row m f c = c (Halts Levels) m f
with_level (suc n) row m f c = row (evaluator n) m f c

-- a script is entered, with so much fuel and so many levels left (ECMAScript, 16.1.6)
abbrev pub script_entry : (fuel levels : ℕ) → List Stmt → Machine → (Machine → Answer → Program Machine) → Program Machine
script_entry fuel levels body m back = with_level levels (λ ev. script_row ev body at_top) m fuel (leave fuel levels back)

-- at the place of a callback stands a function, or else nothing is entered
abbrev pub at_callback : ℕ → Meaning → Meaning
at_callback place row m f c = choose (is_own_function m (Refers (Own place))) (λ m f. row m f c) misfit m f

-- a timer's function is entered, with nothing (HTML, 8.6)
abbrev pub timer_row : (levels place : ℕ) → Meaning
timer_row levels place m f c = at_callback place (λ m f c. with_level levels (λ ev. ev.call (Refers (Own place)) undefined []) m f c) m f c

abbrev pub timer_entry : (fuel levels : ℕ) → (place : ℕ) → Machine → (Machine → Answer → Program Machine) → Program Machine
timer_entry fuel levels place m back = timer_row levels place m fuel (leave fuel levels back)
