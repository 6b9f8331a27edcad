-- The core of the meaning: how an evaluation ends, what follows it, and what the meanings of the forms are given of one another. Units of
-- fuel, levels and room for cells are charged here alone, and nothing catches the stop that they end in (this project's own).
use Rattle.std.specs.Prelude.{ℕ, zero, suc, ◌+◌, ◌-◌, ◌/◌, Bool, true, false, List, [], ◌∷◌, ◌++◌, Option, Some, length, nat_le, codes}
use Rattle.base_text.specs.Scalars.{utf8_len}
use Rattle.door.specs.declared.requests.Request.{Request}
use Rattle.door.specs.declared.requests.Answer.{Answer}
use Rattle.door.specs.declared.marks.StopKind.{StopKind}
use Rattle.door.specs.declared.marks.StopKind.TheVariants.{Fuel, Cells}
use Rattle.js_syntax.specs.declared.tree.Expr.{Expr}
use Rattle.js_syntax.specs.declared.tree.Stmt.{Stmt}
use Rattle.js_semantics.specs.Machine.{Machine, Cell, Scope, Value, Refers, Own, Error, Datum, text}
use Rattle.js_semantics.specs.Solo.{Program, Asks}
use Rattle.js_semantics.specs.Faults.{Fault, fitting}
use Rattle.js_semantics.specs.Places.{ERROR_PROTOTYPE}

-- how an evaluation ends (ECMAScript, 6.2.4): an expression with a value, a statement at its end or by a jump, either by a throw; or the
-- entry stops
pub data Done : Type 0 where
  Gives : Value → Done
  Ends : Done
  Breaks : Done
  Continues : Done
  Returns : Value → Done
  Throws : Value → Done
  Halts : StopKind → Done

-- what goes on, of the machine and the fuel that is left
abbrev pub Rest : Type 0
Rest = Machine → ℕ → Program Machine

-- what goes on with this
abbrev pub With : Type 0 → Type 0
With A = A → Rest

-- what follows an evaluation: of how it ended, the machine, and the fuel that is left
abbrev pub Cont : Type 0
Cont = With Done

-- a meaning: of the machine, the fuel that is left, and what follows
abbrev pub Meaning : Type 0
Meaning = Machine → ℕ → Cont → Program Machine

-- goes on with a value, and passes on what is none
abbrev pub bind : With Value → Cont → Cont
bind k c (Gives value) = k value
bind k c done = c done

-- goes on after a statement that came to its end
abbrev pub follow : Rest → Cont → Cont
follow k c Ends = k
follow k c done = c done

-- an expression's value isn't looked at
abbrev pub unvalued : Cont → Cont
unvalued c (Gives value) = c Ends
unvalued c done = c done

-- ---- charges

-- one of two, by a test
abbrev pub choose : Bool → Rest → Rest → Rest
choose true a b = a
choose false a b = b

-- units are charged; a charge above what is left uses all and stops
abbrev pub charge : ℕ → Rest → Cont → Rest
charge units k c m f = choose (nat_le units f) (λ m f. k m (f - units)) (λ m f. c (Halts Fuel) m 0) m f

-- the units of a text that is made: one for each started 64 bytes
abbrev pub text_units : List ℕ → ℕ
text_units t = (utf8_len t + 63) / 64

-- a request is charged and made
abbrev pub ask : Request → With Answer → Cont → Rest
ask request k c = charge 1 (λ m f. Asks request (λ answer. k answer m f)) c

-- a proper cell is made, under the next place
abbrev pub made_within : ℕ → Cell → With ℕ → Cont → Rest
made_within zero cell k c m f = c (Halts Cells) m f
made_within (suc room) cell k c m f = k (length m.cells) (record m { cells = m.cells ++ Some cell ∷ []; room = room }) f

abbrev pub made : Cell → With ℕ → Cont → Rest
made cell k c m f = made_within m.room cell k c m f

-- a scope is made
abbrev pub scope_made_within : ℕ → Scope → With ℕ → Cont → Rest
scope_made_within zero scope k c m f = c (Halts Cells) m f
scope_made_within (suc room) scope k c m f = k (length m.scopes) (record m { scopes = m.scopes ++ scope ∷ []; room = room }) f

abbrev pub scope_made : Scope → With ℕ → Cont → Rest
scope_made scope k c m f = scope_made_within m.room scope k c m f

-- ---- throws

-- an error, with its own name and message (ECMAScript, 20.5)
abbrev pub error_cell : Fault → Cell
error_cell fault = record {
  form = Error fault.name fault.message;
  prototype = Some (Own ERROR_PROTOTYPE);
  slots = record { key = codes "name"; property = Datum (text fault.name) true false } ∷ record { key = codes "message"; property = Datum (text fault.message) true false } ∷ [];
}

-- a rule throws: an error is made and thrown
abbrev pub fails_by : Fault → Cont → Rest
fails_by fault c = made (error_cell (fitting fault)) (λ place. c (Throws (Refers (Own place)))) c

-- ---- what a form is evaluated in, and by

-- the innermost scope, which is none at the top of a script, and what `this` is (ECMAScript, 9.4)
pub record Context : Type 0 where
  pub scope : Option ℕ
  pub this : Value

-- The meanings of expressions, statements, calls and constructions while so many levels are left. The operand of `typeof` is an expression
-- that may be a missing name; a callee gives its value and the base that it is called on.
pub record Evaluator : Type 0 where
  pub levels : ℕ
  pub expr : Expr → Context → Meaning
  pub operand : Expr → Context → Meaning
  pub callee : Expr → Context → With (Value × Value) → Meaning
  pub stmt : Stmt → Context → Meaning
  pub call : Value → Value → List Value → Meaning
  pub construct : Value → List Value → Meaning

-- expressions from left to right, and what goes on with their values
abbrev pub list_row : Evaluator → List Expr → Context → With (List Value) → Meaning
list_row ev [] here k m f c = k [] m f
list_row ev (e ∷ es) here k m f c = ev.expr e here m f (bind (λ value m f. list_row ev es here (λ values. k (value ∷ values)) m f c) c)
