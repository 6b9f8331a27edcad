-- Function values that read what stands one level deeper.
use Rattle.std.specs.Prelude.{ℕ, Bool, Result}
use Rattle.std.specs.declared.alloc.Global.{Global}
use denote.Ref.{MutBor}
use Rattle.js_syntax.specs.declared.tree.Expr.{Expr}
use Rattle.js_syntax.specs.declared.tree.Property.{Property}
use Rattle.js_syntax.specs.declared.tree.Stmt.{Stmt}
use Rattle.js_syntax.specs.declared.limits.TheConstants.{CHAIN_LIMIT}
use Rattle.js_syntax.specs.Symbols.{Tokens}
use Rattle.js_combinators.specs.Readers.{Reader}
use Rattle.js_cursor.specs.declared.cursor.Failed.{Failed}
use Rattle.js_parser.specs.declared.level.Part.{Part}
use Rattle.js_parser.specs.declared.level.Part.TheVariants as part
use Rattle.js_parser.specs.declared.level.Form.{Form}
use Rattle.js_parser.specs.declared.level.Form.TheVariants as form
use Rattle.js_cursor.specs.Reads.{Reads}
use Rattle.js_reference_parser.specs.ExpressionsModel.{Inside}
use Rattle.js_reference_parser.specs.StatementsModel.{within}

-- the reader of a part of an expression
abbrev pub part_of : Inside → Part → Reader Expr
part_of i (part.Whole in_allowed) = i.expr in_allowed
part_of i part.Operand = i.operand
part_of i part.Target = i.target
part_of i part.Callee = i.callee
part_of i part.NewTarget = i.new_target

-- the reader of a kind of statement
abbrev pub form_of : Inside → Form → Bool → Bool → Reader Stmt
form_of i form.Any f l = i.stmt f l
form_of i form.Block f l = i.block f l

pub record NestsExpr (levels : ℕ) (i : Inside) (pre : Global → MutBor Tokens → ℕ → Part → Type 0)
    (post : Global → MutBor Tokens → ℕ → Part → Result Expr Failed → MutBor Tokens → Type 0) : Type 0 where
  pub callable : (alloc : Global) (old : MutBor Tokens) (p : Part) → pre alloc old levels p
  pub reads : (alloc : Global) (old new : MutBor Tokens) (p : Part) (r : Result Expr Failed) → post alloc old levels p r new
      → Reads (part_of i p old.now) r new.now

pub record NestsMember (levels : ℕ) (i : Inside) (pre : Global → MutBor Tokens → ℕ → Type 0)
    (post : Global → MutBor Tokens → ℕ → Result Property Failed → MutBor Tokens → Type 0) : Type 0 where
  pub callable : (alloc : Global) (old : MutBor Tokens) → pre alloc old levels
  pub reads : (alloc : Global) (old new : MutBor Tokens) (r : Result Property Failed) → post alloc old levels r new → Reads (i.member old.now) r new.now

pub record NestsStmt (levels : ℕ) (i : Inside) (pre : Global → MutBor Tokens → ℕ → Form → Bool → Bool → Type 0)
    (post : Global → MutBor Tokens → ℕ → Form → Bool → Bool → Result Stmt Failed → MutBor Tokens → Type 0) : Type 0 where
  pub callable : (alloc : Global) (old : MutBor Tokens) (x : Form) (f l : Bool) → pre alloc old levels x f l
  pub reads : (alloc : Global) (old new : MutBor Tokens) (x : Form) (f l : Bool) (r : Result Stmt Failed) → post alloc old levels x f l r new
      → Reads (form_of i x f l old.now) r new.now

-- all three, at this number of levels
pub record Deeper (levels : ℕ)
    (expr_pre : Global → MutBor Tokens → ℕ → Part → Type 0) (expr_post : Global → MutBor Tokens → ℕ → Part → Result Expr Failed → MutBor Tokens → Type 0)
    (member_pre : Global → MutBor Tokens → ℕ → Type 0) (member_post : Global → MutBor Tokens → ℕ → Result Property Failed → MutBor Tokens → Type 0)
    (stmt_pre : Global → MutBor Tokens → ℕ → Form → Bool → Bool → Type 0)
    (stmt_post : Global → MutBor Tokens → ℕ → Form → Bool → Bool → Result Stmt Failed → MutBor Tokens → Type 0) : Type 0 where
  pub expr : NestsExpr levels (within CHAIN_LIMIT levels) expr_pre expr_post
  pub member : NestsMember levels (within CHAIN_LIMIT levels) member_pre member_post
  pub stmt : NestsStmt levels (within CHAIN_LIMIT levels) stmt_pre stmt_post
