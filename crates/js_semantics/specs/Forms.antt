-- One level of a tree, in which the parts are trees again.
use Rattle.js_syntax.specs.declared.tree.Expr.{Expr}
use Rattle.js_syntax.specs.declared.tree.Expr.TheOpen.{Expr-F, Stmt-F, ForStart-F, ForTarget-F, Property-F}
use Rattle.js_syntax.specs.declared.tree.ForStart.{ForStart}
use Rattle.js_syntax.specs.declared.tree.ForTarget.{ForTarget}
use Rattle.js_syntax.specs.declared.tree.Property.{Property}
use Rattle.js_syntax.specs.declared.tree.Stmt.{Stmt}
use Rattle.js_syntax.specs.declared.tree.Catch.{Catch}
use Rattle.js_syntax.specs.declared.tree.Declaration.{Declaration}
use Rattle.js_syntax.specs.declared.tree.Function.{Function}

-- an expression
abbrev pub ExprForm : Type 0
ExprForm = Expr-F Expr ForStart ForTarget Property Stmt Catch Declaration Function

-- a statement
abbrev pub StmtForm : Type 0
StmtForm = Stmt-F Expr ForStart ForTarget Property Stmt Catch Declaration Function

-- what stands first in the head of a `for`
abbrev pub StartForm : Type 0
StartForm = ForStart-F Expr ForStart ForTarget Property Stmt Catch Declaration Function

-- what a `for` over keys sets
abbrev pub TargetForm : Type 0
TargetForm = ForTarget-F Expr ForStart ForTarget Property Stmt Catch Declaration Function

-- a member of an object literal
abbrev pub PropertyForm : Type 0
PropertyForm = Property-F Expr ForStart ForTarget Property Stmt Catch Declaration Function
