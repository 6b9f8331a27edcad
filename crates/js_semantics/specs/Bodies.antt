-- The names that a body declares, wherever they stand in it but in inner functions (ECMAScript, 8.2.6 to 8.2.8).
use Rattle.std.specs.Prelude.{ℕ, zero, suc, List, [], ◌∷◌, ◌++◌, map, Option, Some, None}
use Rattle.js_syntax.specs.declared.tree.Function.{Function}
use Rattle.js_syntax.specs.declared.tree.Declaration.{Declaration}
use Rattle.js_syntax.specs.declared.tree.ForStart.{out-ForStart}
use Rattle.js_syntax.specs.declared.tree.ForTarget.{out-ForTarget}
use Rattle.js_syntax.specs.declared.tree.Catch.{Catch}
use Rattle.js_syntax.specs.declared.tree.Expr.TheOpen as o
use Rattle.js_syntax.specs.declared.tree.Stmt.{Stmt, out-Stmt}
use Rattle.js_syntax.specs.declared.limits.TheConstants.{LEVEL_LIMIT}
use Rattle.js_semantics.specs.Forms.{StmtForm, StartForm, TargetForm}

abbrev pub joined : {A : Type 0} → List (List A) → List A
joined [] = []
joined (xs ∷ rest) = xs ++ joined rest

abbrev pub optional : Option Stmt → List Stmt
optional None = []
optional (Some s) = s ∷ []

abbrev pub handler : Option Catch → List Stmt
handler None = []
handler (Some c) = c.block ∷ []

-- the statements that stand in a statement
abbrev pub inner : StmtForm → List Stmt
inner (o.Block xs) = xs
inner (o.If e x y) = x ∷ optional y
inner (o.While e x) = x ∷ []
inner (o.For a b c x) = x ∷ []
inner (o.ForIn a e x) = x ∷ []
inner (o.Try x c y) = x ∷ (handler c ++ optional y)
inner s = []

-- a statement, and those that stand in it so many levels deep
unfoldable pub within : ℕ → Stmt → List Stmt
within zero s = []
within (suc n) s = s ∷ joined (map (within n) (inner (out-Stmt s)))

-- those of a body; the grammar lets none stand deeper
abbrev pub all_of : List Stmt → List Stmt
all_of body = joined (map (within LEVEL_LIMIT) body)

abbrev pub names_of : List Declaration → List (List ℕ)
names_of [] = []
names_of (d ∷ ds) = d.name ∷ names_of ds

abbrev pub start_names : StartForm → List (List ℕ)
start_names (o.ForStart::Var ds) = names_of ds
start_names start = []

abbrev pub target_names : TargetForm → List (List ℕ)
target_names (o.ForTarget::Var name) = name ∷ []
target_names target = []

-- the `var` names of a statement's own
abbrev pub own_names : StmtForm → List (List ℕ)
own_names (o.Stmt::Var ds) = names_of ds
own_names (o.For a b c x) = start_names (out-ForStart a)
own_names (o.ForIn a e x) = target_names (out-ForTarget a)
own_names s = []

-- the function that a statement declares
abbrev pub own_functions : StmtForm → List Function
own_functions (o.Stmt::Function g) = g ∷ []
own_functions s = []

-- the `var` names of a body, in order
abbrev pub var_names : List Stmt → List (List ℕ)
var_names body = joined (map (λ s. own_names (out-Stmt s)) (all_of body))

-- the functions that a body declares, in order
abbrev pub functions : List Stmt → List Function
functions body = joined (map (λ s. own_functions (out-Stmt s)) (all_of body))
