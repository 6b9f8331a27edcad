-- What a statement declares with those that stand in it, so many levels deep (ECMAScript, 8.2.6 to 8.2.8).
use Rattle.std.specs.Prelude.{ℕ, List, map}
use Rattle.js_syntax.specs.declared.tree.Function.{Function}
use Rattle.js_syntax.specs.declared.tree.Stmt.{Stmt, out-Stmt}
use Rattle.js_semantics.specs.Bodies.{joined, own_functions, own_names, within}

-- its `var` names
unfoldable pub names_within : ℕ → Stmt → List (List ℕ)
names_within levels statement = joined (map (λ s. own_names (out-Stmt s)) (within levels statement))

-- its functions
unfoldable pub functions_within : ℕ → Stmt → List Function
functions_within levels statement = joined (map (λ s. own_functions (out-Stmt s)) (within levels statement))
