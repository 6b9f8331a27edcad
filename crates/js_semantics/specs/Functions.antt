-- Functions are made, and their bodies run (ECMAScript, 10.2 and 15.2).
use Rattle.std.specs.Prelude.{ℕ, true, false, List, [], ◌∷◌, Option, Some, None, codes}
use Rattle.js_syntax.specs.declared.tree.Function.{Function}
use Rattle.js_syntax.specs.declared.tree.Stmt.{Stmt}
use Rattle.js_semantics.specs.Machine.{Cell, Scope, Binding, Value, Refers, Own, Datum, Plain, Closure, undefined}
use Rattle.js_semantics.specs.Places.{OBJECT_PROTOTYPE, FUNCTION_PROTOTYPE}
use Rattle.js_semantics.specs.Evaluator.{Gives, Ends, Returns, Throws, Halts, Rest, With, Cont, Meaning, Evaluator, Context, follow, made, scope_made}
use Rattle.js_semantics.specs.Members.{define_row}
use Rattle.js_semantics.specs.Names.{declare_row, declare_vars_row, declared_in}
use Rattle.js_semantics.specs.Bodies.{var_names, functions}

abbrev pub closure_cell : Function → Option ℕ → Cell
closure_cell code scope = record { form = Closure code scope; prototype = Some (Own FUNCTION_PROTOTYPE); slots = [] }

-- a plain object that names its function
abbrev pub prototype_cell : ℕ → Cell
prototype_cell place = record {
  form = Plain;
  prototype = Some (Own OBJECT_PROTOTYPE);
  slots = record { key = codes "constructor"; property = Datum (Refers (Own place)) true false } ∷ [];
}

-- a function's cell is made and then its prototype's, each naming the other (ECMAScript, 10.2.5)
abbrev pub function_made : Function → Option ℕ → With ℕ → Cont → Rest
function_made code scope k c =
    made (closure_cell code scope) (λ place. made (prototype_cell place) (λ its m f.
    define_row (Own place) (codes "prototype") (Datum (Refers (Own its)) true false) m f (follow (k place) c)) c) c

abbrev pub name_or_none : Option (List ℕ) → List ℕ
name_or_none None = []
name_or_none (Some name) = name

-- a declared function has a name
abbrev pub own_name : Function → List ℕ
own_name code = name_or_none code.name

-- the functions of a body are made and declared, in order (ECMAScript, 10.2.11)
abbrev pub declare_functions_row : Option ℕ → List Function → Meaning
declare_functions_row scope [] m f c = c Ends m f
declare_functions_row scope (g ∷ gs) m f c =
    function_made g scope (λ place m f. declare_row scope (own_name g) (Refers (Own place)) m f (follow (λ m f. declare_functions_row scope gs m f c) c)) c m f

-- statements in order (ECMAScript, 14.2.2)
abbrev pub block_row : Evaluator → List Stmt → Context → Meaning
block_row ev [] here m f c = c Ends m f
block_row ev (x ∷ xs) here m f c = ev.stmt x here m f (follow (λ m f. block_row ev xs here m f c) c)

-- a script: what it declares is the global object's (ECMAScript, 16.1.7)
abbrev pub script_row : Evaluator → List Stmt → Context → Meaning
script_row ev body here m f c =
    declare_vars_row (var_names body) m f (follow (λ m f. declare_functions_row None (functions body) m f (follow (λ m f. block_row ev body here m f c) c)) c)

-- missing arguments are undefined, and surplus ones are dropped (ECMAScript, 10.2.11)
abbrev pub parameters : List (List ℕ) → List Value → List Binding
parameters [] values = []
parameters (name ∷ names) [] = record { name = name; value = undefined } ∷ parameters names []
parameters (name ∷ names) (value ∷ values) = record { name = name; value = value } ∷ parameters names values

abbrev pub call_scope : Function → Option ℕ → List Value → Scope
call_scope code scope arguments = record { outer = scope; bindings = declared_in (parameters code.params arguments) (var_names code.body) }

-- a body gives what it returns, or undefined
abbrev pub from_body : Cont → Cont
from_body c (Returns value) = c (Gives value)
from_body c (Throws value) = c (Throws value)
from_body c (Halts stop) = c (Halts stop)
from_body c done = c (Gives undefined)

-- a function is called, in a scope of its own (ECMAScript, 10.2.1)
abbrev pub closure_row : Evaluator → Function → Option ℕ → Value → List Value → Meaning
closure_row ev code scope this arguments m f c =
    scope_made (call_scope code scope arguments) (λ s m f.
    declare_functions_row (Some s) (functions code.body) m f (follow (λ m f.
    block_row ev code.body (record { scope = Some s; this = this }) m f (from_body c)) c)) c m f
