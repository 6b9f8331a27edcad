-- The functions of Array.prototype that are scripts (ECMAScript, 23.1.3, in this project's own text). Above each stands its text, where L is
-- `for (var i = 0; i < this.length; i = i + 1)`.
use Rattle.std.specs.Prelude.{ℕ, true, false, List, [], ◌∷◌, Some, None, pos, codes}
use Rattle.base_text.specs.declared.operators.BinaryOp.{BinaryOp}
use Rattle.base_text.specs.declared.operators.BinaryOp.TheVariants as binary
use Rattle.base_text.specs.declared.operators.UnaryOp.TheVariants as unary
use Rattle.js_syntax.specs.declared.tree.Declaration.{Declaration}
use Rattle.js_syntax.specs.declared.tree.Expr.{Expr}
use Rattle.js_syntax.specs.declared.tree.Expr.TheVariants as ex
use Rattle.js_syntax.specs.declared.tree.ForStart.TheVariants as start
use Rattle.js_syntax.specs.declared.tree.Function.{Function}
use Rattle.js_syntax.specs.declared.tree.Stmt.{Stmt}
use Rattle.js_syntax.specs.declared.tree.Stmt.TheVariants as st

-- ---- how the texts below are written as trees

abbrev a : Expr
a = ex.Name (codes "a")

abbrev b : Expr
b = ex.Name (codes "b")

abbrev f : Expr
f = ex.Name (codes "f")

abbrev i : Expr
i = ex.Name (codes "i")

abbrev n : Expr
n = ex.Name (codes "n")

abbrev r : Expr
r = ex.Name (codes "r")

abbrev s : Expr
s = ex.Name (codes "s")

abbrev t : Expr
t = ex.Name (codes "t")

abbrev u : Expr
u = ex.Name (codes "u")

abbrev v : Expr
v = ex.Name (codes "v")

abbrev x : Expr
x = ex.Name (codes "x")

abbrev length_of : Expr → Expr
length_of e = ex.Member e (codes "length")

abbrev plus : Expr → Expr → Expr
plus l e = ex.Binary binary.Add l e

abbrev is : Expr → BinaryOp → Expr → Expr
is l op e = ex.Binary op l e

abbrev number : ℕ → Expr
number k = ex.Number (pos k)

-- `this[i]`
abbrev item : Expr
item = ex.Index ex.This i

-- `f(this[i], i, this)`
abbrev applied : Expr
applied = ex.Call f (item ∷ i ∷ ex.This ∷ [])

abbrev does : Expr → Stmt
does e = st.Expression e

abbrev writes : Expr → Expr → Stmt
writes target e = st.Expression (ex.Assign target e)

abbrev when : Expr → List Stmt → Stmt
when e body = st.If e (st.Block body) None

abbrev returns : Expr → Stmt
returns e = st.Return (Some e)

abbrev bare : List ℕ → Declaration
bare name = record { name = name; value = None }

abbrev begun : List ℕ → Expr → Declaration
begun name e = record { name = name; value = Some e }

-- `for (var i = 0; i < this.length; i = i + 1) { .. }`
abbrev each : List Stmt → Stmt
each body =
    st.For (start.Var (begun (codes "i") (number 0) ∷ [])) (Some (is i binary.Less (length_of ex.This))) (Some (ex.Assign i (plus i (number 1)))) (st.Block body)

-- `r[r.length] = e;`
abbrev appends : Expr → Stmt
appends e = writes (ex.Index r (length_of r)) e

abbrev of : List (List ℕ) → List Stmt → Function
of params body = record { name = None; params = params; body = body }

-- ---- the functions

-- function (f) { L { f(this[i], i, this); } }
abbrev pub for_each : Function
for_each = of (codes "f" ∷ []) (each (does applied ∷ []) ∷ [])

-- function (f) { var r = []; L { r[i] = f(this[i], i, this); } return r; }
abbrev pub map : Function
map = of (codes "f" ∷ []) (st.Var (begun (codes "r") (ex.Array []) ∷ []) ∷ each (writes (ex.Index r i) applied ∷ []) ∷ returns r ∷ [])

-- function (f) { var r = [], v; L { v = this[i]; if (f(v, i, this)) { r[r.length] = v; } } return r; }
abbrev pub filter : Function
filter = of (codes "f" ∷ []) (st.Var (begun (codes "r") (ex.Array []) ∷ bare (codes "v") ∷ [])
    ∷ each (writes v item ∷ when (ex.Call f (v ∷ i ∷ ex.This ∷ [])) (appends v ∷ []) ∷ []) ∷ returns r ∷ [])

-- function (f) { L { if (f(this[i], i, this)) { return true; } } return false; }
abbrev pub some : Function
some = of (codes "f" ∷ []) (each (when applied (returns (ex.Bool true) ∷ []) ∷ []) ∷ returns (ex.Bool false) ∷ [])

-- function (f) { L { if (!f(this[i], i, this)) { return false; } } return true; }
abbrev pub every : Function
every = of (codes "f" ∷ []) (each (when (ex.Unary unary.Not applied) (returns (ex.Bool false) ∷ []) ∷ []) ∷ returns (ex.Bool true) ∷ [])

-- function (x) { L { if (this[i] === x) { return i; } } return -1; }
abbrev pub index_of : Function
index_of = of (codes "x" ∷ []) (each (when (is item binary.Same x) (returns i ∷ []) ∷ []) ∷ returns (ex.Unary unary.Minus (number 1)) ∷ [])

-- `if (e op 0) { e = e + n; }` and the like
abbrev sets : Expr → BinaryOp → Expr → Expr → Stmt
sets l op e value = when (is l op e) (writes l value ∷ [])

-- function (a, b) { var r = [], n = this.length, u; if (a === u) { a = 0; } if (b === u) { b = n; } if (a < 0) { a = a + n; } if (b < 0) { b = b + n; }
-- if (a < 0) { a = 0; } if (b > n) { b = n; } for (; a < b; a = a + 1) { r[r.length] = this[a]; } return r; }
abbrev pub slice : Function
slice = of (codes "a" ∷ codes "b" ∷ []) (
    st.Var (begun (codes "r") (ex.Array []) ∷ begun (codes "n") (length_of ex.This) ∷ bare (codes "u") ∷ [])
    ∷ sets a binary.Same u (number 0) ∷ sets b binary.Same u n ∷ sets a binary.Less (number 0) (plus a n) ∷ sets b binary.Less (number 0) (plus b n)
    ∷ sets a binary.Less (number 0) (number 0) ∷ sets b binary.Greater n n
    ∷ st.For start.Nothing (Some (is a binary.Less b)) (Some (ex.Assign a (plus a (number 1)))) (st.Block (appends (ex.Index ex.This a) ∷ []))
    ∷ returns r ∷ [])

-- function (s) { var t = "", v, u; if (s === u) { s = ","; } L { v = this[i]; if (i > 0) { t = t + s; } if (v !== u && v !== null) { t = t + v; } } return t; }
abbrev pub join : Function
join = of (codes "s" ∷ []) (
    st.Var (begun (codes "t") (ex.Str []) ∷ bare (codes "v") ∷ bare (codes "u") ∷ [])
    ∷ sets s binary.Same u (ex.Str (codes ","))
    ∷ each (writes v item ∷ when (is i binary.Greater (number 0)) (writes t (plus t s) ∷ [])
    ∷ when (ex.And (is v binary.NotSame u) (is v binary.NotSame ex.Null)) (writes t (plus t v) ∷ []) ∷ [])
    ∷ returns t ∷ [])

-- function (b) { var r = []; L { r[i] = this[i]; } for (i = 0; i < b.length; i = i + 1) { r[r.length] = b[i]; } return r; }
abbrev pub concat : Function
concat = of (codes "b" ∷ []) (
    st.Var (begun (codes "r") (ex.Array []) ∷ []) ∷ each (writes (ex.Index r i) item ∷ [])
    ∷ st.For (start.Expression (ex.Assign i (number 0))) (Some (is i binary.Less (length_of b))) (Some (ex.Assign i (plus i (number 1))))
    (st.Block (appends (ex.Index b i) ∷ []))
    ∷ returns r ∷ [])
