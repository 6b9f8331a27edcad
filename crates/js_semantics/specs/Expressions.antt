-- The expressions, one row for each form (ECMAScript, 13). A row is given the meanings of its parts with the levels that are left.
use Rattle.std.specs.Prelude.{ℕ, true, List, [], ◌∷◌, Option, Some, None}
use Rattle.base_text.specs.declared.operators.BinaryOp.{BinaryOp}
use Rattle.base_text.specs.declared.operators.UnaryOp.{UnaryOp}
use Rattle.base_text.specs.declared.operators.UnaryOp.TheVariants as unary
use Rattle.js_syntax.specs.declared.tree.UpdateOp.{UpdateOp}
use Rattle.js_syntax.specs.declared.tree.Expr.{Expr, out-Expr}
use Rattle.js_syntax.specs.declared.tree.Expr.TheOpen as o
use Rattle.js_syntax.specs.declared.tree.Function.{Function}
use Rattle.js_syntax.specs.declared.tree.Property.{Property as PropertyTree, out-Property}
use Rattle.js_semantics.specs.Forms.{ExprForm, PropertyForm}
use Rattle.js_semantics.specs.Places.{OBJECT_PROTOTYPE, ARRAY_PROTOTYPE}
use Rattle.js_semantics.specs.Machine.{Cell, Value, Refers, Reference, Own, Property, Datum, Accessor, Plain, Array, undefined, null, boolean, number, text, with_cell}
use Rattle.js_semantics.specs.Faults.{wrong_kind}
use Rattle.js_semantics.specs.Evaluator.{Gives, With, Meaning, Evaluator, Context, bind, follow, choose, made, scope_made, fails_by, list_row}
use Rattle.js_semantics.specs.Members.{get_row, define_row, delete_row, own_property}
use Rattle.js_semantics.specs.Names.{name_row, missing_throws, missing_undefined, with_name}
use Rattle.js_semantics.specs.Functions.{function_made}
use Rattle.js_semantics.specs.Operations.{to_boolean, binary_row, unary_row, step_row, in_row, instance_row}
use Rattle.js_semantics.specs.Targets.{Target, ToName, ToMember, target_row, read_target_row, write_target_row}

abbrev pub object_cell : Cell
object_cell = record { form = Plain; prototype = Some (Own OBJECT_PROTOTYPE); slots = [] }

abbrev pub array_cell : List Value → Cell
array_cell elements = record { form = Array elements; prototype = Some (Own ARRAY_PROTOTYPE); slots = [] }

-- `[a, b]`: the cell is made before its elements are evaluated (13.2.4)
abbrev pub array_row : Evaluator → List Expr → Context → Meaning
array_row ev items here m f c =
    made (array_cell []) (λ place m f. list_row ev items here (λ values m f. c (Gives (Refers (Own place))) (with_cell m place (array_cell values)) f) m f c) c m f

-- a getter joins the setter that stands under its key, and a setter the getter (13.2.5.5)
abbrev pub with_getter : ℕ → Option Property → Property
with_getter place (Some (Accessor get set enumerable)) = Accessor (Some place) set true
with_getter place property = Accessor (Some place) None true

abbrev pub with_setter : ℕ → Option Property → Property
with_setter place (Some (Accessor get set enumerable)) = Accessor get (Some place) true
with_setter place property = Accessor None (Some place) true

-- a member of a literal is defined on its object (13.2.5.5)
abbrev pub member_row : Evaluator → Reference → PropertyForm → Context → Meaning
member_row ev r (o.Value key e) here m f c = ev.expr e here m f (bind (λ value m f. define_row r key (Datum value true true) m f c) c)
member_row ev r (o.Get key code) here m f c =
    function_made code here.scope (λ place m f. define_row r key (with_getter place (own_property m r key)) m f c) c m f
member_row ev r (o.Set key code) here m f c =
    function_made code here.scope (λ place m f. define_row r key (with_setter place (own_property m r key)) m f c) c m f

abbrev pub members_row : Evaluator → Reference → List PropertyTree → Context → Meaning
members_row ev r [] here m f c = c (Gives (Refers r)) m f
members_row ev r (p ∷ ps) here m f c = member_row ev r (out-Property p) here m f (follow (λ m f. members_row ev r ps here m f c) c)

-- `{a: b, get c() { }}`: the cell is made before its members are evaluated (13.2.5)
abbrev pub object_row : Evaluator → List PropertyTree → Context → Meaning
object_row ev members here m f c = made object_cell (λ place m f. members_row ev (Own place) members here m f c) c m f

-- `function (a) { }`; one with a name stands in a scope of its own that has the name (15.2.5)
abbrev pub function_row : Function → Option (List ℕ) → Context → Meaning
function_row code None here m f c = function_made code here.scope (λ place. c (Gives (Refers (Own place)))) c m f
function_row code (Some name) here m f c =
    scope_made (record { outer = here.scope; bindings = [] }) (λ s. function_made code (Some s) (λ place m f.
    c (Gives (Refers (Own place))) (with_name m s name (Refers (Own place))) f) c) c m f

-- `a.b` and `a[b]` (13.3.2)
abbrev pub read_row : Evaluator → ExprForm → Context → Meaning
read_row ev form here m f c = target_row ev form here (λ target m f. read_target_row ev target here m f c) m f c

-- a callee is a member, which is called on its base, or any other expression, which is called on undefined (13.3.6)
abbrev pub with_base : Evaluator → Target → Context → With (Value × Value) → Meaning
with_base ev (ToName name) here k m f c = name_row ev missing_throws name here m f (bind (λ callee. k (callee, undefined)) c)
with_base ev (ToMember base key) here k m f c = get_row ev base key m f (bind (λ callee. k (callee, base)) c)

-- `a(b, c)`: the callee with its base, and then the arguments (13.3.6)
abbrev pub call_row : Evaluator → Expr → List Expr → Context → Meaning
call_row ev e es here m f c =
    ev.callee e here (λ callee m f. list_row ev es here (λ values m f. ev.call callee.0 callee.1 values m f c) m f c) m f c

-- `new a(b, c)` (13.3.5)
abbrev pub new_row : Evaluator → Expr → List Expr → Context → Meaning
new_row ev e es here m f c = ev.expr e here m f (bind (λ callee m f. list_row ev es here (λ values m f. ev.construct callee values m f c) m f c) c)

-- `++a`: the target is read once and written once (13.4.4)
abbrev pub prefix_row : Evaluator → UpdateOp → Expr → Context → Meaning
prefix_row ev op e here m f c =
    target_row ev (out-Expr e) here (λ target m f. read_target_row ev target here m f (bind (λ old m f. step_row op old m f (bind (λ value m f.
    write_target_row ev target value here m f (follow (c (Gives value)) c)) c)) c)) m f c

-- `a++` gives the old value (13.4.2)
abbrev pub postfix_row : Evaluator → UpdateOp → Expr → Context → Meaning
postfix_row ev op e here m f c =
    target_row ev (out-Expr e) here (λ target m f. read_target_row ev target here m f (bind (λ old m f. step_row op old m f (bind (λ value m f.
    write_target_row ev target value here m f (follow (c (Gives old)) c)) c)) c)) m f c

-- `typeof a`, `!a`, `+a`, `-a` (13.5)
abbrev pub operator_row : Evaluator → UnaryOp → Expr → Context → Meaning
operator_row ev op e here m f c = ev.expr e here m f (bind (λ value m f. unary_row op value m f c) c)

-- the operand of `typeof` may be a name that is nowhere (13.5.3)
abbrev pub typeof_row : Evaluator → Expr → Context → Meaning
typeof_row ev e here m f c = ev.operand e here m f (bind (λ value m f. unary_row unary.TypeOf value m f c) c)

abbrev pub unary_form_row : Evaluator → UnaryOp → Expr → Context → Meaning
unary_form_row ev unary.TypeOf e here m f c = typeof_row ev e here m f c
unary_form_row ev op e here m f c = operator_row ev op e here m f c

abbrev pub delete_target_row : Target → Meaning
delete_target_row (ToName name) m f c = fails_by wrong_kind c m f
delete_target_row (ToMember base key) m f c = delete_row base key m f (follow (c (Gives (boolean true))) c)

-- `delete a`: of a member it gives true; a name isn't read, another operand is evaluated, and both throw (13.5.1)
abbrev pub delete_form_row : Evaluator → Expr → ExprForm → Context → Meaning
delete_form_row ev e (o.Name name) here m f c = fails_by wrong_kind c m f
delete_form_row ev e (o.Member base key) here m f c = target_row ev (o.Member base key) here (λ target m f. delete_target_row target m f c) m f c
delete_form_row ev e (o.Index base key) here m f c = target_row ev (o.Index base key) here (λ target m f. delete_target_row target m f c) m f c
delete_form_row ev e form here m f c = ev.expr e here m f (bind (λ value. fails_by wrong_kind c) c)

-- `a + b`: the left operand, and then the right one (13.15.4)
abbrev pub binary_form_row : Evaluator → BinaryOp → Expr → Expr → Context → Meaning
binary_form_row ev op a b here m f c = ev.expr a here m f (bind (λ x m f. ev.expr b here m f (bind (λ y m f. binary_row op x y m f c) c)) c)

-- `a in b` (13.10)
abbrev pub in_form_row : Evaluator → Expr → Expr → Context → Meaning
in_form_row ev a b here m f c = ev.expr a here m f (bind (λ x m f. ev.expr b here m f (bind (λ y m f. in_row x y m f c) c)) c)

-- `a instanceof b` (13.10)
abbrev pub instance_form_row : Evaluator → Expr → Expr → Context → Meaning
instance_form_row ev a b here m f c = ev.expr a here m f (bind (λ x m f. ev.expr b here m f (bind (λ y m f. instance_row ev x y m f c) c)) c)

-- `a && b` and `a || b` evaluate the right operand where they need it (13.13)
abbrev pub and_row : Evaluator → Expr → Expr → Context → Meaning
and_row ev a b here m f c = ev.expr a here m f (bind (λ x. choose (to_boolean x) (λ m f. ev.expr b here m f c) (c (Gives x))) c)

abbrev pub or_row : Evaluator → Expr → Expr → Context → Meaning
or_row ev a b here m f c = ev.expr a here m f (bind (λ x. choose (to_boolean x) (c (Gives x)) (λ m f. ev.expr b here m f c)) c)

-- `a ? b : c` (13.14)
abbrev pub conditional_row : Evaluator → Expr → Expr → Expr → Context → Meaning
conditional_row ev a x y here m f c = ev.expr a here m f (bind (λ v. choose (to_boolean v) (λ m f. ev.expr x here m f c) (λ m f. ev.expr y here m f c)) c)

-- `a = b`: base and key of a member come before the right side (13.15.2)
abbrev pub assign_row : Evaluator → Expr → Expr → Context → Meaning
assign_row ev a b here m f c =
    target_row ev (out-Expr a) here (λ target m f. ev.expr b here m f (bind (λ value m f.
    write_target_row ev target value here m f (follow (c (Gives value)) c)) c)) m f c

-- `a += b`: the target is read before the right side is evaluated, and written once (13.15.2)
abbrev pub assign_by_row : Evaluator → BinaryOp → Expr → Expr → Context → Meaning
assign_by_row ev op a b here m f c =
    target_row ev (out-Expr a) here (λ target m f. read_target_row ev target here m f (bind (λ old m f. ev.expr b here m f (bind (λ y m f.
    binary_row op old y m f (bind (λ value m f. write_target_row ev target value here m f (follow (c (Gives value)) c)) c)) c)) c)) m f c

-- ---- the table of expressions

abbrev pub expr_row : Evaluator → ExprForm → Context → Meaning
expr_row ev o.This here m f c = c (Gives here.this) m f
expr_row ev (o.Name name) here m f c = name_row ev missing_throws name here m f c
expr_row ev (o.Number z) here m f c = c (Gives (number z)) m f
expr_row ev (o.Str t) here m f c = c (Gives (text t)) m f
expr_row ev (o.Bool b) here m f c = c (Gives (boolean b)) m f
expr_row ev o.Null here m f c = c (Gives null) m f
expr_row ev (o.Array items) here m f c = array_row ev items here m f c
expr_row ev (o.Object members) here m f c = object_row ev members here m f c
expr_row ev (o.Expr::Function code) here m f c = function_row code code.name here m f c
expr_row ev (o.Member e key) here m f c = read_row ev (o.Member e key) here m f c
expr_row ev (o.Index e i) here m f c = read_row ev (o.Index e i) here m f c
expr_row ev (o.Call e es) here m f c = call_row ev e es here m f c
expr_row ev (o.New e es) here m f c = new_row ev e es here m f c
expr_row ev (o.Prefix op e) here m f c = prefix_row ev op e here m f c
expr_row ev (o.Postfix op e) here m f c = postfix_row ev op e here m f c
expr_row ev (o.Unary op e) here m f c = unary_form_row ev op e here m f c
expr_row ev (o.Delete e) here m f c = delete_form_row ev e (out-Expr e) here m f c
expr_row ev (o.Binary op a b) here m f c = binary_form_row ev op a b here m f c
expr_row ev (o.In a b) here m f c = in_form_row ev a b here m f c
expr_row ev (o.InstanceOf a b) here m f c = instance_form_row ev a b here m f c
expr_row ev (o.And a b) here m f c = and_row ev a b here m f c
expr_row ev (o.Or a b) here m f c = or_row ev a b here m f c
expr_row ev (o.Conditional a x y) here m f c = conditional_row ev a x y here m f c
expr_row ev (o.Assign a b) here m f c = assign_row ev a b here m f c
expr_row ev (o.AssignBy op a b) here m f c = assign_by_row ev op a b here m f c

-- the operand of `typeof`
abbrev pub operand_row : Evaluator → ExprForm → Context → Meaning
operand_row ev (o.Name name) here m f c = name_row ev missing_undefined name here m f c
operand_row ev form here m f c = expr_row ev form here m f c

abbrev pub callee_target_row : Evaluator → ExprForm → Context → With (Value × Value) → Meaning
callee_target_row ev form here k m f c = target_row ev form here (λ target m f. with_base ev target here k m f c) m f c

-- a callee
abbrev pub callee_row : Evaluator → ExprForm → Context → With (Value × Value) → Meaning
callee_row ev (o.Member e key) here k m f c = callee_target_row ev (o.Member e key) here k m f c
callee_row ev (o.Index e i) here k m f c = callee_target_row ev (o.Index e i) here k m f c
callee_row ev form here k m f c = expr_row ev form here m f (bind (λ callee. k (callee, undefined)) c)
