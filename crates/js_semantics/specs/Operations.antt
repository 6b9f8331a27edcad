-- What the operators do with values (ECMAScript, 13.5 to 13.11): the operators' table on primitives, and identity on references.
use Rattle.std.specs.Prelude.{ℕ, zero, suc, Bool, true, false, not, ◌&&◌, List, Option, Some, None, ◌==◌, pos, codes, if◌then◌else◌, Result, Ok, Err}
use Rattle.std.specs.Option.{option_map_or}
use Rattle.base_text.specs.declared.operators.BinaryOp.{BinaryOp}
use Rattle.base_text.specs.declared.operators.BinaryOp.TheVariants as binary
use Rattle.base_text.specs.declared.operators.UnaryOp.{UnaryOp}
use Rattle.base_text.specs.declared.operators.UnaryOp.TheVariants as unary
use Rattle.js_syntax.specs.declared.tree.UpdateOp.{UpdateOp}
use Rattle.js_syntax.specs.declared.tree.UpdateOp.TheVariants.{Increment, Decrement}
use Rattle.js_semantics.specs.Primitives.{PrimitiveValue, StrPrim, NumberPrim, OpFault, binary_of, unary_of, boolean_of}
use Rattle.dom_semantics.specs.Fits.{is_function_shape}
use Rattle.js_semantics.specs.Machine.{Machine, Cell, MetObject, Form, Closure, Native, Forward, Link, Reference, Own, Thing, Foreign, WaivedThing, WaivedForeign, Value, Primitive, Refers, cell_at, object_at, boolean, text}
use Rattle.js_semantics.specs.Faults.{wrong_kind, operator_fault}
use Rattle.js_semantics.specs.Evaluator.{Gives, Rest, With, Cont, Meaning, Evaluator, bind, choose, charge, text_units, fails_by}
use Rattle.js_semantics.specs.Xrays.{use_of, is_by_owner}
use Rattle.js_semantics.specs.Members.{prototype_of, prototype_row, chain_bound, get_row, has_row, key_row}

-- truth; each reference is true (ECMAScript, 7.1.2)
abbrev pub to_boolean : Value → Bool
to_boolean (Primitive prim) = boolean_of prim
to_boolean (Refers r) = true

-- ---- identity

abbrev pub is_same_reference : Reference → Reference → Bool
is_same_reference (Own p) (Own q) = p == q
is_same_reference (Thing j) (Thing k) = j == k
is_same_reference (Foreign j) (Foreign k) = j == k
is_same_reference (WaivedThing j) (WaivedThing k) = j == k
is_same_reference (WaivedForeign j) (WaivedForeign k) = j == k
is_same_reference r s = false

-- references are the same by identity, and no reference is a primitive
abbrev pub is_identical : Value → Value → Bool
is_identical (Refers r) (Refers s) = is_same_reference r s
is_identical x y = false

-- ---- types

abbrev pub form_is_function : Form → Bool
form_is_function (Closure code scope) = true
form_is_function (Native builtin) = true
form_is_function (Forward owner callee) = true
form_is_function (Link r) = true
form_is_function form = false

abbrev pub cell_is_function : Option Cell → Bool
cell_is_function None = false
cell_is_function (Some cell) = form_is_function cell.form

abbrev pub is_own_function : Machine → Value → Bool
is_own_function m (Refers (Own place)) = cell_is_function (cell_at m place)
is_own_function m value = false

abbrev pub object_is_function : Option MetObject → Bool
object_is_function object = option_map_or (λ (it : MetObject). is_function_shape it.shape) object false

-- an own function, or one of another that its owner calls; by an Xray, and where the actor has no right to it, it's an object
abbrev pub is_function : Machine → Value → Bool
is_function m (Refers (Foreign k)) = is_by_owner (use_of m (Foreign k)) && object_is_function (object_at m k)
is_function m (Refers (WaivedForeign k)) = object_is_function (object_at m k)
is_function m value = is_own_function m value

-- ---- what an operator gives

-- the text that an operator gives is charged
abbrev pub answer_row : Result PrimitiveValue OpFault → Meaning
answer_row (Ok (StrPrim t)) m f c = charge (text_units t) (c (Gives (text t))) c m f
answer_row (Ok prim) m f c = c (Gives (Primitive prim)) m f
answer_row (Err fault) m f c = fails_by (operator_fault fault) c m f

-- with a reference on a side only identity is told
abbrev pub identity_row : BinaryOp → Bool → Meaning
identity_row binary.Same same m f c = c (Gives (boolean same)) m f
identity_row binary.NotSame same m f c = c (Gives (boolean (not same))) m f
identity_row binary.Equal same m f c = c (Gives (boolean same)) m f
identity_row binary.NotEqual same m f c = c (Gives (boolean (not same))) m f
identity_row op same m f c = fails_by wrong_kind c m f

-- an operator between two operands
abbrev pub binary_row : BinaryOp → Value → Value → Meaning
binary_row op (Primitive a) (Primitive b) m f c = answer_row (binary_of op a b) m f c
binary_row op x y m f c = identity_row op (is_identical x y) m f c

abbrev pub type_of_reference : Bool → List ℕ
type_of_reference true = codes "function"
type_of_reference false = codes "object"

-- an operator before its operand, which is a reference
abbrev pub reference_row : UnaryOp → Value → Meaning
reference_row unary.TypeOf value m f c = answer_row (Ok (StrPrim (type_of_reference (is_function m value)))) m f c
reference_row unary.Not value m f c = c (Gives (boolean false)) m f
reference_row op value m f c = fails_by wrong_kind c m f

-- an operator before its operand
abbrev pub unary_row : UnaryOp → Value → Meaning
unary_row op (Primitive prim) m f c = answer_row (unary_of op prim) m f c
unary_row op (Refers r) m f c = reference_row op (Refers r) m f c

abbrev pub step_operator : UpdateOp → BinaryOp
step_operator Increment = binary.Add
step_operator Decrement = binary.Subtract

-- one more or one less, of a number alone (ECMAScript, 13.4)
abbrev pub step_row : UpdateOp → Value → Meaning
step_row op (Primitive (NumberPrim z)) m f c = answer_row (binary_of (step_operator op) (NumberPrim z) (NumberPrim (pos 1))) m f c
step_row op value m f c = fails_by wrong_kind c m f

-- ---- `in` and `instanceof`

-- `in` (ECMAScript, 13.10.1)
abbrev pub in_row : Value → Value → Meaning
in_row x (Refers r) m f c = key_row x (λ key. has_row r key (λ has. c (Gives (boolean has))) c) c m f
in_row x (Primitive prim) m f c = fails_by wrong_kind c m f

abbrev pub is_next : Reference → Option Reference → (Reference → Bool) → Bool
is_next target None rest = false
is_next target (Some next) rest = if is_same_reference next target then true else rest next

-- whether it stands along a chain, of which so many are looked at
unfoldable pub is_above : ℕ → Machine → Reference → Reference → Bool
is_above zero m target r = false
is_above (suc n) m target r = is_next target (prototype_of m r) (λ next. is_above n m target next)

abbrev pub at_next : Reference → Option Reference → With Bool → (Reference → Rest) → Rest
at_next target None k rest = k false
at_next target (Some next) k rest = choose (is_same_reference next target) (k true) (rest next)

-- the same where each prototype is read
unfoldable pub above_row : ℕ → Reference → With Bool → Cont → Reference → Rest
above_row zero target k c r m f = k false m f
above_row (suc n) target k c r m f = prototype_row r (λ p. at_next target p k (λ next. above_row n target k c next)) c m f

-- a primitive has no chain
abbrev pub on_chain_row : Reference → Value → With Bool → Cont → Rest
on_chain_row target (Primitive prim) k c m f = k false m f
on_chain_row target (Refers r) k c m f = above_row (chain_bound m) target k c r m f

abbrev pub instance_of : Value → Value → Meaning
instance_of x (Refers target) m f c = on_chain_row target x (λ stands. c (Gives (boolean stands))) c m f
instance_of x (Primitive prim) m f c = fails_by wrong_kind c m f

abbrev pub instance_if : Bool → Evaluator → Value → Value → Meaning
instance_if true ev x callee m f c = get_row ev callee (codes "prototype") m f (bind (λ its m f. instance_of x its m f c) c)
instance_if false ev x callee m f c = fails_by wrong_kind c m f

-- `instanceof` asks for an own function whose prototype is a reference (ECMAScript, 7.3.22)
abbrev pub instance_row : Evaluator → Value → Value → Meaning
instance_row ev x callee m f c = instance_if (is_own_function m callee) ev x callee m f c
