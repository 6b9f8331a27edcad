-- The built-ins, one row for each (ECMAScript, 20 to 23). Each place, element or key that one copies or moves costs a unit, and so does each
-- started 64 bytes of a text that it answers (this project's own).
use Rattle.std.specs.Prelude.{ℕ, Bool, true, false, ◌||◌, ◌==◌, ◌-◌, ◌+◌, List, [], ◌∷◌, ◌++◌, Option, Some, None, length, map, take, drop, reverse, is_some, pos, ℤ, int_div, int_lt, unsigned_abs, codes}
use Rattle.std.specs.Option.{option_map_or}
use Rattle.door.specs.declared.values.Shape.TheVariants as shape
use Rattle.door.specs.declared.members.Member.TheVariants as member
use Rattle.js_semantics.specs.Builtin as b
use Rattle.js_semantics.specs.Builtin.{Builtin}
use Rattle.js_semantics.specs.Primitives.{Undefined, Null, BoolPrim, NumberPrim, number_of}
use Rattle.js_semantics.specs.Machine.{Machine, Cell, MetObject, Form, Plain, Array, Reference, Own, Foreign, WaivedForeign, Value, Primitive, Refers, Property, Datum, Accessor, undefined, null, boolean, number, text, count, cell_at, with_cell, object_at}
use Rattle.js_semantics.specs.Places.{OBJECT_PROTOTYPE}
use Rattle.js_semantics.specs.Solo.{Stuck}
use Rattle.js_semantics.specs.Faults.{wrong_kind, out_of_range}
use Rattle.js_semantics.specs.Evaluator.{Gives, Rest, With, Cont, Meaning, Evaluator, bind, follow, choose, charge, made, error_cell, fails_by}
use Rattle.js_semantics.specs.Meetings.{misfit, is_shape}
use Rattle.js_semantics.specs.Xrays.{Use, Shows, ByOwner, use_of}
use Rattle.js_semantics.specs.Members.{prototype_row, chain_bound, get_row, has_row, has_own_row, define_row, keys_row, key_row}
use Rattle.js_semantics.specs.Operations.{to_boolean, is_function, is_above, is_same_reference, answer_row}
use Rattle.js_semantics.specs.Expressions.{array_cell}
use Rattle.js_semantics.specs.Requests.{text_argument, number_argument, argument}
use Rattle.js_semantics.specs.MemberRows.{asks_row}
use Rattle.js_semantics.specs.Texts.{text_answer, char_at_row, char_code_at_row, index_of_row, slice_row, substring_row, parts_of, parts_units, replace_row, trim_row, case_row, lower, upper, itself_row, this_text}

-- goes on with a reference; a primitive is of the wrong kind
abbrev pub reference_of : Value → With Reference → Cont → Rest
reference_of (Refers r) k c = k r
reference_of (Primitive prim) k c = fails_by wrong_kind c

-- ---- Object (20.1)

-- a new plain object with a prototype
abbrev pub plain_row : Option Reference → Meaning
plain_row prototype m f c = made (record { form = Plain; prototype = prototype; slots = [] }) (λ place. c (Gives (Refers (Own place)))) c m f

-- Object(x) (20.1.1.1)
abbrev pub object_function_row : Value → Meaning
object_function_row (Refers r) m f c = c (Gives (Refers r)) m f
object_function_row (Primitive Undefined) m f c = plain_row (Some (Own OBJECT_PROTOTYPE)) m f c
object_function_row (Primitive Null) m f c = plain_row (Some (Own OBJECT_PROTOTYPE)) m f c
object_function_row (Primitive prim) m f c = fails_by wrong_kind c m f

-- an array of these, a unit for each
abbrev pub array_made : List Value → Meaning
array_made values m f c = charge (length values) (λ m f. made (array_cell values) (λ place. c (Gives (Refers (Own place)))) c m f) c m f

-- Object.keys(o) (20.1.2.19)
abbrev pub object_keys_row : Value → Meaning
object_keys_row value m f c = keys_row value (λ keys m f. array_made (map text keys) m f c) c m f

-- a prototype that is given: a reference, or null for none
abbrev pub prototype_given : Value → With (Option Reference) → Cont → Rest
prototype_given (Refers r) k c = k (Some r)
prototype_given (Primitive Null) k c = k None
prototype_given (Primitive prim) k c = fails_by wrong_kind c

abbrev pub prototype_value : Option Reference → Value
prototype_value None = null
prototype_value (Some r) = Refers r

-- Object.getPrototypeOf(o) (20.1.2.12)
abbrev pub get_prototype_row : Value → Meaning
get_prototype_row value m f c = reference_of value (λ r. prototype_row r (λ p. c (Gives (prototype_value p))) c) c m f

-- a chain closes where the new prototype is the object, or has it above
abbrev pub closes : Machine → Reference → Option Reference → Bool
closes m r None = false
closes m r (Some p) = is_same_reference p r || is_above (chain_bound m) m r p

abbrev pub with_prototype : ℕ → Option Reference → Option Cell → Meaning
with_prototype place p None m f c = Stuck
with_prototype place p (Some cell) m f c = c (Gives (Refers (Own place))) (with_cell m place (record cell { prototype = p })) f

-- Object.setPrototypeOf(o, p), of own cells alone (20.1.2.22)
abbrev pub set_prototype_row : Value → Value → Meaning
set_prototype_row (Refers (Own place)) value m f c = prototype_given value (λ p m f.
    choose (closes m (Own place) p) (fails_by wrong_kind c) (λ m f. with_prototype place p (cell_at m place) m f c) m f) c m f
set_prototype_row o value m f c = fails_by wrong_kind c m f

-- a getter or setter: a function, or undefined for none; one of another gets a place where scripts can reach out
abbrev pub accessor_part : Bool → Value → With (Option ℕ) → Cont → Rest
accessor_part true (Refers (Own place)) k c = k (Some place)
accessor_part true (Refers r) k c = misfit
accessor_part is_a_function (Primitive Undefined) k c = k None
accessor_part is_a_function value k c = fails_by wrong_kind c

abbrev pub part_read : Evaluator → Value → List ℕ → With (Option ℕ) → Cont → Rest
part_read ev d key k c m f = get_row ev d key m f (bind (λ value m f. accessor_part (is_function m value) value k c m f) c)

-- the property that a descriptor gives: an accessor where it has `get` or `set`, and else a value; missing flags are false (6.2.6.5)
abbrev pub described : Evaluator → Value → Bool → Bool → With Property → Cont → Rest
described ev d enumerable true k c m f =
    part_read ev d (codes "get") (λ get. part_read ev d (codes "set") (λ set. k (Accessor get set enumerable)) c) c m f
described ev d enumerable false k c m f =
    get_row ev d (codes "value") m f (bind (λ value m f. get_row ev d (codes "writable") m f (bind (λ writable.
    k (Datum value (to_boolean writable) enumerable)) c)) c)

abbrev pub descriptor_row : Evaluator → Reference → With Property → Cont → Rest
descriptor_row ev d k c m f =
    get_row ev (Refers d) (codes "enumerable") m f (bind (λ enumerable. has_row d (codes "get") (λ get. has_row d (codes "set") (λ set.
    described ev (Refers d) (to_boolean enumerable) (get || set) k c) c) c) c)

-- Object.defineProperty(o, k, d) (20.1.2.4)
abbrev pub define_property_row : Evaluator → Value → Value → Value → Meaning
define_property_row ev o key d m f c =
    reference_of o (λ r. key_row key (λ key. reference_of d (λ d. descriptor_row ev d (λ property m f.
    define_row r key property m f (follow (c (Gives (Refers r))) c)) c) c) c) c m f

-- hasOwnProperty(k) (20.1.3.2)
abbrev pub has_own_property_row : Value → Value → Meaning
has_own_property_row this key m f c = reference_of this (λ r. key_row key (λ key. has_own_row r key (λ has. c (Gives (boolean has))) c) c) c m f

-- ---- Function (20.2)

abbrev pub elements_of_form : Form → Option (List Value)
elements_of_form (Array elements) = Some elements
elements_of_form form = None

abbrev pub elements_of_cell : Option Cell → Option (List Value)
elements_of_cell (Some cell) = elements_of_form cell.form
elements_of_cell None = None

abbrev pub elements_of : Machine → Value → Option (List Value)
elements_of m (Refers (Own place)) = elements_of_cell (cell_at m place)
elements_of m value = None

abbrev pub with_some : Option (List Value) → With (List Value) → Cont → Rest
with_some (Some elements) k c = k elements
with_some None k c = fails_by wrong_kind c

-- goes on with the elements of an own array
abbrev pub array_of : Value → With (List Value) → Cont → Rest
array_of value k c m f = with_some (elements_of m value) k c m f

-- the elements of an own array are copied; undefined and null stand for none
abbrev pub list_argument : Value → With (List Value) → Cont → Rest
list_argument (Primitive Undefined) k c = k []
list_argument (Primitive Null) k c = k []
list_argument value k c = array_of value (λ values. charge (length values) (k values) c) c

-- call(t, args) and apply(t, array) (20.2.3.3, 20.2.3.1); a primitive can't be called
abbrev pub call_row : Evaluator → Value → Value → List Value → Meaning
call_row ev callee this values m f c = reference_of callee (λ r m f. ev.call (Refers r) this values m f c) c m f

abbrev pub apply_row : Evaluator → Value → Value → Value → Meaning
apply_row ev callee this array m f c =
    reference_of callee (λ r. list_argument array (λ values m f. ev.call (Refers r) this values m f c) c) c m f

-- ---- Array (23.1)

abbrev pub is_array : Machine → Value → Bool
is_array m value = is_some (elements_of m value)

abbrev pub object_is_array : Option MetObject → Bool
object_is_array object = option_map_or (λ (it : MetObject). is_shape it.shape shape.Array) object false

abbrev pub others_array : Use → Bool → With Bool → Rest
others_array (Shows above) is_one k = k is_one
others_array ByOwner is_one k = misfit
others_array way is_one k = k false

-- Array.isArray(x): an own array, or an Xray of one (23.1.2.2)
abbrev pub is_array_row : Value → With Bool → Rest
is_array_row (Refers (Foreign j)) k m f = others_array (use_of m (Foreign j)) (object_is_array (object_at m j)) k m f
is_array_row (Refers (WaivedForeign j)) k m f = Stuck
is_array_row value k m f = k (is_array m value) m f

abbrev pub elements_in_cell : List Value → Option Cell → ℕ → Machine → Machine
elements_in_cell elements None place m = m
elements_in_cell elements (Some cell) place m = with_cell m place (record cell { form = Array elements })

abbrev pub with_elements_of : Value → List Value → Machine → Machine
with_elements_of (Refers (Own place)) elements m = elements_in_cell elements (cell_at m place) place m
with_elements_of value elements m = m

-- an array gets these elements, at a price, and the built-in answers this
abbrev pub elements_row : Value → ℕ → List Value → Value → Meaning
elements_row this units elements answer m f c = charge units (λ m f. c (Gives answer) (with_elements_of this elements m) f) c m f

abbrev pub last_of : List Value → Value
last_of [] = undefined
last_of (value ∷ []) = value
last_of (value ∷ values) = last_of values

-- push(items): a unit for each item (23.1.3.23)
abbrev pub push_row : Value → List Value → Meaning
push_row this items m f c = array_of this (λ elements m f.
    elements_row this (length items) (elements ++ items) (count (length elements + length items)) m f c) c m f

-- pop() moves nothing (23.1.3.22)
abbrev pub pop_row : Value → Meaning
pop_row this m f c = array_of this (λ elements m f. elements_row this 0 (take (length elements - 1) elements) (last_of elements) m f c) c m f

-- shift() moves all that stay (23.1.3.27)
abbrev pub shift_row : Value → Meaning
shift_row this m f c = array_of this (λ elements m f. elements_row this (length elements - 1) (drop 1 elements) (argument elements 0) m f c) c m f

-- unshift(items) moves all, and copies the items; with none it moves nothing (23.1.3.37)
abbrev pub unshift_units : List Value → List Value → ℕ
unshift_units [] elements = 0
unshift_units items elements = length items + length elements

abbrev pub unshift_row : Value → List Value → Meaning
unshift_row this items m f c = array_of this (λ elements m f.
    elements_row this (unshift_units items elements) (items ++ elements) (count (length items + length elements)) m f c) c m f

-- reverse() moves all, and answers the array (23.1.3.26)
abbrev pub reverse_row : Value → Meaning
reverse_row this m f c = array_of this (λ elements m f. elements_row this (length elements) (reverse elements) this m f c) c m f

-- split(s): all parts, as an array (22.1.3.23)
abbrev pub split_parts_row : List (List ℕ) → Meaning
split_parts_row parts m f c = charge (parts_units parts) (λ m f. array_made (map text parts) m f c) c m f

abbrev pub split_row : Value → Value → Meaning
split_row this (Primitive Undefined) m f c = this_text this (λ t m f. split_parts_row (t ∷ []) m f c) c m f
split_row this s m f c = this_text this (λ t. text_argument s (λ s m f. split_parts_row (parts_of s t) m f c) c) c m f

-- ---- Number, Boolean, Math (21)

-- Number(x) (21.1.1.1)
abbrev pub number_row : Value → Meaning
number_row (Primitive prim) m f c = answer_row (number_of prim) m f c
number_row (Refers r) m f c = fails_by wrong_kind c m f

-- Number.prototype.toString() and Boolean.prototype.toString() (21.1.3.6, 20.3.3.2)
abbrev pub number_text_row : Value → Meaning
number_text_row (Primitive (NumberPrim z)) m f c = text_argument (number z) (λ t. c (Gives (text t))) c m f
number_text_row value m f c = fails_by wrong_kind c m f

abbrev pub boolean_text_row : Value → Meaning
boolean_text_row (Primitive (BoolPrim x)) m f c = text_argument (boolean x) (λ t. c (Gives (text t))) c m f
boolean_text_row value m f c = fails_by wrong_kind c m f

abbrev pub number_answer : (ℤ → ℤ) → Value → Meaning
number_answer g value m f c = number_argument value (λ z. c (Gives (number (g z)))) c m f

-- the least or the greatest, where one goes before another by the test (21.3.2.24)
abbrev pub extreme_row : (ℤ → ℤ → Bool) → ℤ → List Value → Meaning
extreme_row before z [] m f c = c (Gives (number z)) m f
extreme_row before z (value ∷ values) m f c = number_argument value (λ y. choose (before y z)
    (λ m f. extreme_row before y values m f c) (λ m f. extreme_row before z values m f c)) c m f

abbrev pub extremes_row : (ℤ → ℤ → Bool) → List Value → Meaning
extremes_row before [] m f c = fails_by wrong_kind c m f
extremes_row before (value ∷ values) m f c = number_argument value (λ z m f. extreme_row before z values m f c) c m f

-- Math.div(a, b) truncates; this project's own
abbrev pub div_row : Value → Value → Meaning
div_row a b m f c = number_argument a (λ x. number_argument b (λ y.
    choose (unsigned_abs y == 0) (fails_by out_of_range c) (c (Gives (number (int_div x y))))) c) c m f

-- ---- Error (20.5)

-- a message that is missing is empty
abbrev pub message_of : Value → With (List ℕ) → Cont → Rest
message_of (Primitive Undefined) k c = k []
message_of value k c = text_argument value k c

-- Error(m) and its kinds (20.5.1.1, 20.5.6.1.1)
abbrev pub error_row : List ℕ → Value → Meaning
error_row name value m f c =
    message_of value (λ message. made (error_cell (record { name = name; message = message })) (λ place. c (Gives (Refers (Own place)))) c) c m f

-- Error.prototype.toString() (20.5.3.4)
abbrev pub error_text_row : Evaluator → Value → Meaning
error_text_row ev this m f c =
    get_row ev this (codes "name") m f (bind (λ name. text_argument name (λ name m f.
    get_row ev this (codes "message") m f (bind (λ message. text_argument message (λ message m f.
    text_answer (name ++ (codes ": " ++ message)) m f c) c) c)) c) c)

-- ---- the table of the built-ins

abbrev pub native_row : Evaluator → Builtin → Value → List Value → Meaning
native_row ev b.ObjectFunction this values m f c = object_function_row (argument values 0) m f c
native_row ev b.ObjectKeys this values m f c = object_keys_row (argument values 0) m f c
native_row ev b.ObjectCreate this values m f c = prototype_given (argument values 0) (λ p m f. plain_row p m f c) c m f
native_row ev b.ObjectGetPrototypeOf this values m f c = get_prototype_row (argument values 0) m f c
native_row ev b.ObjectSetPrototypeOf this values m f c = set_prototype_row (argument values 0) (argument values 1) m f c
native_row ev b.ObjectDefineProperty this values m f c = define_property_row ev (argument values 0) (argument values 1) (argument values 2) m f c
native_row ev b.ObjectHasOwnProperty this values m f c = has_own_property_row this (argument values 0) m f c
native_row ev b.ObjectToString this values m f c = text_answer (codes "[object Object]") m f c
native_row ev b.FunctionFunction this values m f c = fails_by wrong_kind c m f
native_row ev b.FunctionCall this values m f c = call_row ev this (argument values 0) (drop 1 values) m f c
native_row ev b.FunctionApply this values m f c = apply_row ev this (argument values 0) (argument values 1) m f c
native_row ev b.ArrayFunction this values m f c = array_made values m f c
native_row ev b.ArrayIsArray this values m f c = is_array_row (argument values 0) (λ is_one. c (Gives (boolean is_one))) m f
native_row ev b.ArrayPush this values m f c = push_row this values m f c
native_row ev b.ArrayPop this values m f c = pop_row this m f c
native_row ev b.ArrayShift this values m f c = shift_row this m f c
native_row ev b.ArrayUnshift this values m f c = unshift_row this values m f c
native_row ev b.ArrayReverse this values m f c = reverse_row this m f c
native_row ev b.StringFunction this values m f c = text_argument (argument values 0) (λ t. c (Gives (text t))) c m f
native_row ev b.NumberFunction this values m f c = number_row (argument values 0) m f c
native_row ev b.BooleanFunction this values m f c = c (Gives (boolean (to_boolean (argument values 0)))) m f
native_row ev b.StringCharAt this values m f c = char_at_row this (argument values 0) m f c
native_row ev b.StringCharCodeAt this values m f c = char_code_at_row this (argument values 0) m f c
native_row ev b.StringIndexOf this values m f c = index_of_row this (argument values 0) (argument values 1) m f c
native_row ev b.StringSlice this values m f c = slice_row this (argument values 0) (argument values 1) m f c
native_row ev b.StringSubstring this values m f c = substring_row this (argument values 0) (argument values 1) m f c
native_row ev b.StringSplit this values m f c = split_row this (argument values 0) m f c
native_row ev b.StringReplace this values m f c = replace_row this (argument values 0) (argument values 1) m f c
native_row ev b.StringTrim this values m f c = trim_row this m f c
native_row ev b.StringToLowerCase this values m f c = case_row lower this m f c
native_row ev b.StringToUpperCase this values m f c = case_row upper this m f c
native_row ev b.StringToString this values m f c = itself_row this m f c
native_row ev b.NumberToString this values m f c = number_text_row this m f c
native_row ev b.BooleanToString this values m f c = boolean_text_row this m f c
native_row ev b.MathAbs this values m f c = number_answer (λ z. pos (unsigned_abs z)) (argument values 0) m f c
native_row ev b.MathFloor this values m f c = number_answer (λ z. z) (argument values 0) m f c
native_row ev b.MathMin this values m f c = extremes_row int_lt values m f c
native_row ev b.MathMax this values m f c = extremes_row (λ x y. int_lt y x) values m f c
native_row ev b.MathDiv this values m f c = div_row (argument values 0) (argument values 1) m f c
native_row ev b.ErrorFunction this values m f c = error_row (codes "Error") (argument values 0) m f c
native_row ev b.TypeErrorFunction this values m f c = error_row (codes "TypeError") (argument values 0) m f c
native_row ev b.RangeErrorFunction this values m f c = error_row (codes "RangeError") (argument values 0) m f c
native_row ev b.ReferenceErrorFunction this values m f c = error_row (codes "ReferenceError") (argument values 0) m f c
native_row ev b.ErrorToString this values m f c = error_text_row ev this m f c
native_row ev (b.Asks name) this values m f c = asks_row ev name this values m f c
native_row ev b.Interface this values m f c = fails_by wrong_kind c m f

-- those that `new` only calls
abbrev pub makes_objects : Builtin → Bool
makes_objects b.ObjectFunction = true
makes_objects b.ArrayFunction = true
makes_objects b.ErrorFunction = true
makes_objects b.TypeErrorFunction = true
makes_objects b.RangeErrorFunction = true
makes_objects b.ReferenceErrorFunction = true
makes_objects (b.Asks member.NewEvent) = true
makes_objects (b.Asks member.NewCustomEvent) = true
makes_objects builtin = false
