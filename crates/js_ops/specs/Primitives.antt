-- What a primitive value is to the operators (ECMAScript 7.1 Type Conversion, 7.2 Testing and Comparison Operations).
use Rattle.std.specs.Prelude.{ℕ, ◌-◌, ◌^◌, ◌≤◌, ◌==◌, Bool, true, false, not, if◌then◌else◌, List, length, ⊤, codes, unsigned_abs}
use Rattle.std.specs.Fmt.{signed_decimal}
use Rattle.std.specs.Ordering.{int_eq}
use Rattle.std.specs.Str.{bytes_eq}
use Rattle.js_ops.specs.Numbers.{is_zero}
use Rattle.js_ops.specs.declared.primitive.Primitive.{Primitive}
use Rattle.js_ops.specs.declared.primitive.Primitive.TheVariants.{Undefined, Null, Bool as Boolean, Number, Str}

-- a number among the primitives is in range
abbrev pub IsPrimitive : Primitive → Type 0
IsPrimitive Undefined = ⊤
IsPrimitive Null = ⊤
IsPrimitive (Boolean b) = ⊤
IsPrimitive (Number n) = unsigned_abs n ≤ 2 ^ 53 - 1
IsPrimitive (Str t) = ⊤

-- 7.1.2 ToBoolean
abbrev pub boolean_of : Primitive → Bool
boolean_of Undefined = false
boolean_of Null = false
boolean_of (Boolean b) = b
boolean_of (Number n) = not (is_zero n)
boolean_of (Str t) = not (length t == 0)

-- 7.1.17 ToString; this project's own: a number is decimal at any size, with `-` before it where it is below 0
abbrev pub text_of : Primitive → List ℕ
text_of Undefined = codes "undefined"
text_of Null = codes "null"
text_of (Boolean true) = codes "true"
text_of (Boolean false) = codes "false"
text_of (Number n) = signed_decimal n
text_of (Str t) = t

-- 7.1.19 ToPropertyKey
abbrev pub key_of : Primitive → List ℕ
key_of a = text_of a

-- 13.5.3 The typeof Operator
abbrev pub type_of : Primitive → List ℕ
type_of Undefined = codes "undefined"
type_of Null = codes "object"
type_of (Boolean b) = codes "boolean"
type_of (Number n) = codes "number"
type_of (Str t) = codes "string"

-- 7.2.15 IsStrictlyEqual: of one type and the same value
abbrev pub is_same : Primitive → Primitive → Bool
is_same Undefined Undefined = true
is_same Null Null = true
is_same (Boolean a) (Boolean b) = if a then b else not b
is_same (Number a) (Number b) = int_eq a b
is_same (Str s) (Str t) = bytes_eq s t
is_same a b = false

-- 7.2.14 IsLooselyEqual; this project's own: nothing is converted, so it is `is_same`, but null equals undefined
abbrev pub is_equal : Primitive → Primitive → Bool
is_equal Undefined Null = true
is_equal Null Undefined = true
is_equal a b = is_same a b
