-- The operators' table: one row for each operator, on primitive values (ECMAScript 13.5, 13.7, 13.8, 13.10, 13.11).
use Rattle.std.specs.Prelude.{◌≡◌, ℕ, ◌+◌, ◌⊎◌, nat_lt, Bool, not, if◌then◌else◌, List, ◌++◌, Option, Some, None, Ok, Err, ⊤, ℤ, pos}
use Rattle.std.specs.Cmp.Lexicographic.{slice_cmp}
use Rattle.std.specs.Ordering.{int_cmp, nat_cmp, is_lt, is_le, is_gt, is_ge}
use Rattle.std.specs.declared.cmp.Ordering.{Ordering}
use Rattle.base_text.specs.Scalars.{utf8_len}
use Rattle.base_text.specs.declared.operators.BinaryOp.{BinaryOp}
use Rattle.base_text.specs.declared.operators.BinaryOp.TheVariants.{Same, NotSame, Equal, NotEqual, Less, Greater, AtMost, AtLeast, Add, Subtract, Multiply, Divide, Remain}
use Rattle.base_text.specs.declared.operators.UnaryOp.{UnaryOp}
use Rattle.base_text.specs.declared.operators.UnaryOp.TheVariants.{TypeOf, Not, Plus, Minus}
use Rattle.base_text.specs.declared.text.TheConstants.{TEXT_LIMIT}
use Rattle.js_ops.specs.Numbers.{Answer, difference, number, opposite, product, quotient, remainder, sum}
use Rattle.js_ops.specs.Numerals.{number_spelled}
use Rattle.js_ops.specs.Primitives.{is_equal, is_same, text_of, boolean_of, type_of}
use Rattle.js_ops.specs.declared.fault.OpFault.TheVariants.{Kind, NoMemory, Range, TooLong}
use Rattle.js_ops.specs.declared.primitive.Primitive.{Primitive}
use Rattle.js_ops.specs.declared.primitive.Primitive.TheVariants.{Undefined, Null, Bool as Boolean, Number, Str}

-- two texts, one after the other; this project's own: no text has over 262,144 bytes
abbrev pub joined : List ℕ → List ℕ → Answer
joined s t = if nat_lt TEXT_LIMIT (utf8_len s + utf8_len t) then Err TooLong else Ok (Str (s ++ t))

-- 13.15.3 ApplyStringOrNumericBinaryOperator, for `+`: with a text on one side both are joined; this project's own:
-- without one both are numbers
abbrev pub added : Primitive → Primitive → Answer
added (Number a) (Number b) = sum a b
added (Str s) b = joined s (text_of b)
added a (Str t) = joined (text_of a) t
added a b = Err Kind

-- 13.15.3, for `- * / %`; this project's own: both are numbers, and nothing is converted
abbrev pub on_numbers : (ℤ → ℤ → Answer) → Primitive → Primitive → Answer
on_numbers f (Number a) (Number b) = f a b
on_numbers f a b = Err Kind

-- 7.2.13 IsLessThan; this project's own: two numbers or two texts, nothing is converted, and texts go by their scalars
abbrev pub order_of : Primitive → Primitive → Option Ordering
order_of (Number a) (Number b) = Some (int_cmp a b)
order_of (Str s) (Str t) = Some (slice_cmp nat_cmp s t)
order_of a b = None

-- 13.10.1, for `< > <= >=`
abbrev pub compared : (Ordering → Bool) → Option Ordering → Answer
compared p (Some o) = Ok (Boolean (p o))
compared p None = Err Kind

-- what an operator between two operands gives
abbrev pub binary_of : BinaryOp → Primitive → Primitive → Answer
binary_of Same a b = Ok (Boolean (is_same a b))
binary_of NotSame a b = Ok (Boolean (not (is_same a b)))
binary_of Equal a b = Ok (Boolean (is_equal a b))
binary_of NotEqual a b = Ok (Boolean (not (is_equal a b)))
binary_of Less a b = compared is_lt (order_of a b)
binary_of Greater a b = compared is_gt (order_of a b)
binary_of AtMost a b = compared is_le (order_of a b)
binary_of AtLeast a b = compared is_ge (order_of a b)
binary_of Add a b = added a b
binary_of Subtract a b = on_numbers difference a b
binary_of Multiply a b = on_numbers product a b
binary_of Divide a b = on_numbers quotient a b
binary_of Remain a b = on_numbers remainder a b

-- the number that a text spells, if it spells one
abbrev pub spelled : Option ℤ → Answer
spelled (Some n) = number n
spelled None = Err Range

-- 7.1.4 ToNumber; this project's own: of undefined and null there is none
abbrev pub number_of : Primitive → Answer
number_of Undefined = Err Kind
number_of Null = Err Kind
number_of (Boolean b) = Ok (Number (pos (if b then 1 else 0)))
number_of (Number n) = number n
number_of (Str t) = spelled (number_spelled t)

-- 13.5.5 Unary - Operator; this project's own: the operand is a number
abbrev pub negated : Primitive → Answer
negated (Number n) = opposite n
negated a = Err Kind

-- what an operator before its operand gives
abbrev pub unary_of : UnaryOp → Primitive → Answer
unary_of TypeOf a = Ok (Str (type_of a))
unary_of Not a = Ok (Boolean (not (boolean_of a)))
unary_of Plus a = number_of a
unary_of Minus a = negated a

-- the answer needs a text to be made
abbrev pub IsOfText : Answer → Type 0
IsOfText (Ok (Str t)) = ⊤
IsOfText (Ok a) = ⊥
IsOfText (Err TooLong) = ⊤
IsOfText (Err e) = ⊥

-- a call answers what its row gives, but that it may find no memory for a text
abbrev pub Answers : Answer → Answer → Type 0
Answers row answer = (answer ≡ row) ⊎ ((answer ≡ Err NoMemory) × IsOfText row)
