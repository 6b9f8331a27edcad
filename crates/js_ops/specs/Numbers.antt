-- The numbers of a script (ECMAScript 6.1.6.1). This project's own: they are whole, from -(2^53 - 1) to 2^53 - 1, so
-- there is no fraction, no infinity, no NaN and no -0.
use Rattle.std.specs.Prelude.{◌≡◌, ◌-◌, ◌^◌, Bool, true, false, nat_le, ◌==◌, if◌then◌else◌, Result, Ok, Err, ℤ, ◌+ℤ◌, ◌-ℤ◌, ◌*ℤ◌, neg_ℤ, int_div, int_rem, unsigned_abs}
use Rattle.js_ops.specs.declared.fault.OpFault.{OpFault}
use Rattle.js_ops.specs.declared.fault.OpFault.TheVariants.{Range}
use Rattle.js_ops.specs.declared.primitive.Primitive.{Primitive}
use Rattle.js_ops.specs.declared.primitive.Primitive.TheVariants.{Number}

-- what an operator gives, or why it gives nothing
abbrev pub Answer : Type 0
Answer = Result Primitive OpFault

-- 21.1.2.5 Number.isSafeInteger
abbrev pub is_number : ℤ → Bool
is_number n = nat_le (unsigned_abs n) (2 ^ 53 - 1)

-- this project's own: the number, and `Range` where there is none
abbrev pub number : ℤ → Answer
number n = if is_number n then Ok (Number n) else Err Range

-- 6.1.6.1.7 Number::add
abbrev pub sum : ℤ → ℤ → Answer
sum a b = number (a +ℤ b)

-- 6.1.6.1.8 Number::subtract
abbrev pub difference : ℤ → ℤ → Answer
difference a b = number (a -ℤ b)

-- 6.1.6.1.4 Number::multiply
abbrev pub product : ℤ → ℤ → Answer
product a b = number (a *ℤ b)

abbrev pub is_zero : ℤ → Bool
is_zero n = unsigned_abs n == 0

-- 6.1.6.1.6 Number::remainder, with the sign of the dividend; this project's own: `Range` where the divisor is 0
abbrev pub remainder : ℤ → ℤ → Answer
remainder a b = if is_zero b then Err Range else number (int_rem a b)

-- 6.1.6.1.5 Number::divide; this project's own: `Range` where the divisor is 0 or something remains
abbrev pub quotient : ℤ → ℤ → Answer
quotient a b =
    if is_zero b then Err Range
    else (if is_zero (int_rem a b) then number (int_div a b) else Err Range)

-- 6.1.6.1.1 Number::unaryMinus; this project's own: of 0 it is 0
abbrev pub opposite : ℤ → Answer
opposite n = number (neg_ℤ n)

-- q times the divisor is the dividend
pub record IsQuotient (a b q : ℤ) : Type 0 where
  pub some : is_zero b ≡ false
  pub in_range : is_number q ≡ true
  pub exact : q *ℤ b ≡ a
