-- A quotient is exact.
use Rattle.std.proofs.Common.{◌≡◌, ◌↔◌, ℕ, zero, suc, ◌+◌, ◌*◌, ◌/◌, ◌%◌, ◌<◌, Bool, true, false, cond, Ok, Err, ℤ, pos, negsuc, neg_ℤ, nat_abs, ◌*ℤ◌, ◌+ℤ◌, refl, sym, ap, ◌∙◌, arith}
use Rattle.std.specs.Prelude.{int_div, int_rem}
use Rattle.std.proofs.Math.Nat.{mul-mod_left}
use Rattle.std.proofs.lemmas.Bool.Decides.{nat_tests}
use Rattle.std.proofs.lemmas.Int.{ints, quot-rem}
use Rattle.std.proofs.lemmas.Nat.{div-mul-add}
use Rattle.js_ops.specs.Numbers.{Answer, IsQuotient, is_number, is_zero, quotient}
use Rattle.js_ops.specs.declared.fault.OpFault.TheVariants.{Range}
use Rattle.js_ops.specs.declared.primitive.Primitive.TheVariants.{Number}

-- natural numbers divide their products
product-div : (m n : ℕ) → m * suc n / suc n ≡ m
product-div m n =
    let same : m * suc n + 0 ≡ m * suc n = omega arith in
    let below : 0 < suc n = omega arith in
    ap (λ (x : ℕ). x / suc n) (sym same) ∙ div-mul-add m (suc n) 0 below

zero-div : (n : ℕ) → 0 / suc n ≡ 0
zero-div n =
    let same : 0 * suc n + 0 ≡ 0 = omega arith in
    let below : 0 < suc n = omega arith in
    ap (λ (x : ℕ). x / suc n) (sym same) ∙ div-mul-add 0 (suc n) 0 below

-- the remainder and the quotient of a number with `-` before it
neg-rem : (k : ℕ) (d : ℤ) → k % nat_abs d ≡ 0 → int_rem (neg_ℤ (pos k)) d ≡ pos 0
neg-rem zero d none = ap pos none
neg-rem (suc k) d none = ap (λ (x : ℕ). neg_ℤ (pos x)) none

neg-div-neg : (k n a : ℕ) → k / suc n ≡ a → int_div (neg_ℤ (pos k)) (negsuc n) ≡ pos a
neg-div-neg zero n a whole =
    let none : a ≡ 0 = sym whole ∙ zero-div n in
    rw (zero-div n, none)
neg-div-neg (suc k) n a whole = ap pos whole

neg-div-pos : (k n a : ℕ) → k / suc n ≡ a → int_div (neg_ℤ (pos k)) (pos (suc n)) ≡ neg_ℤ (pos a)
neg-div-pos zero n a whole =
    let none : a ≡ 0 = sym whole ∙ zero-div n in
    rw (zero-div n, none)
neg-div-pos (suc k) n a whole = ap (λ (x : ℕ). neg_ℤ (pos x)) whole

-- whole numbers divide their products
divided : (q b : ℤ) → is_zero b ≡ false → (int_rem (q *ℤ b) b ≡ pos 0) × (int_div (q *ℤ b) b ≡ q)
divided q (pos zero) some = absurd (cc)
divided (pos m) (pos (suc n)) some = (ap pos (mul-mod_left m (suc n)), ap pos (product-div m n))
divided (pos m) (negsuc n) some =
    (neg-rem (m * suc n) (negsuc n) (mul-mod_left m (suc n)), neg-div-neg (m * suc n) n m (product-div m n))
divided (negsuc m) (pos (suc n)) some =
    (neg-rem (suc m * suc n) (pos (suc n)) (mul-mod_left (suc m) (suc n)), neg-div-pos (suc m * suc n) n (suc m) (product-div (suc m) n))
divided (negsuc m) (negsuc n) some =
    (ap pos (mul-mod_left (suc m) (suc n)), ap (λ (x : ℕ). neg_ℤ (pos x)) (product-div (suc m) n))

told_from_quotient : (a b q : ℤ) → IsQuotient a b q → quotient a b ≡ Ok (Number q)
told_from_quotient a b q is =
    let parts = divided q b is.some in
    rw (← is.exact, is.some, parts.0, parts.1, is.in_range)

none_left : (z : ℤ) → is_zero z ≡ true → z ≡ pos 0
none_left (pos n) e = ap pos (grind (arith, nat_tests))
none_left (negsuc n) e = absurd (grind (arith, nat_tests))

quotient_from_told : (a b q : ℤ) → quotient a b ≡ Ok (Number q) → IsQuotient a b q
quotient_from_told a b q told = parted (is_zero b) (is_zero (int_rem a b)) (is_number (int_div a b)) refl refl refl told
  where
    parted : (zero_b zero_r fits : Bool) → is_zero b ≡ zero_b → is_zero (int_rem a b) ≡ zero_r → is_number (int_div a b) ≡ fits → ◌≡◌ {A = Answer} (cond zero_b (Err Range) (cond zero_r (cond fits (Ok (Number (int_div a b))) (Err Range)) (Err Range))) (Ok (Number q)) → IsQuotient a b q
    parted true zero_r fits hb hr hf h = absurd (cc)
    parted false false fits hb hr hf h = absurd (cc)
    parted false true false hb hr hf h = absurd (cc)
    parted false true true hb hr hf h =
        let same : int_div a b ≡ q = cc in
        let left : int_rem a b ≡ pos 0 = none_left (int_rem a b) hr in
        let whole : int_div a b *ℤ b +ℤ int_rem a b ≡ a = quot-rem a b in
        let exact : q *ℤ b +ℤ pos 0 ≡ a = rw (same, left) at whole in
        record { some = hb; in_range = ap is_number (sym same) ∙ hf; exact = omega (arith, ints) }

-- the quotient that is told is the exact one
pub told_as_quotient : (a b q : ℤ) → (quotient a b ≡ Ok (Number q)) ↔ IsQuotient a b q
told_as_quotient a b q = (quotient_from_told a b q, told_from_quotient a b q)
