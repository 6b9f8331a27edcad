-- The number of a `tick` line, by the digits that `parse` reads.
use Rattle.std.specs.Prelude.{◌≡◌, ◌≢◌, ◌≤◌, ◌<◌, ◌^◌, ℕ, zero, suc, List, [], ◌∷◌, length, Result, Ok, Err, Bool, true, false, IsTrue, refl}
use Rattle.std.specs.Fmt.{decimal}
use Rattle.std.specs.Str.Parse.{AllDigits, IsNumeral, ParsesUnsigned, digits_value, without_leading_plus}
use Rattle.std.proofs.Common.{ap, sym, ◌∙◌, subst, arith, get_or, true≢false}
use Rattle.std.proofs.lemmas.Fmt.{decimal_is_IsNumeral, decimal-digits_value, first_decimal, decimal_digit, parse-decimal}
use Rattle.std.proofs.lemmas.Str.Parse.{numerals_by_value, tells_digits, digit_from_value, without_leading_plus_none}
use Rattle.scenario.specs.Lines.{IsTick}
use Rattle.scenario.specs.Parts.{IsPlain}
use Rattle.scenario.specs.declared.line.TheConstants.{TICK_LIMIT}

pub false_true : (b : Bool) → b ≡ false → IsTrue b → ⊥
false_true b e h = cc

abbrev is_number : {E : Type 0} → Result ℕ E → Bool
is_number (Ok n) = true
is_number (Err e) = false

pub no_number : {E : Type 0} (r : Result ℕ E) (n : ℕ) (e : E) → r ≡ Ok n → r ≡ Err e → ⊥
no_number r n e p q = true≢false (sym (ap is_number p) ∙ ap is_number q)

pub one_number : {E : Type 0} (r : Result ℕ E) (n m : ℕ) → r ≡ Ok n → r ≡ Ok m → n ≡ m
one_number r n m p q = cc

no_plus : (bs : List ℕ) → IsPlain bs → get_or bs 0 0 ≢ 43
no_plus [] p = absurd p
no_plus (b ∷ []) p = p
no_plus (b ∷ c ∷ more) p = p.1

no_zero : (bs : List ℕ) → IsPlain bs → get_or bs 0 0 ≡ 48 → length bs ≡ 1
no_zero [] p e = absurd p
no_zero (b ∷ []) p e = refl
no_zero (b ∷ c ∷ more) p e = absurd (p.0 e)

some_digit : (bs : List ℕ) → IsPlain bs → 0 < length bs
some_digit [] p = absurd p
some_digit (b ∷ bs) p = omega arith

-- what `parse` reads in plain digits is spelled by them
pub tick_read : {E : Type 0} (bs : List ℕ) (r : Result ℕ E) (n : ℕ) → IsPlain bs → ParsesUnsigned 32 10 bs r → r ≡ Ok n → n ≤ TICK_LIMIT → IsTick bs n
tick_read bs (Err e) n plain h is within = absurd (true≢false (sym (ap is_number is)))
tick_read bs (Ok m) n plain h is within =
    let same : m ≡ n = cc is in
    let bare : without_leading_plus bs ≡ bs = without_leading_plus_none bs (no_plus bs plain) in
    let value : m ≡ digits_value 10 bs = h.1 ∙ ap (digits_value 10) bare in
    let digits : IsNumeral 10 bs = subst (IsNumeral 10) bare h.0.0 in
    let small : digits_value 10 bs < 2 ^ 64 = omega (arith, value, same, within) in
    let text : decimal (digits_value 10 bs) ≡ bs = decimal-digits_value (numerals_by_value (AllDigits 10) tells_digits) bs digits.1 (some_digit bs plain) (no_zero bs plain) small in
    (within, sym text ∙ ap decimal (sym value ∙ same))

plain_digits : (bs : List ℕ) → AllDigits 10 bs → 0 < length bs → (1 < length bs → get_or bs 0 0 ≢ 48) → IsPlain bs
plain_digits [] d some h = absurd (omega arith)
plain_digits (b ∷ []) d some h = λ e. omega (arith, e, digit_from_value b d.0)
plain_digits (b ∷ c ∷ more) d some h = (h (omega arith), λ e. omega (arith, e, digit_from_value b d.0))

decimal_first : (n : ℕ) → n < 2 ^ 64 → 1 < length (decimal n) → get_or (decimal n) 0 0 ≢ 48
decimal_first zero small long = absurd (let one : length (decimal 0) ≡ 1 = ap length (decimal_digit 0 (omega arith)) in omega (arith, long, one))
decimal_first (suc n) small long = λ e. omega (arith, e, first_decimal (suc n) (omega arith) small)

decimal_plain : (n : ℕ) → n < 2 ^ 64 → IsPlain (decimal n)
decimal_plain n small = let d = decimal_is_IsNumeral n small in plain_digits (decimal n) d.0.1 d.0.0 (decimal_first n small)

pub tick_plain : (bs : List ℕ) (n : ℕ) → IsTick bs n → IsPlain bs
tick_plain bs n t = subst IsPlain (sym t.1) (decimal_plain n (let h = t.0 in omega arith))

pub tick_parsed : {E : Type 0} (bs : List ℕ) (r : Result ℕ E) (n : ℕ) → IsTick bs n → ParsesUnsigned 32 10 bs r → r ≡ Ok n
tick_parsed bs r n t h = let le = t.0 in parse-decimal 32 n bs r (omega arith) (omega arith) t.1 h
