-- Numbers are told by their decimal digits.
use Rattle.std.proofs.Common.{◌≡◌, ◌∙◌, sym, refl, subst, ℕ, ◌<◌, ◌≤◌, List, [], ◌∷◌, ◌++◌, IsTrue, length, get_or, take, drop, arith, rules, lit<, length-take}
use Prim.Native.Nat.{zero, suc}
use Rattle.std.proofs.lemmas.Bool.Decides.{nat_tests}
use Rattle.std.proofs.lemmas.List.{take-append-drop}
use Rattle.std.proofs.lemmas.List.Folds.{list_all-append}
use Rattle.std.proofs.lemmas.Str.Parse.{IsNumeralModel, numerals_by_value, digits_value_short}
use Rattle.std.proofs.lemmas.Fmt.{decimal-digits_value, digits_decimal, length-decimal-le, first_decimal, decimal_nonempty, decimal_digit}
use Rattle.std.specs.Fmt.{decimal}
use Rattle.std.specs.Str.Parse.{digits_value}
use Rattle.small_forms.specs.Bytes.{are_in, is_in, IsNumeral}
use Rattle.small_forms.specs.declared.bytes.Class.{Class}
use Rattle.small_forms.specs.declared.bytes.Class.TheVariants.{Digit}
use Rattle.small_forms.proofs.Runs.{both_true}

own : IsNumeralModel (λ ds. IsTrue (are_in Digit ds)) (digits_value 10)
own = numerals_by_value (λ ds. IsTrue (are_in Digit ds)) (search rules)

leading : (ds : List ℕ) → IsNumeral ds → (0 < length ds) × (get_or ds 0 0 ≡ 48 → length ds ≡ 1)
leading [] h = absurd h
leading (d ∷ []) h = (omega arith, λ e. refl)
leading (d ∷ (e ∷ ds)) h = (omega arith, λ q. absurd (h q))

numeral_above : (ds : List ℕ) → 0 < length ds → 48 < get_or ds 0 0 → IsNumeral ds
numeral_above [] h k = absurd (omega (arith, h))
numeral_above (d ∷ []) h k = tt
numeral_above (d ∷ (e ∷ ds)) h k = λ q. omega (arith, k, q)

-- a numeral is the digits of its value
pub numeral_is : (ds : List ℕ) → IsTrue (are_in Digit ds) → IsNumeral ds → length ds ≤ 4 → (ds ≡ decimal (digits_value 10 ds)) × (digits_value 10 ds < 10000)
numeral_is ds digits numeral short =
    let below : digits_value 10 ds < 10000 = digits_value_short own ds 4 digits short in
    let parts = leading ds numeral in
    (sym (decimal-digits_value own ds digits parts.0 parts.1 (omega arith)), below)

pub record IsDecimal (ds : List ℕ) : Type 0 where
  pub short : length ds ≤ 4
  pub digits : IsTrue (are_in Digit ds)
  pub numeral : IsNumeral ds

decimal_IsNumeral : (n : ℕ) → n < 10000 → IsNumeral (decimal n)
decimal_IsNumeral zero h = rw (decimal_digit 0 (lit< tt)) tt
decimal_IsNumeral (suc n) h = numeral_above (decimal (suc n)) (decimal_nonempty (suc n) (omega arith)) (first_decimal (suc n) (omega arith) (omega arith))

-- the digits of a number are a numeral
pub decimal_is : (ds : List ℕ) (n : ℕ) → n < 10000 → ds ≡ decimal n → IsDecimal ds
decimal_is ds n h e =
    rw e (record { short = length-decimal-le 4 n (omega arith) (omega arith) (omega arith); digits = digits_decimal own n (omega arith); numeral = decimal_IsNumeral n h })

all_parts : (class : Class) (xs ys : List ℕ) → IsTrue (are_in class (xs ++ ys)) → IsTrue (are_in class xs)
all_parts class xs ys h = (both_true (are_in class xs) (are_in class ys) (sym (list_all-append (is_in class) xs ys) ∙ h)).0

-- the value of fewer than four digits
pub value_below : (ds : List ℕ) (i : ℕ) → IsTrue (are_in Digit ds) → length ds ≤ 4 → i < length ds → digits_value 10 (take i ds) < 1000
value_below ds i digits short within =
    let P : List ℕ → Type 0 = λ xs. IsTrue (are_in Digit xs) in
    digits_value_short own (take i ds) 3 (all_parts Digit (take i ds) (drop i ds) (subst P (sym (take-append-drop i ds)) digits)) (simp length-take (omega arith))

digit_most : (b : ℕ) → IsTrue (is_in Digit b) → get_or (b ∷ []) 0 0 ≤ 57
digit_most b h = grind (arith, nat_tests)

-- a digit is at most `9`
pub digit_at : (ds : List ℕ) (i : ℕ) → IsTrue (are_in Digit ds) → i < length ds → get_or ds i 0 ≤ 57
digit_at [] i h within = absurd (omega (arith, within))
digit_at (d ∷ ds) zero h within = digit_most d (both_true (is_in Digit d) (are_in Digit ds) h).0
digit_at (d ∷ ds) (suc i) h within = digit_at ds i (both_true (is_in Digit d) (are_in Digit ds) h).1 (omega arith)

pub digit_between : (b : ℕ) → IsTrue (is_in Digit b) → (48 ≤ b) × (b ≤ 57)
digit_between b h = grind (arith, nat_tests)
