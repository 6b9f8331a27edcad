-- How a text that spells a number is read on by one scalar.
use Rattle.std.proofs.Common.{◌≡◌, ◌≢◌, ℕ, zero, suc, ◌+◌, ◌-◌, ◌*◌, ◌^◌, ◌<◌, ◌≤◌, Bool, true, false, cond, ◌==◌, List, [], ◌∷◌, ◌++◌, append-nil, Some, None, Err, ℤ, refl, sym, ap, ◌∙◌, arith}
use Rattle.std.specs.Char.{is_ascii_digit}
use Rattle.std.specs.List.{list_all}
use Rattle.std.proofs.lemmas.Bool.Decides.{nat_tests}
use Rattle.js_ops.specs.Numbers.{Answer, number}
use Rattle.js_ops.specs.Numerals.{after_while, digits_between, digits_spelled, front_while, is_blank, number_spelled, signed, value_after}
use Rattle.js_ops.specs.Operators.{spelled}
use Rattle.js_ops.specs.Reading.{answer_from}
use Rattle.js_ops.specs.declared.fault.OpFault.TheVariants.{Range}
use Rattle.js_ops.specs.declared.numeral.Reading.{Reading}
use Rattle.js_ops.specs.declared.numeral.Reading.TheVariants.{Start, Minus, Digits, End, Lost}

-- more digits make no smaller number
value_after-le : (n : ℕ) (ds : List ℕ) → n ≤ value_after n ds
value_after-le n [] = omega arith
value_after-le n (d ∷ ds) = omega (arith, value_after-le (10 * n + (d - 48)) ds)

-- what is over 2^53 - 1 is no number
number-signed : (minus : Bool) (n : ℕ) → 2 ^ 53 - 1 < n → number (signed minus n) ≡ Err Range
number-signed true zero over = grind (arith, nat_tests)
number-signed true (suc n) over = grind (arith, nat_tests)
number-signed false n over = grind (arith, nat_tests)

-- no digit more makes it one
pub too_great : (minus : Bool) (n : ℕ) (t : List ℕ) → 2 ^ 53 - 1 < n → answer_from (Digits minus n) t ≡ Err Range
too_great minus n t over =
    let most = value_after-le n (front_while is_ascii_digit t) in
    rw (number-signed minus (value_after n (front_while is_ascii_digit t)) (omega arith))
    (both (list_all is_blank (after_while is_ascii_digit t)))
  where
    both : (b : Bool) → ◌≡◌ {A = Answer} (cond b (Err Range) (Err Range)) (Err Range)
    both true = refl
    both false = refl

-- a digit is read
pub digit_read : (minus : Bool) (n m c : ℕ) (rest : List ℕ) → is_ascii_digit c ≡ true → m ≡ 10 * n + (c - 48) → answer_from (Digits minus m) rest ≡ cond (is_ascii_digit c) (answer_from (Digits minus n) (c ∷ rest)) (Err Range)
digit_read minus n m c rest digit same = rw (same, digit)

-- a digit is read that leads beyond
pub digit_beyond : (minus : Bool) (n c : ℕ) (rest : List ℕ) → is_ascii_digit c ≡ true → 2 ^ 64 ≤ 10 * n + (c - 48) → ◌≡◌ {A = Answer} (Err Range) (cond (is_ascii_digit c) (answer_from (Digits minus n) (c ∷ rest)) (Err Range))
digit_beyond minus n c rest digit over =
    sym (too_great minus (10 * n + (c - 48)) rest (omega arith)) ∙ digit_read minus n (10 * n + (c - 48)) c rest digit refl

-- the first digit is read, after a `-` or not
pub first_read : (minus : Bool) (c : ℕ) (rest : List ℕ) → cond (is_ascii_digit c) (answer_from (Digits minus 0) (c ∷ rest)) (Err Range) ≡ spelled (digits_spelled minus (c ∷ rest))
first_read minus c rest = by_digit (is_ascii_digit c)
  where
    blank_after : (blank : Bool) (n : ℤ) → cond blank (number n) (Err Range) ≡ spelled (cond blank (Some n) None)
    blank_after true n = refl
    blank_after false n = refl

    by_digit : (digit : Bool) → cond digit (cond (list_all is_blank (cond digit (after_while is_ascii_digit rest) (c ∷ rest))) (number (signed minus (value_after 0 (cond digit (c ∷ front_while is_ascii_digit rest) [])))) (Err Range)) (Err Range)
        ≡ spelled (digits_between minus (cond digit (c ∷ front_while is_ascii_digit rest) []) (cond digit (after_while is_ascii_digit rest) (c ∷ rest)))
    by_digit true = blank_after (list_all is_blank (after_while is_ascii_digit rest)) (signed minus (value_after 0 (c ∷ front_while is_ascii_digit rest)))
    by_digit false = refl

-- a scalar is read at the start that is no white space and no `-`
pub start_read : (c : ℕ) (rest : List ℕ) → is_blank c ≡ false → c ≢ 45 → spelled (digits_spelled false (c ∷ rest)) ≡ spelled (number_spelled (c ∷ rest))
start_read c rest word other =
    let no_minus : (c == 45) ≡ false = grind (arith, nat_tests) in
    rw (word, no_minus)

-- what was read of a whole text comes to what the text spells
pub whole_read : (r : Reading) (read text : List ℕ) → ((rest : List ℕ) → answer_from r rest ≡ answer_from Start (read ++ rest)) → read ≡ text → answer_from r [] ≡ spelled (number_spelled text)
whole_read r read text told same = told [] ∙ ap (answer_from Start) (append-nil read ∙ same)

-- a text that was read to no digit spells nothing
pub unread : (r : Reading) → ((minus : Bool) (n : ℕ) → r ≡ Digits minus n → ⊥) → ((minus : Bool) (n : ℕ) → r ≡ End minus n → ⊥) → ◌≡◌ {A = Answer} (Err Range) (answer_from r [])
unread Start no_digits no_end = refl
unread Minus no_digits no_end = refl
unread (Digits minus n) no_digits no_end = absurd (no_digits minus n refl)
unread (End minus n) no_digits no_end = absurd (no_end minus n refl)
unread Lost no_digits no_end = refl
