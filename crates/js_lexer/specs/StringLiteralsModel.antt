-- Model of the code of `string_literals` and `escapes`; no claim rests on it: `lex` is claimed against the grammar of js_syntax.
use Rattle.std.specs.Prelude.{ℕ, zero, suc, ◌-◌, Bool, false, ◌||◌, ◌&&◌, cond, ◌==◌, nat_le, [], ◌∷◌, length, take, drop, Option, Some, None}
use Rattle.js_lexer.specs.declared.string_literals.Taken.{Taken}
use Rattle.js_lexer.specs.declared.string_literals.Taken.TheVariants.{Nothing, Scalar, LineFeed}
use Rattle.js_lexer.specs.declared.string_literals.Next.{Next}
use Rattle.js_lexer.specs.declared.string_literals.Next.TheVariants.{Ends, Breaks, GoesOn}
use Rattle.js_lexer.specs.RunsModel.{digits_from}
use Rattle.js_syntax.specs.TokenScalars.{Scalars, is_line_end, is_decimal, is_surrogate, is_high_surrogate, is_low_surrogate, paired}
use Rattle.js_syntax.specs.TokenTexts.{control}

-- ---- where the text ends

-- a scalar that no backslash takes up
abbrev pub free_step : ℕ → ℕ → Next
free_step quote c = cond (c == quote) Ends (cond ((c == 0xA) || (c == 0xD)) Breaks (GoesOn (cond (c == 92) Scalar Nothing)))

unfoldable pub step : ℕ → Taken → ℕ → Next
step quote Nothing c = free_step quote c
step quote Scalar c = GoesOn (cond (c == 0xD) LineFeed Nothing)
step quote LineFeed c = cond (c == 0xA) (GoesOn Nothing) (free_step quote c)

abbrev pub stepped : Scalars → (Taken → Option Scalars) → Next → Option Scalars
stepped cs later Ends = Some cs
stepped cs later Breaks = None
stepped cs later (GoesOn taken) = later taken

-- what follows the quote that ends the text
unfoldable pub after_text : ℕ → Taken → Scalars → Option Scalars
after_text quote taken [] = None
after_text quote taken (c ∷ cs) = stepped cs (λ t. after_text quote t cs) (step quote taken c)

-- ---- escapes

-- a scalar or none, and what follows
abbrev pub Given : Type 0
Given = Option (Option ℕ × Scalars)

-- a number, and what follows it
abbrev pub Numbered : Type 0
Numbered = Option (ℕ × Scalars)

-- what follows a closing brace
abbrev pub past_brace : ℕ → Scalars → Numbered
past_brace n [] = None
past_brace n (c ∷ cs) = cond (c == 125) (Some (n, cs)) None

abbrev pub braced_of : ℕ → ℕ × Scalars → Numbered
braced_of count p = cond (nat_le 1 count && nat_le count 6) (past_brace p.0 p.1) None

-- one to six digits up to the brace
unfoldable pub braced : Scalars → Numbered
braced cs = braced_of (length cs - length (digits_from 16 0 cs).1) (digits_from 16 0 cs)

abbrev pub whole_run : ℕ × Scalars → Scalars → Numbered
whole_run p rest = cond (length p.1 == 0) (Some (p.0, rest)) None

-- so many digits
unfoldable pub run_of : ℕ → Scalars → Numbered
run_of count cs = cond (nat_le count (length cs)) (whole_run (digits_from 16 0 (take count cs)) (drop count cs)) None

abbrev pub bounded : Numbered → Numbered
bounded None = None
bounded (Some p) = cond (nat_le p.0 0x10FFFF) (Some p) None

abbrev pub begins_brace : Scalars → Bool
begins_brace [] = false
begins_brace (c ∷ cs) = c == 123

-- behind `\u`: the number, and what follows
unfoldable pub unicode : Scalars → Numbered
unicode cs = bounded (cond (begins_brace cs) (braced (drop 1 cs)) (run_of 4 cs))

abbrev pub low_half : ℕ → Numbered → Given
low_half high None = None
low_half high (Some p) = cond (is_low_surrogate p.0) (Some (Some (paired high p.0), p.1)) None

abbrev pub begins_unicode : Scalars → Bool
begins_unicode [] = false
begins_unicode (a ∷ []) = false
begins_unicode (a ∷ (b ∷ cs)) = (a == 92) && (b == 117)

-- the second half of a pair
unfoldable pub second_half : ℕ → Scalars → Given
second_half high cs = cond (begins_unicode cs) (low_half high (unicode (drop 2 cs))) None

abbrev pub unicode_given : Numbered → Given
unicode_given None = None
unicode_given (Some p) = cond (is_surrogate p.0) (cond (is_high_surrogate p.0) (second_half p.0 p.1) None) (Some (Some p.0, p.1))

abbrev pub byte_given : Numbered → Given
byte_given None = None
byte_given (Some p) = Some (Some p.0, p.1)

abbrev pub past_line_feed : Scalars → Scalars
past_line_feed [] = []
past_line_feed (c ∷ cs) = cond (c == 0xA) cs (c ∷ cs)

abbrev pub begins_decimal : Scalars → Bool
begins_decimal [] = false
begins_decimal (c ∷ cs) = is_decimal c

abbrev pub or_own : ℕ → Option ℕ → ℕ
or_own c (Some v) = v
or_own c None = c

-- what a backslash before this gives
unfoldable pub escape : Scalars → Given
escape [] = None
escape (c ∷ cs) =
    cond (c == 120) (byte_given (run_of 2 cs))
    (cond (c == 117) (unicode_given (unicode cs))
    (cond (c == 0xD) (Some (None, past_line_feed cs))
    (cond (is_line_end c) (Some (None, cs))
    (cond (c == 48) (cond (begins_decimal cs) None (Some (Some 0, cs)))
    (cond (is_decimal c) None (Some (Some (or_own c (control c)), cs)))))))

-- ---- the value

-- the value so far, and what is left from an escape on that is none
abbrev pub Decoded : Type 0
Decoded = Scalars × Scalars

abbrev pub with_given : Option ℕ → Decoded → Decoded
with_given None d = d
with_given (Some c) d = (c ∷ d.0, d.1)

abbrev pub escaped_then : Scalars → (Scalars → Decoded) → Given → Decoded
escaped_then here later None = ([], here)
escaped_then here later (Some p) = with_given p.0 (later p.1)

-- the scalar or escape at the front
unfoldable pub one : Scalars → Given
one [] = None
one (c ∷ cs) = cond (c == 92) (escape cs) (Some (Some c, cs))

-- Each step takes a scalar, so the count of scalars is enough.
unfoldable pub decode : ℕ → Scalars → Decoded
decode zero text = ([], text)
decode (suc n) text = escaped_then text (decode n) (one text)
