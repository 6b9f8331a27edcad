-- Model of the code of `runs`, `punctuators` and `numbers`; no claim rests on it: `lex` is claimed against the grammar of js_syntax.
use Rattle.std.specs.Prelude.{ℕ, ◌+◌, ◌-◌, ◌*◌, Bool, ◌||◌, cond, ◌==◌, List, [], ◌∷◌, length, take, drop, min, Option, Some, None}
use Rattle.std.specs.Char.{is_digit, digit_value}
use Rattle.js_syntax.specs.TokenScalars.{Scalars, is_line_end}
use Rattle.js_syntax.specs.TokenSpelling.{closes_comment, begins_hexadecimal, widest}

-- what stands before the rest of a text
abbrev pub before : Scalars → Scalars → Scalars
before text rest = take (length text - length rest) text

-- the scalars from the first on that isn't such
unfoldable pub after : (ℕ → Bool) → Scalars → Scalars
after q [] = []
after q (c ∷ cs) = cond (q c) (after q cs) (c ∷ cs)

-- what follows the next `*/`, and whether a line ends before it
unfoldable pub after_block : Bool → Scalars → Option (Bool × Scalars)
after_block line [] = None
after_block line (c ∷ cs) = cond (closes_comment (c ∷ cs)) (Some (line, drop 1 cs)) (after_block (line || is_line_end c) cs)

-- what follows this front, where it stands there
unfoldable pub past_front : Scalars → Scalars → Option Scalars
past_front [] text = Some text
past_front (m ∷ ms) [] = None
past_front (m ∷ ms) (c ∷ cs) = cond (c == m) (past_front ms cs) None

abbrev pub or_else : Option Scalars → Option Scalars → Option Scalars
or_else (Some rest) other = Some rest
or_else None other = other

-- what follows the first of these fronts that stands there
unfoldable pub after_punctuator : List Scalars → Scalars → Option Scalars
after_punctuator [] text = None
after_punctuator (m ∷ ms) text = or_else (past_front m text) (after_punctuator ms text)

-- one more than the greatest number, to which every number over it is cut
abbrev pub too_wide : ℕ
too_wide = widest + 1

-- the number that these digits write behind those of n, and what follows them
unfoldable pub digits_from : ℕ → ℕ → Scalars → ℕ × Scalars
digits_from radix n [] = (n, [])
digits_from radix n (c ∷ cs) = cond (is_digit c radix) (digits_from radix (min (n * radix + digit_value c) too_wide) cs) (n, c ∷ cs)

-- the number that begins with this digit, and what follows it
unfoldable pub numeral : Scalars → ℕ × Scalars
numeral [] = (0, [])
numeral (c ∷ cs) = cond (c == 48) (cond (begins_hexadecimal cs) (digits_from 16 0 (drop 1 cs)) (0, cs)) (digits_from 10 0 (c ∷ cs))
