-- Gaps and tokens: how each is spelled, and what may follow it (ECMAScript, 12 Lexical Grammar).
use Rattle.std.specs.Prelude.{◌≡◌, ◌≤◌, ◌⊎◌, ℕ, Bool, true, false, ◌||◌, ◌&&◌, cond, ◌==◌, List, [], ◌∷◌, ◌++◌, length, codes, unsigned_abs}
use Rattle.std.specs.Fmt.{decimal}
use Rattle.std.specs.Str.Parse.{digits_value}
use Rattle.base_text.specs.Scalars.{utf8_len}
use Rattle.base_text.specs.declared.number.TheConstants.{MAX_SAFE_INTEGER}
use Rattle.base_text.specs.declared.text.TheConstants.{TEXT_LIMIT}
use Rattle.js_syntax.specs.declared.token.TokenKind.{TokenKind}
use Rattle.js_syntax.specs.declared.token.TokenKind.TheVariants as kinds
use Rattle.js_syntax.specs.TokenScalars.{Scalars, AreAll, NotNext, is_white_space, is_line_end, is_in_line}
use Rattle.js_syntax.specs.TokenScalars.{is_name_start, is_name_part, is_decimal, is_hexadecimal, runs_on, is_quote}
pub use Rattle.js_syntax.specs.ReservedWords.{is_reserved}
use Rattle.js_syntax.specs.TokenTexts.{Within, Spells}

-- ---- gaps

-- `*/` stands at the front
abbrev pub closes_comment : Scalars → Bool
closes_comment [] = false
closes_comment (c ∷ []) = false
closes_comment (c ∷ (d ∷ cs)) = (c == 42) && (d == 47)

-- `//` or `/*` stands at the front
abbrev pub opens_comment : Scalars → Bool
opens_comment [] = false
opens_comment (c ∷ []) = false
opens_comment (c ∷ (d ∷ cs)) = (c == 47) && ((d == 47) || (d == 42))

-- `*/` doesn't stand in these
abbrev pub HasNoClose : Scalars → Type 0
HasNoClose [] = Unit {0}
HasNoClose (c ∷ cs) = (closes_comment (c ∷ cs) ≡ false) × HasNoClose cs

abbrev pub has_line_end : Scalars → Bool
has_line_end [] = false
has_line_end (c ∷ cs) = is_line_end c || has_line_end cs

-- A gap between tokens, what follows it, and whether a line ends in it (12.2 to 12.4). A comment `//` goes on to
-- the line end, and a comment `/*` to the next `*/`.
pub data Gap : Scalars → Scalars → Bool → Type 0 where
  space : (c : ℕ) (rest : Scalars) → is_white_space c ≡ true → Gap (c ∷ []) rest false
  line_end : (c : ℕ) (rest : Scalars) → is_line_end c ≡ true → Gap (c ∷ []) rest true
  line_comment : (inside rest : Scalars) → AreAll is_in_line inside → NotNext is_in_line rest → Gap (47 ∷ (47 ∷ inside)) rest false
  block_comment : (inside rest : Scalars) → HasNoClose inside → Gap (47 ∷ (42 ∷ (inside ++ 42 ∷ (47 ∷ [])))) rest (has_line_end inside)

-- ---- names, numbers and punctuators

-- a reserved word or a name
abbrev pub name_kind : Scalars → TokenKind
name_kind w = cond (is_reserved w) kinds.Word kinds.Name

-- `x` and a hexadecimal digit, which go on with a `0`
abbrev pub begins_hexadecimal : Scalars → Bool
begins_hexadecimal [] = false
begins_hexadecimal (c ∷ []) = false
begins_hexadecimal (c ∷ (d ∷ cs)) = (c == 120) && is_hexadecimal d

-- A number, its spelling, and what follows its last digit (12.9.3 Numeric Literals): `0`, digits that don't begin
-- with `0`, or `0x` and hexadecimal digits.
pub data Numeral : ℕ → Scalars → Scalars → Type 0 where
  zero_digit : (rest : Scalars) → begins_hexadecimal rest ≡ false → Numeral 0 (48 ∷ []) rest
  digits : (c : ℕ) (cs rest : Scalars) → is_decimal c ≡ true → (c == 48) ≡ false → AreAll is_decimal cs → NotNext is_decimal rest
      → Numeral (digits_value 10 (c ∷ cs)) (c ∷ cs) rest
  hexadecimal : (c : ℕ) (cs rest : Scalars) → is_hexadecimal c ≡ true → AreAll is_hexadecimal cs → NotNext is_hexadecimal rest
      → Numeral (digits_value 16 (c ∷ cs)) (48 ∷ (120 ∷ (c ∷ cs))) rest

-- the greatest number (21.1.2.6 Number.MAX_SAFE_INTEGER)
abbrev pub widest : ℕ
widest = unsigned_abs MAX_SAFE_INTEGER

-- 12.8 Punctuators, those of this language
unfoldable pub punctuators : List Scalars
punctuators =
    codes "===" ∷ codes "!==" ∷ codes "==" ∷ codes "!=" ∷ codes "<=" ∷ codes ">=" ∷ codes "&&" ∷ codes "||" ∷
    codes "++" ∷ codes "--" ∷ codes "+=" ∷ codes "-=" ∷ codes "*=" ∷ codes "/=" ∷ codes "%=" ∷ codes "{" ∷
    codes "}" ∷ codes "(" ∷ codes ")" ∷ codes "[" ∷ codes "]" ∷ codes ";" ∷ codes "," ∷ codes "." ∷
    codes "<" ∷ codes ">" ∷ codes "+" ∷ codes "-" ∷ codes "*" ∷ codes "/" ∷ codes "%" ∷ codes "!" ∷
    codes "?" ∷ codes ":" ∷ codes "=" ∷ []

abbrev pub IsIn : Scalars → List Scalars → Type 0
IsIn x [] = ⊥
IsIn x (y ∷ ys) = (x ≡ y) ⊎ IsIn x ys

-- The text begins with these.
abbrev pub IsFront : Scalars → Scalars → Type 0
IsFront w text = (rest : Scalars) × (text ≡ w ++ rest)

-- a punctuator, and what follows it: there is no comment, and no longer punctuator
pub record IsPunctuator (m rest : Scalars) : Type 0 where
  pub listed : IsIn m punctuators
  pub no_comment : opens_comment (m ++ rest) ≡ false
  pub longest : (x : Scalars) → IsIn x punctuators → IsFront x (m ++ rest) → length x ≤ length m

-- ---- tokens

-- a token's kind and text, its spelling, and what follows it
pub data Word : TokenKind → Scalars → Scalars → Scalars → Type 0 where
  name : (c : ℕ) (cs rest : Scalars) → is_name_start c ≡ true → AreAll is_name_part cs → NotNext is_name_part rest → utf8_len (c ∷ cs) ≤ TEXT_LIMIT
      → Word (name_kind (c ∷ cs)) (c ∷ cs) (c ∷ cs) rest
  number : (n : ℕ) (w rest : Scalars) → Numeral n w rest → n ≤ widest → NotNext runs_on rest → Word kinds.Number (decimal n) w rest
  text : (quote : ℕ) (body value rest : Scalars) → is_quote quote ≡ true → Within quote body (quote ∷ rest) → Spells body [] value → utf8_len value ≤ TEXT_LIMIT
      → Word kinds.Str value (quote ∷ (body ++ quote ∷ [])) rest
  punctuator : (m rest : Scalars) → IsPunctuator m rest → Word kinds.Punct m m rest
