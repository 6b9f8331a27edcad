-- The grammar of the texts that spell a number (ECMAScript 7.1.4.1, StringNumericLiteral). This project's own: a
-- StrNumericLiteral is `-` or nothing and decimal digits, and the empty text is none.
use Rattle.std.specs.Prelude.{◌≡◌, ℕ, ◌<◌, Bool, true, if◌then◌else◌, List, [], ◌∷◌, ◌++◌, length, ℤ}
use Rattle.std.specs.Char.{is_ascii_digit}
use Rattle.std.specs.List.{list_all}
use Rattle.js_ops.specs.Numerals.{is_blank, signed, value_after}

-- `-`, or nothing
abbrev pub sign : Bool → List ℕ
sign minus = if minus then 45 ∷ [] else []

-- the text is white space, a sign, one or more digits and white space, and this is the number of the digits
pub record Spells (t : List ℕ) (n : ℤ) : Type 0 where
  pub before : List ℕ
  pub minus : Bool
  pub digits : List ℕ
  pub after : List ℕ
  pub parts : t ≡ before ++ (sign minus ++ (digits ++ after))
  pub blank_before : list_all is_blank before ≡ true
  pub some_digits : 0 < length digits
  pub all_digits : list_all is_ascii_digit digits ≡ true
  pub blank_after : list_all is_blank after ≡ true
  pub value : n ≡ signed minus (value_after 0 digits)
