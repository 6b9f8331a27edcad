-- What a token is to the grammar of scripts, by its kind and its text.
use Rattle.std.specs.Prelude.{◌≡◌, ◌==◌, ◌+◌, ◌-◌, ◌*◌, ℕ, zero, suc, Bool, true, false, ◌||◌, ◌&&◌}
use Rattle.std.specs.Prelude.{not, cond, List, [], ◌∷◌, Option, Some, None, codes, nat_lt, encode_utf8_all, if◌then◌else◌}
use Rattle.std.specs.Str.{bytes_eq}
use Rattle.js_syntax.specs.TokenScalars.{is_name_start, is_name_part}
pub use Rattle.js_syntax.specs.ReservedWords.{word_of}
pub use Rattle.js_syntax.specs.SymbolNumbers.{number}
use Rattle.js_syntax.specs.TokenSpelling.{widest}
use Rattle.js_syntax.specs.declared.token.Token.{Token}
use Rattle.js_syntax.specs.declared.token.TokenKind.{TokenKind}
use Rattle.js_syntax.specs.declared.token.TokenKind.TheVariants as kind
use Rattle.js_syntax.specs.declared.symbol.Symbol.{Symbol}
use Rattle.js_syntax.specs.declared.symbol.Symbol.TheVariants as s

-- a punctuator by its bytes (ECMAScript, 12.8)
unfoldable pub punctuator_of : List ℕ → Symbol
punctuator_of m =
    if bytes_eq m (codes "===") then s.Same else (
    if bytes_eq m (codes "!==") then s.NotSame else (
    if bytes_eq m (codes "==") then s.Equal else (
    if bytes_eq m (codes "!=") then s.NotEqual else (
    if bytes_eq m (codes "<=") then s.AtMost else (
    if bytes_eq m (codes ">=") then s.AtLeast else (
    if bytes_eq m (codes "&&") then s.And else (
    if bytes_eq m (codes "||") then s.Or else (
    if bytes_eq m (codes "++") then s.Increment else (
    if bytes_eq m (codes "--") then s.Decrement else (
    if bytes_eq m (codes "+=") then s.AddBy else (
    if bytes_eq m (codes "-=") then s.SubtractBy else (
    if bytes_eq m (codes "*=") then s.MultiplyBy else (
    if bytes_eq m (codes "/=") then s.DivideBy else (
    if bytes_eq m (codes "%=") then s.RemainBy else (
    if bytes_eq m (codes "{") then s.OpenBrace else (
    if bytes_eq m (codes "}") then s.CloseBrace else (
    if bytes_eq m (codes "(") then s.OpenParen else (
    if bytes_eq m (codes ")") then s.CloseParen else (
    if bytes_eq m (codes "[") then s.OpenBracket else (
    if bytes_eq m (codes "]") then s.CloseBracket else (
    if bytes_eq m (codes ";") then s.Semicolon else (
    if bytes_eq m (codes ",") then s.Comma else (
    if bytes_eq m (codes ".") then s.Dot else (
    if bytes_eq m (codes "<") then s.Less else (
    if bytes_eq m (codes ">") then s.Greater else (
    if bytes_eq m (codes "+") then s.Plus else (
    if bytes_eq m (codes "-") then s.Minus else (
    if bytes_eq m (codes "*") then s.Star else (
    if bytes_eq m (codes "/") then s.Slash else (
    if bytes_eq m (codes "%") then s.Percent else (
    if bytes_eq m (codes "!") then s.Not else (
    if bytes_eq m (codes "?") then s.Question else (
    if bytes_eq m (codes ":") then s.Colon else (
    if bytes_eq m (codes "=") then s.Assign else (
    s.Other)))))))))))))))))))))))))))))))))))

abbrev pub all_continue : List ℕ → Bool
all_continue [] = true
all_continue (c ∷ cs) = is_name_part c && all_continue cs

-- a name's first scalar and its others (ECMAScript, 12.7)
abbrev pub is_spelled : List ℕ → Bool
is_spelled [] = false
is_spelled (c ∷ cs) = is_name_start c && all_continue cs

-- the symbol of a name by its scalars and the symbol of their bytes as a word: reserved words are no names
abbrev pub name_symbol : Symbol → List ℕ → Symbol
name_symbol s.Other bytes = if bytes_eq bytes (codes "get") then s.Get else (if bytes_eq bytes (codes "set") then s.Set else s.Name)
name_symbol w bytes = s.Other

abbrev pub name_of : List ℕ → Symbol
name_of text = if is_spelled text then name_symbol (word_of (encode_utf8_all text)) (encode_utf8_all text) else s.Other

-- an ASCII digit
abbrev pub is_digit_byte : ℕ → Bool
is_digit_byte b = not (nat_lt b 48) && nat_lt b 58

-- the number that digits go on to; none where it gets too wide or one is no digit
unfoldable pub number_from : ℕ → List ℕ → Option ℕ
number_from n [] = Some n
number_from n (b ∷ bs) = if is_digit_byte b && not (nat_lt widest (10 * n + (b - 48))) then number_from (10 * n + (b - 48)) bs else None

-- the number that bytes are, if they are decimal digits without a leading zero:, from 0 to the greatest
abbrev pub number_of : List ℕ → Option ℕ
number_of [] = None
number_of (b ∷ []) = number_from 0 (b ∷ [])
number_of (b ∷ (c ∷ bs)) = if b == 48 then None else number_from 0 (b ∷ (c ∷ bs))

abbrev pub number_symbol : Option ℕ → Symbol
number_symbol None = s.Other
number_symbol (Some n) = s.Number

-- what a token is to the grammar; one whose text isn't a spelling of its kind is no symbol of it
unfoldable pub symbol_of : Token → Symbol
symbol_of t = elim (t.kind) [
  | kind.Name ↦ name_of t.text
  | kind.Word ↦ word_of (encode_utf8_all t.text)
  | kind.Number ↦ number_symbol (number_of (encode_utf8_all t.text))
  | kind.Str ↦ s.Str
  | kind.Punct ↦ punctuator_of (encode_utf8_all t.text)
  | kind.End ↦ s.End
]

-- ---- tokens in order

abbrev pub Tokens : Type 0
Tokens = List Token

abbrev pub next : Tokens → Option Token
next [] = None
next (t ∷ ts) = Some t

abbrev pub is : Symbol → Token → Bool
is x t = number (symbol_of t) == number x

-- the token is one of these symbols
abbrev pub among : List Symbol → Token → Bool
among [] t = false
among (x ∷ []) t = is x t
among (x ∷ (y ∷ ys)) t = is x t || among (y ∷ ys) t

-- there is a next token, and it is such
abbrev pub sees : (Token → Bool) → Option Token → Bool
sees q None = false
sees q (Some t) = q t

-- the next token is such, or there is none
abbrev pub stops : (Token → Bool) → Option Token → Bool
stops q None = true
stops q (Some t) = q t
