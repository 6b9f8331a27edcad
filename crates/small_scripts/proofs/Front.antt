-- What the tokens of a text are, from whichever place on, told from its end to its front.
use Rattle.std.proofs.Common.{◌≡◌, ℕ, ◌+◌, ◌||◌, Bool, false, [], ◌∷◌, ◌++◌, refl}
use Rattle.base_text.specs.Scalars.{utf8_len}
use Rattle.js_syntax.specs.declared.token.Token.{Token}
use Rattle.js_syntax.specs.declared.token.TokenKind.{TokenKind}
use Rattle.js_syntax.specs.declared.token.TokenKind.TheVariants as kinds
use Rattle.js_syntax.specs.declared.symbol.Symbol.{Symbol}
use Rattle.js_syntax.specs.Symbols.{Tokens, symbol_of}
use Rattle.js_syntax.specs.TokenScalars.{Scalars}
use Rattle.js_syntax.specs.TokenSpelling.{Gap, Word}
use Rattle.js_syntax.specs.Tokens.{AreTokensFrom, end, gap, word, token_at}

-- From each place on the text has tokens of which this holds.
abbrev pub Has : (Tokens → Type 0) → Scalars → Type 0
Has Q text = (at : ℕ) (line : Bool) → (ts : Tokens) × AreTokensFrom at line text ts × Q ts

-- a token of this symbol and text, and what holds of those behind it
pub data Led (x : Symbol) (text : Scalars) (Q : Tokens → Type 0) : Tokens → Type 0 where
  led : (t : Token) (ts : Tokens) → symbol_of t ≡ x → t.text ≡ text → Q ts → Led x text Q (t ∷ ts)

-- a form at the front of the tokens, and what holds of those behind it
abbrev pub Then : (Tokens → Tokens → Type 0) → (Tokens → Type 0) → Tokens → Type 0
Then Form Q ts = (rest : Tokens) × Form ts rest × Q rest

pub at_end : (Q : Tokens → Type 0) → ((at : ℕ) (line : Bool) → Q (token_at at line kinds.End [] [] ∷ [])) → Has Q []
at_end Q h = λ at line. (token_at at line kinds.End [] [] ∷ [], end at line, h at line)

pub past_gap : (Q : Tokens → Type 0) (g rest : Scalars) (breaks : Bool) → Gap g rest breaks → Has Q rest → Has Q (g ++ rest)
past_gap Q g rest breaks is h = λ at line.
    let later = h (at + utf8_len g) (line || breaks) in
    (later.0, gap at line breaks g rest later.0 is later.1, later.2)

-- a token of this kind and text, wherever it stands
abbrev pub token : TokenKind → Scalars → (from to : ℕ) → Bool → Token
token kind value from to line = record { kind = kind; text = value; from = from; to = to; line_before = line }

pub past_word : (Q : Tokens → Type 0) (kind : TokenKind) (x : Symbol) (value w rest : Scalars) → Word kind value w rest
    → ((from to : ℕ) (line : Bool) → symbol_of (token kind value from to line) ≡ x) → Has Q rest → Has (Led x value Q) (w ++ rest)
past_word Q kind x value w rest is symbol h = λ at line.
    let later = h (at + utf8_len w) false in
    let t = token_at at line kind value w in
    (t ∷ later.0, word at line kind value w rest later.0 is later.1, led t later.0 (symbol at (at + utf8_len w) line) refl later.2)

pub as_well : (Q R : Tokens → Type 0) (text : Scalars) → ((ts : Tokens) → Q ts → R ts) → Has Q text → Has R text
as_well Q R text step h = λ at line. let whole = h at line in (whole.0, whole.1, step whole.0 whole.2)
