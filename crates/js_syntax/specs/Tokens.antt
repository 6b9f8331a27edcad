-- The tokens of a text: it is a join of gaps and tokens (ECMAScript, 12 Lexical Grammar).
use Rattle.std.specs.Prelude.{◌+◌, ◌||◌, ℕ, Bool, false, List, [], ◌∷◌, ◌++◌}
use Rattle.base_text.specs.Scalars.{utf8_len}
use Rattle.js_syntax.specs.declared.token.Token.{Token}
use Rattle.js_syntax.specs.declared.token.TokenKind.{TokenKind}
use Rattle.js_syntax.specs.declared.token.TokenKind.TheVariants as kinds
use Rattle.js_syntax.specs.TokenScalars.{Scalars}
use Rattle.js_syntax.specs.TokenSpelling.{Gap, Word}

-- a token of this kind and text that is spelled from this place on
abbrev pub token_at : ℕ → Bool → TokenKind → Scalars → Scalars → Token
token_at at line kind value spelled = record { kind = kind; text = value; from = at; to = at + utf8_len spelled; line_before = line }

-- The text from this place on, where a line ended or didn't since the last token, and its tokens. Places count
-- bytes, and the last token is the end.
pub data AreTokensFrom : ℕ → Bool → Scalars → List Token → Type 0 where
  end : (at : ℕ) (line : Bool) → AreTokensFrom at line [] (token_at at line kinds.End [] [] ∷ [])
  gap : (at : ℕ) (line breaks : Bool) (g rest : Scalars) (ts : List Token) → Gap g rest breaks → AreTokensFrom (at + utf8_len g) (line || breaks) rest ts
      → AreTokensFrom at line (g ++ rest) ts
  word : (at : ℕ) (line : Bool) (kind : TokenKind) (value w rest : Scalars) (ts : List Token) → Word kind value w rest
      → AreTokensFrom (at + utf8_len w) false rest ts
      → AreTokensFrom at line (w ++ rest) (token_at at line kind value w ∷ ts)

-- the tokens of a whole text
abbrev pub AreTokens : Scalars → List Token → Type 0
AreTokens text ts = AreTokensFrom 0 false text ts
