-- Whole scripts (ECMAScript, 16.1), and the first fault of tokens that are none.
use Rattle.std.specs.Prelude.{◌≡◌, ℕ, true, false, List, [], ◌∷◌, ◌++◌}
use Rattle.js_syntax.specs.declared.token.Token.{Token}
use Rattle.js_syntax.specs.declared.token.TokenKind.TheVariants as kind
use Rattle.js_syntax.specs.declared.symbol.Symbol.TheVariants as s
use Rattle.js_syntax.specs.declared.tree.Script.{Script}
use Rattle.js_syntax.specs.declared.parse_fault.ParseFault.{ParseFault}
use Rattle.js_syntax.specs.declared.parse_fault.ParseKind.{ParseKind}
use Rattle.js_syntax.specs.declared.parse_fault.ParseKind.TheVariants.{Unexpected, TooDeep}
pub use Rattle.js_syntax.specs.declared.limits.TheConstants.{CHAIN_LIMIT, LEVEL_LIMIT}
use Rattle.js_syntax.specs.Symbols.{Tokens, is}
use Rattle.js_syntax.specs.Spelling.{Each}
use Rattle.js_syntax.specs.Words.{closes_body}
use Rattle.js_syntax.specs.Grammar.{parts_within}

-- the tokens are those of the script's statements, and an End; chains and suffixes of so many links, parts of so many levels
unfoldable pub IsScript : ℕ → ℕ → Tokens → Script → Type 0
IsScript chains levels ts script = (t : Token) × (is s.End t ≡ true) × Each closes_body ((parts_within chains levels).stmt false false) script.body ts (t ∷ [])

-- a script begins with these
abbrev pub IsFront : ℕ → ℕ → Tokens → Type 0
IsFront chains levels front = (more : Tokens) × (script : Script) × IsScript chains levels (front ++ more) script

-- .. where nothing is limited
abbrev pub IsAnyFront : Tokens → Type 0
IsAnyFront front = (chains : ℕ) × (levels : ℕ) × IsFront chains levels front

-- It is TooDeep where a script without the limits has the tokens.
abbrev pub IsKind : ParseKind → Tokens → Type 0
IsKind Unexpected front = IsAnyFront front → ⊥
IsKind TooDeep front = IsAnyFront front

-- The fault is at the first token such that no script within the limits has the tokens through it at its front: a script has all those before it.
pub record IsFirstFault (chains levels : ℕ) (ts : Tokens) (fault : ParseFault) : Type 0 where
  pub before : Tokens
  pub here : Token
  pub after : Tokens
  pub split : ts ≡ before ++ here ∷ after
  pub place : fault.at ≡ here.from
  pub viable : IsFront chains levels before
  pub over : IsFront chains levels (before ++ here ∷ []) → ⊥
  pub is_kind : IsKind fault.kind (before ++ here ∷ [])

-- the last token is an End token
abbrev pub EndsWell : Tokens → Type 0
EndsWell [] = ⊥
EndsWell (t ∷ []) = t.kind ≡ kind.End
EndsWell (t ∷ (u ∷ ts)) = EndsWell (u ∷ ts)
