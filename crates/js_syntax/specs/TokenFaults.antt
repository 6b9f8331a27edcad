-- Why a text has no tokens, and which fault is the first.
use Rattle.std.specs.Prelude.{◌≡◌, ◌+◌, ◌<◌, ◌≤◌, ◌⊎◌, ℕ, Bool, true, false, ◌∷◌, ◌++◌}
use Rattle.base_text.specs.Scalars.{utf8_len}
use Rattle.base_text.specs.declared.text.TheConstants.{TEXT_LIMIT}
use Rattle.js_syntax.specs.declared.token.TokenKind.{TokenKind}
use Rattle.js_syntax.specs.declared.token_fault.LexKind.{LexKind}
use Rattle.js_syntax.specs.declared.token_fault.LexKind.TheVariants.{BadScalar, UnclosedText, UnclosedComment, WideNumber, TooLong}
use Rattle.js_syntax.specs.TokenScalars.{Scalars, AreAll, NotNext, is_white_space, is_line_end, is_name_start, is_name_part, is_decimal, runs_on, is_quote}
use Rattle.js_syntax.specs.TokenTexts.{Within, IsCut, Spells, IsBadEscape}
use Rattle.js_syntax.specs.TokenSpelling.{opens_comment, HasNoClose, Numeral, widest, punctuators, IsIn, IsFront, Gap, Word}

-- A fault at the front of a text: how many bytes on, and its kind. Several may stand there.
pub data FrontFault : Scalars → ℕ → LexKind → Type 0 where
  unclosed_comment : (inside : Scalars) → HasNoClose inside → FrontFault (47 ∷ (42 ∷ inside)) 0 UnclosedComment
  long_name : (c : ℕ) (cs rest : Scalars) → is_name_start c ≡ true → AreAll is_name_part cs → NotNext is_name_part rest → TEXT_LIMIT < utf8_len (c ∷ cs)
      → FrontFault ((c ∷ cs) ++ rest) 0 TooLong
  wide_number : (n : ℕ) (w rest : Scalars) → Numeral n w rest → widest < n → FrontFault (w ++ rest) 0 WideNumber
  number_runs_on : (n d : ℕ) (w rest : Scalars) → Numeral n w (d ∷ rest) → runs_on d ≡ true → FrontFault (w ++ d ∷ rest) (utf8_len w) BadScalar
  unclosed_text : (quote : ℕ) (body rest : Scalars) → is_quote quote ≡ true → Within quote body rest → IsCut rest
      → FrontFault (quote ∷ (body ++ rest)) 0 UnclosedText
  -- The value is too long already before an escape that is none.
  long_text : (quote : ℕ) (read left value rest : Scalars) → is_quote quote ≡ true → Within quote (read ++ left) (quote ∷ rest) → Spells read left value
      → TEXT_LIMIT < utf8_len value → FrontFault (quote ∷ ((read ++ left) ++ quote ∷ rest)) 0 TooLong
  bad_escape : (quote : ℕ) (read left value rest : Scalars) → is_quote quote ≡ true → Within quote (read ++ left) (quote ∷ rest) → Spells read left value
      → IsBadEscape left → FrontFault (quote ∷ ((read ++ left) ++ quote ∷ rest)) (utf8_len (quote ∷ read)) BadScalar
  -- Nothing begins with this scalar.
  bad_scalar : (c : ℕ) (cs : Scalars) → is_white_space c ≡ false → is_line_end c ≡ false → is_name_start c ≡ false → is_decimal c ≡ false → is_quote c ≡ false
      → opens_comment (c ∷ cs) ≡ false → ((m : Scalars) → IsIn m punctuators → IsFront m (c ∷ cs) → ⊥) → FrontFault (c ∷ cs) 0 BadScalar

-- the order of the kinds at one place
abbrev pub rank : LexKind → ℕ
rank BadScalar = 0
rank UnclosedText = 1
rank UnclosedComment = 2
rank WideNumber = 3
rank TooLong = 4

-- The one fault stands before the other, or is as early and its kind doesn't come after the other's.
abbrev pub IsNotAfter : ℕ → LexKind → ℕ → LexKind → Type 0
IsNotAfter at kind other_at other_kind = (at < other_at) ⊎ ((at ≡ other_at) × (rank kind ≤ rank other_kind))

-- the first of the faults at the front
pub record IsFirstFrontFault (text : Scalars) (on : ℕ) (kind : LexKind) : Type 0 where
  pub stands : FrontFault text on kind
  pub first : (other_on : ℕ) (other_kind : LexKind) → FrontFault text other_on other_kind → IsNotAfter on kind other_on other_kind

-- The first fault of a text that begins at this place: gaps and tokens stand before it.
pub data IsFaultFrom : ℕ → Scalars → ℕ → LexKind → Type 0 where
  here : (at on : ℕ) (kind : LexKind) (text : Scalars) → IsFirstFrontFault text on kind → IsFaultFrom at text (at + on) kind
  after_gap : (at place : ℕ) (kind : LexKind) (breaks : Bool) (g rest : Scalars) → Gap g rest breaks → IsFaultFrom (at + utf8_len g) rest place kind
      → IsFaultFrom at (g ++ rest) place kind
  after_word : (at place : ℕ) (kind : LexKind) (token_kind : TokenKind) (value w rest : Scalars) → Word token_kind value w rest
      → IsFaultFrom (at + utf8_len w) rest place kind → IsFaultFrom at (w ++ rest) place kind

-- the first fault of a whole text, its place in bytes
abbrev pub IsFault : Scalars → ℕ → LexKind → Type 0
IsFault text at kind = IsFaultFrom 0 text at kind
