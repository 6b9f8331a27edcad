-- Model of the code of `token_at_front` and `tokens`; no claim rests on it: `lex` is claimed against the grammar of js_syntax.
use Rattle.std.specs.Prelude.{ℕ, zero, suc, ◌+◌, Bool, true, false, ◌||◌, ◌&&◌, cond, ◌==◌, nat_lt, List, [], ◌∷◌, length, Option, Some, None, Result, Ok, Err}
use Rattle.std.specs.Fmt.{decimal}
use Rattle.base_text.specs.Scalars.{utf8_len}
use Rattle.base_text.specs.declared.text.TheConstants.{TEXT_LIMIT}
use Rattle.js_syntax.specs.declared.token.Token.{Token}
use Rattle.js_syntax.specs.declared.token.TokenKind.{TokenKind}
use Rattle.js_syntax.specs.declared.token.TokenKind.TheVariants as kinds
use Rattle.js_syntax.specs.declared.token_fault.LexKind.{LexKind}
use Rattle.js_syntax.specs.declared.token_fault.LexKind.TheVariants.{BadScalar, UnclosedText, UnclosedComment, WideNumber, TooLong}
use Rattle.js_syntax.specs.TokenScalars.{Scalars, is_white_space, is_line_end, is_in_line, is_name_start, is_name_part, is_decimal, runs_on, is_quote}
use Rattle.js_syntax.specs.TokenSpelling.{name_kind, punctuators, widest}
use Rattle.js_syntax.specs.Tokens.{token_at}
use Rattle.js_lexer.specs.declared.string_literals.Taken.TheVariants.{Nothing}
use Rattle.js_lexer.specs.RunsModel.{before, after, after_block, after_punctuator, numeral}
use Rattle.js_lexer.specs.StringLiteralsModel.{after_text, decode}

-- what stands at the front of a text, and what follows it; a fault is so many bytes on
pub data AtFront : Type 0 where
  no_more : AtFront
  gap_of : Bool → Scalars → AtFront
  token_of : TokenKind → Scalars → Scalars → AtFront
  fault_of : ℕ → LexKind → AtFront

unfoldable pub named : Scalars → Scalars → AtFront
named text rest = cond (nat_lt TEXT_LIMIT (utf8_len (before text rest))) (fault_of 0 TooLong) (token_of (name_kind (before text rest)) (before text rest) rest)

abbrev pub rest_runs_on : Scalars → Bool
rest_runs_on [] = false
rest_runs_on (c ∷ cs) = runs_on c

unfoldable pub numbered : Scalars → ℕ × Scalars → AtFront
numbered text p = cond (nat_lt widest p.0) (fault_of 0 WideNumber)
    (cond (rest_runs_on p.1) (fault_of (utf8_len (before text p.1)) BadScalar) (token_of kinds.Number (decimal p.0) p.1))

abbrev pub decoded : ℕ → Scalars → Scalars → Scalars → Scalars → AtFront
decoded quote body rest value [] = cond (nat_lt TEXT_LIMIT (utf8_len value)) (fault_of 0 TooLong) (token_of kinds.Str value rest)
decoded quote body rest value (c ∷ cs) = cond (nat_lt TEXT_LIMIT (utf8_len value)) (fault_of 0 TooLong)
    (fault_of (utf8_len (quote ∷ before body (c ∷ cs))) BadScalar)

unfoldable pub body_decoded : ℕ → Scalars → Scalars → AtFront
body_decoded quote body rest = decoded quote body rest (decode (length body) body).0 (decode (length body) body).1

unfoldable pub quoted : ℕ → Scalars → Option Scalars → AtFront
quoted quote cs None = fault_of 0 UnclosedText
quoted quote cs (Some rest) = body_decoded quote (before cs (quote ∷ rest)) rest

abbrev pub commented : Option (Bool × Scalars) → AtFront
commented None = fault_of 0 UnclosedComment
commented (Some p) = gap_of p.0 p.1

abbrev pub punctuated : Scalars → Option Scalars → AtFront
punctuated text None = fault_of 0 BadScalar
punctuated text (Some rest) = token_of kinds.Punct (before text rest) rest

unfoldable pub comment_or_punctuator : Scalars → AtFront
comment_or_punctuator [] = no_more
comment_or_punctuator (c ∷ []) = punctuated (c ∷ []) (after_punctuator punctuators (c ∷ []))
comment_or_punctuator (c ∷ (d ∷ cs)) =
    cond ((c == 47) && (d == 47)) (gap_of false (after is_in_line cs))
    (cond ((c == 47) && (d == 42)) (commented (after_block false cs))
    (punctuated (c ∷ (d ∷ cs)) (after_punctuator punctuators (c ∷ (d ∷ cs)))))

unfoldable pub at_front : Scalars → AtFront
at_front [] = no_more
at_front (c ∷ cs) =
    cond (is_white_space c) (gap_of false cs)
    (cond (is_line_end c) (gap_of true cs)
    (cond (is_name_start c) (named (c ∷ cs) (after is_name_part cs))
    (cond (is_decimal c) (numbered (c ∷ cs) (numeral (c ∷ cs)))
    (cond (is_quote c) (quoted c cs (after_text c Nothing cs))
    (comment_or_punctuator (c ∷ cs))))))

-- ---- whole texts

abbrev pub Read : Type 0
Read = Result (List Token) (ℕ × LexKind)

abbrev pub with_token : Token → Read → Read
with_token t (Ok ts) = Ok (t ∷ ts)
with_token t (Err e) = Err e

abbrev pub go_on : ℕ → Bool → Scalars → (ℕ → Bool → Scalars → Read) → AtFront → Read
go_on at line text later no_more = Ok (token_at at line kinds.End [] [] ∷ [])
go_on at line text later (gap_of breaks rest) = later (at + utf8_len (before text rest)) (line || breaks) rest
go_on at line text later (token_of kind value rest) =
    with_token (token_at at line kind value (before text rest)) (later (at + utf8_len (before text rest)) false rest)
go_on at line text later (fault_of on kind) = Err (at + on, kind)

-- Each gap and token takes a scalar, so the count of scalars is enough.
unfoldable pub read_from : ℕ → ℕ → Bool → Scalars → Read
read_from zero at line text = Ok (token_at at line kinds.End [] [] ∷ [])
read_from (suc n) at line text = go_on at line text (read_from n) (at_front text)
