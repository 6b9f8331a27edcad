-- A text is read in one way: it has the tokens, or the fault, that are read of it.
use Rattle.std.proofs.Common.{◌≡◌, ◌⊎◌, ℕ, false, List, length, Ok, Err, inl, inr}
use Rattle.js_syntax.specs.declared.token.Token.{Token}
use Rattle.js_syntax.specs.declared.token_fault.LexKind.{LexKind}
use Rattle.js_syntax.specs.TokenScalars.{Scalars}
use Rattle.js_syntax.specs.Tokens.{AreTokens}
use Rattle.js_syntax.specs.TokenFaults.{IsFault}
use Rattle.js_lexer.specs.TokenAtFrontModel.{Read}
use Rattle.js_lexer.proofs.Cases.{le_refl}
use Rattle.js_lexer.proofs.Whole.{ReadIs, read_is, read_again, fault_again}
use Rattle.js_lexer.proofs.Answered.{whole_read, both_tokens, both_places, never}

tokens_read : (text : Scalars) (ts : List Token) → AreTokens text ts → whole_read text ≡ Ok ts
tokens_read text ts a = read_again (length text) 0 false text ts a (le_refl (length text))

fault_read : (text : Scalars) (at : ℕ) (kind : LexKind) → IsFault text at kind → whole_read text ≡ Err (at, kind)
fault_read text at kind a = fault_again (length text) 0 false text at kind a (le_refl (length text))

abbrev pub TokensOrFault : Scalars → Type 0
TokensOrFault text = ((tokens : List Token) × AreTokens text tokens) ⊎ ((at : ℕ) × (kind : LexKind) × IsFault text at kind)

as_read : (text : Scalars) (r : Read) → ReadIs 0 false text r → TokensOrFault text
as_read text (Ok ts) a = inl (ts, a)
as_read text (Err e) a = inr (e.0, e.1, a)

pub tokens_or_fault : (text : Scalars) → TokensOrFault text
tokens_or_fault text = as_read text (whole_read text) (read_is (length text) 0 false text (le_refl (length text)))

pub one_list : (text : Scalars) (ts us : List Token) → AreTokens text ts → AreTokens text us → ts ≡ us
one_list text ts us a b = both_tokens (whole_read text) ts us (tokens_read text ts a) (tokens_read text us b)

pub not_both : (text : Scalars) (ts : List Token) (at : ℕ) (kind : LexKind) → AreTokens text ts → IsFault text at kind → ⊥
not_both text ts at kind a b = never (whole_read text) ts (at, kind) (tokens_read text ts a) (fault_read text at kind b)

pub one_fault : (text : Scalars) (at place : ℕ) (kind other : LexKind) → IsFault text at kind → IsFault text place other → (at ≡ place) × (kind ≡ other)
one_fault text at place kind other a b = both_places (whole_read text) at place kind other (fault_read text at kind a) (fault_read text place other b)
