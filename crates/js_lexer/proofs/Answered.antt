-- The clauses of `lex`, from what is read.
use Rattle.std.proofs.Common.{◌≡◌, ℕ, false, List, [], length, Result, Ok, Err, IfOk, sym, ap, subst, ◌∙◌}
use Rattle.std.specs.Str.{chars, IsUtf8}
use Rattle.std.proofs.lemmas.Str.{encodes-chars}
use Rattle.base_text.specs.Scalars.{utf8_len}
use Rattle.base_text.specs.declared.memory.OrMemory.{OrMemory}
use Rattle.base_text.specs.declared.memory.OrMemory.TheVariants as memory
use Rattle.js_syntax.specs.declared.token.Token.{Token}
use Rattle.js_syntax.specs.declared.token_fault.LexFault.{LexFault}
use Rattle.js_syntax.specs.declared.token_fault.LexKind.{LexKind}
use Rattle.js_syntax.specs.TokenScalars.{Scalars}
use Rattle.js_syntax.specs.Tokens.{AreTokens}
use Rattle.js_syntax.specs.TokenFaults.{IsFault}
use Rattle.base_text.specs.Answers.{IfFault, OkOrMemory, FaultOrMemory}
use Rattle.js_lexer.specs.AnswersModel.{Tells}
use Rattle.js_lexer.specs.TokenAtFrontModel.{Read, read_from}
use Rattle.js_lexer.proofs.Cases.{le_refl}
use Rattle.js_lexer.proofs.Whole.{ReadIs, read_is, read_again, fault_again}

abbrev pub Answer : Type 0
Answer = Result (List Token) (OrMemory LexFault)

abbrev pub whole_read : Scalars → Read
whole_read text = read_from (length text) 0 false text

pub bytes_of : (bs : List ℕ) → IsUtf8 bs → utf8_len (chars bs) ≡ length bs
bytes_of bs u = ap length (encodes-chars bs u)

pub ok_answer : (text : Scalars) (r : Answer) → Tells (whole_read text) r → IfOk r (λ tokens. AreTokens text tokens)
ok_answer text (Ok ts) k = let P : Read → Type 0 = λ x. ReadIs 0 false text x in subst P k (read_is (length text) 0 false text (le_refl (length text)))
ok_answer text (Err e) k = tt

pub fault_answer : (text : Scalars) (r : Answer) → Tells (whole_read text) r → IfFault r (λ f. IsFault text f.at f.kind)
fault_answer text (Ok ts) k = tt
fault_answer text (Err (memory.Fault f)) k = let P : Read → Type 0 = λ x. ReadIs 0 false text x in subst P k (read_is (length text) 0 false text (le_refl (length text)))
fault_answer text (Err memory.NoMemory) k = tt

tokens_of : Read → List Token
tokens_of (Ok ts) = ts
tokens_of (Err e) = []

place_of : Read → ℕ
place_of (Ok ts) = 0
place_of (Err e) = e.0

kind_of : LexKind → Read → LexKind
kind_of k (Ok ts) = k
kind_of k (Err e) = e.1

pub both_tokens : (r : Read) (ts us : List Token) → r ≡ Ok ts → r ≡ Ok us → ts ≡ us
unfolding tokens_of
both_tokens r ts us e f = ap tokens_of (sym e ∙ f)

pub both_places : (r : Read) (at place : ℕ) (kind k : LexKind) → r ≡ Err (at, kind) → r ≡ Err (place, k) → (at ≡ place) × (kind ≡ k)
unfolding place_of kind_of
both_places r at place kind k e f = (ap place_of (sym e ∙ f), ap (kind_of k) (sym e ∙ f))

pub never : (r : Read) (ts : List Token) (p : ℕ × LexKind) → r ≡ Ok ts → r ≡ Err p → ⊥
never (Ok us) ts p e f = absurd cc
never (Err q) ts p e f = absurd cc

pub only_answer : (text : Scalars) (r : Answer) (ts : List Token) → Tells (whole_read text) r → AreTokens text ts → OkOrMemory r ts
only_answer text (Ok us) ts k a = both_tokens (whole_read text) us ts k (read_again (length text) 0 false text ts a (le_refl (length text)))
only_answer text (Err (memory.Fault f)) ts k a = never (whole_read text) ts (f.at, f.kind) (read_again (length text) 0 false text ts a (le_refl (length text))) k
only_answer text (Err memory.NoMemory) ts k a = tt

same_fault : (f : LexFault) (at : ℕ) (kind : LexKind) → (f.at ≡ at) × (f.kind ≡ kind) → f ≡ record { at = at; kind = kind }
same_fault f at kind e = ap (λ (place : ℕ). record { at = place; kind = f.kind }) e.0 ∙ ap (λ (k : LexKind). record { at = at; kind = k }) e.1

pub first_answer : (text : Scalars) (r : Answer) (at : ℕ) (kind : LexKind) → Tells (whole_read text) r → IsFault text at kind → FaultOrMemory r (record { at = at; kind = kind })
first_answer text (Ok us) at kind k a = never (whole_read text) us (at, kind) k (fault_again (length text) 0 false text at kind a (le_refl (length text)))
first_answer text (Err (memory.Fault f)) at kind k a = same_fault f at kind (both_places (whole_read text) f.at at f.kind kind k (fault_again (length text) 0 false text at kind a (le_refl (length text))))
first_answer text (Err memory.NoMemory) at kind k a = tt

pub tells_of : (text scalars : Scalars) (r : Answer) → scalars ≡ text → Tells (whole_read scalars) r → Tells (whole_read text) r
tells_of text scalars r e k = subst (λ (t : Scalars). Tells (whole_read t) r) e k
