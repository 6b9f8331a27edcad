-- What the decoded body of a text is as a token.
use Rattle.std.proofs.Common.{◌≡◌, ℕ, suc, ◌<◌, Bool, true, false, ◌==◌, List, [], ◌∷◌, length, Result, Ok, Err, refl, sym, ap, ◌∙◌, arith}
use Rattle.std.specs.Prelude.{nat_lt, encode_utf8_all}
use Rattle.std.proofs.lemmas.Bool.Decides.{nat_tests}
use Rattle.std.proofs.lemmas.Str.{encodes_same}
use Rattle.base_text.specs.Scalars.{utf8_len}
use Rattle.base_text.specs.declared.text.TheConstants.{TEXT_LIMIT}
use Rattle.js_syntax.specs.declared.token.TokenKind.TheVariants as kinds
use Rattle.js_syntax.specs.declared.token_fault.LexKind.TheVariants.{TooLong}
use Rattle.js_syntax.specs.TokenScalars.{Scalars}
use Rattle.js_lexer.specs.StringLiteralsModel.{decode}
use Rattle.js_lexer.specs.TokenAtFrontModel.{token_of, fault_of, decoded, body_decoded}
use Rattle.js_lexer.specs.AnswersModel.{IsDecoded}
use Rattle.js_lexer.proofs.Cases.{test_lt, when_false}

over_cases : (a b : ℕ) (t : Bool) → nat_lt a b ≡ t → (a < b → ⊥) → t ≡ false
over_cases a b true e h = absurd (h (test_lt a b e))
over_cases a b false e h = refl

not_zero : (n : ℕ) → (suc n == 0) ≡ true → ⊥
not_zero n h = let e : suc n ≡ 0 = grind (arith, nat_tests) in omega arith

test_over : (a b : ℕ) → (a < b → ⊥) → nat_lt a b ≡ false
test_over a b h = over_cases a b (nat_lt a b) refl h

decoded_word : (quote : ℕ) (body rest value text left : Scalars) → value ≡ text → (length left == 0) ≡ true → nat_lt TEXT_LIMIT (utf8_len value) ≡ false
    → decoded quote body rest value left ≡ token_of kinds.Str text rest
decoded_word quote body rest value text [] e none short =
    when_false (nat_lt TEXT_LIMIT (utf8_len value)) (fault_of 0 TooLong) (token_of kinds.Str value rest) (token_of kinds.Str text rest) short (ap (λ (v : Scalars). token_of kinds.Str v rest) e)
decoded_word quote body rest value text (c ∷ cs) e none short = absurd (not_zero (length cs) none)

same_len : (value : Scalars) (bytes : List ℕ) → encode_utf8_all value ≡ bytes → utf8_len value ≡ length bytes
same_len value bytes e = ap length e

pub body_word : (quote : ℕ) (body rest text left : Scalars) (bytes : List ℕ) → IsDecoded (decode (length body) body) bytes left → encode_utf8_all text ≡ bytes → (length left == 0) ≡ true
    → (TEXT_LIMIT < length bytes → ⊥) → body_decoded quote body rest ≡ token_of kinds.Str text rest
unfolding body_decoded
body_word quote body rest text left bytes k e none short =
    let d = decode (length body) body in
    decoded_word quote body rest d.0 text d.1 (encodes_same d.0 text (k.0 ∙ sym e)) (ap (λ (x : Scalars). length x == 0) k.1 ∙ none)
    (ap (λ (n : ℕ). nat_lt TEXT_LIMIT n) (same_len d.0 bytes k.0) ∙ test_over TEXT_LIMIT (length bytes) short)

-- the limit, by the clause of the call that made the text
pub not_long : {T E : Type 0} (r : Result T E) (t : T) (e : E) (n m : ℕ) → r ≡ Ok t → (n < m → r ≡ Err e) → n < m → ⊥
not_long r t e n m is h k = let f = h k in absurd cc
