-- What a reader that isn't begun at the last level answers, by what its next token is.
use Rattle.std.proofs.Common.{◌≡◌, ◌<◌, ℕ, zero, suc, Bool, true, false, cond, ◌∷◌, Err, ap, ◌∙◌, arith}
use Rattle.js_syntax.specs.declared.token.Token.{Token}
use Rattle.js_syntax.specs.declared.parse_fault.ParseKind.TheVariants.{TooDeep}
use Rattle.js_syntax.specs.Symbols.{Tokens, next, sees}
use Rattle.js_combinators.specs.Readers.{Reader, on, begin}
use Rattle.js_combinators.proofs.Spells.{on_passes}

pub taken : {A : Type 0} (left : ℕ) (q : Token → Bool) (s : Token → Reader A) (r : Reader A) (old new : Tokens) (t : Token) → 0 < left → old ≡ t ∷ new → q t ≡ true → begin left q s r old ≡ s t new
unfolding begin
taken zero q s r old new t some e h = absurd (omega arith)
taken (suc left) q s r old new t some e h = ap (λ ts. on q s r ts) e ∙ ap (λ b. cond b (s t new) (r (t ∷ new))) h

pub passed : {A : Type 0} (left : ℕ) (q : Token → Bool) (s : Token → Reader A) (r : Reader A) (old : Tokens) → sees q (next old) ≡ false → begin left q s r old ≡ r old
unfolding begin
passed zero q s r old h = ap (λ b. cond b (Err (TooDeep, old)) (r old)) h
passed (suc left) q s r old h = on_passes q s r old h

pub refused : {A : Type 0} (left : ℕ) (q : Token → Bool) (s : Token → Reader A) (r : Reader A) (old : Tokens) → left ≡ 0 → sees q (next old) ≡ true → begin left q s r old ≡ Err (TooDeep, old)
unfolding begin
refused zero q s r old none h = ap (λ b. cond b (Err (TooDeep, old)) (r old)) h
refused (suc left) q s r old none h = absurd (omega arith)
