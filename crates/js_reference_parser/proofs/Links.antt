-- One turn of a chain with a limit, by what its next token is.
use Rattle.std.proofs.Common.{◌≡◌, ℕ, suc, Bool, true, false, cond, [], ◌∷◌, Option, Some, None, Ok, Err, refl, ap, ◌∙◌}
use Rattle.js_syntax.specs.declared.token.Token.{Token}
use Rattle.js_syntax.specs.declared.parse_fault.ParseKind.TheVariants.{TooDeep}
use Rattle.js_syntax.specs.Symbols.{Tokens, next, sees}
use Rattle.js_combinators.specs.Readers.{Reader, and_then, ◌>>=◌, pure, on, deny, chain}
use Rattle.js_combinators.proofs.Loops.{denies, deny_passes}
use Rattle.js_combinators.proofs.Spells.{on_passes}

pub denied : {A : Type 0} (d : Option (Token → Bool)) (r : Reader A) (ts : Tokens) → sees (denies d) (next ts) ≡ true → deny d r ts ≡ Err (TooDeep, ts)
denied None r [] h = absurd cc
denied None r (t ∷ ts) h = absurd cc
denied (Some d) r ts h = ap (λ b. cond b (Err (TooDeep, ts)) (r ts)) h

pub on_taken : {A : Type 0} (q : Token → Bool) (s : Token → Reader A) (r : Reader A) (old new : Tokens) (t : Token) → old ≡ t ∷ new → q t ≡ true → on q s r old ≡ s t new
on_taken q s r old new t e h = ap (λ ts. on q s r ts) e ∙ ap (λ b. cond b (s t new) (r (t ∷ new))) h

pub link_taken : {A : Type 0} (n : ℕ) (d : Option (Token → Bool)) (q : Token → Bool) (step : A → Token → Reader A) (a : A) (old new : Tokens) (t : Token) → sees (denies d) (next old) ≡ false → old ≡ t ∷ new → q t ≡ true → chain (suc n) d q step a old ≡ and_then (step a t new) (chain n d q step)
unfolding chain
link_taken n d q step a old new t free e h = deny_passes d (on q (λ t. step a t >>= chain n d q step) (pure a)) old free ∙ on_taken q (λ t. step a t >>= chain n d q step) (pure a) old new t e h

pub link_ends : {A : Type 0} (n : ℕ) (d : Option (Token → Bool)) (q : Token → Bool) (step : A → Token → Reader A) (a : A) (old : Tokens) → sees (denies d) (next old) ≡ false → sees q (next old) ≡ false → chain (suc n) d q step a old ≡ Ok (a, old)
unfolding chain
link_ends n d q step a old free h = deny_passes d (on q (λ t. step a t >>= chain n d q step) (pure a)) old free ∙ on_passes q (λ t. step a t >>= chain n d q step) (pure a) old h

pub link_denied : {A : Type 0} (n : ℕ) (d : Option (Token → Bool)) (q : Token → Bool) (step : A → Token → Reader A) (a : A) (old : Tokens) → sees (denies d) (next old) ≡ true → chain (suc n) d q step a old ≡ Err (TooDeep, old)
unfolding chain
link_denied n d q step a old h = denied d (on q (λ t. step a t >>= chain n d q step) (pure a)) old h

pub links_end : {A : Type 0} (d : Option (Token → Bool)) (q : Token → Bool) (step : A → Token → Reader A) (a : A) (ts : Tokens) (b : Bool) → sees q (next ts) ≡ b → chain 0 d q step a ts ≡ cond b (Err (TooDeep, ts)) (Ok (a, ts))
unfolding chain
links_end d q step a ts b h = ap (λ b. cond b (Err (TooDeep, ts)) (Ok (a, ts))) h

pub nothing_denied : (o : Option Token) → sees (denies None) o ≡ false
nothing_denied None = refl
nothing_denied (Some t) = refl
