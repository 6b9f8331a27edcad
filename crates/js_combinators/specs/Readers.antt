-- What a reader answers, and the steps that each is made of.
use Rattle.std.specs.Prelude.{ℕ, zero, suc, Bool, cond, [], ◌∷◌, Option, Some, None, Result, Ok, Err, length}
use Rattle.js_syntax.specs.declared.token.Token.{Token}
use Rattle.js_syntax.specs.declared.symbol.Symbol.{Symbol}
use Rattle.js_syntax.specs.declared.parse_fault.ParseKind.{ParseKind}
use Rattle.js_syntax.specs.declared.parse_fault.ParseKind.TheVariants.{Unexpected, TooDeep}
use Rattle.js_syntax.specs.Symbols.{Tokens, next, is, sees, stops}

-- a value and the tokens after it, or the kind of a fault and the tokens from it on
abbrev pub Outcome : Type 0 → Type 0
Outcome A = Result (A × Tokens) (ParseKind × Tokens)

abbrev pub Reader : Type 0 → Type 0
Reader A = Tokens → Outcome A

abbrev pub and_then : {A B : Type 0} → Outcome A → (A → Reader B) → Outcome B
and_then (Ok p) f = f p.0 p.1
and_then (Err e) f = Err e

infixl 10 ◌>>=◌
abbrev pub ◌>>=◌ : {A B : Type 0} → Reader A → (A → Reader B) → Reader B
r >>= f = λ ts. and_then (r ts) f

abbrev pub pure : {A : Type 0} → A → Reader A
pure a = λ ts. Ok (a, ts)

abbrev pub refuse : {A : Type 0} → ParseKind → Reader A
refuse k = λ ts. Err (k, ts)

-- one of two readers, by the next token, which is not taken
abbrev pub look : {A : Type 0} → (Option Token → Bool) → Reader A → Reader A → Reader A
look q r s = λ ts. cond (q (next ts)) (r ts) (s ts)

-- takes the next token where it is such, and goes on with it; else the other reader
abbrev pub on : {A : Type 0} → (Token → Bool) → (Token → Reader A) → Reader A → Reader A
on q s r [] = r []
on q s r (t ∷ ts) = cond (q t) (s t ts) (r (t ∷ ts))

abbrev pub expect : Symbol → Reader (Unit {0})
expect x = on (is x) (λ t. pure tt) (refuse Unexpected)

-- ---- loops

-- at most so many rounds, up to a token that stops
unfoldable pub rounds : {A : Type 0} → ℕ → (Token → Bool) → (A → Reader A) → A → Reader A
rounds zero stop step a = pure a
rounds (suc n) stop step a = look (stops stop) (pure a) (step a >>= rounds n stop step)

-- Each round takes a token, so the count of tokens is enough.
unfoldable pub repeat : {A : Type 0} → (Token → Bool) → (A → Reader A) → A → Reader A
repeat stop step a = λ ts. rounds (length ts) stop step a ts

-- Such a token isn't taken at the last level.
abbrev pub deny : {A : Type 0} → Option (Token → Bool) → Reader A → Reader A
deny None r = r
deny (Some d) r = look (sees d) (refuse TooDeep) r

-- goes on while such a token comes, at most so many times
unfoldable pub chain : {A : Type 0} → ℕ → Option (Token → Bool) → (Token → Bool) → (A → Token → Reader A) → A → Reader A
chain zero d q step a = look (sees q) (refuse TooDeep) (pure a)
chain (suc n) d q step a = deny d (on q (λ t. step a t >>= chain n d q step) (pure a))

-- ---- limits

-- A form that has a part one level deeper isn't begun at the last level.
unfoldable pub begin : {A : Type 0} → ℕ → (Token → Bool) → (Token → Reader A) → Reader A → Reader A
begin zero q s r = look (sees q) (refuse TooDeep) r
begin (suc left) q s r = on q s r

-- a part past the last level
abbrev pub not_taken : {A : Type 0} → (Token → Bool) → Reader A
not_taken q = look (sees q) (refuse TooDeep) (refuse Unexpected)

-- a part of a form, which may be left out: it isn't taken past the last level
unfoldable pub above : {A : Type 0} → ℕ → (Token → Bool) → Reader A → Reader A
above zero q r = not_taken q
above (suc left) q r = r
