-- What every grammar is made of: forms after one another, lists and chains of forms.
-- A spelling of As says of a value and two lists of tokens that the first list has the value at its front, and the second is what stands behind it.
use Rattle.std.specs.Prelude.{◌≡◌, ℕ, suc, Bool, true, false, List, [], ◌∷◌}
use Rattle.js_syntax.specs.declared.token.Token.{Token}
use Rattle.js_syntax.specs.declared.symbol.Symbol.{Symbol}
use Rattle.js_syntax.specs.declared.symbol.Symbol.TheVariants as s
use Rattle.js_syntax.specs.Symbols.{Tokens, next, is, sees, stops}

abbrev pub Spelling : Type 0 → Type 1
Spelling A = A → Tokens → Tokens → Type 0

-- one form, and then another
pub data Both {A B : Type 0} (R : Spelling A) (S : A → Spelling B) : B → Tokens → Tokens → Type 0 where
  both : {a : A} {b : B} {ts mid rest : Tokens} → R a ts mid → S a b mid rest → Both R S b ts rest

-- as many as there are, up to a token that stops
pub data Each {A : Type 0} (stop : Token → Bool) (Item : Spelling A) : List A → Tokens → Tokens → Type 0 where
  none : {ts : Tokens} → stops stop (next ts) ≡ true → Each stop Item [] ts ts
  one : {a : A} {others : List A} {ts mid rest : Tokens} → Item a ts mid → Each stop Item others mid rest → Each stop Item (a ∷ others) ts rest

-- At most n links go on from a value to another; what stands behind the last is no further link.
pub data Links {A : Type 0} (q : Token → Bool) (Step : Token → A → Spelling A) : ℕ → A → A → Tokens → Tokens → Type 0 where
  no_more : {n : ℕ} {a : A} {ts : Tokens} → sees q (next ts) ≡ false → Links q Step n a a ts ts
  link : {n : ℕ} {t : Token} {a b c : A} {ts mid rest : Tokens} → q t ≡ true → Step t a b ts mid → Links q Step n b c mid rest
      → Links q Step (suc n) a c (t ∷ ts) rest

-- values with a comma after each, which may be left out after the last; a token closes them
pub data Listed {A : Type 0} (close : Symbol) (Item : Spelling A) : List A → Tokens → Tokens → Type 0 where
  done : {c : Token} {ts : Tokens} → is close c ≡ true → Listed close Item [] (c ∷ ts) ts
  last : {a : A} {c : Token} {ts rest : Tokens} → Item a ts (c ∷ rest) → is close c ≡ true → Listed close Item (a ∷ []) ts rest
  more : {a : A} {others : List A} {t : Token} {ts mid rest : Tokens} → Item a ts (t ∷ mid) → is s.Comma t ≡ true → Listed close Item others mid rest
      → Listed close Item (a ∷ others) ts rest

-- one value or more with commas between, and what no comma stands behind
pub data Separated {A : Type 0} (Item : Spelling A) : List A → Tokens → Tokens → Type 0 where
  single : {a : A} {ts rest : Tokens} → Item a ts rest → sees (is s.Comma) (next rest) ≡ false → Separated Item (a ∷ []) ts rest
  several : {a : A} {others : List A} {t : Token} {ts mid rest : Tokens} → Item a ts (t ∷ mid) → is s.Comma t ≡ true → Separated Item others mid rest
      → Separated Item (a ∷ others) ts rest
