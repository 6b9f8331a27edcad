-- Forms that are begun only where a part of them may stand.
use Rattle.std.proofs.Common.{◌≡◌, ℕ, zero, suc, ◌<◌, Bool, true, false, not, ◌||◌, ◌&&◌, cond, [], ◌∷◌, length, Option, Ok, Err, refl, ap, arith}
use Rattle.js_syntax.specs.declared.token.Token.{Token}
use Rattle.js_syntax.specs.declared.symbol.Symbol.TheVariants.{End}
use Rattle.js_syntax.specs.declared.parse_fault.ParseKind.{ParseKind}
use Rattle.js_syntax.specs.declared.parse_fault.ParseKind.TheVariants.{Unexpected, TooDeep}
use Rattle.js_syntax.specs.Symbols.{Tokens, next, is, sees}
use Rattle.js_combinators.specs.Readers.{Outcome, Reader, and_then, ◌>>=◌, refuse, look, on, begin, not_taken}
use Rattle.js_combinators.proofs.Laws.{Any, Sane, Opens, sane_on, sane_deny, sane_refuse}
use Rattle.js_combinators.proofs.Wider.{Wider, Grows, Further, wider_on, wider_deny, sane_shrinks, further_then}

pub sane_begin : {A : Type 0} (F : Tokens → Type 0) (left : ℕ) (q : Token → Bool) (s : Token → Reader A) (r : Reader A)
    → ((t : Token) → q t ≡ true → is End t ≡ false) → ((n : ℕ) → left ≡ suc n → (t : Token) → q t ≡ true → Sane F (s t)) → ((n : ℕ) → left ≡ suc n → (t : Token) → q t ≡ true → Opens Any F (s t)) → Sane F r
    → ((rest : Tokens) (a : A) → F rest → r rest ≡ Ok (a, rest) → sees q (next rest) ≡ false)
    → Sane F (begin left q s r)
unfolding begin
sane_begin F zero q s r plain sane opens other ends = sane_deny F (sees q) TooDeep r other ends
sane_begin F (suc n) q s r plain sane opens other ends = sane_on F q s r plain (sane n refl) (opens n refl) other ends

pub sane_not_taken : {A : Type 0} (F : Tokens → Type 0) (q : Token → Bool) → Sane {A = A} F (not_taken q)
sane_not_taken F q = sane_deny F (sees q) TooDeep (refuse Unexpected) (sane_refuse F Unexpected) (λ rest a f e. absurd cc)

-- at a greater limit
pub wider_begin : {A : Type 0} (F : Tokens → Type 0) (left wide : ℕ) (q : Token → Bool) (s s' : Token → Reader A) (r r' : Reader A)
    → ((t : Token) → q t ≡ true → Sane F (s' t)) → ((n : ℕ) → left ≡ suc n → (t : Token) → q t ≡ true → Wider (s t) (s' t)) → Wider r r' → Wider (begin left q s r) (begin (suc wide) q s' r')
unfolding begin
wider_begin F zero wide q s s' r r' sane wider other = wider_deny F q s' r r' sane other
wider_begin F (suc left) wide q s s' r r' sane wider other = wider_on q s s' r r' (wider left refl) other

-- a token that begins a form is taken, and another is refused
pub record Begins {A : Type 0} (q : Token → Bool) (r : Reader A) : Type 0 where
  pub further : (ts : Tokens) → sees q (next ts) ≡ true → Further (r ts) ts
  pub refuses : (ts : Tokens) → sees q (next ts) ≡ false → r ts ≡ Err (Unexpected, ts)

never_sees : {A : Type 0} (ts : Tokens) (o : Outcome A) → sees (λ t. false) (next ts) ≡ true → Further o ts
never_sees [] o e = absurd cc
never_sees (t ∷ ts) o e = absurd cc

pub begins_refuse : {A : Type 0} → Begins {A = A} (λ t. false) (refuse Unexpected)
begins_refuse {A = X} = record { further = λ ts e. never_sees {A = X} ts (Err (Unexpected, ts)) e; refuses = λ ts e. refl }

cond_further : {A : Type 0} (b c : Bool) (o p : Outcome A) (ts : Tokens) → (b ≡ true → Further o ts) → (c ≡ true → Further p ts) → (b || c) ≡ true → Further (cond b o p) ts
cond_further true c o p ts f g e = f refl
cond_further false c o p ts f g e = g e

cond_refuses : {A : Type 0} (b c : Bool) (o p q : Outcome A) → (c ≡ false → p ≡ q) → (b || c) ≡ false → cond b o p ≡ q
cond_refuses true c o p q g e = absurd cc
cond_refuses false c o p q g e = g e

on_further : {A : Type 0} (F : Tokens → Type 0) (q q' : Token → Bool) (s : Token → Reader A) (r : Reader A) → ((t : Token) → q t ≡ true → Sane F (s t)) → Begins q' r
    → (ts : Tokens) → sees (λ t. q t || q' t) (next ts) ≡ true → Further (on q s r ts) ts
on_further F q q' s r sane other [] e = absurd cc
on_further F q q' s r sane other (t ∷ ts) e = cond_further (q t) (q' t) (s t ts) (r (t ∷ ts)) (t ∷ ts) (λ h. sane_shrinks F (s t) ts (t ∷ ts) (sane t h) (omega arith)) (other.further (t ∷ ts)) e

on_refuses : {A : Type 0} (q q' : Token → Bool) (s : Token → Reader A) (r : Reader A) → Begins q' r → (ts : Tokens) → sees (λ t. q t || q' t) (next ts) ≡ false → on q s r ts ≡ Err (Unexpected, ts)
on_refuses q q' s r other [] e = other.refuses [] refl
on_refuses q q' s r other (t ∷ ts) e = cond_refuses (q t) (q' t) (s t ts) (r (t ∷ ts)) (Err (Unexpected, t ∷ ts)) (other.refuses (t ∷ ts)) e

pub begins_on : {A : Type 0} (F : Tokens → Type 0) (q q' : Token → Bool) (s : Token → Reader A) (r : Reader A) → ((t : Token) → q t ≡ true → Sane F (s t)) → Begins q' r → Begins (λ t. q t || q' t) (on q s r)
begins_on F q q' s r sane other = record { further = λ ts e. on_further F q q' s r sane other ts e; refuses = λ ts e. on_refuses q q' s r other ts e }

pub begins_begin : {A : Type 0} (F : Tokens → Type 0) (left : ℕ) (q q' : Token → Bool) (s : Token → Reader A) (r : Reader A) → ((t : Token) → q t ≡ true → Sane F (s t)) → Begins q' r → Begins (λ t. q t || q' t) (begin (suc left) q s r)
unfolding begin
begins_begin F left q q' s r sane other = begins_on F q q' s r sane other

pub begins_bind : {A B : Type 0} (F : Tokens → Type 0) (q : Token → Bool) (r : Reader A) (s : A → Reader B) → Begins q r → ((a : A) → Sane F (s a)) → Begins q (r >>= s)
begins_bind F q r s first sane = record { further = λ ts e. further_then F s sane (r ts) ts (first.further ts e); refuses = λ ts e. ap (λ o. and_then o s) (first.refuses ts e) }

deny_cases : {A : Type 0} (b c : Bool) (o : Outcome A) (ts : Tokens) → (c ≡ true → Further o ts) → (not b && c) ≡ true → Further (cond b (Err (Unexpected, ts)) o) ts
deny_cases true c o ts g e = absurd cc
deny_cases false c o ts g e = g e

deny_other : {A : Type 0} (b c : Bool) (o : Outcome A) (ts : Tokens) → (c ≡ false → o ≡ Err (Unexpected, ts)) → (not b && c) ≡ false → cond b (Err (Unexpected, ts)) o ≡ Err (Unexpected, ts)
deny_other true c o ts g e = refl
deny_other false c o ts g e = g e

deny_further : {A : Type 0} (q q' : Token → Bool) (r : Reader A) → Begins q' r → (ts : Tokens) → sees (λ t. not (q t) && q' t) (next ts) ≡ true → Further (look (sees q) (refuse Unexpected) r ts) ts
deny_further q q' r other [] e = absurd cc
deny_further q q' r other (t ∷ ts) e = deny_cases (q t) (q' t) (r (t ∷ ts)) (t ∷ ts) (other.further (t ∷ ts)) e

deny_refuses : {A : Type 0} (q q' : Token → Bool) (r : Reader A) → Begins q' r → (ts : Tokens) → sees (λ t. not (q t) && q' t) (next ts) ≡ false → look (sees q) (refuse Unexpected) r ts ≡ Err (Unexpected, ts)
deny_refuses q q' r other [] e = other.refuses [] refl
deny_refuses q q' r other (t ∷ ts) e = deny_other (q t) (q' t) (r (t ∷ ts)) (t ∷ ts) (other.refuses (t ∷ ts)) e

pub begins_deny : {A : Type 0} (q q' : Token → Bool) (r : Reader A) → Begins q' r → Begins (λ t. not (q t) && q' t) (look (sees q) (refuse Unexpected) r)
begins_deny q q' r other = record { further = λ ts e. deny_further q q' r other ts e; refuses = λ ts e. deny_refuses q q' r other ts e }

taken_grows : {A : Type 0} (q : Token → Bool) (r : Reader A) → Begins q r → (ts : Tokens) (b : Bool) → sees q (next ts) ≡ b → Grows (cond b (Err (TooDeep, ts)) (Err (Unexpected, ts))) (r ts)
taken_grows q r begins ts true e = begins.further ts e
taken_grows q r begins ts false e = begins.refuses ts e

pub wider_not_taken : {A : Type 0} (q : Token → Bool) (r : Reader A) → Begins q r → Wider (not_taken q) r
wider_not_taken q r begins = record { grows = λ ts. taken_grows q r begins ts (sees q (next ts)) refl }

abbrev whole : {A : Type 0} → A × Tokens → Outcome A
whole p = Ok p

ok_rest : {A : Type 0} (p q : A × Tokens) → whole p ≡ Ok q → p.1 ≡ q.1
ok_rest p q e = cc

-- ---- what was read took a token

abbrev pub TookSome : {A : Type 0} → Outcome A → Tokens → Type 0
TookSome (Ok p) ts = length p.1 < length ts
TookSome (Err v) ts = Unit {0}

pub record Takes {A : Type 0} (r : Reader A) : Type 0 where
  pub took : (ts : Tokens) → TookSome (r ts) ts

further_took : {A : Type 0} (o : Outcome A) (ts : Tokens) → Further o ts → TookSome o ts
further_took (Ok p) ts f = f
further_took (Err v) ts f = tt

pub takes_refuse : {A : Type 0} (k : ParseKind) → Takes {A = A} (refuse k)
takes_refuse k = record { took = λ ts. tt }

cond_took : {A : Type 0} (b : Bool) (o p : Outcome A) (ts : Tokens) → (b ≡ true → TookSome o ts) → TookSome p ts → TookSome (cond b o p) ts
cond_took true o p ts f g = f refl
cond_took false o p ts f g = g

on_took : {A : Type 0} (F : Tokens → Type 0) (q : Token → Bool) (s : Token → Reader A) (r : Reader A) → ((t : Token) → q t ≡ true → Sane F (s t)) → Takes r → (ts : Tokens) → TookSome (on q s r ts) ts
on_took F q s r sane other [] = other.took []
on_took F q s r sane other (t ∷ ts) = cond_took (q t) (s t ts) (r (t ∷ ts)) (t ∷ ts) (λ h. further_took (s t ts) (t ∷ ts) (sane_shrinks F (s t) ts (t ∷ ts) (sane t h) (omega arith))) (other.took (t ∷ ts))

pub takes_on : {A : Type 0} (F : Tokens → Type 0) (q : Token → Bool) (s : Token → Reader A) (r : Reader A) → ((t : Token) → q t ≡ true → Sane F (s t)) → Takes r → Takes (on q s r)
takes_on F q s r sane other = record { took = on_took F q s r sane other }

pub takes_look : {A : Type 0} (q : Option Token → Bool) (r s : Reader A) → Takes r → Takes s → Takes (look q r s)
takes_look q r s f g = record { took = λ ts. cond_took (q (next ts)) (r ts) (s ts) ts (λ h. f.took ts) (g.took ts) }

pub takes_begin : {A : Type 0} (F : Tokens → Type 0) (left : ℕ) (q : Token → Bool) (s : Token → Reader A) (r : Reader A) → ((n : ℕ) → left ≡ suc n → (t : Token) → q t ≡ true → Sane F (s t)) → Takes r → Takes (begin left q s r)
unfolding begin
takes_begin F zero q s r sane other = takes_look (sees q) (refuse TooDeep) r (takes_refuse TooDeep) other
takes_begin F (suc left) q s r sane other = takes_on F q s r (sane left refl) other

bind_took : {A B : Type 0} (F : Tokens → Type 0) (s : A → Reader B) → ((a : A) → Sane F (s a)) → (o : Outcome A) (ts : Tokens) → TookSome o ts → TookSome (and_then o s) ts
bind_took F s sane (Ok p) ts lt = further_took (s p.0 p.1) ts (sane_shrinks F (s p.0) p.1 ts (sane p.0) lt)
bind_took F s sane (Err v) ts lt = tt

pub takes_bind : {A B : Type 0} (F : Tokens → Type 0) (r : Reader A) (s : A → Reader B) → Takes r → ((a : A) → Sane F (s a)) → Takes (r >>= s)
takes_bind F r s first sane = record { took = λ ts. bind_took F s sane (r ts) ts (first.took ts) }

took_less : {A : Type 0} (o : Outcome A) (ts : Tokens) → TookSome o ts → (a : A) (rest : Tokens) → o ≡ Ok (a, rest) → length rest < length ts
took_less (Ok p) ts lt a rest e = let k : length p.1 ≡ length rest = ap length (ok_rest p (a, rest) e) in omega arith
took_less (Err v) ts lt a rest e = absurd cc

pub takes_less : {A : Type 0} (r : Reader A) → Takes r → (ts : Tokens) (a : A) (rest : Tokens) → r ts ≡ Ok (a, rest) → length rest < length ts
takes_less r takes ts a rest e = took_less (r ts) ts (takes.took ts) a rest e
