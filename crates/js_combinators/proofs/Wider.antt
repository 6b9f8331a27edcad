-- A reader with wider limits reads what the narrow one reads, and gets further where that one came to a limit.
use Rattle.std.proofs.Common.{◌≡◌, ◌<◌, ◌≤◌, Bool, true, false, cond, [], ◌∷◌, ◌++◌, length, Option, Ok, Err, refl, sym, ap, subst, arith}
use Rattle.std.proofs.lemmas.List.{length-append}
use Rattle.js_syntax.specs.declared.token.Token.{Token}
use Rattle.js_syntax.specs.declared.parse_fault.ParseKind.{ParseKind}
use Rattle.js_syntax.specs.declared.parse_fault.ParseKind.TheVariants.{Unexpected, TooDeep}
use Rattle.js_syntax.specs.Symbols.{Tokens, next, sees}
use Rattle.js_combinators.specs.Readers.{Outcome, Reader, and_then, ◌>>=◌, pure, refuse, look, on}
use Rattle.js_combinators.proofs.Laws.{Law, Sane}

abbrev pub Further : {A : Type 0} → Outcome A → Tokens → Type 0
Further (Ok p) rest = length p.1 < length rest
Further (Err e) rest = length e.1 < length rest

abbrev pub GrowsAtFault : {A : Type 0} → ParseKind → Tokens → Outcome A → Type 0
GrowsAtFault Unexpected rest o = o ≡ Err (Unexpected, rest)
GrowsAtFault TooDeep rest o = Further o rest

abbrev pub Grows : {A : Type 0} → Outcome A → Outcome A → Type 0
Grows (Ok p) o = o ≡ Ok p
Grows (Err e) o = GrowsAtFault e.0 e.1 o

pub record Wider {A : Type 0} (r wide : Reader A) : Type 0 where
  pub grows : (ts : Tokens) → Grows (r ts) (wide ts)

pub wider_pure : {A : Type 0} (a : A) → Wider (pure a) (pure a)
wider_pure a = record { grows = λ ts. refl }

pub wider_unexpected : {A : Type 0} → Wider {A = A} (refuse Unexpected) (refuse Unexpected)
wider_unexpected = record { grows = λ ts. refl }

-- what is left is no longer than what was there
shorter : (used rest ts : Tokens) → ts ≡ used ++ rest → length rest ≤ length ts
shorter used rest ts e = rw e (omega (arith, length-append used rest))

law_shrinks : {A : Type 0} (F : Tokens → Type 0) (r : Reader A) (ts rest : Tokens) (o : Outcome A) → Law F r ts o → length ts < length rest → Further o rest
law_shrinks F r ts rest (Ok p) l lt = let le = shorter l.used p.1 ts l.split in omega arith
law_shrinks F r ts rest (Err e) l lt = let le = shorter l.used e.1 ts l.split in omega arith

pub sane_shrinks : {A : Type 0} (F : Tokens → Type 0) (r : Reader A) (ts rest : Tokens) → Sane F r → length ts < length rest → Further (r ts) rest
sane_shrinks F r ts rest sane lt = law_shrinks F r ts rest (r ts) (sane.law ts) lt

pub further_then : {A B : Type 0} (F : Tokens → Type 0) (s : A → Reader B) → ((a : A) → Sane F (s a)) → (o : Outcome A) (rest : Tokens) → Further o rest → Further (and_then o s) rest
further_then F s sane (Ok p) rest lt = sane_shrinks F (s p.0) p.1 rest (sane p.0) lt
further_then F s sane (Err e) rest lt = lt

then_grows_at_fault : {A B : Type 0} (F : Tokens → Type 0) (s' : A → Reader B) → ((a : A) → Sane F (s' a))
    → (k : ParseKind) (rest : Tokens) (o : Outcome A) → GrowsAtFault k rest o → GrowsAtFault k rest (and_then o s')
then_grows_at_fault F s' sane Unexpected rest o g = ap (λ x. and_then x s') g
then_grows_at_fault F s' sane TooDeep rest o g = further_then F s' sane o rest g

then_grows : {A B : Type 0} (F : Tokens → Type 0) (s s' : A → Reader B) → ((a : A) → Wider (s a) (s' a)) → ((a : A) → Sane F (s' a))
    → (o o' : Outcome A) → Grows o o' → Grows (and_then o s) (and_then o' s')
then_grows F s s' wider sane (Ok p) o' g = subst (λ x. Grows (s p.0 p.1) (and_then x s')) (sym g) ((wider p.0).grows p.1)
then_grows F s s' wider sane (Err e) o' g = then_grows_at_fault F s' sane e.0 e.1 o' g

pub wider_bind : {A B : Type 0} (F : Tokens → Type 0) (r r' : Reader A) (s s' : A → Reader B) → Wider r r' → ((a : A) → Wider (s a) (s' a)) → ((a : A) → Sane F (s' a)) → Wider (r >>= s) (r' >>= s')
wider_bind F r r' s s' first second sane = record { grows = λ ts. then_grows F s s' second sane (r ts) (r' ts) (first.grows ts) }

pub cond_grows : {A : Type 0} (b : Bool) (o p o' p' : Outcome A) → (b ≡ true → Grows o o') → (b ≡ false → Grows p p') → Grows (cond b o p) (cond b o' p')
cond_grows true o p o' p' f g = f refl
cond_grows false o p o' p' f g = g refl

pub wider_look : {A : Type 0} (q : Option Token → Bool) (r r' s s' : Reader A) → Wider r r' → Wider s s' → Wider (look q r s) (look q r' s')
wider_look q r r' s s' f g = record { grows = λ ts. cond_grows (q (next ts)) (r ts) (s ts) (r' ts) (s' ts) (λ e. f.grows ts) (λ e. g.grows ts) }

on_grows : {A : Type 0} (q : Token → Bool) (s s' : Token → Reader A) (r r' : Reader A) → ((t : Token) → q t ≡ true → Wider (s t) (s' t)) → Wider r r' → (ts : Tokens) → Grows (on q s r ts) (on q s' r' ts)
on_grows q s s' r r' f g [] = g.grows []
on_grows q s s' r r' f g (t ∷ ts) = cond_grows (q t) (s t ts) (r (t ∷ ts)) (s' t ts) (r' (t ∷ ts)) (λ e. (f t e).grows ts) (λ e. g.grows (t ∷ ts))

pub wider_on : {A : Type 0} (q : Token → Bool) (s s' : Token → Reader A) (r r' : Reader A) → ((t : Token) → q t ≡ true → Wider (s t) (s' t)) → Wider r r' → Wider (on q s r) (on q s' r')
wider_on q s s' r r' f g = record { grows = on_grows q s s' r r' f g }

-- a form that isn't begun at the limit
deny_grows : {A : Type 0} (F : Tokens → Type 0) (q : Token → Bool) (s' : Token → Reader A) (r r' : Reader A) → ((t : Token) → q t ≡ true → Sane F (s' t)) → Wider r r'
    → (ts : Tokens) → Grows (look (sees q) (refuse TooDeep) r ts) (on q s' r' ts)
deny_grows F q s' r r' sane g [] = g.grows []
deny_grows F q s' r r' sane g (t ∷ ts) = cond_grows (q t) (Err (TooDeep, t ∷ ts)) (r (t ∷ ts)) (s' t ts) (r' (t ∷ ts)) (λ e. sane_shrinks F (s' t) ts (t ∷ ts) (sane t e) (omega arith)) (λ e. g.grows (t ∷ ts))

pub wider_deny : {A : Type 0} (F : Tokens → Type 0) (q : Token → Bool) (s' : Token → Reader A) (r r' : Reader A) → ((t : Token) → q t ≡ true → Sane F (s' t)) → Wider r r'
    → Wider (look (sees q) (refuse TooDeep) r) (on q s' r')
wider_deny F q s' r r' sane g = record { grows = deny_grows F q s' r r' sane g }
