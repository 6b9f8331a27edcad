-- What each reader keeps to, and that the steps keep it.
use Rattle.std.proofs.Common.{◌≡◌, Bool, true, false, cond, [], ◌∷◌, ◌++◌, Option, Ok, Err, refl, sym, ap, ◌∙◌, append_assoc}
use Rattle.js_syntax.specs.declared.token.Token.{Token}
use Rattle.js_syntax.specs.declared.symbol.Symbol.TheVariants.{End}
use Rattle.js_syntax.specs.declared.parse_fault.ParseKind.{ParseKind}
use Rattle.js_syntax.specs.Symbols.{Tokens, next, is, sees}
use Rattle.js_combinators.specs.Readers.{Outcome, Reader, and_then, ◌>>=◌, pure, refuse, look, on}

abbrev pub Any : Tokens → Type 0
Any ts = Unit {0}

-- no reader but that of a whole script takes an End token
abbrev pub NoEnd : Tokens → Type 0
NoEnd [] = Unit {0}
NoEnd (t ∷ ts) = (is End t ≡ false) × NoEnd ts

pub no_end_append : (a b : Tokens) → NoEnd a → NoEnd b → NoEnd (a ++ b)
no_end_append [] b h k = k
no_end_append (t ∷ a) b h k = (h.0, no_end_append a b h.1 k)

-- tokens that end what was begun, whatever of the follow set comes then
pub record Completes {A : Type 0} (F : Tokens → Type 0) (r : Reader A) (used : Tokens) : Type 0 where
  pub more : Tokens
  pub value : A
  pub reads : (rest : Tokens) → F rest → r (used ++ (more ++ rest)) ≡ Ok (value, rest)

abbrev pub Completable : {A : Type 0} → (Tokens → Type 0) → Reader A → Tokens → Type 0
Completable F r [] = Unit {0}
Completable F r (t ∷ used) = Completes F r (t ∷ used)

-- a value was read, and it would be before any tokens that go on alike or may follow
pub record Passed {A : Type 0} (F : Tokens → Type 0) (r : Reader A) (ts : Tokens) (value : A) (rest : Tokens) : Type 0 where
  pub used : Tokens
  pub split : ts ≡ used ++ rest
  pub plain : NoEnd used
  pub again : (other : Tokens) → next other ≡ next rest → r (used ++ other) ≡ Ok (value, other)
  pub closed : (other : Tokens) → F other → r (used ++ other) ≡ Ok (value, other)

-- nothing was read: the fault is at the next token, whatever comes after it, and what stands before it can be completed
pub record Refused {A : Type 0} (F : Tokens → Type 0) (r : Reader A) (ts : Tokens) (kind : ParseKind) (rest : Tokens) : Type 0 where
  pub used : Tokens
  pub split : ts ≡ used ++ rest
  pub plain : NoEnd used
  pub again : (other : Tokens) → next other ≡ next rest → r (used ++ other) ≡ Err (kind, other)
  pub completable : Completable F r used

abbrev pub Law : {A : Type 0} → (Tokens → Type 0) → Reader A → Tokens → Outcome A → Type 0
Law F r ts (Ok p) = Passed F r ts p.0 p.1
Law F r ts (Err e) = Refused F r ts e.0 e.1

pub record Sane {A : Type 0} (F : Tokens → Type 0) (r : Reader A) : Type 0 where
  pub law : (ts : Tokens) → Law F r ts (r ts)

-- tokens that are a whole form, before all that G has; F has all of it
pub record Opens {A : Type 0} (F G : Tokens → Type 0) (r : Reader A) : Type 0 where
  pub more : Tokens
  pub value : A
  pub before : (rest : Tokens) → G rest → F (more ++ rest)
  pub reads : (rest : Tokens) → G rest → r (more ++ rest) ≡ Ok (value, rest)

pub sane_pure : {A : Type 0} (F : Tokens → Type 0) (a : A) → Sane F (pure a)
sane_pure F a = record { law = λ ts. record { used = []; split = refl; plain = tt; again = λ other e. refl; closed = λ other f. refl } }

pub sane_refuse : {A : Type 0} (F : Tokens → Type 0) (k : ParseKind) → Sane {A = A} F (refuse k)
sane_refuse F k = record { law = λ ts. record { used = []; split = refl; plain = tt; again = λ other e. refl; completable = tt } }

-- what is refused isn't read
pub never : {A : Type 0} (F : Tokens → Type 0) (q : Option Token → Bool) (b : Bool) (k : ParseKind) (rest : Tokens) (a : A) → F rest → refuse k rest ≡ Ok (a, rest) → q (next rest) ≡ b
never F q b k rest a f e = absurd cc

-- ---- one reader after another

pub next_alike : (used a b : Tokens) → next a ≡ next b → next (used ++ a) ≡ next (used ++ b)
next_alike [] a b e = e
next_alike (t ∷ used) a b e = refl

pub completable_of : {A : Type 0} (F : Tokens → Type 0) (r : Reader A) (used : Tokens) → Completes F r used → Completable F r used
completable_of F r [] c = tt
completable_of F r (t ∷ used) c = c

-- what stands of a reader before its continuation
bind_completes : {A B : Type 0} (F G : Tokens → Type 0) (r : Reader A) (s : A → Reader B) (opens : (a : A) → Opens F G (s a)) (used : Tokens) → Completes F r used → Completes G (r >>= s) used
bind_completes F G r s opens used c =
    let o = opens c.value in
    record {
      more = c.more ++ o.more;
      value = o.value;
      reads = λ rest g. ap (λ x. and_then (r (used ++ x)) s) (append_assoc c.more o.more rest) ∙ ap (λ x. and_then x s) (c.reads (o.more ++ rest) (o.before rest g)) ∙ o.reads rest g;
    }

bind_completable : {A B : Type 0} (F G : Tokens → Type 0) (r : Reader A) (s : A → Reader B) (opens : (a : A) → Opens F G (s a)) (used : Tokens) → Completable F r used → Completable G (r >>= s) used
bind_completable F G r s opens [] c = tt
bind_completable F G r s opens (t ∷ used) c = bind_completes F G r s opens (t ∷ used) c

-- the first reader goes as before where the second has taken a token, or where what follows may follow the first
pub first_again : {A : Type 0} (F : Tokens → Type 0) (r : Reader A) (ts : Tokens) (a : A) (mid : Tokens) (p : Passed F r ts a mid) (used rest other : Tokens) → mid ≡ used ++ rest → ((used ≡ []) → F other) → r (p.used ++ (used ++ other)) ≡ Ok (a, used ++ other)
first_again F r ts a mid p [] rest other e f = p.closed other (f refl)
first_again F r ts a mid p (t ∷ used) rest other e f = p.again (t ∷ (used ++ other)) (sym (ap next e))

second_completable : {A B : Type 0} (F G : Tokens → Type 0) (r : Reader A) (s : A → Reader B) (opens : (a : A) → Opens F G (s a)) (ts : Tokens) (a : A) (mid rest : Tokens) (p : Passed F r ts a mid)
    (used : Tokens) → mid ≡ used ++ rest → Completable G (s a) used → Completable G (r >>= s) (p.used ++ used)
second_completable F G r s opens ts a mid rest p [] e c =
    let o = opens a in
    completable_of G (r >>= s) (p.used ++ []) (record {
      more = o.more;
      value = o.value;
      reads = λ after g. ap (λ x. and_then (r x) s) (append_assoc p.used [] (o.more ++ after)) ∙ ap (λ x. and_then x s) (p.closed (o.more ++ after) (o.before after g)) ∙ o.reads after g;
    })
second_completable F G r s opens ts a mid rest p (t ∷ used) e c =
    completable_of G (r >>= s) (p.used ++ t ∷ used) (record {
      more = c.more;
      value = c.value;
      reads = λ after g. ap (λ x. and_then (r x) s) (append_assoc p.used (t ∷ used) (c.more ++ after)) ∙ ap (λ x. and_then x s) (p.again (t ∷ (used ++ (c.more ++ after))) (sym (ap next e))) ∙ c.reads after g;
    })

pub second_split : (used : Tokens) (ts mid used' rest : Tokens) → ts ≡ used ++ mid → mid ≡ used' ++ rest → ts ≡ (used ++ used') ++ rest
second_split used ts mid used' rest e e' = e ∙ ap (λ x. used ++ x) e' ∙ sym (append_assoc used used' rest)

bind_second : {A B : Type 0} (F G : Tokens → Type 0) (r : Reader A) (s : A → Reader B) (opens : (a : A) → Opens F G (s a))
    (ends : (a : A) (rest : Tokens) (b : B) → G rest → s a rest ≡ Ok (b, rest) → F rest)
    (ts : Tokens) (a : A) (mid : Tokens) (p : Passed F r ts a mid) (o : Outcome B) → Law G (s a) mid o → Law G (r >>= s) ts o
bind_second F G r s opens ends ts a mid p (Ok v) q = record {
  used = p.used ++ q.used;
  split = second_split p.used ts mid q.used v.1 p.split q.split;
  plain = no_end_append p.used q.used p.plain q.plain;
  again = λ other e. ap (λ x. and_then (r x) s) (append_assoc p.used q.used other) ∙ ap (λ x. and_then x s) (p.again (q.used ++ other) (next_alike q.used other v.1 e ∙ sym (ap next q.split))) ∙ q.again other e;
  closed = λ other g. ap (λ x. and_then (r x) s) (append_assoc p.used q.used other)
      ∙ ap (λ x. and_then x s) (first_again F r ts a mid p q.used v.1 other q.split (λ none. ends a other v.0 g (ap (λ x. s a (x ++ other)) (sym none) ∙ q.closed other g)))
      ∙ q.closed other g;
}
bind_second F G r s opens ends ts a mid p (Err v) q = record {
  used = p.used ++ q.used;
  split = second_split p.used ts mid q.used v.1 p.split q.split;
  plain = no_end_append p.used q.used p.plain q.plain;
  again = λ other e. ap (λ x. and_then (r x) s) (append_assoc p.used q.used other) ∙ ap (λ x. and_then x s) (p.again (q.used ++ other) (next_alike q.used other v.1 e ∙ sym (ap next q.split))) ∙ q.again other e;
  completable = second_completable F G r s opens ts a mid v.1 p q.used q.split q.completable;
}

pub bind_at : {A B : Type 0} (F G : Tokens → Type 0) (r : Reader A) (s : A → Reader B) (opens : (a : A) → Opens F G (s a))
    (ends : (a : A) (rest : Tokens) (b : B) → G rest → s a rest ≡ Ok (b, rest) → F rest)
    (ts : Tokens) (o : Outcome A) → Law F r ts o → ((a : A) (mid : Tokens) → o ≡ Ok (a, mid) → Law G (s a) mid (s a mid)) → Law G (r >>= s) ts (and_then o s)
bind_at F G r s opens ends ts (Ok v) p second = bind_second F G r s opens ends ts v.0 v.1 p (s v.0 v.1) (second v.0 v.1 refl)
bind_at F G r s opens ends ts (Err v) p second = record {
  used = p.used;
  split = p.split;
  plain = p.plain;
  again = λ other e. ap (λ x. and_then x s) (p.again other e);
  completable = bind_completable F G r s opens p.used p.completable;
}

pub sane_bind : {A B : Type 0} (F G : Tokens → Type 0) (r : Reader A) (s : A → Reader B) → Sane F r → ((a : A) → Sane G (s a)) → ((a : A) → Opens F G (s a))
    → ((a : A) (rest : Tokens) (b : B) → G rest → s a rest ≡ Ok (b, rest) → F rest) → Sane G (r >>= s)
sane_bind F G r s first second opens ends = record { law = λ ts. bind_at F G r s opens ends ts (r ts) (first.law ts) (λ a mid e. (second a).law mid) }

-- ---- a choice by the next token

stays : {A : Type 0} (F : Tokens → Type 0) (r : Reader A) (q : Option Token → Bool) (b : Bool)
    (ends : (rest : Tokens) (a : A) → F rest → r rest ≡ Ok (a, rest) → q (next rest) ≡ b)
    (ts : Tokens) (a : A) (rest used other : Tokens) → q (next ts) ≡ b → ts ≡ used ++ rest → r (used ++ other) ≡ Ok (a, other) → F other → q (next (used ++ other)) ≡ b
stays F r q b ends ts a rest [] other here e reads f = ends other a f reads
stays F r q b ends ts a rest (t ∷ used) other here e reads f = ap (λ x. q (next x)) (sym e) ∙ here

carry_completable : {A : Type 0} (F : Tokens → Type 0) (r whole : Reader A) (q : Option Token → Bool) (b : Bool)
    (agrees : (ts : Tokens) → q (next ts) ≡ b → whole ts ≡ r ts)
    (ts rest : Tokens) → q (next ts) ≡ b → (used : Tokens) → ts ≡ used ++ rest → Completable F r used → Completable F whole used
carry_completable F r whole q b agrees ts rest here [] e c = tt
carry_completable F r whole q b agrees ts rest here (t ∷ used) e c = record {
  more = c.more;
  value = c.value;
  reads = λ after f. agrees (t ∷ (used ++ (c.more ++ after))) (ap (λ x. q (next x)) (sym e) ∙ here) ∙ c.reads after f;
}

-- A reader that goes as r where the next token is such.
pub carry : {A : Type 0} (F : Tokens → Type 0) (r whole : Reader A) (q : Option Token → Bool) (b : Bool)
    (agrees : (ts : Tokens) → q (next ts) ≡ b → whole ts ≡ r ts)
    (ends : (rest : Tokens) (a : A) → F rest → r rest ≡ Ok (a, rest) → q (next rest) ≡ b)
    (ts : Tokens) → q (next ts) ≡ b → (o : Outcome A) → Law F r ts o → Law F whole ts o
carry F r whole q b agrees ends ts here (Ok v) p = record {
  used = p.used;
  split = p.split;
  plain = p.plain;
  again = λ other e. agrees (p.used ++ other) (ap q (next_alike p.used other v.1 e ∙ sym (ap next p.split)) ∙ here) ∙ p.again other e;
  closed = λ other f. agrees (p.used ++ other) (stays F r q b ends ts v.0 v.1 p.used other here p.split (p.closed other f) f) ∙ p.closed other f;
}
carry F r whole q b agrees ends ts here (Err v) p = record {
  used = p.used;
  split = p.split;
  plain = p.plain;
  again = λ other e. agrees (p.used ++ other) (ap q (next_alike p.used other v.1 e ∙ sym (ap next p.split)) ∙ here) ∙ p.again other e;
  completable = carry_completable F r whole q b agrees ts v.1 here p.used p.split p.completable;
}

look_law : {A : Type 0} (F : Tokens → Type 0) (q : Option Token → Bool) (r s : Reader A) → Sane F r → Sane F s
    → ((rest : Tokens) (a : A) → F rest → r rest ≡ Ok (a, rest) → q (next rest) ≡ true)
    → ((rest : Tokens) (a : A) → F rest → s rest ≡ Ok (a, rest) → q (next rest) ≡ false)
    → (ts : Tokens) (b : Bool) → q (next ts) ≡ b → Law F (look q r s) ts (cond b (r ts) (s ts))
look_law F q r s when unless ends_when ends_unless ts true here = carry F r (look q r s) q true (λ ts e. ap (λ b. cond b (r ts) (s ts)) e) ends_when ts here (r ts) (when.law ts)
look_law F q r s when unless ends_when ends_unless ts false here = carry F s (look q r s) q false (λ ts e. ap (λ b. cond b (r ts) (s ts)) e) ends_unless ts here (s ts) (unless.law ts)

pub sane_look : {A : Type 0} (F : Tokens → Type 0) (q : Option Token → Bool) (r s : Reader A) → Sane F r → Sane F s
    → ((rest : Tokens) (a : A) → F rest → r rest ≡ Ok (a, rest) → q (next rest) ≡ true)
    → ((rest : Tokens) (a : A) → F rest → s rest ≡ Ok (a, rest) → q (next rest) ≡ false)
    → Sane F (look q r s)
sane_look F q r s when unless ends_when ends_unless = record { law = λ ts. look_law F q r s when unless ends_when ends_unless ts (q (next ts)) refl }

-- ---- a token, and what goes on with it

on_completable : {A : Type 0} (F : Tokens → Type 0) (q : Token → Bool) (s : Token → Reader A) (r : Reader A) (t : Token) → q t ≡ true → Opens Any F (s t)
    → (used : Tokens) → Completable F (s t) used → Completes F (on q s r) (t ∷ used)
on_completable F q s r t here opens [] c = record {
  more = opens.more;
  value = opens.value;
  reads = λ rest f. ap (λ b. cond b (s t (opens.more ++ rest)) (r (t ∷ (opens.more ++ rest)))) here ∙ opens.reads rest f;
}
on_completable F q s r t here opens (u ∷ used) c = record {
  more = c.more;
  value = c.value;
  reads = λ rest f. ap (λ b. cond b (s t ((u ∷ used) ++ (c.more ++ rest))) (r (t ∷ ((u ∷ used) ++ (c.more ++ rest))))) here ∙ c.reads rest f;
}

on_taken : {A : Type 0} (F : Tokens → Type 0) (q : Token → Bool) (s : Token → Reader A) (r : Reader A) (t : Token) (ts : Tokens) → q t ≡ true → is End t ≡ false → Opens Any F (s t)
    → (o : Outcome A) → Law F (s t) ts o → Law F (on q s r) (t ∷ ts) o
on_taken F q s r t ts here plain opens (Ok v) p = record {
  used = t ∷ p.used;
  split = ap (λ x. t ∷ x) p.split;
  plain = (plain, p.plain);
  again = λ other e. ap (λ b. cond b (s t (p.used ++ other)) (r (t ∷ (p.used ++ other)))) here ∙ p.again other e;
  closed = λ other f. ap (λ b. cond b (s t (p.used ++ other)) (r (t ∷ (p.used ++ other)))) here ∙ p.closed other f;
}
on_taken F q s r t ts here plain opens (Err v) p = record {
  used = t ∷ p.used;
  split = ap (λ x. t ∷ x) p.split;
  plain = (plain, p.plain);
  again = λ other e. ap (λ b. cond b (s t (p.used ++ other)) (r (t ∷ (p.used ++ other)))) here ∙ p.again other e;
  completable = on_completable F q s r t here opens p.used p.completable;
}

on_other : {A : Type 0} (q : Token → Bool) (s : Token → Reader A) (r : Reader A) (ts : Tokens) → sees q (next ts) ≡ false → on q s r ts ≡ r ts
on_other q s r [] e = refl
on_other q s r (t ∷ ts) e = ap (λ b. cond b (s t ts) (r (t ∷ ts))) e

on_law_at : {A : Type 0} (F : Tokens → Type 0) (q : Token → Bool) (s : Token → Reader A) (r : Reader A)
    → ((t : Token) → q t ≡ true → is End t ≡ false) → ((t : Token) → q t ≡ true → Sane F (s t)) → ((t : Token) → q t ≡ true → Opens Any F (s t)) → Sane F r
    → ((rest : Tokens) (a : A) → F rest → r rest ≡ Ok (a, rest) → sees q (next rest) ≡ false)
    → (t : Token) (ts : Tokens) (b : Bool) → q t ≡ b → Law F (on q s r) (t ∷ ts) (cond b (s t ts) (r (t ∷ ts)))
on_law_at F q s r plain sane opens other ends t ts true here = on_taken F q s r t ts here (plain t here) (opens t here) (s t ts) ((sane t here).law ts)
on_law_at F q s r plain sane opens other ends t ts false here = carry F r (on q s r) (sees q) false (on_other q s r) ends (t ∷ ts) here (r (t ∷ ts)) (other.law (t ∷ ts))

on_law : {A : Type 0} (F : Tokens → Type 0) (q : Token → Bool) (s : Token → Reader A) (r : Reader A)
    → ((t : Token) → q t ≡ true → is End t ≡ false) → ((t : Token) → q t ≡ true → Sane F (s t)) → ((t : Token) → q t ≡ true → Opens Any F (s t)) → Sane F r
    → ((rest : Tokens) (a : A) → F rest → r rest ≡ Ok (a, rest) → sees q (next rest) ≡ false)
    → (ts : Tokens) → Law F (on q s r) ts (on q s r ts)
on_law F q s r plain sane opens other ends [] = carry F r (on q s r) (sees q) false (on_other q s r) ends [] refl (r []) (other.law [])
on_law F q s r plain sane opens other ends (t ∷ ts) = on_law_at F q s r plain sane opens other ends t ts (q t) refl

pub sane_on : {A : Type 0} (F : Tokens → Type 0) (q : Token → Bool) (s : Token → Reader A) (r : Reader A)
    → ((t : Token) → q t ≡ true → is End t ≡ false) → ((t : Token) → q t ≡ true → Sane F (s t)) → ((t : Token) → q t ≡ true → Opens Any F (s t)) → Sane F r
    → ((rest : Tokens) (a : A) → F rest → r rest ≡ Ok (a, rest) → sees q (next rest) ≡ false)
    → Sane F (on q s r)
sane_on F q s r plain sane opens other ends = record { law = on_law F q s r plain sane opens other ends }

-- one reader after another, with one follow set
pub sane_then : {A B : Type 0} (F : Tokens → Type 0) (r : Reader A) (s : A → Reader B) → Sane F r → ((a : A) → Sane F (s a)) → ((a : A) → Opens F F (s a)) → Sane F (r >>= s)
sane_then F r s first second opens = sane_bind F F r s first second opens (λ a rest b g e. g)

pub sane_deny : {A : Type 0} (F : Tokens → Type 0) (q : Option Token → Bool) (k : ParseKind) (s : Reader A) → Sane F s
    → ((rest : Tokens) (a : A) → F rest → s rest ≡ Ok (a, rest) → q (next rest) ≡ false) → Sane F (look q (refuse k) s)
sane_deny F q k s sane ends = sane_look F q (refuse k) s (sane_refuse F k) sane (λ rest a f e. absurd cc) ends

completable_alike : {A : Type 0} (F : Tokens → Type 0) (r r' : Reader A) → ((ts : Tokens) → r' ts ≡ r ts) → (used : Tokens) → Completable F r used → Completable F r' used
completable_alike F r r' same [] c = tt
completable_alike F r r' same (t ∷ used) c = record { more = c.more; value = c.value; reads = λ rest f. same (t ∷ (used ++ (c.more ++ rest))) ∙ c.reads rest f }

-- two readers that answer alike keep one law
pub law_alike : {A : Type 0} (F : Tokens → Type 0) (r r' : Reader A) → ((ts : Tokens) → r' ts ≡ r ts) → (ts : Tokens) (o : Outcome A) → Law F r ts o → Law F r' ts o
law_alike F r r' same ts (Ok v) p = record { used = p.used; split = p.split; plain = p.plain; again = λ other e. same (p.used ++ other) ∙ p.again other e; closed = λ other f. same (p.used ++ other) ∙ p.closed other f }
law_alike F r r' same ts (Err v) p = record { used = p.used; split = p.split; plain = p.plain; again = λ other e. same (p.used ++ other) ∙ p.again other e; completable = completable_alike F r r' same p.used p.completable }
