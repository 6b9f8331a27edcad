-- Loops keep the laws.
use Rattle.std.proofs.Common.{◌≡◌, ℕ, zero, suc, ◌<◌, ◌≤◌, Bool, true, false, cond, not, ◌&&◌, [], ◌∷◌, ◌++◌, length, Option, Some, None, Ok, Err, refl, sym, ap, subst, ◌∙◌, append_assoc, arith}
use Rattle.js_syntax.specs.declared.token.Token.{Token}
use Rattle.js_syntax.specs.declared.symbol.Symbol.TheVariants.{End}
use Rattle.js_syntax.specs.declared.parse_fault.ParseKind.TheVariants.{TooDeep}
use Rattle.js_syntax.specs.Symbols.{Tokens, next, is, sees, stops}
use Rattle.js_combinators.specs.Readers.{Outcome, Reader, and_then, ◌>>=◌, pure, refuse, look, on, rounds, repeat, deny, chain}
use Rattle.js_combinators.proofs.Laws.{Any, Law, Sane, Opens, sane_pure, sane_on, sane_deny, sane_then, sane_look, bind_at, carry, law_alike}
use Rattle.js_combinators.proofs.Wider.{Wider, Grows, cond_grows, sane_shrinks, wider_pure, wider_deny, wider_bind, wider_look}

-- ---- at most so many

-- what isn't taken is among what a chain goes on with
abbrev pub denies : Option (Token → Bool) → Token → Bool
denies None t = false
denies (Some d) t = d t

-- what a chain goes on with
pub record Links {A : Type 0} (F : Tokens → Type 0) (d : Option (Token → Bool)) (q : Token → Bool) (step : A → Token → Reader A) : Type 0 where
  pub plain : (t : Token) → q t ≡ true → is End t ≡ false
  pub past : (rest : Tokens) → F rest → sees q (next rest) ≡ false
  pub denied : (o : Option Token) → sees q o ≡ false → sees (denies d) o ≡ false
  pub sane : (a : A) (t : Token) → q t ≡ true → denies d t ≡ false → Sane F (step a t)
  pub opens : (a : A) (t : Token) → q t ≡ true → denies d t ≡ false → Opens Any F (step a t)

pub deny_passes : {A : Type 0} (d : Option (Token → Bool)) (r : Reader A) (ts : Tokens) → sees (denies d) (next ts) ≡ false → deny d r ts ≡ r ts
deny_passes None r ts e = refl
deny_passes (Some d) r ts e = ap (λ b. cond b (Err (TooDeep, ts)) (r ts)) e

on_ends : {A : Type 0} (q : Token → Bool) (s : Token → Reader A) (r : Reader A) (rest : Tokens) → sees q (next rest) ≡ false → on q s r rest ≡ r rest
on_ends q s r [] e = refl
on_ends q s r (t ∷ rest) e = ap (λ b. cond b (s t rest) (r (t ∷ rest))) e

pub chain_ends : {A : Type 0} (F : Tokens → Type 0) (n : ℕ) (d : Option (Token → Bool)) (q : Token → Bool) (step : A → Token → Reader A) → ((o : Option Token) → sees q o ≡ false → sees (denies d) o ≡ false) → (a : A) (rest : Tokens) → sees q (next rest) ≡ false → chain n d q step a rest ≡ Ok (a, rest)
unfolding chain
chain_ends F zero d q step within a rest e = ap (λ b. cond b (Err (TooDeep, rest)) (Ok (a, rest))) e
chain_ends F (suc n) d q step within a rest e = deny_passes d (on q (λ t. step a t >>= chain n d q step) (pure a)) rest (within (next rest) e) ∙ on_ends q (λ t. step a t >>= chain n d q step) (pure a) rest e

pub chain_opens : {A : Type 0} (F : Tokens → Type 0) (n : ℕ) (d : Option (Token → Bool)) (q : Token → Bool) (step : A → Token → Reader A) → Links F d q step → (a : A) → Opens F F (chain n d q step a)
chain_opens F n d q step links a = record { more = []; value = a; before = λ rest f. f; reads = λ rest f. chain_ends F n d q step links.denied a rest (links.past rest f) }

-- after a form that can be completed, a chain can be
pub opens_then : {A B : Type 0} (E F G : Tokens → Type 0) (r : Reader A) (s : A → Reader B) → Opens E F r → ((a : A) → Opens F G (s a)) → ((ts : Tokens) → F ts → E ts) → Opens Any G (r >>= s)
opens_then E F G r s first second wide = let o = second first.value in record {
  more = first.more ++ o.more;
  value = o.value;
  before = λ rest g. tt;
  reads = λ rest g. ap (λ x. and_then (r x) s) (append_assoc first.more o.more rest) ∙ ap (λ x. and_then x s) (first.reads (o.more ++ rest) (o.before rest g)) ∙ o.reads rest g;
}

-- what is taken is such, and isn't denied
abbrev kept : Option (Token → Bool) → (Token → Bool) → Token → Bool
kept d q t = q t && not (denies d t)

kept_such : (b c : Bool) → (b && not c) ≡ true → b ≡ true
kept_such true c h = refl
kept_such false c h = absurd cc

kept_passes : (b c : Bool) → (b && not c) ≡ true → c ≡ false
kept_passes true true h = absurd cc
kept_passes false true h = absurd cc
kept_passes b false h = refl

kept_seen : (d : Option (Token → Bool)) (q : Token → Bool) (o : Option Token) → sees q o ≡ false → sees (kept d q) o ≡ false
kept_seen d q None h = refl
kept_seen d q (Some t) h = ap (λ b. b && not (denies d t)) h

same_kept : {A : Type 0} (b c : Bool) (x y : Outcome A) → c ≡ false → cond b x y ≡ cond (b && not c) x y
same_kept true c x y h = ap (λ v. cond (not v) x y) (sym h)
same_kept false c x y h = refl

on_kept : {A : Type 0} (d : Option (Token → Bool)) (q : Token → Bool) (s : Token → Reader A) (r : Reader A) (ts : Tokens) → sees (denies d) (next ts) ≡ false → on q s r ts ≡ on (kept d q) s r ts
on_kept d q s r [] h = refl
on_kept d q s r (t ∷ ts) h = same_kept (q t) (denies d t) (s t ts) (r (t ∷ ts)) h

deny_look : {A : Type 0} (d : Option (Token → Bool)) (q : Token → Bool) (s : Token → Reader A) (r : Reader A) (ts : Tokens) (b : Bool) → sees (denies d) (next ts) ≡ b → deny d (on q s r) ts ≡ cond b (Err (TooDeep, ts)) (on (kept d q) s r ts)
deny_look None q s r [] true h = absurd cc
deny_look None q s r (t ∷ ts) true h = absurd cc
deny_look None q s r ts false h = on_kept None q s r ts h
deny_look (Some d) q s r ts true h = ap (λ b. cond b (Err (TooDeep, ts)) (on q s r ts)) h
deny_look (Some d) q s r ts false h = ap (λ b. cond b (Err (TooDeep, ts)) (on q s r ts)) h ∙ on_kept (Some d) q s r ts h

sane_alike : {A : Type 0} (F : Tokens → Type 0) (r r' : Reader A) → ((ts : Tokens) → r' ts ≡ r ts) → Sane F r → Sane F r'
sane_alike F r r' same sane = record { law = λ ts. subst (λ o. Law F r' ts o) (sym (same ts)) (law_alike F r r' same ts (r ts) (sane.law ts)) }

pub sane_denied : {A : Type 0} (F : Tokens → Type 0) (d : Option (Token → Bool)) (q : Token → Bool) (s : Token → Reader A) (r : Reader A)
    → ((t : Token) → q t ≡ true → is End t ≡ false) → ((o : Option Token) → sees q o ≡ false → sees (denies d) o ≡ false)
    → ((t : Token) → q t ≡ true → denies d t ≡ false → Sane F (s t)) → ((t : Token) → q t ≡ true → denies d t ≡ false → Opens Any F (s t)) → Sane F r
    → ((rest : Tokens) → F rest → sees q (next rest) ≡ false) → Sane F (deny d (on q s r))
sane_denied F d q s r plain within sane opens other past = sane_alike F (look (sees (denies d)) (refuse TooDeep) (on (kept d q) s r)) (deny d (on q s r)) (λ ts. deny_look d q s r ts (sees (denies d) (next ts)) refl)
    (sane_deny F (sees (denies d)) TooDeep (on (kept d q) s r)
    (sane_on F (kept d q) s r (λ t h. plain t (kept_such (q t) (denies d t) h)) (λ t h. sane t (kept_such (q t) (denies d t) h) (kept_passes (q t) (denies d t) h)) (λ t h. opens t (kept_such (q t) (denies d t) h) (kept_passes (q t) (denies d t) h)) other (λ rest a f e. kept_seen d q (next rest) (past rest f)))
    (λ rest a f e. within (next rest) (past rest f)))

pub sane_chain : {A : Type 0} (F : Tokens → Type 0) (n : ℕ) (d : Option (Token → Bool)) (q : Token → Bool) (step : A → Token → Reader A) → Links F d q step → (a : A) → Sane F (chain n d q step a)
unfolding chain
sane_chain F zero d q step links a = sane_deny F (sees q) TooDeep (pure a) (sane_pure F a) (λ rest b f e. links.past rest f)
sane_chain F (suc n) d q step links a = sane_denied F d q (λ t. step a t >>= chain n d q step) (pure a) links.plain links.denied
    (λ t h j. sane_then F (step a t) (chain n d q step) (links.sane a t h j) (λ b. sane_chain F n d q step links b) (λ b. chain_opens F n d q step links b))
    (λ t h j. opens_then Any F F (step a t) (chain n d q step) (links.opens a t h j) (λ b. chain_opens F n d q step links b) (λ ts f. tt))
    (sane_pure F a) links.past

pub deny_at : {A : Type 0} (d : Option (Token → Bool)) (r : Reader A) (t : Token) (ts : Tokens) → cond (denies d t) (Err (TooDeep, t ∷ ts)) (r (t ∷ ts)) ≡ deny d r (t ∷ ts)
deny_at None r t ts = refl
deny_at (Some d) r t ts = refl

pub deny_nothing : {A : Type 0} (d : Option (Token → Bool)) (r : Reader A) → r [] ≡ deny d r []
deny_nothing None r = refl
deny_nothing (Some d) r = refl

-- what is denied at the narrow limit gets further at the wide one
denied_grows : {A : Type 0} (F : Tokens → Type 0) (b v : Bool) (s s' : Token → Reader A) (r r' : Reader A) → (t : Token) → (v ≡ true → Sane F (s' t)) → (b ≡ true → v ≡ true) → (b ≡ false → v ≡ true → Wider (s t) (s' t)) → Wider r r'
    → (ts : Tokens) → Grows (cond b (Err (TooDeep, t ∷ ts)) (cond v (s t ts) (r (t ∷ ts)))) (cond v (s' t ts) (r' (t ∷ ts)))
denied_grows {A = X} F true v s s' r r' t sane within wider other ts =
    subst (λ v. Grows {A = X} (Err (TooDeep, t ∷ ts)) (cond v (s' t ts) (r' (t ∷ ts)))) (sym (within refl)) (sane_shrinks F (s' t) ts (t ∷ ts) (sane (within refl)) (omega arith))
denied_grows F false v s s' r r' t sane within wider other ts = cond_grows v (s t ts) (r (t ∷ ts)) (s' t ts) (r' (t ∷ ts)) (λ e. (wider refl e).grows ts) (λ e. other.grows (t ∷ ts))

pub denied_at : {A : Type 0} (F : Tokens → Type 0) (d : Option (Token → Bool)) (q : Token → Bool) → ((t : Token) → denies d t ≡ true → q t ≡ true) → (s s' : Token → Reader A) (r r' : Reader A) → ((t : Token) → q t ≡ true → Sane F (s' t))
    → ((t : Token) → denies d t ≡ false → q t ≡ true → Wider (s t) (s' t)) → Wider r r' → (ts : Tokens) → Grows (deny d (on q s r) ts) (on q s' r' ts)
denied_at F d q within s s' r r' sane wider other [] = subst (λ o. Grows o (r' [])) (deny_nothing d (on q s r)) (other.grows [])
denied_at F d q within s s' r r' sane wider other (t ∷ ts) = subst (λ o. Grows o (cond (q t) (s' t ts) (r' (t ∷ ts)))) (deny_at d (on q s r) t ts) (denied_grows F (denies d t) (q t) s s' r r' t (sane t) (within t) (wider t) other ts)

-- a longer chain, which denies nothing
pub wider_chain : {A : Type 0} (F : Tokens → Type 0) (n m : ℕ) → n < m → (d : Option (Token → Bool)) (q : Token → Bool) → ((t : Token) → denies d t ≡ true → q t ≡ true) → (step step' : A → Token → Reader A) → Links F None q step'
    → ((a : A) (t : Token) → denies d t ≡ false → q t ≡ true → Wider (step a t) (step' a t)) → (a : A)
    → Wider (chain n d q step a) (chain m None q step' a)
unfolding chain
wider_chain F n zero lt d q within step step' links wider a = absurd (omega arith)
wider_chain F zero (suc m) lt d q within step step' links wider a = wider_deny F q (λ t. step' a t >>= chain m None q step') (pure a) (pure a)
    (λ t h. sane_then F (step' a t) (chain m None q step') (links.sane a t h refl) (λ b. sane_chain F m None q step' links b) (λ b. chain_opens F m None q step' links b))
    (wider_pure a)
wider_chain F (suc n) (suc m) lt d q within step step' links wider a =
    record {
      grows = denied_at F d q within (λ t. step a t >>= chain n d q step) (λ t. step' a t >>= chain m None q step') (pure a) (pure a)
          (λ t h. sane_then F (step' a t) (chain m None q step') (links.sane a t h refl) (λ b. sane_chain F m None q step' links b) (λ b. chain_opens F m None q step' links b))
          (λ t h j. wider_bind F (step a t) (step' a t) (chain n d q step) (chain m None q step') (wider a t h j) (λ b. wider_chain F n m (omega arith) d q within step step' links wider b) (λ b. sane_chain F m None q step' links b))
          (wider_pure a);
    }

-- ---- as many as there are

-- What is repeated takes at least a token, and what may follow the whole stops it.
pub record Repeats {A : Type 0} (F : Tokens → Type 0) (stop : Token → Bool) (step : A → Reader A) : Type 0 where
  pub past : (rest : Tokens) → F rest → stops stop (next rest) ≡ true
  pub sane : (a : A) → Sane F (step a)
  pub takes : (a : A) (ts : Tokens) (b : A) (rest : Tokens) → step a ts ≡ Ok (b, rest) → length rest < length ts

rounds_after : {A : Type 0} (F : Tokens → Type 0) (stop : Token → Bool) (step : A → Reader A) → Repeats F stop step → (n m : ℕ) (a : A) (ts : Tokens) → length ts ≤ suc n → length ts ≤ suc m
    → ((b : A) (rest : Tokens) → length rest ≤ n → length rest ≤ m → rounds n stop step b rest ≡ rounds m stop step b rest)
    → (o : Outcome A) → step a ts ≡ o → and_then o (rounds n stop step) ≡ and_then o (rounds m stop step)
rounds_after F stop step rep n m a ts h k later (Ok p) e = let lt = rep.takes a ts p.0 p.1 e in later p.0 p.1 (omega arith) (omega arith)
rounds_after F stop step rep n m a ts h k later (Err p) e = refl

rounds_alike : {A : Type 0} (F : Tokens → Type 0) (stop : Token → Bool) (step : A → Reader A) → Repeats F stop step → (n m : ℕ) (a : A) (ts : Tokens) → length ts ≤ n → length ts ≤ m → rounds n stop step a ts ≡ rounds m stop step a ts
unfolding rounds
rounds_alike F stop step rep zero zero a ts h k = refl
rounds_alike F stop step rep zero (suc m) a [] h k = refl
rounds_alike F stop step rep zero (suc m) a (t ∷ ts) h k = absurd (omega arith)
rounds_alike F stop step rep (suc n) zero a [] h k = refl
rounds_alike F stop step rep (suc n) zero a (t ∷ ts) h k = absurd (omega arith)
rounds_alike F stop step rep (suc n) (suc m) a ts h k =
    ap (λ o. cond (stops stop (next ts)) (Ok (a, ts)) o) (rounds_after F stop step rep n m a ts h k (λ b rest h k. rounds_alike F stop step rep n m b rest h k) (step a ts) refl)

repeat_after : {A : Type 0} (F : Tokens → Type 0) (stop : Token → Bool) (step : A → Reader A) → Repeats F stop step → (n : ℕ) (a : A) (ts : Tokens) → length ts ≤ suc n
    → (o : Outcome A) → step a ts ≡ o → and_then o (rounds n stop step) ≡ and_then o (repeat stop step)
unfolding repeat
repeat_after F stop step rep n a ts h (Ok p) e = let lt = rep.takes a ts p.0 p.1 e in rounds_alike F stop step rep n (length p.1) p.0 p.1 (omega arith) (omega arith)
repeat_after F stop step rep n a ts h (Err p) e = refl

-- one round, and the others
pub repeat_step : {A : Type 0} (F : Tokens → Type 0) (stop : Token → Bool) (step : A → Reader A) → Repeats F stop step → (a : A) (ts : Tokens)
    → repeat stop step a ts ≡ look (stops stop) (pure a) (step a >>= repeat stop step) ts
unfolding repeat rounds
repeat_step F stop step rep a [] = refl
repeat_step F stop step rep a (t ∷ ts) = ap (λ o. cond (stop t) (Ok (a, t ∷ ts)) o) (repeat_after F stop step rep (length ts) a (t ∷ ts) (omega arith) (step a (t ∷ ts)) refl)

pub repeat_ends : {A : Type 0} (stop : Token → Bool) (step : A → Reader A) (a : A) (rest : Tokens) → stops stop (next rest) ≡ true → repeat stop step a rest ≡ Ok (a, rest)
unfolding repeat rounds
repeat_ends stop step a [] e = refl
repeat_ends stop step a (t ∷ ts) e = ap (λ b. cond b (Ok (a, t ∷ ts)) ((step a >>= rounds (length ts) stop step) (t ∷ ts))) e

pub repeat_opens : {A : Type 0} (F : Tokens → Type 0) (stop : Token → Bool) (step : A → Reader A) → Repeats F stop step → (a : A) → Opens F F (repeat stop step a)
repeat_opens F stop step rep a = record { more = []; value = a; before = λ rest f. f; reads = λ rest f. repeat_ends stop step a rest (rep.past rest f) }

abbrev whole : {A : Type 0} → A × Tokens → Outcome A
whole p = Ok p

ok_rest : {A : Type 0} (p q : A × Tokens) → whole p ≡ Ok q → p.1 ≡ q.1
ok_rest p q e = cc

shrinks_cases : {A : Type 0} (stop : Token → Bool) (step : A → Reader A) → ((a : A) (ts : Tokens) (b : A) (rest : Tokens) → step a ts ≡ Ok (b, rest) → length rest < length ts)
    → (n : ℕ) (a : A) (ts : Tokens) (b : A) (rest : Tokens) → ((c : A) (mid : Tokens) → rounds n stop step c mid ≡ Ok (b, rest) → length rest ≤ length mid)
    → (v : Bool) (o : Outcome A) → step a ts ≡ o → cond v (Ok (a, ts)) (and_then o (rounds n stop step)) ≡ Ok (b, rest) → length rest ≤ length ts
shrinks_cases stop step takes n a ts b rest later true o e h = let k : length ts ≡ length rest = ap length (ok_rest (a, ts) (b, rest) h) in omega arith
shrinks_cases stop step takes n a ts b rest later false (Ok p) e h = let lt = takes a ts p.0 p.1 e in let le = later p.0 p.1 h in omega arith
shrinks_cases stop step takes n a ts b rest later false (Err p) e h = absurd cc

repeat_shrinks : {A : Type 0} (stop : Token → Bool) (step : A → Reader A) → ((a : A) (ts : Tokens) (b : A) (rest : Tokens) → step a ts ≡ Ok (b, rest) → length rest < length ts)
    → (n : ℕ) (a : A) (ts : Tokens) (b : A) (rest : Tokens) → rounds n stop step a ts ≡ Ok (b, rest) → length rest ≤ length ts
unfolding rounds
repeat_shrinks stop step takes zero a ts b rest e = let k : length ts ≡ length rest = ap length (ok_rest (a, ts) (b, rest) e) in omega arith
repeat_shrinks stop step takes (suc n) a ts b rest e = shrinks_cases stop step takes n a ts b rest (λ c mid e. repeat_shrinks stop step takes n c mid b rest e) (stops stop (next ts)) (step a ts) refl e

never_same : {A : Type 0} (F : Tokens → Type 0) (stop : Token → Bool) (step : A → Reader A) → Repeats F stop step → (a : A) (rest : Tokens) (b : A) (o : Outcome A) → step a rest ≡ o → and_then o (repeat stop step) ≡ Ok (b, rest) → ⊥
unfolding repeat
never_same F stop step rep a rest b (Ok p) e h =
    let lt = rep.takes a rest p.0 p.1 e in
    let le = repeat_shrinks stop step rep.takes (length p.1) p.0 p.1 b rest h in
    omega arith
never_same F stop step rep a rest b (Err p) e h = cc

-- the law where the next token doesn't stop, and where it does
repeat_law_at : {A : Type 0} (F : Tokens → Type 0) (stop : Token → Bool) (step : A → Reader A) → Repeats F stop step → (a : A) (ts : Tokens)
    → ((b : A) (rest : Tokens) → length rest < length ts → Law F (repeat stop step b) rest (repeat stop step b rest))
    → (v : Bool) → stops stop (next ts) ≡ v → Law F (look (stops stop) (pure a) (step a >>= repeat stop step)) ts (cond v (Ok (a, ts)) ((step a >>= repeat stop step) ts))
repeat_law_at F stop step rep a ts later true here = carry F (pure a) (look (stops stop) (pure a) (step a >>= repeat stop step)) (stops stop) true (λ ts e. ap (λ v. cond v (Ok (a, ts)) ((step a >>= repeat stop step) ts)) e)
    (λ rest b f e. rep.past rest f) ts here (Ok (a, ts)) ((sane_pure F a).law ts)
repeat_law_at F stop step rep a ts later false here = carry F (step a >>= repeat stop step) (look (stops stop) (pure a) (step a >>= repeat stop step)) (stops stop) false (λ ts e. ap (λ v. cond v (Ok (a, ts)) ((step a >>= repeat stop step) ts)) e)
    (λ rest b f e. absurd (never_same F stop step rep a rest b (step a rest) refl e)) ts here ((step a >>= repeat stop step) ts)
    (bind_at F F (step a) (repeat stop step) (λ b. repeat_opens F stop step rep b) (λ b rest c g e. g) ts (step a ts) ((rep.sane a).law ts) (λ b mid e. later b mid (rep.takes a ts b mid e)))

repeat_law : {A : Type 0} (F : Tokens → Type 0) (stop : Token → Bool) (step : A → Reader A) → Repeats F stop step → (n : ℕ) (a : A) (ts : Tokens) → length ts ≤ n → Law F (repeat stop step a) ts (repeat stop step a ts)
repeat_law F stop step rep zero a ts h =
    let one = repeat_law_at F stop step rep a ts (λ b rest lt. absurd (omega arith)) (stops stop (next ts)) refl in
    subst (λ o. Law F (repeat stop step a) ts o) (sym (repeat_step F stop step rep a ts)) (law_alike F (look (stops stop) (pure a) (step a >>= repeat stop step)) (repeat stop step a) (λ us. repeat_step F stop step rep a us) ts _ one)
repeat_law F stop step rep (suc n) a ts h =
    let one = repeat_law_at F stop step rep a ts (λ b rest lt. repeat_law F stop step rep n b rest (omega arith)) (stops stop (next ts)) refl in
    subst (λ o. Law F (repeat stop step a) ts o) (sym (repeat_step F stop step rep a ts)) (law_alike F (look (stops stop) (pure a) (step a >>= repeat stop step)) (repeat stop step a) (λ us. repeat_step F stop step rep a us) ts _ one)

pub sane_repeat : {A : Type 0} (F : Tokens → Type 0) (stop : Token → Bool) (step : A → Reader A) → Repeats F stop step → (a : A) → Sane F (repeat stop step a)
sane_repeat F stop step rep a = record { law = λ ts. repeat_law F stop step rep (length ts) a ts (omega arith) }

rounds_opens : {A : Type 0} (F : Tokens → Type 0) (n : ℕ) (stop : Token → Bool) (step : A → Reader A) → Repeats F stop step → (a : A) → Opens F F (rounds n stop step a)
unfolding rounds
rounds_opens F zero stop step rep a = record { more = []; value = a; before = λ rest f. f; reads = λ rest f. refl }
rounds_opens F (suc n) stop step rep a = record { more = []; value = a; before = λ rest f. f; reads = λ rest f. ap (λ v. cond v (Ok (a, rest)) ((step a >>= rounds n stop step) rest)) (rep.past rest f) }

never_same_rounds : {A : Type 0} (F : Tokens → Type 0) (stop : Token → Bool) (step : A → Reader A) → Repeats F stop step → (n : ℕ) (a : A) (rest : Tokens) (b : A) (o : Outcome A) → step a rest ≡ o → and_then o (rounds n stop step) ≡ Ok (b, rest) → ⊥
never_same_rounds F stop step rep n a rest b (Ok p) e h =
    let lt = rep.takes a rest p.0 p.1 e in
    let le = repeat_shrinks stop step rep.takes n p.0 p.1 b rest h in
    omega arith
never_same_rounds F stop step rep n a rest b (Err p) e h = cc

sane_rounds : {A : Type 0} (F : Tokens → Type 0) (stop : Token → Bool) (step : A → Reader A) → Repeats F stop step → (n : ℕ) (a : A) → Sane F (rounds n stop step a)
unfolding rounds
sane_rounds F stop step rep zero a = sane_pure F a
sane_rounds F stop step rep (suc n) a = sane_look F (stops stop) (pure a) (step a >>= rounds n stop step) (sane_pure F a)
    (sane_then F (step a) (rounds n stop step) (rep.sane a) (λ b. sane_rounds F stop step rep n b) (λ b. rounds_opens F n stop step rep b))
    (λ rest b f e. rep.past rest f) (λ rest b f e. absurd (never_same_rounds F stop step rep n a rest b (step a rest) refl e))

wider_rounds : {A : Type 0} (F : Tokens → Type 0) (stop : Token → Bool) (step step' : A → Reader A) → Repeats F stop step' → ((a : A) → Wider (step a) (step' a)) → (n : ℕ) (a : A) → Wider (rounds n stop step a) (rounds n stop step' a)
unfolding rounds
wider_rounds F stop step step' rep wider zero a = wider_pure a
wider_rounds F stop step step' rep wider (suc n) a = wider_look (stops stop) (pure a) (pure a) (step a >>= rounds n stop step) (step' a >>= rounds n stop step') (wider_pure a)
    (wider_bind F (step a) (step' a) (rounds n stop step) (rounds n stop step') (wider a) (λ b. wider_rounds F stop step step' rep wider n b) (λ b. sane_rounds F stop step' rep n b))

pub wider_repeat : {A : Type 0} (F : Tokens → Type 0) (stop : Token → Bool) (step step' : A → Reader A) → Repeats F stop step' → ((a : A) → Wider (step a) (step' a)) → (a : A) → Wider (repeat stop step a) (repeat stop step' a)
unfolding repeat
wider_repeat F stop step step' rep wider a = record { grows = λ ts. (wider_rounds F stop step step' rep wider (length ts) a).grows ts }
