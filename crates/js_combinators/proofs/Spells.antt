-- What the steps of readers spell, and that they read it.
use Rattle.std.proofs.Common.{◌≡◌, ℕ, zero, suc, ◌≤◌, Bool, true, false, cond, [], ◌∷◌, length, Option, Some, None, Ok, Err, refl, ap, subst, ◌∙◌, arith}
use Rattle.js_syntax.specs.declared.token.Token.{Token}
use Rattle.js_syntax.specs.declared.parse_fault.ParseKind.{ParseKind}
use Rattle.js_syntax.specs.declared.parse_fault.ParseKind.TheVariants.{Unexpected, TooDeep}
use Rattle.js_syntax.specs.Symbols.{Tokens, next, sees, stops}
use Rattle.js_syntax.specs.Spelling.{Spelling, Both, both, Links, no_more, link}
use Rattle.js_combinators.specs.Readers.{Outcome, Reader, and_then, ◌>>=◌, pure, refuse, look, on, rounds, repeat, deny, chain, begin, not_taken}
use Rattle.js_combinators.proofs.Begin.{Takes, takes_less}
use Rattle.js_combinators.proofs.Loops.{denies, deny_passes, chain_ends}

-- The relation is all that is read.
pub record Spell {A : Type 0} (R : Spelling A) (r : Reader A) : Type 0 where
  pub reads : (a : A) (ts rest : Tokens) → R a ts rest → r ts ≡ Ok (a, rest)
  pub spells : (a : A) (ts rest : Tokens) → r ts ≡ Ok (a, rest) → R a ts rest

-- the same relation in other words
pub respelled : {A : Type 0} {R S : Spelling A} {r : Reader A} → Spell R r → ((a : A) (ts rest : Tokens) → R a ts rest → S a ts rest) → ((a : A) (ts rest : Tokens) → S a ts rest → R a ts rest) → Spell S r
respelled spell to from = record { reads = λ a ts rest h. spell.reads a ts rest (from a ts rest h); spells = λ a ts rest e. to a ts rest (spell.spells a ts rest e) }

-- ---- a value alone

pub data Same {A : Type 0} (a : A) : A → Tokens → Tokens → Type 0 where
  same : {ts : Tokens} → Same a a ts ts

abbrev ok : {A : Type 0} → A × Tokens → Outcome A
ok p = Ok p

ok_is : {A : Type 0} (p q : A × Tokens) → ok p ≡ Ok q → p ≡ q
ok_is p q e = cc

same_reads : {A : Type 0} (a b : A) (ts rest : Tokens) → Same a b ts rest → ok (a, ts) ≡ Ok (b, rest)
same_reads a b ts rest same = refl

pub spell_pure : {A : Type 0} (a : A) → Spell (Same a) (pure a)
spell_pure a = record { reads = same_reads a; spells = λ b ts rest e. subst (λ p. Same a p.0 ts p.1) (ok_is (a, ts) (b, rest) e) same }

-- a form whose value is that of another
pub made : {A : Type 0} {v a : A} {ts mid rest : Tokens} (R : Spelling A) → Same v a mid rest → R v ts mid → R a ts rest
made R same h = h

-- ---- nothing

abbrev pub Nothing : {A : Type 0} → Spelling A
Nothing a ts rest = ⊥

never : {A : Type 0} (e : ParseKind × Tokens) (p : A × Tokens) → Err e ≡ ok p → ⊥
never e p h = cc

pub spell_refuse : {A : Type 0} (k : ParseKind) → Spell {A = A} Nothing (refuse k)
spell_refuse k = record { reads = λ a ts rest h. absurd h; spells = λ a ts rest e. never (k, ts) (a, rest) e }

-- ---- one after another

both_reads : {A B : Type 0} (R : Spelling A) (S : A → Spelling B) (r : Reader A) (s : A → Reader B) → Spell R r → ((a : A) → Spell (S a) (s a)) → (b : B) (ts rest : Tokens) → Both R S b ts rest → (r >>= s) ts ≡ Ok (b, rest)
both_reads R S r s first second b ts rest (both {a = a} {mid = mid} p q) = ap (λ o. and_then o s) (first.reads a ts mid p) ∙ (second a).reads b mid rest q

both_spells : {A B : Type 0} (R : Spelling A) (S : A → Spelling B) (r : Reader A) (s : A → Reader B) → Spell R r → ((a : A) → Spell (S a) (s a)) → (b : B) (ts rest : Tokens) (o : Outcome A) → r ts ≡ o → and_then o s ≡ Ok (b, rest) → Both R S b ts rest
both_spells R S r s first second b ts rest (Ok p) e h = both (first.spells p.0 ts p.1 e) ((second p.0).spells b p.1 rest h)
both_spells R S r s first second b ts rest (Err v) e h = absurd (never v (b, rest) h)

pub spell_then : {A B : Type 0} {R : Spelling A} {S : A → Spelling B} {r : Reader A} {s : A → Reader B} → Spell R r → ((a : A) → Spell (S a) (s a)) → Spell (Both R S) (r >>= s)
spell_then {R = R} {S = S} {r = r} {s = s} first second = record { reads = both_reads R S r s first second; spells = λ b ts rest e. both_spells R S r s first second b ts rest (r ts) refl e }

-- ---- a token, and what goes on with it

pub data On {A : Type 0} (q : Token → Bool) (S : Token → Spelling A) (R : Spelling A) : A → Tokens → Tokens → Type 0 where
  took : {t : Token} {a : A} {ts rest : Tokens} → q t ≡ true → S t a ts rest → On q S R a (t ∷ ts) rest
  passed : {a : A} {ts rest : Tokens} → sees q (next ts) ≡ false → R a ts rest → On q S R a ts rest

pub on_passes : {A : Type 0} (q : Token → Bool) (s : Token → Reader A) (r : Reader A) (ts : Tokens) → sees q (next ts) ≡ false → on q s r ts ≡ r ts
on_passes q s r [] h = refl
on_passes q s r (t ∷ ts) h = ap (λ b. cond b (s t ts) (r (t ∷ ts))) h

on_reads : {A : Type 0} (q : Token → Bool) (S : Token → Spelling A) (R : Spelling A) (s : Token → Reader A) (r : Reader A) → ((t : Token) → q t ≡ true → Spell (S t) (s t)) → Spell R r → (a : A) (ts rest : Tokens) → On q S R a ts rest → on q s r ts ≡ Ok (a, rest)
on_reads q S R s r first other a ts rest (took {t = t} {ts = us} h p) = ap (λ b. cond b (s t us) (r (t ∷ us))) h ∙ (first t h).reads a us rest p
on_reads q S R s r first other a ts rest (passed h p) = on_passes q s r ts h ∙ other.reads a ts rest p

on_spells_at : {A : Type 0} (q : Token → Bool) (S : Token → Spelling A) (R : Spelling A) (s : Token → Reader A) (r : Reader A) → ((t : Token) → q t ≡ true → Spell (S t) (s t)) → Spell R r → (a : A) (t : Token) (ts rest : Tokens) (b : Bool) → q t ≡ b → cond b (s t ts) (r (t ∷ ts)) ≡ Ok (a, rest) → On q S R a (t ∷ ts) rest
on_spells_at q S R s r first other a t ts rest true h e = took h ((first t h).spells a ts rest e)
on_spells_at q S R s r first other a t ts rest false h e = passed h (other.spells a (t ∷ ts) rest e)

on_spells : {A : Type 0} (q : Token → Bool) (S : Token → Spelling A) (R : Spelling A) (s : Token → Reader A) (r : Reader A) → ((t : Token) → q t ≡ true → Spell (S t) (s t)) → Spell R r → (a : A) (ts rest : Tokens) → on q s r ts ≡ Ok (a, rest) → On q S R a ts rest
on_spells q S R s r first other a [] rest e = passed refl (other.spells a [] rest e)
on_spells q S R s r first other a (t ∷ ts) rest e = on_spells_at q S R s r first other a t ts rest (q t) refl e

pub spell_on : {A : Type 0} {q : Token → Bool} {S : Token → Spelling A} {R : Spelling A} {s : Token → Reader A} {r : Reader A} → ((t : Token) → q t ≡ true → Spell (S t) (s t)) → Spell R r → Spell (On q S R) (on q s r)
spell_on {q = q} {S = S} {R = R} {s = s} {r = r} first other = record { reads = on_reads q S R s r first other; spells = on_spells q S R s r first other }

-- ---- a form that is begun above the last level

abbrev pub positive : ℕ → Bool
positive zero = false
positive (suc n) = true

-- .. and what it says then
abbrev pub Above : {A : Type 0} → ℕ → (Token → Spelling A) → Token → Spelling A
Above left S t a ts rest = (positive left ≡ true) × S t a ts rest

above_spell : {A : Type 0} (n : ℕ) (S : Token → Spelling A) (s : Token → Reader A) (t : Token) → Spell (S t) (s t) → Spell (Above (suc n) S t) (s t)
above_spell n S s t spell = record { reads = λ a ts rest h. spell.reads a ts rest h.1; spells = λ a ts rest e. (refl, spell.spells a ts rest e) }

last_reads : {A : Type 0} (q : Token → Bool) (S : Token → Spelling A) (R : Spelling A) (r : Reader A) → Spell R r → (a : A) (ts rest : Tokens) → On q (Above zero S) R a ts rest → look (sees q) (refuse TooDeep) r ts ≡ Ok (a, rest)
last_reads q S R r other a ts rest (took h p) = absurd (not_zero p.0) where
  not_zero : false ≡ true → ⊥
  not_zero h = cc
last_reads q S R r other a ts rest (passed h p) = ap (λ b. cond b (Err (TooDeep, ts)) (r ts)) h ∙ other.reads a ts rest p

last_spells : {A : Type 0} (q : Token → Bool) (S : Token → Spelling A) (R : Spelling A) (r : Reader A) → Spell R r → (a : A) (ts rest : Tokens) (b : Bool) → sees q (next ts) ≡ b → cond b (Err (TooDeep, ts)) (r ts) ≡ Ok (a, rest) → On q (Above zero S) R a ts rest
last_spells q S R r other a ts rest true h e = absurd (never (TooDeep, ts) (a, rest) e)
last_spells q S R r other a ts rest false h e = passed h (other.spells a ts rest e)

pub spell_begin : {A : Type 0} (left : ℕ) {q : Token → Bool} {S : Token → Spelling A} {R : Spelling A} {s : Token → Reader A} {r : Reader A} → ((n : ℕ) → left ≡ suc n → (t : Token) → q t ≡ true → Spell (S t) (s t)) → Spell R r → Spell (On q (Above left S) R) (begin left q s r)
unfolding begin
spell_begin zero {q = q} {S = S} {R = R} {r = r} first other = record { reads = last_reads q S R r other; spells = λ a ts rest e. last_spells q S R r other a ts rest (sees q (next ts)) refl e }
spell_begin (suc n) {q = q} {S = S} {R = R} {s = s} {r = r} first other = spell_on (λ t h. above_spell n S s t (first n refl t h)) other

-- ---- a look at the next token

pub data Look {A : Type 0} (q : Token → Bool) (R S : Spelling A) : A → Tokens → Tokens → Type 0 where
  here : {a : A} {ts rest : Tokens} → sees q (next ts) ≡ true → R a ts rest → Look q R S a ts rest
  there : {a : A} {ts rest : Tokens} → sees q (next ts) ≡ false → S a ts rest → Look q R S a ts rest

look_reads : {A : Type 0} (q : Token → Bool) (R S : Spelling A) (r s : Reader A) → Spell R r → Spell S s → (a : A) (ts rest : Tokens) → Look q R S a ts rest → look (sees q) r s ts ≡ Ok (a, rest)
look_reads q R S r s f g a ts rest (here h p) = ap (λ b. cond b (r ts) (s ts)) h ∙ f.reads a ts rest p
look_reads q R S r s f g a ts rest (there h p) = ap (λ b. cond b (r ts) (s ts)) h ∙ g.reads a ts rest p

look_spells : {A : Type 0} (q : Token → Bool) (R S : Spelling A) (r s : Reader A) → Spell R r → Spell S s → (a : A) (ts rest : Tokens) (b : Bool) → sees q (next ts) ≡ b → cond b (r ts) (s ts) ≡ Ok (a, rest) → Look q R S a ts rest
look_spells q R S r s f g a ts rest true h e = here h (f.spells a ts rest e)
look_spells q R S r s f g a ts rest false h e = there h (g.spells a ts rest e)

pub spell_look : {A : Type 0} {q : Token → Bool} {R S : Spelling A} {r s : Reader A} → Spell R r → Spell S s → Spell (Look q R S) (look (sees q) r s)
spell_look {q = q} {R = R} {S = S} {r = r} {s = s} f g = record { reads = look_reads q R S r s f g; spells = λ a ts rest e. look_spells q R S r s f g a ts rest (sees q (next ts)) refl e }

not_taken_spells : {A : Type 0} (b : Bool) (ts : Tokens) (p : A × Tokens) → cond b (Err (TooDeep, ts)) (Err (Unexpected, ts)) ≡ ok p → ⊥
not_taken_spells true ts p e = cc
not_taken_spells false ts p e = cc

pub spell_not_taken : {A : Type 0} (q : Token → Bool) → Spell {A = A} Nothing (not_taken q)
spell_not_taken q = record { reads = λ a ts rest h. absurd h; spells = λ a ts rest e. not_taken_spells (sees q (next ts)) ts (a, rest) e }

-- ---- loops

-- rounds up to a token that stops
pub data Rounds {A : Type 0} (stop : Token → Bool) (Step : A → Spelling A) : A → A → Tokens → Tokens → Type 0 where
  stopped : {a : A} {ts : Tokens} → stops stop (next ts) ≡ true → Rounds stop Step a a ts ts
  round : {a b c : A} {ts mid rest : Tokens} → stops stop (next ts) ≡ false → Step a b ts mid → Rounds stop Step b c mid rest → Rounds stop Step a c ts rest

rounds_reads : {A : Type 0} (stop : Token → Bool) (Step : A → Spelling A) (step : A → Reader A) → ((a : A) → Spell (Step a) (step a)) → ((a : A) → Takes (step a)) → (n : ℕ) (a c : A) (ts rest : Tokens) → length ts ≤ n → Rounds stop Step a c ts rest → rounds n stop step a ts ≡ Ok (c, rest)
unfolding rounds
rounds_reads stop Step step spell takes zero a c ts rest le (stopped h) = refl
rounds_reads stop Step step spell takes (suc n) a c ts rest le (stopped h) = ap (λ b. cond b (Ok (a, ts)) ((step a >>= rounds n stop step) ts)) h
rounds_reads stop Step step spell takes zero a c ts rest le (round {b = b} {mid = mid} h p q) =
    let lt = takes_less (step a) (takes a) ts b mid ((spell a).reads b ts mid p) in absurd (omega arith)
rounds_reads stop Step step spell takes (suc n) a c ts rest le (round {b = b} {mid = mid} h p q) =
    let e = (spell a).reads b ts mid p in
    let lt = takes_less (step a) (takes a) ts b mid e in
    ap (λ v. cond v (Ok (a, ts)) ((step a >>= rounds n stop step) ts)) h
    ∙ ap (λ o. and_then o (rounds n stop step)) e
    ∙ rounds_reads stop Step step spell takes n b c mid rest (omega arith) q

no_tokens : (ts : Tokens) (stop : Token → Bool) → length ts ≤ 0 → stops stop (next ts) ≡ true
no_tokens [] stop le = refl
no_tokens (t ∷ ts) stop le = absurd (omega arith)

stopped_as : {A : Type 0} (stop : Token → Bool) (Step : A → Spelling A) (a c : A) (ts rest : Tokens) → stops stop (next ts) ≡ true → ok (a, ts) ≡ Ok (c, rest) → Rounds stop Step a c ts rest
stopped_as stop Step a c ts rest h e = subst (λ p. Rounds stop Step a p.0 ts p.1) (ok_is (a, ts) (c, rest) e) (stopped h)

rounds_cases : {A : Type 0} (stop : Token → Bool) (Step : A → Spelling A) (step : A → Reader A) → ((a : A) → Spell (Step a) (step a)) → ((a : A) → Takes (step a)) → (n : ℕ) (a c : A) (ts rest : Tokens) → length ts ≤ suc n
    → ((b : A) (mid : Tokens) → length mid ≤ n → rounds n stop step b mid ≡ Ok (c, rest) → Rounds stop Step b c mid rest)
    → (v : Bool) → stops stop (next ts) ≡ v → (o : Outcome A) → step a ts ≡ o → cond v (Ok (a, ts)) (and_then o (rounds n stop step)) ≡ Ok (c, rest) → Rounds stop Step a c ts rest
rounds_cases stop Step step spell takes n a c ts rest le later true h o e k = stopped_as stop Step a c ts rest h k
rounds_cases stop Step step spell takes n a c ts rest le later false h (Ok p) e k =
    let lt = takes_less (step a) (takes a) ts p.0 p.1 e in
    round h ((spell a).spells p.0 ts p.1 e) (later p.0 p.1 (omega arith) k)
rounds_cases stop Step step spell takes n a c ts rest le later false h (Err v) e k = absurd (never v (c, rest) k)

rounds_spells : {A : Type 0} (stop : Token → Bool) (Step : A → Spelling A) (step : A → Reader A) → ((a : A) → Spell (Step a) (step a)) → ((a : A) → Takes (step a)) → (n : ℕ) (a c : A) (ts rest : Tokens) → length ts ≤ n → rounds n stop step a ts ≡ Ok (c, rest) → Rounds stop Step a c ts rest
unfolding rounds
rounds_spells stop Step step spell takes zero a c ts rest le e = stopped_as stop Step a c ts rest (no_tokens ts stop le) e
rounds_spells stop Step step spell takes (suc n) a c ts rest le e =
    rounds_cases stop Step step spell takes n a c ts rest le (λ b mid le e. rounds_spells stop Step step spell takes n b c mid rest le e) (stops stop (next ts)) refl (step a ts) refl e

pub spell_repeat : {A : Type 0} {stop : Token → Bool} {Step : A → Spelling A} {step : A → Reader A} → ((a : A) → Spell (Step a) (step a)) → ((a : A) → Takes (step a)) → (a : A) → Spell (Rounds stop Step a) (repeat stop step a)
unfolding repeat
spell_repeat {stop = stop} {Step = Step} {step = step} spell takes a = record {
  reads = λ c ts rest h. rounds_reads stop Step step spell takes (length ts) a c ts rest (omega arith) h;
  spells = λ c ts rest e. rounds_spells stop Step step spell takes (length ts) a c ts rest (omega arith) e;
}

-- ---- chains

chain_reads : {A : Type 0} (d : Option (Token → Bool)) (q : Token → Bool) (Step : Token → A → Spelling A) (step : A → Token → Reader A)
    → ((o : Option Token) → sees q o ≡ false → sees (denies d) o ≡ false) → ((a : A) (t : Token) → q t ≡ true → denies d t ≡ false → Spell (Step t a) (step a t)) → ((t : Token) (a b : A) (ts rest : Tokens) → Step t a b ts rest → q t ≡ true → denies d t ≡ false)
    → (n : ℕ) (a c : A) (ts rest : Tokens) → Links q Step n a c ts rest → chain n d q step a ts ≡ Ok (c, rest)
unfolding chain
chain_reads d q Step step outside spell kept n a c ts rest (no_more h) = chain_ends (λ ts. Unit {0}) n d q step outside a ts h
chain_reads d q Step step outside spell kept (suc n) a c ts rest (link {t = t} {b = b} {ts = us} {mid = mid} h p later) =
    let k = kept t a b us mid p h in
    deny_passes d (on q (λ t. step a t >>= chain n d q step) (pure a)) (t ∷ us) k
    ∙ ap (λ v. cond v ((step a t >>= chain n d q step) us) (Ok (a, t ∷ us))) h
    ∙ ap (λ o. and_then o (chain n d q step)) ((spell a t h k).reads b us mid p)
    ∙ chain_reads d q Step step outside spell kept n b c mid rest later

end_cases : {A : Type 0} (q : Token → Bool) (Step : Token → A → Spelling A) (n : ℕ) (a c : A) (ts rest : Tokens) (v : Bool) → sees q (next ts) ≡ v → cond v (Err (TooDeep, ts)) (ok (a, ts)) ≡ Ok (c, rest) → Links q Step n a c ts rest
end_cases q Step n a c ts rest true h e = absurd (never (TooDeep, ts) (c, rest) e)
end_cases q Step n a c ts rest false h e = subst (λ p. Links q Step n a p.0 ts p.1) (ok_is (a, ts) (c, rest) e) (no_more h)

link_cases : {A : Type 0} (q : Token → Bool) (Step : Token → A → Spelling A) (step : A → Token → Reader A) (n : ℕ) (a c : A) (t : Token) (ts rest : Tokens) (more : A → Reader A)
    → (q t ≡ true → Spell (Step t a) (step a t)) → ((b : A) (mid : Tokens) → more b mid ≡ Ok (c, rest) → Links q Step n b c mid rest)
    → (v : Bool) → q t ≡ v → (o : Outcome A) → step a t ts ≡ o → cond v (and_then o more) (ok (a, t ∷ ts)) ≡ Ok (c, rest) → Links q Step (suc n) a c (t ∷ ts) rest
link_cases q Step step n a c t ts rest more spell later true h (Ok p) e k = link h ((spell h).spells p.0 ts p.1 e) (later p.0 p.1 k)
link_cases q Step step n a c t ts rest more spell later true h (Err v) e k = absurd (never v (c, rest) k)
link_cases q Step step n a c t ts rest more spell later false h o e k = subst (λ p. Links q Step (suc n) a p.0 (t ∷ ts) p.1) (ok_is (a, t ∷ ts) (c, rest) k) (no_more h)

-- what is read behind a denial wasn't denied
undenied : {A : Type 0} (d : Option (Token → Bool)) (r : Reader A) (ts : Tokens) (p : A × Tokens) → deny d r ts ≡ Ok p → (sees (denies d) (next ts) ≡ false) × (r ts ≡ Ok p)
undenied None r [] p e = (refl, e)
undenied None r (t ∷ ts) p e = (refl, e)
undenied {A = X} (Some d) r ts p e = cases (sees d (next ts)) refl e where
  cases : (b : Bool) → sees d (next ts) ≡ b → cond b (Err (TooDeep, ts)) (r ts) ≡ Ok p → (sees d (next ts) ≡ false) × (r ts ≡ Ok p)
  cases true h e = absurd (never (TooDeep, ts) p e)
  cases false h e = (h, e)

chain_spells : {A : Type 0} (d : Option (Token → Bool)) (q : Token → Bool) (Step : Token → A → Spelling A) (step : A → Token → Reader A)
    → ((a : A) (t : Token) → q t ≡ true → denies d t ≡ false → Spell (Step t a) (step a t))
    → (n : ℕ) (a c : A) (ts rest : Tokens) → chain n d q step a ts ≡ Ok (c, rest) → Links q Step n a c ts rest
unfolding chain
chain_spells d q Step step spell zero a c ts rest e = end_cases q Step zero a c ts rest (sees q (next ts)) refl e
chain_spells d q Step step spell (suc n) a c [] rest e = subst (λ p. Links q Step (suc n) a p.0 [] p.1) (ok_is (a, []) (c, rest) (undenied d (on q (λ t. step a t >>= chain n d q step) (pure a)) [] (c, rest) e).1) (no_more refl)
chain_spells d q Step step spell (suc n) a c (t ∷ ts) rest e =
    let u = undenied d (on q (λ t. step a t >>= chain n d q step) (pure a)) (t ∷ ts) (c, rest) e in
    link_cases q Step step n a c t ts rest (chain n d q step) (λ h. spell a t h u.0) (λ b mid e. chain_spells d q Step step spell n b c mid rest e) (q t) refl (step a t ts) refl u.1

pub spell_chain : {A : Type 0} (n : ℕ) (d : Option (Token → Bool)) {q : Token → Bool} {Step : Token → A → Spelling A} {step : A → Token → Reader A}
    → ((o : Option Token) → sees q o ≡ false → sees (denies d) o ≡ false) → ((a : A) (t : Token) → q t ≡ true → denies d t ≡ false → Spell (Step t a) (step a t)) → ((t : Token) (a b : A) (ts rest : Tokens) → Step t a b ts rest → q t ≡ true → denies d t ≡ false)
    → (a : A) → Spell (Links q Step n a) (chain n d q step a)
spell_chain n d {q = q} {Step = Step} {step = step} outside spell kept a = record { reads = λ c ts rest h. chain_reads d q Step step outside spell kept n a c ts rest h; spells = λ c ts rest e. chain_spells d q Step step spell n a c ts rest e }
