-- Parts past the last level, completions of one token, and what begins a form.
use Rattle.std.proofs.Common.{◌≡◌, ℕ, zero, suc, Bool, true, false, ◌||◌, cond, List, [], ◌∷◌, ◌++◌, Option, Some, None, Err, refl, sym, ap, ◌∙◌}
use Rattle.js_syntax.specs.declared.token.Token.{Token}
use Rattle.js_syntax.specs.declared.symbol.Symbol.{Symbol}
use Rattle.js_syntax.specs.declared.parse_fault.ParseKind.TheVariants.{Unexpected, TooDeep}
use Rattle.js_syntax.specs.Symbols.{Tokens, next, among, sees}
use Rattle.js_syntax.specs.Spelling.{Spelling}
use Rattle.js_combinators.specs.Readers.{Reader, refuse, on, begin, not_taken, above}
use Rattle.js_combinators.proofs.Laws.{Sane, Opens}
use Rattle.js_combinators.proofs.Wider.{Wider}
use Rattle.js_combinators.proofs.Begin.{sane_not_taken, Takes, takes_look, takes_refuse, Begins, begins_on, begins_begin, wider_not_taken}
use Rattle.js_combinators.proofs.Sets.{Follow, May, Within, past, may_past, plain, among_append}
use Rattle.js_combinators.proofs.Spells.{Spell, On, on_passes, positive, spell_not_taken}
use Rattle.js_combinators.proofs.Good.{Good, Part, Laws, good_of, part_of, part_on}

-- at fewer levels
pub good_under : {A : Type 0} {p o o' u u' n : Bool} {E F : Follow} {R : Spelling A} {r w : Reader A} → (u ≡ true → o ≡ true) → (u' ≡ true → o' ≡ true) → Good p o o' n E F R r w → Good p u u' n E F R r w
good_under f f' g = record { laws = λ e. g.laws (f e); laws_w = λ e. g.laws_w (f' e); wider = λ e h k. g.wider e (f h) (f' k); spell = λ e. g.spell (f e) }

-- ---- a completion that begins with a token of the first alternative

pub opens_took : {A : Type 0} (F : Follow) (q : Token → Bool) (s : Token → Reader A) (r : Reader A) (t : Token) → q t ≡ true → Opens (May None) (May F) (s t) → Opens (May None) (May F) (on q s r)
opens_took F q s r t h o = record { more = t ∷ o.more; value = o.value; before = λ rest f. tt; reads = λ rest f. ap (λ b. cond b (s t (o.more ++ rest)) (r (t ∷ (o.more ++ rest)))) h ∙ o.reads rest f }

pub begin_passes : {A : Type 0} (left : ℕ) (q : Token → Bool) (s : Token → Reader A) (r : Reader A) (ts : Tokens) → sees q (next ts) ≡ false → begin left q s r ts ≡ r ts
unfolding begin
begin_passes zero q s r ts h = ap (λ b. cond b (Err (TooDeep, ts)) (r ts)) h
begin_passes (suc left) q s r [] h = refl
begin_passes (suc left) q s r (t ∷ ts) h = ap (λ b. cond b (s t ts) (r (t ∷ ts))) h

-- ---- parts past the last level

above_sane : {A : Type 0} (n : Bool) (E F : Follow) (left : ℕ) (q : Token → Bool) (r : Reader A) → (positive left ≡ true → Laws n E F r) → Sane (May F) (above left q r)
unfolding above
above_sane n E F zero q r g = sane_not_taken (May F) q
above_sane n E F (suc left) q r g = (g refl).sane

pub takes_not_taken : {A : Type 0} (q : Token → Bool) → Takes {A = A} (not_taken q)
takes_not_taken q = takes_look (sees q) (refuse TooDeep) (refuse Unexpected) (takes_refuse TooDeep) (takes_refuse Unexpected)

above_takes : {A : Type 0} (E F : Follow) (left : ℕ) (q : Token → Bool) (r : Reader A) → (positive left ≡ true → Laws true E F r) → Takes (above left q r)
unfolding above
above_takes E F zero q r g = takes_not_taken q
above_takes E F (suc left) q r g = (g refl).takes refl

above_spell : {A : Type 0} (left : ℕ) (q : Token → Bool) (R : Spelling A) (r : Reader A) → (positive left ≡ true → Spell R r) → ((a : A) (ts rest : Tokens) → R a ts rest → positive left ≡ true) → Spell R (above left q r)
unfolding above
above_spell zero q R r g some = record { reads = λ a ts rest h. absurd (impossible (some a ts rest h)); spells = λ a ts rest e. absurd ((spell_not_taken q).spells a ts rest e) } where
  impossible : false ≡ true → ⊥
  impossible e = cc
above_spell (suc left) q R r g some = g refl

above_wider : {A : Type 0} (left left' : ℕ) (q : Token → Bool) (r w : Reader A) → positive left' ≡ true → Begins q w → (positive left ≡ true → positive left' ≡ true → Wider r w) → Wider (above left q r) (above left' q w)
unfolding above
above_wider left zero q r w up begins wider = absurd cc
above_wider zero (suc left') q r w up begins wider = wider_not_taken q w begins
above_wider (suc left) (suc left') q r w up begins wider = wider refl refl

pub part_above : {A : Type 0} {p : Bool} {E F : Follow} {R : Spelling A} {r w : Reader A} (left left' : ℕ) (q : Token → Bool) → (p ≡ true → positive left' ≡ true) → (p ≡ true → Begins q w) → ((a : A) (ts rest : Tokens) → R a ts rest → positive left ≡ true)
    → Good p (positive left) (positive left') true E F R r w → Part p true true true F R (above left q r) (above left' q w)
part_above {E = E} {F = F} {R = R} {r = r} {w = w} left left' q wide begins some g = record {
  sane = λ e. above_sane true E F left q r g.laws;
  sane_w = λ e. above_sane true E F left' q w g.laws_w;
  takes = λ e h. above_takes E F left q r g.laws;
  takes_w = λ e h. above_takes E F left' q w g.laws_w;
  wider = λ e h k. above_wider left left' q r w (wide e) (begins e) (g.wider e);
  spell = λ e. above_spell left q R r g.spell some;
}

-- ---- what begins a form

pub begins_alike : {A : Type 0} (q q' : Token → Bool) (r : Reader A) → ((t : Token) → q' t ≡ q t) → Begins q r → Begins q' r
begins_alike q q' r same begins = record { further = λ ts e. begins.further ts (sym (alike (next ts)) ∙ e); refuses = λ ts e. begins.refuses ts (sym (alike (next ts)) ∙ e) } where
  alike : (o : Option Token) → sees q' o ≡ sees q o
  alike None = refl
  alike (Some t) = same t

pub begins_with : {A : Type 0} (F : Follow) (xs ys : List Symbol) (s : Token → Reader A) (r : Reader A) → ((t : Token) → among xs t ≡ true → Sane (May F) (s t)) → Begins (among ys) r → Begins (among (xs ++ ys)) (on (among xs) s r)
begins_with F xs ys s r sane other = begins_alike (λ t. among xs t || among ys t) (among (xs ++ ys)) (on (among xs) s r) (among_append xs ys) (begins_on (May F) (among xs) (among ys) s r sane other)

pub begins_above : {A : Type 0} (F : Follow) (left : ℕ) → positive left ≡ true → (xs ys : List Symbol) (s : Token → Reader A) (r : Reader A) → ((t : Token) → among xs t ≡ true → Sane (May F) (s t)) → Begins (among ys) r → Begins (among (xs ++ ys)) (begin left (among xs) s r)
unfolding begin
begins_above F zero up xs ys s r sane other = absurd cc
begins_above F (suc left) up xs ys s r sane other = begins_with F xs ys s r sane other

-- ---- a choice that is completed by its other alternative

other_opens : {A : Type 0} (E F : Follow) (q : Token → Bool) (xs : List Symbol) (s : Token → Reader A) (r : Reader A) → Within q xs → past E xs ≡ true → Opens (May E) (May F) r → Opens (May E) (May F) (on q s r)
other_opens E F q xs s r i h o = record { more = o.more; value = o.value; before = o.before; reads = λ rest f. on_passes q s r (o.more ++ rest) (may_past E q xs i h (o.more ++ rest) (o.before rest f)) ∙ o.reads rest f }

pub good_other : {A : Type 0} {p o o' n m : Bool} {E F : Follow} {q : Token → Bool} {S : Token → Spelling A} {R : Spelling A} {s v : Token → Reader A} {r w : Reader A}
    (xs : List Symbol) → Within q xs → plain xs ≡ true → (n || past F xs) ≡ true → past E xs ≡ true → ((t : Token) → q t ≡ true → Good p o o' m None F (S t) (s t) (v t)) → Good p o o' n E F R r w → Good p o o' n E F (On q S R) (on q s r) (on q v w)
good_other {E = E} {F = F} {q = q} {s = s} {v = v} {r = r} {w = w} xs i h k j step other =
    good_of (part_on xs i h k step (part_of other)) (λ e. other_opens E F q xs s r i j (other.laws e).opens) (λ e. other_opens E F q xs v w i j (other.laws_w e).opens)

pub begins_up : {A : Type 0} (F : Follow) (left : ℕ) → positive left ≡ true → (q q' : Token → Bool) (s : Token → Reader A) (r : Reader A) → ((t : Token) → q t ≡ true → Sane (May F) (s t)) → Begins q' r → Begins (λ t. q t || q' t) (begin left q s r)
begins_up F zero up q q' s r sane other = absurd cc
begins_up F (suc left) up q q' s r sane other = begins_begin (May F) left q q' s r sane other
