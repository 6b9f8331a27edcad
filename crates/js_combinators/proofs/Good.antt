-- A reader with all its laws, beside the same reader at wider limits: the laws of a form are put together from those of its parts.
use Rattle.std.proofs.Common.{◌≡◌, ℕ, zero, suc, ◌<◌, ◌≤◌, Bool, true, false, not, ◌||◌, cond, List, [], ◌∷◌, ◌++◌, length, Option, Some, None, Ok, Err, refl, sym, ap, subst, ◌∙◌, append_assoc, arith}
use Rattle.std.proofs.lemmas.List.{length-append}
use Rattle.js_syntax.specs.declared.token.Token.{Token}
use Rattle.js_syntax.specs.declared.symbol.Symbol.{Symbol}
use Rattle.js_syntax.specs.declared.parse_fault.ParseKind.TheVariants.{Unexpected, TooDeep}
use Rattle.js_syntax.specs.Symbols.{Tokens, next, is, sees, stops}
use Rattle.js_syntax.specs.Spelling.{Spelling, Both, Links}
use Rattle.js_combinators.specs.Readers.{Outcome, Reader, and_then, ◌>>=◌, pure, refuse, look, on, expect, repeat, chain, begin}
use Rattle.js_combinators.proofs.Laws.{Law, Sane, Opens, sane_pure, sane_refuse, sane_on, sane_look, sane_bind}
use Rattle.js_combinators.proofs.Wider.{Wider, wider_pure, wider_unexpected, wider_on, wider_look, wider_bind}
use Rattle.js_combinators.proofs.Loops.{denies, Links as ChainLinks, Repeats, chain_ends, sane_chain, wider_chain, repeat_opens, sane_repeat, wider_repeat}
use Rattle.js_combinators.proofs.Begin.{sane_begin, wider_begin, Takes, TookSome, takes_refuse, takes_on, takes_begin, takes_look, takes_bind, takes_less}
use Rattle.js_combinators.proofs.Sets.{among_subset_one, Follow, May, within, may_within, past, may_past, allows, Within, plain, is_plain}
use Rattle.js_combinators.proofs.Spells.{Spell, respelled, Same, same, spell_pure, Nothing, spell_refuse, spell_then, On, took, passed, on_passes, spell_on, Look, spell_look, Above, positive, spell_begin, Rounds, spell_repeat, spell_chain}

-- what is sane, can be completed from its start, and maybe takes a token
pub record Laws {A : Type 0} (n : Bool) (E F : Follow) (r : Reader A) : Type 0 where
  pub sane : Sane (May F) r
  pub opens : Opens (May E) (May F) r
  pub takes : n ≡ true → Takes r

-- o, o': whether there is a level for the parts of r and of the wider w; p: whether w is wider
pub record Good {A : Type 0} (p o o' n : Bool) (E F : Follow) (R : Spelling A) (r w : Reader A) : Type 0 where
  pub laws : o ≡ true → Laws n E F r
  pub laws_w : o' ≡ true → Laws n E F w
  pub wider : p ≡ true → o ≡ true → o' ≡ true → Wider r w
  pub spell : o ≡ true → Spell R r

-- the same without a completion from the start
pub record Part {A : Type 0} (p o o' n : Bool) (F : Follow) (R : Spelling A) (r w : Reader A) : Type 0 where
  pub sane : o ≡ true → Sane (May F) r
  pub sane_w : o' ≡ true → Sane (May F) w
  pub takes : o ≡ true → n ≡ true → Takes r
  pub takes_w : o' ≡ true → n ≡ true → Takes w
  pub wider : p ≡ true → o ≡ true → o' ≡ true → Wider r w
  pub spell : o ≡ true → Spell R r

pub part_of : {A : Type 0} {p o o' n : Bool} {E F : Follow} {R : Spelling A} {r w : Reader A} → Good p o o' n E F R r w → Part p o o' n F R r w
part_of g = record { sane = λ e. (g.laws e).sane; sane_w = λ e. (g.laws_w e).sane; takes = λ e. (g.laws e).takes; takes_w = λ e. (g.laws_w e).takes; wider = g.wider; spell = g.spell }

pub good_of : {A : Type 0} {p o o' n : Bool} {E F : Follow} {R : Spelling A} {r w : Reader A} → Part p o o' n F R r w → (o ≡ true → Opens (May E) (May F) r) → (o' ≡ true → Opens (May E) (May F) w) → Good p o o' n E F R r w
good_of g opens opens_w = record {
  laws = λ e. record { sane = g.sane e; opens = opens e; takes = g.takes e };
  laws_w = λ e. record { sane = g.sane_w e; opens = opens_w e; takes = g.takes_w e };
  wider = g.wider;
  spell = g.spell;
}

pub part_lifted : {A : Type 0} {p o o' n : Bool} {F : Follow} {R : Spelling A} {r w : Reader A} → Part p true true n F R r w → Part p o o' n F R r w
part_lifted g = record { sane = λ e. g.sane refl; sane_w = λ e. g.sane_w refl; takes = λ e. g.takes refl; takes_w = λ e. g.takes_w refl; wider = λ e h k. g.wider e refl refl; spell = λ e. g.spell refl }

-- at any level
pub lifted : {A : Type 0} {p o o' n : Bool} {E F : Follow} {R : Spelling A} {r w : Reader A} → Good p true true n E F R r w → Good p o o' n E F R r w
lifted g = record { laws = λ e. g.laws refl; laws_w = λ e. g.laws_w refl; wider = λ e h k. g.wider e refl refl; spell = λ e. g.spell refl }

pub good_as : {A : Type 0} {p o o' n : Bool} {E F : Follow} {R S : Spelling A} {r w : Reader A} → Good p o o' n E F R r w → ((a : A) (ts rest : Tokens) → R a ts rest → S a ts rest) → ((a : A) (ts rest : Tokens) → S a ts rest → R a ts rest) → Good p o o' n E F S r w
good_as g to from = record { laws = g.laws; laws_w = g.laws_w; wider = g.wider; spell = λ e. respelled (g.spell e) to from }

pub part_as : {A : Type 0} {p o o' n : Bool} {F : Follow} {R S : Spelling A} {r w : Reader A} → Part p o o' n F R r w → ((a : A) (ts rest : Tokens) → R a ts rest → S a ts rest) → ((a : A) (ts rest : Tokens) → S a ts rest → R a ts rest) → Part p o o' n F S r w
part_as g to from = record { sane = g.sane; sane_w = g.sane_w; takes = g.takes; takes_w = g.takes_w; wider = g.wider; spell = λ e. respelled (g.spell e) to from }

-- where anything may stand before
opens_anywhere : {A : Type 0} (E F : Follow) (r : Reader A) → Opens (May E) (May F) r → Opens (May None) (May F) r
opens_anywhere E F r o = record { more = o.more; value = o.value; before = λ rest f. tt; reads = o.reads }

pub anywhere : {A : Type 0} {p o o' n : Bool} {E F : Follow} {R : Spelling A} {r w : Reader A} → Good p o o' n E F R r w → Good p o o' n None F R r w
anywhere {E = E} {F = F} {r = r} {w = w} g = record {
  laws = λ e. record { sane = (g.laws e).sane; opens = opens_anywhere E F r (g.laws e).opens; takes = (g.laws e).takes };
  laws_w = λ e. record { sane = (g.laws_w e).sane; opens = opens_anywhere E F w (g.laws_w e).opens; takes = (g.laws_w e).takes };
  wider = g.wider;
  spell = g.spell;
}

-- ---- a value alone, and nothing

no_takes : {A : Type 0} {r : Reader A} → false ≡ true → Takes r
no_takes e = absurd cc

laws_pure : {A : Type 0} (E F : Follow) (a : A) → within F E ≡ true → Laws false E F (pure a)
laws_pure E F a h = record { sane = sane_pure (May F) a; opens = record { more = []; value = a; before = may_within F E h; reads = λ rest f. refl }; takes = λ e. no_takes e }

pub good_pure : {A : Type 0} {p o o' : Bool} {E F : Follow} (a : A) → within F E ≡ true → Good p o o' false E F (Same a) (pure a) (pure a)
good_pure {E = E} {F = F} a h = record { laws = λ e. laws_pure E F a h; laws_w = λ e. laws_pure E F a h; wider = λ e h k. wider_pure a; spell = λ e. spell_pure a }

pub part_refuse : {A : Type 0} {p o o' : Bool} {F : Follow} → Part {A = A} p o o' true F Nothing (refuse Unexpected) (refuse Unexpected)
part_refuse {F = F} = record { sane = λ e. sane_refuse (May F) Unexpected; sane_w = λ e. sane_refuse (May F) Unexpected; takes = λ e h. takes_refuse Unexpected; takes_w = λ e h. takes_refuse Unexpected; wider = λ e h k. wider_unexpected; spell = λ e. spell_refuse Unexpected }

-- ---- one after another

opens_bind : {A B : Type 0} (E F G : Tokens → Type 0) (r : Reader A) (s : A → Reader B) → Opens E F r → ((a : A) → Opens F G (s a)) → Opens E G (r >>= s)
opens_bind E F G r s first second = let o = second first.value in record {
  more = first.more ++ o.more;
  value = o.value;
  before = λ rest g. subst E (sym (append_assoc first.more o.more rest)) (first.before (o.more ++ rest) (o.before rest g));
  reads = λ rest g. ap (λ x. and_then (r x) s) (append_assoc first.more o.more rest) ∙ ap (λ x. and_then x s) (first.reads (o.more ++ rest) (o.before rest g)) ∙ o.reads rest g;
}

-- where the second takes a token, or what may follow it may follow the first
then_ends : {A B : Type 0} (m : Bool) (F G : Follow) (s : A → Reader B) → ((a : A) → m ≡ true → Takes (s a)) → (m || within G F) ≡ true → (a : A) (rest : Tokens) (b : B) → May G rest → s a rest ≡ Ok (b, rest) → May F rest
then_ends true F G s takes h a rest b g e = let lt = takes_less (s a) (takes a refl) rest b rest e in absurd (omega arith)
then_ends false F G s takes h a rest b g e = may_within G F h rest g

law_shorter : {A : Type 0} (F : Tokens → Type 0) (r : Reader A) (ts : Tokens) (o : Outcome A) → Law F r ts o → (a : A) (mid : Tokens) → o ≡ Ok (a, mid) → length mid ≤ length ts
law_shorter F r ts o l a mid e = ok_shorter (subst (Law F r ts) e l) where
  ok_shorter : Law F r ts (Ok (a, mid)) → length mid ≤ length ts
  ok_shorter p = rw p.split (omega (arith, length-append p.used mid))

second_took : {A B : Type 0} (s : A → Reader B) → ((a : A) → Takes (s a)) → (ts : Tokens) (o : Outcome A) → ((a : A) (mid : Tokens) → o ≡ Ok (a, mid) → length mid ≤ length ts) → TookSome (and_then o s) ts
second_took {B = B} s takes ts (Ok p) le = cases (s p.0 p.1) ((takes p.0).took p.1) where
  cases : (o : Outcome B) → TookSome o p.1 → TookSome o ts
  cases (Ok q) lt = let le = le p.0 p.1 refl in omega arith
  cases (Err v) lt = tt
second_took s takes ts (Err v) le = tt

then_takes : {A B : Type 0} (n m : Bool) (F G : Follow) (r : Reader A) (s : A → Reader B) → Sane (May F) r → ((a : A) → Sane (May G) (s a)) → (n ≡ true → Takes r) → ((a : A) → m ≡ true → Takes (s a)) → (n || m) ≡ true → Takes (r >>= s)
then_takes true m F G r s first second t u e = takes_bind (May G) r s (t refl) second
then_takes false m F G r s first second t u e = record { took = λ ts. second_took s (λ a. u a e) ts (r ts) (law_shorter (May F) r ts (r ts) (first.law ts)) }

sane_then : {A B : Type 0} (m : Bool) (F G : Follow) (r : Reader A) (s : A → Reader B) → Sane (May F) r → ((a : A) → Laws m F G (s a)) → (m || within G F) ≡ true → Sane (May G) (r >>= s)
sane_then m F G r s first second h = sane_bind (May F) (May G) r s first (λ a. (second a).sane) (λ a. (second a).opens) (then_ends m F G s (λ a. (second a).takes) h)

laws_then : {A B : Type 0} (n m : Bool) (E F G : Follow) (r : Reader A) (s : A → Reader B) → Laws n E F r → ((a : A) → Laws m F G (s a)) → (m || within G F) ≡ true → Laws (n || m) E G (r >>= s)
laws_then n m E F G r s first second h = record {
  sane = sane_then m F G r s first.sane second h;
  opens = opens_bind (May E) (May F) (May G) r s first.opens (λ a. (second a).opens);
  takes = then_takes n m F G r s first.sane (λ a. (second a).sane) first.takes (λ a. (second a).takes);
}

pub good_then : {A B : Type 0} {p o o' n m : Bool} {E F G : Follow} {R : Spelling A} {S : A → Spelling B} {r w : Reader A} {s v : A → Reader B}
    → Good p o o' n E F R r w → ((a : A) → Good p o o' m F G (S a) (s a) (v a)) → (m || within G F) ≡ true → Good p o o' (n || m) E G (Both R S) (r >>= s) (w >>= v)
good_then {n = n} {m = m} {E = E} {F = F} {G = G} {r = r} {w = w} {s = s} {v = v} first second h = record {
  laws = λ e. laws_then n m E F G r s (first.laws e) (λ a. (second a).laws e) h;
  laws_w = λ e. laws_then n m E F G w v (first.laws_w e) (λ a. (second a).laws_w e) h;
  wider = λ e h k. wider_bind (May G) r w s v (first.wider e h k) (λ a. (second a).wider e h k) (λ a. ((second a).laws_w k).sane);
  spell = λ e. spell_then (first.spell e) (λ a. (second a).spell e);
}

pub part_then : {A B : Type 0} {p o o' n m : Bool} {F G : Follow} {R : Spelling A} {S : A → Spelling B} {r w : Reader A} {s v : A → Reader B}
    → Part p o o' n F R r w → ((a : A) → Good p o o' m F G (S a) (s a) (v a)) → (m || within G F) ≡ true → Part p o o' (n || m) G (Both R S) (r >>= s) (w >>= v)
part_then {n = n} {m = m} {F = F} {G = G} {r = r} {w = w} {s = s} {v = v} first second h = record {
  sane = λ e. sane_then m F G r s (first.sane e) (λ a. (second a).laws e) h;
  sane_w = λ e. sane_then m F G w v (first.sane_w e) (λ a. (second a).laws_w e) h;
  takes = λ e. then_takes n m F G r s (first.sane e) (λ a. ((second a).laws e).sane) (first.takes e) (λ a. ((second a).laws e).takes);
  takes_w = λ e. then_takes n m F G w v (first.sane_w e) (λ a. ((second a).laws_w e).sane) (first.takes_w e) (λ a. ((second a).laws_w e).takes);
  wider = λ e h k. wider_bind (May G) r w s v (first.wider e h k) (λ a. (second a).wider e h k) (λ a. ((second a).laws_w k).sane);
  spell = λ e. spell_then (first.spell e) (λ a. (second a).spell e);
}

-- ---- a choice by the next token

-- the other takes a token, or nothing that may follow is such
other_ends : {A : Type 0} (n : Bool) (F : Follow) (q : Token → Bool) (xs : List Symbol) (r : Reader A) → Within q xs → (n ≡ true → Takes r) → (n || past F xs) ≡ true → (rest : Tokens) (a : A) → May F rest → r rest ≡ Ok (a, rest) → sees q (next rest) ≡ false
other_ends true F q xs r w takes h rest a f e = let lt = takes_less r (takes refl) rest a rest e in absurd (omega arith)
other_ends false F q xs r w takes h rest a f e = may_past F q xs w h rest f

pub part_on : {A : Type 0} {p o o' n m : Bool} {F : Follow} {q : Token → Bool} {S : Token → Spelling A} {R : Spelling A} {s v : Token → Reader A} {r w : Reader A}
    (xs : List Symbol) → Within q xs → plain xs ≡ true → (n || past F xs) ≡ true → ((t : Token) → q t ≡ true → Good p o o' m None F (S t) (s t) (v t)) → Part p o o' n F R r w → Part p o o' n F (On q S R) (on q s r) (on q v w)
part_on {n = n} {F = F} {q = q} {s = s} {v = v} {r = r} {w = w} xs i h k step other = record {
  sane = λ x. sane_on (May F) q s r (is_plain q xs i h) (λ t e. ((step t e).laws x).sane) (λ t e. ((step t e).laws x).opens) (other.sane x) (other_ends n F q xs r i (other.takes x) k);
  sane_w = λ x. sane_on (May F) q v w (is_plain q xs i h) (λ t e. ((step t e).laws_w x).sane) (λ t e. ((step t e).laws_w x).opens) (other.sane_w x) (other_ends n F q xs w i (other.takes_w x) k);
  takes = λ x e. takes_on (May F) q s r (λ t e. ((step t e).laws x).sane) (other.takes x e);
  takes_w = λ x e. takes_on (May F) q v w (λ t e. ((step t e).laws_w x).sane) (other.takes_w x e);
  wider = λ e x y. wider_on q s v r w (λ t h. (step t h).wider e x y) (other.wider e x y);
  spell = λ x. spell_on (λ t h. (step t h).spell x) (other.spell x);
}

wider_from : {A : Type 0} (p : Bool) (left left' : ℕ) (F : Follow) (q : Token → Bool) (s v : Token → Reader A) (r w : Reader A) → (p ≡ true → positive left' ≡ true) → p ≡ true
    → ((t : Token) → q t ≡ true → positive left' ≡ true → Sane (May F) (v t)) → ((t : Token) → q t ≡ true → positive left ≡ true → positive left' ≡ true → Wider (s t) (v t)) → Wider r w → Wider (begin left q s r) (begin left' q v w)
wider_from p left zero F q s v r w h e sane wider other = absurd (impossible (h e)) where
  impossible : false ≡ true → ⊥
  impossible e = cc
wider_from p left (suc left') F q s v r w h e sane wider other = wider_begin (May F) left left' q s v r w (λ t k. sane t k refl) (λ n k t j. wider t j (ap positive k) refl) other

pub part_begin : {A : Type 0} {p n m : Bool} {F : Follow} {q : Token → Bool} {S : Token → Spelling A} {R : Spelling A} {s v : Token → Reader A} {r w : Reader A}
    (left left' : ℕ) → (p ≡ true → positive left' ≡ true) → (xs : List Symbol) → Within q xs → plain xs ≡ true → (n || past F xs) ≡ true → ((t : Token) → q t ≡ true → Good p (positive left) (positive left') m None F (S t) (s t) (v t)) → Part p true true n F R r w
    → Part p true true n F (On q (Above left S) R) (begin left q s r) (begin left' q v w)
part_begin {p = p} {n = n} {F = F} {q = q} {s = s} {v = v} {r = r} {w = w} left left' wide xs i h k step other = record {
  sane = λ x. sane_begin (May F) left q s r (is_plain q xs i h) (λ n e t j. ((step t j).laws (ap positive e)).sane) (λ n e t j. ((step t j).laws (ap positive e)).opens) (other.sane refl) (other_ends n F q xs r i (other.takes refl) k);
  sane_w = λ x. sane_begin (May F) left' q v w (is_plain q xs i h) (λ n e t j. ((step t j).laws_w (ap positive e)).sane) (λ n e t j. ((step t j).laws_w (ap positive e)).opens) (other.sane_w refl) (other_ends n F q xs w i (other.takes_w refl) k);
  takes = λ x e. takes_begin (May F) left q s r (λ n h t j. ((step t j).laws (ap positive h)).sane) (other.takes refl e);
  takes_w = λ x e. takes_begin (May F) left' q v w (λ n h t j. ((step t j).laws_w (ap positive h)).sane) (other.takes_w refl e);
  wider = λ e x y. wider_from p left left' F q s v r w wide e (λ t j h. ((step t j).laws_w h).sane) (λ t j h k. (step t j).wider e h k) (other.wider e refl refl);
  spell = λ x. spell_begin left (λ n e t j. (step t j).spell (ap positive e)) (other.spell refl);
}

-- ---- something, or nothing

option_opens : {A : Type 0} (E F : Follow) (q : Token → Bool) (xs : List Symbol) (s : Token → Reader A) (b : A) → Within q xs → past F xs ≡ true → within F E ≡ true → Opens (May E) (May F) (on q s (pure b))
option_opens E F q xs s b i h k = record { more = []; value = b; before = may_within F E k; reads = λ rest f. on_passes q s (pure b) rest (may_past F q xs i h rest f) }

pub good_option : {A : Type 0} {p o o' m : Bool} {E F : Follow} {q : Token → Bool} {S : Token → Spelling A} {s v : Token → Reader A}
    (xs : List Symbol) → Within q xs → plain xs ≡ true → past F xs ≡ true → within F E ≡ true → ((t : Token) → q t ≡ true → Good p o o' m None F (S t) (s t) (v t)) → (b : A) → Good p o o' false E F (On q S (Same b)) (on q s (pure b)) (on q v (pure b))
good_option {E = E} {F = F} {q = q} {s = s} {v = v} xs i h k j step b = record {
  laws = λ e. record {
    sane = sane_on (May F) q s (pure b) (is_plain q xs i h) (λ t x. ((step t x).laws e).sane) (λ t x. ((step t x).laws e).opens) (sane_pure (May F) b) (λ rest a f e. may_past F q xs i k rest f);
    opens = option_opens E F q xs s b i k j;
    takes = λ e. no_takes e;
  };
  laws_w = λ e. record {
    sane = sane_on (May F) q v (pure b) (is_plain q xs i h) (λ t x. ((step t x).laws_w e).sane) (λ t x. ((step t x).laws_w e).opens) (sane_pure (May F) b) (λ rest a f e. may_past F q xs i k rest f);
    opens = option_opens E F q xs v b i k j;
    takes = λ e. no_takes e;
  };
  wider = λ e h k. wider_on q s v (pure b) (pure b) (λ t x. (step t x).wider e h k) (wider_pure b);
  spell = λ e. spell_on (λ t x. (step t x).spell e) (spell_pure b);
}

begin_opens : {A : Type 0} (left : ℕ) (E F : Follow) (q : Token → Bool) (xs : List Symbol) (s : Token → Reader A) (b : A) → Within q xs → past F xs ≡ true → within F E ≡ true → Opens (May E) (May F) (begin left q s (pure b))
unfolding begin
begin_opens zero E F q xs s b i h k = record { more = []; value = b; before = may_within F E k; reads = λ rest f. ap (λ v. cond v (Err (TooDeep, rest)) (Ok (b, rest))) (may_past F q xs i h rest f) }
begin_opens (suc n) E F q xs s b i h k = option_opens E F q xs s b i h k

pub good_begin_option : {A : Type 0} {p o o' m : Bool} {E F : Follow} {q : Token → Bool} {S : Token → Spelling A} {s v : Token → Reader A}
    (left left' : ℕ) → (p ≡ true → positive left' ≡ true) → (xs : List Symbol) → Within q xs → plain xs ≡ true → past F xs ≡ true → within F E ≡ true → ((t : Token) → q t ≡ true → Good p (positive left) (positive left') m None F (S t) (s t) (v t)) → (b : A)
    → Good p o o' false E F (On q (Above left S) (Same b)) (begin left q s (pure b)) (begin left' q v (pure b))
good_begin_option {E = E} {F = F} {q = q} {s = s} {v = v} left left' wide xs i h k j step b =
    good_of (part_lifted (part_begin left left' wide xs i h k step (part_of (good_pure {E = None} {F = F} b refl)))) (λ e. begin_opens left E F q xs s b i k j) (λ e. begin_opens left' E F q xs v b i k j)

-- a look at the next token: what it reads then may be nothing only where what may follow is such; the other takes a token
pub part_look : {A : Type 0} {p o o' n : Bool} {F : Follow} {R S : Spelling A} {r w s v : Reader A} (q : Token → Bool) → (n ≡ false → (rest : Tokens) → May F rest → sees q (next rest) ≡ true) → Part p o o' n F R r w → Part p o o' true F S s v → Part p o o' n F (Look q R S) (look (sees q) r s) (look (sees q) w v)
part_look {A = A} {n = n} {F = F} {r = r} {w = w} {s = s} {v = v} q seen f g = record {
  sane = λ x. sane_look (May F) (sees q) r s (f.sane x) (g.sane x) (here n r seen (f.takes x)) (there s (g.takes x refl));
  sane_w = λ x. sane_look (May F) (sees q) w v (f.sane_w x) (g.sane_w x) (here n w seen (f.takes_w x)) (there v (g.takes_w x refl));
  takes = λ x e. takes_look (sees q) r s (f.takes x e) (g.takes x refl);
  takes_w = λ x e. takes_look (sees q) w v (f.takes_w x e) (g.takes_w x refl);
  wider = λ e x y. wider_look (sees q) r w s v (f.wider e x y) (g.wider e x y);
  spell = λ x. spell_look (f.spell x) (g.spell x);
} where
  there : (s : Reader A) → Takes s → (rest : Tokens) (a : A) → May F rest → s rest ≡ Ok (a, rest) → sees q (next rest) ≡ false
  there s takes rest a m e = let lt = takes_less s takes rest a rest e in absurd (omega arith)

  here : (n : Bool) (r : Reader A) → (n ≡ false → (rest : Tokens) → May F rest → sees q (next rest) ≡ true) → (n ≡ true → Takes r) → (rest : Tokens) (a : A) → May F rest → r rest ≡ Ok (a, rest) → sees q (next rest) ≡ true
  here true r seen takes rest a m e = let lt = takes_less r (takes refl) rest a rest e in absurd (omega arith)
  here false r seen takes rest a m e = seen refl rest m

-- ---- a token

pub data Taken (x : Symbol) : Unit {0} → Tokens → Tokens → Type 0 where
  taken : {t : Token} {ts : Tokens} → is x t ≡ true → Taken x tt (t ∷ ts) ts

to_taken : (x : Symbol) (u : Unit {0}) (ts rest : Tokens) → On (is x) (λ t. Same tt) Nothing u ts rest → Taken x u ts rest
to_taken x u ts rest (took h same) = taken h
to_taken x u ts rest (passed h none) = absurd none

from_taken : (x : Symbol) (u : Unit {0}) (ts rest : Tokens) → Taken x u ts rest → On (is x) (λ t. Same tt) Nothing u ts rest
from_taken x u ts rest (taken h) = took h same

allowed : (E : Follow) (x : Symbol) (t : Token) (rest : Tokens) → allows E x ≡ true → is x t ≡ true → May E (t ∷ rest)
allowed None x t rest h e = tt
allowed (Some xs) x t rest h e = among_subset_one xs x h t e

pub good_expect : {p o o' : Bool} {E F : Follow} (x : Symbol) (t : Token) → is x t ≡ true → plain (x ∷ []) ≡ true → allows E x ≡ true → Good p o o' true E F (Taken x) (expect x) (expect x)
good_expect {E = E} {F = F} x t e h k = good_as
    (good_of (part_on (x ∷ []) (λ t h. h) h refl (λ t h. good_pure {E = None} {F = F} tt refl) part_refuse) (λ y. opens e k) (λ y. opens e k)) (to_taken x) (from_taken x) where
      opens : is x t ≡ true → allows E x ≡ true → Opens (May E) (May F) (expect x)
      opens e k = record { more = t ∷ []; value = tt; before = λ rest f. allowed E x t rest k e; reads = λ rest f. ap (λ b. cond b (Ok (tt, rest)) (Err (Unexpected, t ∷ rest))) e }

-- ---- loops

pub good_repeat : {A : Type 0} {p o o' : Bool} {F : Follow} {Step : A → Spelling A} {step step' : A → Reader A} (stop : Token → Bool) → ((rest : Tokens) → May F rest → stops stop (next rest) ≡ true) → ((a : A) → Part p o o' true F (Step a) (step a) (step' a)) → (a : A)
    → Good p o o' false F F (Rounds stop Step a) (repeat stop step a) (repeat stop step' a)
good_repeat {o = o} {o' = o'} {F = F} {Step = Step} {step = step} {step' = step'} stop seen item a = record {
  laws = λ x. record { sane = sane_repeat (May F) stop step (r x) a; opens = repeat_opens (May F) stop step (r x) a; takes = λ e. no_takes e };
  laws_w = λ x. record { sane = sane_repeat (May F) stop step' (w x) a; opens = repeat_opens (May F) stop step' (w x) a; takes = λ e. no_takes e };
  wider = λ e x y. wider_repeat (May F) stop step step' (w y) (λ b. (item b).wider e x y) a;
  spell = λ x. spell_repeat (λ b. (item b).spell x) (λ b. (item b).takes x refl) a;
} where
  r : o ≡ true → Repeats (May F) stop step
  r x = record { past = seen; sane = λ b. (item b).sane x; takes = λ b. takes_less (step b) ((item b).takes x refl) }

  w : o' ≡ true → Repeats (May F) stop step'
  w x = record { past = seen; sane = λ b. (item b).sane_w x; takes = λ b. takes_less (step' b) ((item b).takes_w x refl) }

-- what isn't denied is told by the first limit; at the wider one nothing is denied
pub good_chain : {A : Type 0} {p o o' m : Bool} {E F : Follow} {q : Token → Bool} {Step : Token → A → Spelling A} {step step' : A → Token → Reader A} (n n' : ℕ) → (p ≡ true → n < n') → (d d' : Option (Token → Bool)) → (p ≡ true → d' ≡ None)
    → (xs : List Symbol) → Within q xs → plain xs ≡ true → past F xs ≡ true → within F E ≡ true → ((t : Token) → denies d t ≡ true → q t ≡ true) → ((t : Token) → denies d' t ≡ true → q t ≡ true)
    → ((a : A) (t : Token) → q t ≡ true → Good p (not (denies d t)) (not (denies d' t)) m None F (Step t a) (step a t) (step' a t)) → ((t : Token) (a b : A) (ts rest : Tokens) → Step t a b ts rest → q t ≡ true → denies d t ≡ false)
    → (a : A) → Good p o o' false E F (Links q Step n a) (chain n d q step a) (chain n' d' q step' a)
good_chain {A = A} {p = p} {o = o} {o' = o'} {m = m} {E = E} {F = F} {q = q} {Step = Step} {step = step} {step' = step'} n n' lt d d' nothing xs i h k j inside inside' item kept a = good_of (record {
  sane = λ x. sane_chain (May F) n d q step r a;
  sane_w = λ x. sane_chain (May F) n' d' q step' w a;
  takes = λ x e. no_takes e;
  takes_w = λ x e. no_takes e;
  wider = λ e x y. wider_at d' (nothing e) w e item;
  spell = λ x. spell_chain n d (outside d inside) (λ a t h k. (item a t h).spell (ap not k)) kept a;
}) (λ x. wide_opens n d step r) (λ x. wide_opens n' d' step' w) where
  outside : (d : Option (Token → Bool)) → ((t : Token) → denies d t ≡ true → q t ≡ true) → (o : Option Token) → sees q o ≡ false → sees (denies d) o ≡ false
  outside d inside None e = refl
  outside d inside (Some t) e = turned (denies d t) (q t) (inside t) e where
    turned : (b c : Bool) → (b ≡ true → c ≡ true) → c ≡ false → b ≡ false
    turned true c f e = let g = f refl in absurd cc
    turned false c f e = refl

  r : ChainLinks (May F) d q step
  r = record { plain = is_plain q xs i h; past = may_past F q xs i k; denied = outside d inside; sane = λ a t h k. ((item a t h).laws (ap not k)).sane; opens = λ a t h k. ((item a t h).laws (ap not k)).opens }

  w : ChainLinks (May F) d' q step'
  w = record { plain = is_plain q xs i h; past = may_past F q xs i k; denied = outside d' inside'; sane = λ a t h k. ((item a t h).laws_w (ap not k)).sane; opens = λ a t h k. ((item a t h).laws_w (ap not k)).opens }

  wide_opens : (n : ℕ) (d : Option (Token → Bool)) (step : A → Token → Reader A) → ChainLinks (May F) d q step → Opens (May E) (May F) (chain n d q step a)
  wide_opens n d step links = record { more = []; value = a; before = may_within F E j; reads = λ rest f. chain_ends (May F) n d q step links.denied a rest (links.past rest f) }

  wider_at : (d' : Option (Token → Bool)) → d' ≡ None → ChainLinks (May F) d' q step' → p ≡ true → ((a : A) (t : Token) → q t ≡ true → Good p (not (denies d t)) (not (denies d' t)) m None F (Step t a) (step a t) (step' a t)) → Wider (chain n d q step a) (chain n' d' q step' a)
  wider_at None e w p item = wider_chain (May F) n n' (lt p) d q inside step step' w (λ a t k h. (item a t h).wider p (ap not k) refl) a
  wider_at (Some f) e w p item = absurd cc
