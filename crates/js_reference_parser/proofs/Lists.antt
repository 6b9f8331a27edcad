-- Lists of forms, names and parameters: their laws, and that they are what the grammar says.
use Rattle.std.proofs.Common.{◌≡◌, ◌||◌, ◌&&◌, ℕ, suc, Bool, true, false, not, cond, List, [], ◌∷◌, ◌++◌, Option, Some, None, Ok, Err, refl, sym, ap, subst, ◌∙◌, append_assoc}
use Rattle.std.proofs.lemmas.List.{append-nil}
use Rattle.js_syntax.specs.declared.token.Token.{Token}
use Rattle.js_syntax.specs.declared.symbol.Symbol.{Symbol}
use Rattle.js_syntax.specs.declared.symbol.Symbol.TheVariants as s
use Rattle.js_syntax.specs.declared.parse_fault.ParseKind.TheVariants.{Unexpected}
use Rattle.js_syntax.specs.Symbols.{Tokens, next, is, among, sees, stops}
use Rattle.js_syntax.specs.Spelling.{Spelling, Both, both, Each, Links, Listed, Separated}
use Rattle.js_syntax.specs.Spelling as sp
use Rattle.js_syntax.specs.Words.{names}
use Rattle.js_syntax.specs.Grammar.{Parts, is_known, Names, Parameters, Body, Lambda, Named, Arguments, Primary, New, Base, Suffix, Suffixed, Callee, Unary, Operand, Chain, Binary, Conditional, Assign, Member, Ends, EndOfJump, Block, Declared, Condition, ElseClause, Optional, Start, Target, Handlers, Statement, LEVELS_OF_CHAINS, not_first, parts_within}
use Rattle.js_syntax.specs.Grammar as g
use Rattle.js_combinators.specs.Readers.{Reader, pure, refuse, look, on, repeat}
use Rattle.js_combinators.proofs.Laws.{Opens}
use Rattle.js_combinators.proofs.Sets.{Follow, May, within, may_within, past, may_past, allows, plain, among_apart, sees_apart, and_within, among_subset_one}
use Rattle.js_combinators.proofs.Spells.{Same, same, Nothing, On, took, passed, on_passes, Look, here, there, Rounds, stopped, round}
use Rattle.js_combinators.proofs.Good.{Good, Part, part_of, good_of, good_as, part_as, anywhere, good_pure, part_refuse, good_then, part_then, part_on, part_look, Taken, taken, good_expect, good_repeat}
use Rattle.js_reference_parser.specs.ExpressionsModel.{closed, not_comma, next_item, separated, each, parted, entry, listed, name, is_new, new_name, some_names, parameters}
use Rattle.js_reference_parser.proofs.Samples.{close, dollar, is_close, is_name, dollars, longer, fresh, fresh_name, fresh_unknown}

-- ---- what may follow

-- after an expression
abbrev pub closers : List Symbol
closers = s.CloseParen ∷ s.CloseBracket ∷ s.CloseBrace ∷ s.Semicolon ∷ s.Colon ∷ s.End ∷ []

abbrev pub closer : Follow
closer = Some closers

-- after a statement
abbrev pub ender : Follow
ender = Some (s.CloseBrace ∷ s.End ∷ [])

-- ---- a form, and then a token

pub data Closed {A : Type 0} (x : Symbol) (R : Spelling A) : A → Tokens → Tokens → Type 0 where
  closed_by : {a : A} {c : Token} {ts rest : Tokens} → R a ts (c ∷ rest) → is x c ≡ true → Closed x R a ts rest

closed_to : {A : Type 0} (x : Symbol) (R : Spelling A) (a : A) (ts rest : Tokens) → Both R (λ a. Both (Taken x) (λ u. Same a)) a ts rest → Closed x R a ts rest
closed_to x R a ts rest (both p (both (taken h) same)) = closed_by p h

closed_from : {A : Type 0} (x : Symbol) (R : Spelling A) (a : A) (ts rest : Tokens) → Closed x R a ts rest → Both R (λ a. Both (Taken x) (λ u. Same a)) a ts rest
closed_from x R a ts rest (closed_by p h) = both p (both (taken h) same)

pub good_closed : {A : Type 0} {p o o' n : Bool} {E F G : Follow} {R : Spelling A} {r w : Reader A} (x : Symbol) (t : Token) → is x t ≡ true → plain (x ∷ []) ≡ true → allows F x ≡ true → Good p o o' n E F R r w → Good p o o' (n || true) E G (Closed x R) (closed x r) (closed x w)
good_closed {F = F} {R = R} x t e h k item = good_as (good_then item (λ a. good_then (good_expect {E = F} {F = None} x t e h k) (λ u. good_pure {E = None} a refl) refl) refl) (closed_to x R) (closed_from x R)

-- ---- as many as there are

each_to : {A : Type 0} (stop : Token → Bool) (R : Spelling A) (found all : List A) (ts rest : Tokens) → Rounds stop (λ found. Both R (λ a. Same (found ++ a ∷ []))) found all ts rest → (xs : List A) × (all ≡ found ++ xs) × Each stop R xs ts rest
each_to stop R found all ts rest (stopped h) = ([], sym (append-nil found), sp.none h)
each_to stop R found all ts rest (round h (both {a = a} p same) later) =
    let l = each_to stop R (found ++ a ∷ []) all _ rest later in
    (a ∷ l.0, l.1 ∙ append_assoc found (a ∷ []) l.0, sp.one p l.2)

each_from : {A : Type 0} (stop : Token → Bool) (R : Spelling A) → ((a : A) (ts rest : Tokens) → R a ts rest → stops stop (next ts) ≡ false) → (found xs : List A) (ts rest : Tokens) → Each stop R xs ts rest → Rounds stop (λ found. Both R (λ a. Same (found ++ a ∷ []))) found (found ++ xs) ts rest
each_from stop R starts found xs ts rest (sp.none h) = subst (λ all. Rounds stop (λ found. Both R (λ a. Same (found ++ a ∷ []))) found all ts ts) (sym (append-nil found)) (stopped h)
each_from stop R starts found xs ts rest (sp.one {a = a} {others = others} {mid = mid} p later) =
    round (starts a ts mid p) (both p same)
    (subst (λ all. Rounds stop (λ found. Both R (λ a. Same (found ++ a ∷ []))) (found ++ a ∷ []) all mid rest) (append_assoc found (a ∷ []) others) (each_from stop R starts (found ++ a ∷ []) others mid rest later))

each_all : {A : Type 0} (stop : Token → Bool) (R : Spelling A) (all : List A) (ts rest : Tokens) → Rounds stop (λ found. Both R (λ a. Same (found ++ a ∷ []))) [] all ts rest → Each stop R all ts rest
each_all stop R all ts rest h = let l = each_to stop R [] all ts rest h in subst (λ xs. Each stop R xs ts rest) (sym l.1) l.2

pub good_each : {A : Type 0} {p o o' : Bool} {F : Follow} {R : Spelling A} {r w : Reader A} (stop : Token → Bool) → ((rest : Tokens) → May F rest → stops stop (next rest) ≡ true) → within F F ≡ true → Part p o o' true F R r w → ((a : A) (ts rest : Tokens) → R a ts rest → stops stop (next ts) ≡ false)
    → Good p o o' false F F (Each stop R) (each stop r) (each stop w)
unfolding each
good_each {F = F} {R = R} stop seen h item starts = good_as (good_repeat stop seen (λ found. part_then item (λ a. good_pure {E = F} {F = F} (found ++ a ∷ []) h) h) []) (each_all stop R) (each_from stop R starts [])

-- ---- with commas between

no_comma : (b : Bool) → not b ≡ true → b ≡ false
no_comma true h = absurd cc
no_comma false h = refl

a_comma : (b : Bool) → not b ≡ false → b ≡ true
a_comma true h = refl
a_comma false h = absurd cc

comma_stops : (o : Option Token) → stops not_comma o ≡ true → sees (is s.Comma) o ≡ false
comma_stops None h = refl
comma_stops (Some t) h = no_comma (is s.Comma t) h

comma_stops_from : (o : Option Token) → sees (is s.Comma) o ≡ false → stops not_comma o ≡ true
comma_stops_from None h = refl
comma_stops_from (Some t) h = ap not h

pub closer_stops : (F : Follow) → past F (s.Comma ∷ []) ≡ true → (rest : Tokens) → May F rest → stops not_comma (next rest) ≡ true
closer_stops F h rest m = comma_stops_from (next rest) (may_past F (is s.Comma) (s.Comma ∷ []) (λ t h. h) h rest m)

-- what stands behind one item: a comma and others, or no comma
pub data Further {A : Type 0} (R : Spelling A) : List A → Tokens → Tokens → Type 0 where
  no_further : {rest : Tokens} → sees (is s.Comma) (next rest) ≡ false → Further R [] rest rest
  further : {t : Token} {a : A} {others : List A} {ts mid rest : Tokens} → is s.Comma t ≡ true → R a ts mid → Further R others mid rest → Further R (a ∷ others) (t ∷ ts) rest

abbrev pub Next : {A : Type 0} → Spelling A → List A → Spelling (List A)
Next R found = On (is s.Comma) (λ t. Both R (λ a. Same (found ++ a ∷ []))) Nothing

pub further_to : {A : Type 0} (R : Spelling A) (found all : List A) (ts rest : Tokens) → Rounds not_comma (Next R) found all ts rest → (xs : List A) × (all ≡ found ++ xs) × Further R xs ts rest
further_to R found all ts rest (stopped h) = ([], sym (append-nil found), no_further (comma_stops (next ts) h))
further_to R found all ts rest (round h (took k (both {a = a} p same)) later) =
    let l = further_to R (found ++ a ∷ []) all _ rest later in
    (a ∷ l.0, l.1 ∙ append_assoc found (a ∷ []) l.0, further k p l.2)
further_to R found all ts rest (round h (passed k none) later) = absurd none

pub further_from : {A : Type 0} (R : Spelling A) (found xs : List A) (ts rest : Tokens) → Further R xs ts rest → Rounds not_comma (Next R) found (found ++ xs) ts rest
further_from R found xs ts rest (no_further h) = subst (λ all. Rounds not_comma (Next R) found all ts ts) (sym (append-nil found)) (stopped (comma_stops_from (next ts) h))
further_from R found xs ts rest (further {t = t} {a = a} {others = others} {mid = mid} h p later) =
    round (ap not h) (took h (both p same)) (subst (λ all. Rounds not_comma (Next R) (found ++ a ∷ []) all mid rest) (append_assoc found (a ∷ []) others) (further_from R (found ++ a ∷ []) others mid rest later))

pub separated_of : {A : Type 0} (R : Spelling A) (a : A) (others : List A) (ts mid rest : Tokens) → R a ts mid → Further R others mid rest → Separated R (a ∷ others) ts rest
separated_of R a others ts mid rest p (no_further h) = sp.single p h
separated_of R a others ts mid rest p (further {a = b} {others = more} {ts = us} {mid = after} h q later) = sp.several p h (separated_of R b more us after rest q later)

pub of_separated : {A : Type 0} (R : Spelling A) (xs : List A) (ts rest : Tokens) → Separated R xs ts rest → (a : A) × (others : List A) × (mid : Tokens) × (xs ≡ a ∷ others) × R a ts mid × Further R others mid rest
of_separated R xs ts rest (sp.single {a = a} p h) = (a, [], rest, refl, p, no_further h)
of_separated R xs ts rest (sp.several {a = a} {others = others} {t = t} {mid = mid} p h later) =
    let l = of_separated R others mid rest later in
    (a, others, t ∷ mid, refl, p, subst (λ os. Further R os (t ∷ mid) rest) (sym l.3) (further h l.4 l.5))

-- the loop behind a first item
pub data Listing {A : Type 0} (R : Spelling A) (first : A) : List A → Tokens → Tokens → Type 0 where
  listing : {xs : List A} {ts rest : Tokens} → ((before mid : Tokens) → R first before ts → Separated R xs before rest) → Rounds not_comma (Next R) (first ∷ []) xs ts rest → Listing R first xs ts rest

pub separated_to : {A : Type 0} (R : Spelling A) (all : List A) (ts rest : Tokens) → Both R (λ a. Rounds not_comma (Next R) (a ∷ [])) all ts rest → Separated R all ts rest
separated_to R all ts rest (both {a = a} {mid = mid} p later) =
    let l = further_to R (a ∷ []) all mid rest later in
    subst (λ xs. Separated R xs ts rest) (sym l.1) (separated_of R a l.0 ts mid rest p l.2)

separated_from : {A : Type 0} (R : Spelling A) (all : List A) (ts rest : Tokens) → Separated R all ts rest → Both R (λ a. Rounds not_comma (Next R) (a ∷ [])) all ts rest
separated_from R all ts rest h =
    let l = of_separated R all ts rest h in
    both l.4 (subst (λ xs. Rounds not_comma (Next R) (l.0 ∷ []) xs l.2 rest) (sym l.3) (further_from R (l.0 ∷ []) l.1 l.2 rest l.5))

-- the other items, behind the first
pub good_others : {A : Type 0} {p o o' n : Bool} {R : Spelling A} {r w : Reader A} → Good p o o' n None closer R r w → (found : List A) → Good p o o' false closer closer (Rounds not_comma (Next R) found) (repeat not_comma (next_item r) found) (repeat not_comma (next_item w) found)
good_others item found = good_repeat not_comma (closer_stops closer refl) (λ found. part_on (s.Comma ∷ []) (λ t h. h) refl refl (λ t h. good_then item (λ a. good_pure {E = closer} {F = closer} (found ++ a ∷ []) refl) refl) part_refuse) found

pub good_separated : {A : Type 0} {p o o' n : Bool} {R : Spelling A} {r w : Reader A} → Good p o o' n None closer R r w → Good p o o' (n || false) None closer (Separated R) (separated r) (separated w)
unfolding separated
good_separated {R = R} item = good_as (good_then item (λ a. good_others item (a ∷ [])) refl) (separated_to R) (separated_from R)

-- ---- with a comma after each, which may be left out after the last

parted_starts : (x : Symbol) (o : Option Token) → sees (among (x ∷ [])) o ≡ true → past (Some (x ∷ [])) (s.Comma ∷ []) ≡ true → sees (is s.Comma) o ≡ false
parted_starts x o e h = sees_apart (x ∷ []) (s.Comma ∷ []) h o e

abbrev Parted : Symbol → Spelling (Unit {0})
Parted x = On (is s.Comma) (λ t. Same tt) (Look (is x) (Same tt) Nothing)

good_parted : {p o o' : Bool} {E : Follow} (x : Symbol) → past (Some (x ∷ [])) (s.Comma ∷ []) ≡ true → within (Some (x ∷ [])) E ≡ true → Good p o o' false E (Some (x ∷ [])) (Parted x) (parted x) (parted x)
good_parted {E = E} x h k = good_of (part_on (s.Comma ∷ []) (λ t e. e) refl h (λ t e. good_pure {E = None} tt refl) (part_look (is x) (λ e rest m. m) (part_of (good_pure {E = None} tt refl)) part_refuse)) (λ e. opens) (λ e. opens) where
  opens : Opens (May E) (May (Some (x ∷ []))) (parted x)
  opens = record {
    more = [];
    value = tt;
    before = may_within (Some (x ∷ [])) E k;
    reads = λ rest f. on_passes (is s.Comma) (λ t. pure tt) (look (sees (is x)) (pure tt) (refuse Unexpected)) rest (parted_starts x (next rest) f h) ∙ ap (λ b. cond b (Ok (tt, rest)) (Err (Unexpected, rest))) f;
  }

-- an item, and what parts it from the next
pub data Entry {A : Type 0} (x : Symbol) (R : Spelling A) : A → Tokens → Tokens → Type 0 where
  comma : {a : A} {t : Token} {ts rest : Tokens} → R a ts (t ∷ rest) → is s.Comma t ≡ true → Entry x R a ts rest
  final : {a : A} {ts rest : Tokens} → R a ts rest → sees (is s.Comma) (next rest) ≡ false → sees (is x) (next rest) ≡ true → Entry x R a ts rest

entry_to : {A : Type 0} (x : Symbol) (R : Spelling A) (a : A) (ts rest : Tokens) → Both R (λ a. Both (Parted x) (λ u. Same a)) a ts rest → Entry x R a ts rest
entry_to x R a ts rest (both p (both (took h same) same)) = comma p h
entry_to x R a ts rest (both p (both (passed h (here k same)) same)) = final p h k
entry_to x R a ts rest (both p (both (passed h (there k none)) q)) = absurd none

entry_from : {A : Type 0} (x : Symbol) (R : Spelling A) (a : A) (ts rest : Tokens) → Entry x R a ts rest → Both R (λ a. Both (Parted x) (λ u. Same a)) a ts rest
entry_from x R a ts rest (comma p h) = both p (both (took h same) same)
entry_from x R a ts rest (final p h k) = both p (both (passed h (here k same)) same)

part_entry : {A : Type 0} {p o o' : Bool} {R : Spelling A} {r w : Reader A} (x : Symbol) → past (Some (x ∷ [])) (s.Comma ∷ []) ≡ true → within (Some (x ∷ [])) closer ≡ true → within (Some (x ∷ [])) (Some (x ∷ [])) ≡ true → Part p o o' true closer R r w → Part p o o' true (Some (x ∷ [])) (Entry x R) (entry x r) (entry x w)
unfolding entry
part_entry {R = R} x h k j item = part_as (part_then item (λ a. good_then (good_parted {E = closer} x h k) (λ u. good_pure {E = Some (x ∷ [])} a j) j) k) (entry_to x R) (entry_from x R)

stops_sees : (x : Symbol) (o : Option Token) → sees (is x) o ≡ true → stops (is x) o ≡ true
stops_sees x None h = absurd cc
stops_sees x (Some t) h = h

listed_end : {A : Type 0} (x : Symbol) (R : Spelling A) (c : Token) (rest : Tokens) → is x c ≡ true → (a : A) (ts mid : Tokens) → R a ts mid → mid ≡ c ∷ rest → Listed x R (a ∷ []) ts rest
listed_end x R c rest h a ts mid p e = sp.last (subst (λ m. R a ts m) e p) h

no_more_entries : {A : Type 0} (x : Symbol) (R : Spelling A) (xs : List A) (mid : Tokens) (c : Token) (rest : Tokens) → ((a : A) (ts rest : Tokens) → R a ts rest → stops (is x) (next ts) ≡ false) → sees (is x) (next mid) ≡ true → Each (is x) (Entry x R) xs mid (c ∷ rest) → (xs ≡ []) × (mid ≡ c ∷ rest)
no_more_entries x R xs mid c rest starts h (sp.none k) = (refl, refl)
no_more_entries x R xs mid c rest starts h (sp.one (comma {a = a} {t = t} {rest = after} p k) later) = let e = starts a mid (t ∷ after) p in let f = stops_sees x (next mid) h in absurd cc
no_more_entries x R xs mid c rest starts h (sp.one (final {a = a} {rest = after} p k j) later) = let e = starts a mid after p in let f = stops_sees x (next mid) h in absurd cc

listed_each : {A : Type 0} (x : Symbol) (R : Spelling A) → ((a : A) (ts rest : Tokens) → R a ts rest → stops (is x) (next ts) ≡ false) → (all : List A) (ts : Tokens) (c : Token) (rest : Tokens) → is x c ≡ true → Each (is x) (Entry x R) all ts (c ∷ rest) → Listed x R all ts rest
listed_each x R starts all ts c rest h (sp.none k) = sp.done h
listed_each x R starts all ts c rest h (sp.one {others = others} {mid = mid} (comma p k) later) = sp.more p k (listed_each x R starts others mid c rest h later)
listed_each x R starts all ts c rest h (sp.one {a = a} {others = others} {mid = mid} (final p k j) later) =
    let e = no_more_entries x R others mid c rest starts j later in
    subst (λ os. Listed x R (a ∷ os) ts rest) (sym e.0) (listed_end x R c rest h a ts mid p e.1)

each_listed : {A : Type 0} (x : Symbol) (R : Spelling A) → past (Some (x ∷ [])) (s.Comma ∷ []) ≡ true → (all : List A) (ts rest : Tokens) → Listed x R all ts rest → Closed x (Each (is x) (Entry x R)) all ts rest
each_listed x R h all ts rest (sp.done k) = closed_by (sp.none k) k
each_listed x R h all ts rest (sp.last {c = c} p k) = closed_by (sp.one (final p (among_apart (x ∷ []) (s.Comma ∷ []) h c k) k) (sp.none k)) k
each_listed x R h all ts rest (sp.more {others = others} {mid = mid} p k later) = longer_list (each_listed x R h others mid rest later) where
  longer_list : Closed x (Each (is x) (Entry x R)) others mid rest → Closed x (Each (is x) (Entry x R)) all ts rest
  longer_list (closed_by q j) = closed_by (sp.one (comma p k) q) j

listed_to : {A : Type 0} (x : Symbol) (R : Spelling A) → ((a : A) (ts rest : Tokens) → R a ts rest → stops (is x) (next ts) ≡ false) → (all : List A) (ts rest : Tokens) → Closed x (Each (is x) (Entry x R)) all ts rest → Listed x R all ts rest
listed_to x R starts all ts rest (closed_by {c = c} p h) = listed_each x R starts all ts c rest h p

entry_starts : {A : Type 0} (x : Symbol) (R : Spelling A) → ((a : A) (ts rest : Tokens) → R a ts rest → stops (is x) (next ts) ≡ false) → (a : A) (ts rest : Tokens) → Entry x R a ts rest → stops (is x) (next ts) ≡ false
entry_starts x R starts a ts rest (comma {t = t} p h) = starts a ts (t ∷ rest) p
entry_starts x R starts a ts rest (final p h k) = starts a ts rest p

pub good_listed : {A : Type 0} {p o o' : Bool} {G : Follow} {R : Spelling A} {r w : Reader A} (x : Symbol) (t : Token) → is x t ≡ true → plain (x ∷ []) ≡ true → allows (Some (x ∷ [])) x ≡ true → past (Some (x ∷ [])) (s.Comma ∷ []) ≡ true → within (Some (x ∷ [])) closer ≡ true → within (Some (x ∷ [])) (Some (x ∷ [])) ≡ true
    → Part p o o' true closer R r w → ((a : A) (ts rest : Tokens) → R a ts rest → stops (is x) (next ts) ≡ false) → Good p o o' true None G (Listed x R) (listed x r) (listed x w)
unfolding listed
good_listed {R = R} x t e h j k l m item starts = anywhere (good_as (good_closed x t e h j (good_each (is x) (λ rest f. stops_sees x (next rest) f) m (part_entry x k l m item) (entry_starts x R starts))) (listed_to x R starts) (each_listed x R k))

-- ---- names

pub data Name : List ℕ → Tokens → Tokens → Type 0 where
  is_a_name : {n : Token} {rest : Tokens} → among names n ≡ true → Name n.text (n ∷ rest) rest

name_to : (a : List ℕ) (ts rest : Tokens) → On (among names) (λ t. Same t.text) Nothing a ts rest → Name a ts rest
name_to a ts rest (took h same) = is_a_name h
name_to a ts rest (passed h none) = absurd none

name_from : (a : List ℕ) (ts rest : Tokens) → Name a ts rest → On (among names) (λ t. Same t.text) Nothing a ts rest
name_from a ts rest (is_a_name h) = took h same

dollar_name : among names dollar ≡ true
dollar_name = among_subset_one names s.Name refl dollar is_name

pub good_name : {p o o' : Bool} {F : Follow} → Good p o o' true None F Name name name
unfolding name
good_name {F = F} = good_as (good_of (part_on names (λ t h. h) refl refl (λ t h. good_pure {E = None} t.text refl) part_refuse) (λ e. opens) (λ e. opens)) name_to name_from where
  opens : Opens (May None) (May F) (on (among names) (λ t. pure t.text) (refuse Unexpected))
  opens = record { more = dollar ∷ []; value = 36 ∷ []; before = λ rest f. tt; reads = λ rest f. ap (λ b. cond b (Ok (36 ∷ [], rest)) (Err (Unexpected, dollar ∷ rest))) dollar_name }

-- a name that is none of those found
pub data NewName (found : List (List ℕ)) : List (List ℕ) → Tokens → Tokens → Type 0 where
  is_new_name : {n : Token} {rest : Tokens} → among names n ≡ true → is_known n.text found ≡ false → NewName found (found ++ n.text ∷ []) (n ∷ rest) rest

new_parts : (a b : Bool) → (a && not b) ≡ true → (a ≡ true) × (b ≡ false)
new_parts true true h = absurd cc
new_parts true false h = (refl, refl)
new_parts false true h = absurd cc
new_parts false false h = absurd cc

new_whole : (a b : Bool) → a ≡ true → b ≡ false → (a && not b) ≡ true
new_whole true true h k = absurd cc
new_whole true false h k = refl
new_whole false b h k = absurd cc

new_to : (found a : List (List ℕ)) (ts rest : Tokens) → On (is_new found) (λ t. Same (found ++ t.text ∷ [])) Nothing a ts rest → NewName found a ts rest
new_to found a ts rest (took {t = t} h same) = let n = new_parts (among names t) (is_known t.text found) h in is_new_name n.0 n.1
new_to found a ts rest (passed h none) = absurd none

new_from : (found a : List (List ℕ)) (ts rest : Tokens) → NewName found a ts rest → On (is_new found) (λ t. Same (found ++ t.text ∷ [])) Nothing a ts rest
new_from found a ts rest (is_new_name {n = n} h k) = took (new_whole (among names n) (is_known n.text found) h k) same

good_new_name : {p o o' : Bool} {F : Follow} (found : List (List ℕ)) → Good p o o' true None F (NewName found) (new_name found) (new_name found)
unfolding new_name
good_new_name {F = F} found = good_as (good_of (part_on names (and_within names (λ t. not (is_known t.text found))) refl refl (λ t h. good_pure {E = None} (found ++ t.text ∷ []) refl) part_refuse) (λ e. opens) (λ e. opens)) (new_to found) (new_from found) where
  opens : Opens (May None) (May F) (on (is_new found) (λ t. pure (found ++ t.text ∷ [])) (refuse Unexpected))
  opens = record {
    more = fresh found ∷ [];
    value = found ++ dollars (suc (longer found)) ∷ [];
    before = λ rest f. tt;
    reads = λ rest f. ap (λ b. cond b (Ok (found ++ dollars (suc (longer found)) ∷ [], rest)) (Err (Unexpected, fresh found ∷ rest))) (new_whole (among names (fresh found)) (is_known (dollars (suc (longer found))) found) (fresh_name found) (fresh_unknown found));
  }

abbrev NextName : List (List ℕ) → Spelling (List (List ℕ))
NextName found = On (is s.Comma) (λ t. NewName found) Nothing

names_to : (found now all : List (List ℕ)) (before ts rest : Tokens) (n : Token) → before ≡ n ∷ ts → among names n ≡ true → is_known n.text found ≡ false → now ≡ found ++ n.text ∷ [] → Rounds not_comma NextName now all ts rest → Names found all before rest
names_to found now all before ts rest n e h k same_now (stopped j) = subst (λ b. Names found now b ts) (sym e) (subst (λ a. Names found a (n ∷ ts) ts) (sym same_now) (g.last_name h k (comma_stops (next ts) j)))
names_to found now all before ts rest n e h k same_now (round j (took {t = t} i (is_new_name {n = m} {rest = after} h' k')) later) =
    let l = names_to now (now ++ m.text ∷ []) all (m ∷ after) after rest m refl h' k' refl later in
    subst (λ b. Names found all b rest) (sym e) (g.next_name h k i (subst (λ a. Names a all (m ∷ after) rest) same_now l))
names_to found now all before ts rest n e h k same_now (round j (passed i none) later) = absurd none

some_names_to : (all : List (List ℕ)) (ts rest : Tokens) → Both (NewName []) (λ found. Rounds not_comma NextName found) all ts rest → Names [] all ts rest
some_names_to all ts rest (both (is_new_name {n = n} {rest = mid} h k) later) = names_to [] (n.text ∷ []) all ts mid rest n refl h k refl later

names_from : (found all : List (List ℕ)) (ts rest : Tokens) → Names found all ts rest → Both (NewName found) (λ found. Rounds not_comma NextName found) all ts rest
names_from found all ts rest (g.last_name h k j) = both (is_new_name h k) (stopped (comma_stops_from (next rest) j))
names_from found all ts rest (g.next_name {name = n} {comma = t} {tokens = us} h k i later) = both (is_new_name h k) (goes_on (names_from (found ++ n.text ∷ []) all us rest later)) where
  goes_on : Both (NewName (found ++ n.text ∷ [])) (λ found. Rounds not_comma NextName found) all us rest → Rounds not_comma NextName (found ++ n.text ∷ []) all (t ∷ us) rest
  goes_on (both p q) = round (ap not i) (took i p) q

good_some_names : {p o o' : Bool} → Good p o o' true None closer (Names []) some_names some_names
unfolding some_names
good_some_names = good_as (good_then (good_new_name []) (λ found. good_repeat not_comma (closer_stops closer refl) (λ found. part_on (s.Comma ∷ []) (λ t h. h) refl refl (λ t h. good_new_name found) part_refuse) found) refl) some_names_to (names_from [])

parameters_to : (all : List (List ℕ)) (ts rest : Tokens) → On (is s.CloseParen) (λ t. Same []) (Closed s.CloseParen (Names [])) all ts rest → Parameters all ts rest
parameters_to all ts rest (took h same) = g.no_parameters h
parameters_to all ts rest (passed h (closed_by p k)) = g.parameters p k

names_start : (found all : List (List ℕ)) (ts rest : Tokens) → Names found all ts rest → sees (among names) (next ts) ≡ true
names_start found all ts rest (g.last_name h k j) = h
names_start found all ts rest (g.next_name h k i later) = h

parameters_from : (all : List (List ℕ)) (ts rest : Tokens) → Parameters all ts rest → On (is s.CloseParen) (λ t. Same []) (Closed s.CloseParen (Names [])) all ts rest
parameters_from all ts rest (g.no_parameters h) = took h same
parameters_from all ts rest (g.parameters {close_paren = c} {tokens = us} {rest = after} p h) = passed (sees_apart names (s.CloseParen ∷ []) refl (next us) (names_start [] all us (c ∷ after) p)) (closed_by p h)

-- `)` alone completes a list in brackets
pub close_opens : {A : Type 0} (F : Follow) (a : A) (r : Reader A) → Opens (May None) (May F) (on (is s.CloseParen) (λ t. pure a) r)
close_opens F a r = record { more = close ∷ []; value = a; before = λ rest f. tt; reads = λ rest f. ap (λ b. cond b (Ok (a, rest)) (r (close ∷ rest))) is_close }

pub good_parameters : {p o o' : Bool} {F : Follow} → Good p o o' true None F Parameters parameters parameters
unfolding parameters
good_parameters {F = F} = good_as (good_of (part_on (s.CloseParen ∷ []) (λ t h. h) refl refl (λ t h. good_pure {E = None} [] refl) (part_of (good_closed s.CloseParen close is_close refl refl good_some_names)))
    (λ e. close_opens F [] (closed s.CloseParen some_names)) (λ e. close_opens F [] (closed s.CloseParen some_names))) parameters_to parameters_from
