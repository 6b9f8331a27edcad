-- What is spelled so is read.
use Rattle.std.proofs.Common.{◌≡◌, ◌+◌, ◌-◌, ℕ, Bool, true, false, ◌==◌, cond, List, [], ◌∷◌, ◌++◌, length, take, drop, refl, ap, ap₂, sym, subst, ◌∙◌, arith, append_assoc}
use Rattle.std.specs.Prelude.{Option, Some, None, Ok, slice_range}
use Rattle.std.proofs.lemmas.List.{append-nil, drop-drop, drop_at, take_at}
use Rattle.std.proofs.lemmas.Bool.Decides.{nat_tests}
use Rattle.dom_query.specs.declared.kind.Kind.{Kind}
use Rattle.dom_query.specs.declared.kind.Kind.TheVariants as k
use Rattle.dom_query.specs.declared.state.Sort.{Sort}
use Rattle.dom_query.specs.declared.state.Sort.TheVariants as sort
use Rattle.dom_query.specs.declared.state.Span.{Span}
use Rattle.dom_query.specs.declared.state.State.{State}
use Rattle.dom_query.specs.declared.state.State.TheVariants as s
use Rattle.dom_query.specs.declared.built.Built.{Built}
use Rattle.dom_semantics.specs.declared.selectors.Compound.{Compound}
use Rattle.dom_semantics.specs.declared.selectors.Part.{Part}
use Rattle.dom_semantics.specs.declared.selectors.Part.TheVariants.{Id, Class, Has, Is}
use Rattle.dom_semantics.specs.declared.selectors.TagTest.TheVariants.{Any}
use Rattle.dom_semantics.specs.SelectorNames.{Scalars, NotNext, is_name_scalar}
use Rattle.dom_semantics.specs.Whitespace.{is_white_space}
use Rattle.dom_semantics.specs.SelectorGrammar as g
use Rattle.dom_semantics.specs.SelectorGrammar.{Blanks, Name, UpToQuote, Value, IsPart, AreParts, IsCompound, IsChain, IsSelector, compound_of}
use Rattle.dom_query.specs.Answers.{Chains}
use Rattle.dom_query.specs.ReadingModel.{Outcome, kind_of, span, next, build, finish, run, go_on, after_part, if_name, next_before, next_gap, next_name, next_attribute, next_equals, next_bare, with_part, with_name, with_any, end_compound, end_chain, end_at, end_gap, end_name, word_at}
use Rattle.dom_query.proofs.KindFacts.{is_name_kind, name_kind, plain_kind, blank_kind}

-- from one state to another over what stands before the rest
pub record Reads (text : Scalars) (from to : State) (b b' : Built) (at : ℕ) (suffix rest : Scalars) : Type 0 where
  pub place : ℕ
  pub there : drop place text ≡ rest
  pub same : run text from at b suffix ≡ run text to place b' rest

pub then_reads : (text : Scalars) (s0 s1 s2 : State) (b0 b1 b2 : Built) (at : ℕ) (x y z : Scalars) → (one : Reads text s0 s1 b0 b1 at x y) → Reads text s1 s2 b1 b2 one.place y z → Reads text s0 s2 b0 b2 at x z
then_reads text s0 s1 s2 b0 b1 b2 at x y z one two = record { place = two.place; there = two.there; same = one.same ∙ two.same }

drop_next : (text : Scalars) (at c : ℕ) (rest : Scalars) → drop at text ≡ c ∷ rest → drop (at + 1) text ≡ rest
drop_next text at c rest e = sym (drop-drop 1 at text) ∙ ap (drop 1) e

pub run_step : (text : Scalars) (st st' : State) (at : ℕ) (b : Built) (c : ℕ) (rest : Scalars) → next st at c ≡ Some st'
    → run text st at b (c ∷ rest) ≡ run text st' (at + 1) (build text st at (kind_of c) b) rest
unfolding run
run_step text st st' at b c rest e = ap (go_on (c ∷ rest) (λ (q : State). run text q (at + 1) (build text st at (kind_of c) b) rest)) e

pub step : (text : Scalars) (st st' : State) (b b' : Built) (at c : ℕ) (rest : Scalars) → drop at text ≡ c ∷ rest → next st at c ≡ Some st' → build text st at (kind_of c) b ≡ b'
    → Reads text st st' b b' at (c ∷ rest) rest
step text st st' b b' at c rest here e is =
    record { place = at + 1; there = drop_next text at c rest here; same = run_step text st st' at b c rest e ∙ ap (λ x. run text st' (at + 1) x rest) is }

-- ---- names

record Stays (text : Scalars) (st : State) : Type 0 where
  pub on : (at c : ℕ) → is_name_scalar c ≡ true → next st at c ≡ Some st
  pub keeps : (at : ℕ) (b : Built) → build text st at k.Name b ≡ b

stays_name : (text : Scalars) (so : Sort) (from : ℕ) → Stays text (s.Name so from)
unfolding next build
stays_name text so from = record { on = λ at c e. ap (next_name (s.Name so from)) (name_kind c e); keeps = λ at b. refl }

stays_attribute : (text : Scalars) (from : ℕ) → Stays text (s.Attribute from)
unfolding next build
stays_attribute text from = record { on = λ at c e. ap (next_attribute from at) (name_kind c e); keeps = λ at b. refl }

stays_bare : (text : Scalars) (name : Span) (from : ℕ) → Stays text (s.Bare name from)
unfolding next build
stays_bare text name from = record { on = λ at c e. ap (next_bare (s.Bare name from)) (name_kind c e); keeps = λ at b. refl }

name_scalar : (text : Scalars) (st : State) → Stays text st → (at : ℕ) (b : Built) (c : ℕ) (rest : Scalars) → is_name_scalar c ≡ true → run text st at b (c ∷ rest) ≡ run text st (at + 1) b rest
name_scalar text st h at b c rest e =
    run_step text st st at b c rest (h.on at c e) ∙ ap (λ x. run text st (at + 1) x rest) (ap (λ kind. build text st at kind b) (name_kind c e) ∙ h.keeps at b)

further_on : (at : ℕ) (n : Scalars) → at + 1 + length n ≡ at + length (0 ∷ n)
further_on at n = omega arith

none_on : (at : ℕ) → at ≡ at + length {A = ℕ} []
none_on at = omega arith

more_name : (text : Scalars) (st : State) → Stays text st → (n suffix rest : Scalars) → Name n suffix rest → (at : ℕ) (b : Built) → run text st at b suffix ≡ run text st (at + length n) b rest
more_name text st h n suffix rest (g.last_scalar c after e free) at b = name_scalar text st h at b c after e
more_name text st h n suffix rest (g.scalar c name more after e i) at b =
    name_scalar text st h at b c more e ∙ (more_name text st h name more after i (at + 1) b ∙ ap (λ to. run text st to b after) (further_on at name))

pub spelled : (n suffix rest : Scalars) → Name n suffix rest → suffix ≡ n ++ rest
spelled n suffix rest (g.last_scalar c after e free) = refl
spelled n suffix rest (g.scalar c name more after e i) = ap (λ x. c ∷ x) (spelled name more after i)

pub name_ends : (n suffix rest : Scalars) → Name n suffix rest → NotNext is_name_scalar rest
name_ends n suffix rest (g.last_scalar c after e free) = free
name_ends n suffix rest (g.scalar c name more after e i) = name_ends name more after i

-- the word between two places
word_is : (text n rest suffix : Scalars) (from : ℕ) → drop from text ≡ suffix → suffix ≡ n ++ rest → slice_range text from (from + length n) ≡ n
word_is text n rest suffix from here e =
    let count : from + length n - from ≡ length n = omega arith in
    ap (λ (m : ℕ). take m (drop from text)) count ∙ (ap (take (length n)) (here ∙ e) ∙ take_at n rest (length n) refl)

drop_past : (text n rest suffix : Scalars) (from : ℕ) → drop from text ≡ suffix → suffix ≡ n ++ rest → drop (from + length n) text ≡ rest
drop_past text n rest suffix from here e = sym (drop-drop (length n) from text) ∙ (ap (drop (length n)) (here ∙ e) ∙ drop_at n rest (length n) refl)

-- a name from its first scalar on: the place behind it, and that it stands between
record NameRead (text : Scalars) (from to : State) (b : Built) (at : ℕ) (n suffix rest : Scalars) : Type 0 where
  pub place : ℕ
  pub there : drop place text ≡ rest
  pub same : run text from at b suffix ≡ run text to place b rest
  pub word : slice_range text at place ≡ n

begun_name : (text : Scalars) (st0 st : State) (b : Built) (at : ℕ) → Stays text st → ((c : ℕ) → is_name_scalar c ≡ true → next st0 at c ≡ Some st) → build text st0 at k.Name b ≡ b
    → (n suffix rest : Scalars) → Name n suffix rest → run text st0 at b suffix ≡ run text st (at + length n) b rest
begun_name text st0 st b at h to keeps n suffix rest (g.last_scalar c after e free) =
    run_step text st0 st at b c after (to c e) ∙ ap (λ x. run text st (at + 1) x after) (ap (λ kind. build text st0 at kind b) (name_kind c e) ∙ keeps)
begun_name text st0 st b at h to keeps n suffix rest (g.scalar c name more after e i) =
    run_step text st0 st at b c more (to c e) ∙ (ap (λ x. run text st (at + 1) x more) (ap (λ kind. build text st0 at kind b) (name_kind c e) ∙ keeps)
    ∙ (more_name text st h name more after i (at + 1) b ∙ ap (λ place. run text st place b after) (further_on at name)))

name_read : (text : Scalars) (st0 st : State) (b : Built) (at : ℕ) → Stays text st → ((c : ℕ) → is_name_scalar c ≡ true → next st0 at c ≡ Some st) → build text st0 at k.Name b ≡ b
    → (n suffix rest : Scalars) → drop at text ≡ suffix → Name n suffix rest → NameRead text st0 st b at n suffix rest
name_read text st0 st b at h to keeps n suffix rest here i = record {
  place = at + length n;
  there = drop_past text n rest suffix at here (spelled n suffix rest i);
  same = begun_name text st0 st b at h to keeps n suffix rest i;
  word = word_is text n rest suffix at here (spelled n suffix rest i);
}

-- ---- what follows a name of a compound is as behind a whole part

as_after : (st : State) (kind : Kind) → is_name_kind kind ≡ false → next_name st kind ≡ after_part kind
as_after st k.Name e = absurd (cc)
as_after st kind e = refl

as_end : (so : Sort) (w : Scalars) (b : Built) (kind : Kind) → is_name_kind kind ≡ false → end_name so w kind b ≡ end_at kind (with_name so w b)
as_end so w b k.Name e = absurd (cc)
as_end so w b kind e = refl

name_whole : (text : Scalars) (so : Sort) (from at : ℕ) (b : Built) (rest : Scalars) → NotNext is_name_scalar rest
    → run text (s.Name so from) at b rest ≡ run text s.Whole at (with_name so (slice_range text from at) b) rest
unfolding run next build finish
name_whole text so from at b [] free = refl
name_whole text so from at b (c ∷ rest) free =
    let w = slice_range text from at in
    let plain = plain_kind c free in
    ap₂ (λ (q : Option State) (x : Built). go_on (c ∷ rest) (λ (st : State). run text st (at + 1) x rest) q) (as_after (s.Name so from) (kind_of c) plain) (as_end so w b (kind_of c) plain)

-- ---- parts

part_name : (text : Scalars) (so : Sort) (b : Built) (at : ℕ) (n suffix rest : Scalars) → drop at text ≡ suffix → Name n suffix rest
    → Reads text (s.Begun so) s.Whole b (with_name so n b) at suffix rest
unfolding next build
part_name text so b at n suffix rest here i =
    let read = name_read text (s.Begun so) (s.Name so at) b at (stays_name text so at) (λ c e. ap (if_name (s.Name so at)) (name_kind c e)) refl n suffix rest here i in
    record {
      place = read.place;
      there = read.there;
      same = read.same ∙ (name_whole text so at read.place b rest (name_ends n suffix rest i) ∙ ap (λ w. run text s.Whole read.place (with_name so w b) rest) read.word);
    }

not_quote : (st : State) (b : Bool) (x y : State) → b ≡ false → Some (cond b x y) ≡ Some y
not_quote st true x y e = absurd (cc)
not_quote st false x y e = refl

quote_same : (q : ℕ) → (q == q) ≡ true
quote_same q = grind (arith, nat_tests)

quoted_more : (text : Scalars) (name : Span) (q from : ℕ) (v suffix rest : Scalars) → UpToQuote q v suffix rest → (at : ℕ) (b : Built)
    → run text (s.Quoted name q from) at b suffix ≡ run text (s.Closing name (span from (at + length v))) (at + length v + 1) b rest
unfolding next build
quoted_more text name q from v suffix rest (g.closed after) at b =
    run_step text (s.Quoted name q from) (s.Closing name (span from at)) at b q after (ap (λ x. Some (cond x (s.Closing name (span from at)) (s.Quoted name q from))) (quote_same q))
    ∙ ap (λ (place : ℕ). run text (s.Closing name (span from place)) (place + 1) b after) (none_on at)
quoted_more text name q from v suffix rest (g.inside c value more after e i) at b =
    run_step text (s.Quoted name q from) (s.Quoted name q from) at b c more (ap (λ x. Some (cond x (s.Closing name (span from at)) (s.Quoted name q from))) e)
    ∙ (quoted_more text name q from value more after i (at + 1) b
    ∙ ap (λ place. run text (s.Closing name (span from place)) (place + 1) b after) (further_on at value))

quoted_spelled : (q : ℕ) (v suffix rest : Scalars) → UpToQuote q v suffix rest → suffix ≡ v ++ q ∷ rest
quoted_spelled q v suffix rest (g.closed after) = refl
quoted_spelled q v suffix rest (g.inside c value more after e i) = ap (λ x. c ∷ x) (quoted_spelled q value more after i)

-- a value behind `=`, up to its `]`
quoted_read : (text : Scalars) (name : Span) (n : Scalars) (q : ℕ) (b : Built) (at from : ℕ) (v suffix rest : Scalars) → word_at text name ≡ n → drop from text ≡ suffix
    → UpToQuote q v suffix (93 ∷ rest) → Reads text (s.Quoted name q from) s.Whole b (with_part (Is n v) b) from suffix rest
unfolding next build
quoted_read text name n q b at from v suffix rest named here i =
    let e = quoted_spelled q v suffix (93 ∷ rest) i in
    let to = from + length v in
    let word = word_is text v (q ∷ (93 ∷ rest)) suffix from here e in
    let past = drop_past text v (q ∷ (93 ∷ rest)) suffix from here e in
    let closing = drop_next text to q (93 ∷ rest) past in
    let close = step text (s.Closing name (span from to)) s.Whole b (with_part (Is (word_at text name) (slice_range text from to)) b) (to + 1) 93 rest closing refl refl in
    record {
      place = close.place;
      there = close.there;
      same = quoted_more text name q from v suffix (93 ∷ rest) i from b ∙ (close.same ∙ ap₂ (λ x y. run text s.Whole close.place (with_part (Is x y) b) rest) named word);
    }

bare_read : (text : Scalars) (name : Span) (n : Scalars) (b : Built) (at : ℕ) (v suffix rest : Scalars) → word_at text name ≡ n → drop at text ≡ suffix
    → Name v suffix (93 ∷ rest) → Reads text (s.Equals name) s.Whole b (with_part (Is n v) b) at suffix rest
unfolding next build
bare_read text name n b at v suffix rest named here i =
    let read = name_read text (s.Equals name) (s.Bare name at) b at (stays_bare text name at) (λ c e. ap (next_equals name at c) (name_kind c e)) refl v suffix (93 ∷ rest) here i in
    let close = step text (s.Bare name at) s.Whole b (with_part (Is (word_at text name) (slice_range text at read.place)) b) read.place 93 rest read.there refl refl in
    record {
      place = close.place;
      there = close.there;
      same = read.same ∙ (close.same ∙ ap₂ (λ x y. run text s.Whole close.place (with_part (Is x y) b) rest) named read.word);
    }

double_read : (text : Scalars) (name : Span) (n : Scalars) (q : ℕ) (b : Built) (at : ℕ) (v suffix rest : Scalars) → next (s.Equals name) at q ≡ Some (s.Quoted name q (at + 1)) → word_at text name ≡ n
    → drop at text ≡ q ∷ suffix → UpToQuote q v suffix (93 ∷ rest) → Reads text (s.Equals name) s.Whole b (with_part (Is n v) b) at (q ∷ suffix) rest
unfolding build step
double_read text name n q b at v suffix rest opens named here i =
    let open_ = step text (s.Equals name) (s.Quoted name q (at + 1)) b b at q suffix here opens refl in
    let read = quoted_read text name n q b at (at + 1) v suffix rest named open_.there i in
    record { place = read.place; there = read.there; same = open_.same ∙ read.same }

value_read : (text : Scalars) (name : Span) (n : Scalars) (b : Built) (at : ℕ) (v suffix tail : Scalars) → word_at text name ≡ n → drop at text ≡ suffix
    → Value v suffix tail → (rest : Scalars) → tail ≡ 93 ∷ rest → Reads text (s.Equals name) s.Whole b (with_part (Is n v) b) at suffix rest
unfolding next
value_read text name n b at v suffix tail named here (g.bare value inside after i) rest e = bare_read text name n b at value inside rest named here (subst (λ (t : Scalars). Name value inside t) e i)
value_read text name n b at v suffix tail named here (g.double_quoted value inside after i) rest e =
    double_read text name n 34 b at value inside rest refl named here (subst (λ (t : Scalars). UpToQuote 34 value inside t) e i)
value_read text name n b at v suffix tail named here (g.single_quoted value inside after i) rest e =
    double_read text name n 39 b at value inside rest refl named here (subst (λ (t : Scalars). UpToQuote 39 value inside t) e i)

attribute_read : (text : Scalars) (b : Built) (at : ℕ) (n suffix mid : Scalars) → drop at text ≡ suffix → Name n suffix mid → NameRead text s.Opened (s.Attribute at) b at n suffix mid
unfolding next build
attribute_read text b at n suffix mid here i =
    name_read text s.Opened (s.Attribute at) b at (stays_attribute text at) (λ c e. ap (if_name (s.Attribute at)) (name_kind c e)) refl n suffix mid here i

has_read : (text : Scalars) (b : Built) (at : ℕ) (n suffix rest : Scalars) → drop at text ≡ suffix → Name n suffix (93 ∷ rest) → Reads text s.Opened s.Whole b (with_part (Has n) b) at suffix rest
unfolding next build
has_read text b at n suffix rest here i =
    let read = attribute_read text b at n suffix (93 ∷ rest) here i in
    let close = step text (s.Attribute at) s.Whole b (with_part (Has (slice_range text at read.place)) b) read.place 93 rest read.there refl refl in
    record { place = close.place; there = close.there; same = read.same ∙ (close.same ∙ ap (λ x. run text s.Whole close.place (with_part (Has x) b) rest) read.word) }

is_read : (text : Scalars) (b : Built) (at : ℕ) (n v suffix after rest : Scalars) → drop at text ≡ suffix → Name n suffix (61 ∷ after) → Value v after (93 ∷ rest)
    → Reads text s.Opened s.Whole b (with_part (Is n v) b) at suffix rest
unfolding next build
is_read text b at n v suffix after rest here i j =
    let read = attribute_read text b at n suffix (61 ∷ after) here i in
    let sign = step text (s.Attribute at) (s.Equals (span at read.place)) b b read.place 61 after read.there refl refl in
    let value = value_read text (span at read.place) n b sign.place v after (93 ∷ rest) read.word sign.there j rest refl in
    record { place = value.place; there = value.there; same = read.same ∙ (sign.same ∙ value.same) }

-- the states in which a part begins
record Begins (text : Scalars) (st : State) (b : Built) : Type 0 where
  pub hash : (at : ℕ) → next st at 35 ≡ Some (s.Begun sort.Id)
  pub dot : (at : ℕ) → next st at 46 ≡ Some (s.Begun sort.Class)
  pub bracket : (at : ℕ) → next st at 91 ≡ Some s.Opened
  pub keeps_hash : (at : ℕ) → build text st at k.Hash b ≡ b
  pub keeps_dot : (at : ℕ) → build text st at k.Dot b ≡ b
  pub keeps_bracket : (at : ℕ) → build text st at k.Open b ≡ b

begins_whole : (text : Scalars) (b : Built) → Begins text s.Whole b
unfolding next build
begins_whole text b = record { hash = λ at. refl; dot = λ at. refl; bracket = λ at. refl; keeps_hash = λ at. refl; keeps_dot = λ at. refl; keeps_bracket = λ at. refl }

begins_before : (text : Scalars) (b : Built) → Begins text s.Before b
unfolding next build
begins_before text b = record { hash = λ at. refl; dot = λ at. refl; bracket = λ at. refl; keeps_hash = λ at. refl; keeps_dot = λ at. refl; keeps_bracket = λ at. refl }

begins_gap : (text : Scalars) (b : Built) → Begins text s.Gap b
unfolding next build
begins_gap text b = record { hash = λ at. refl; dot = λ at. refl; bracket = λ at. refl; keeps_hash = λ at. refl; keeps_dot = λ at. refl; keeps_bracket = λ at. refl }

part_read : (text : Scalars) (st : State) (b : Built) → Begins text st b → (at : ℕ) (p : Part) (suffix rest : Scalars) → drop at text ≡ suffix → IsPart p suffix rest
    → Reads text st s.Whole b (with_part p b) at suffix rest
part_read text st b begins at p suffix rest here (g.id name inside after i) =
    let mark = step text st (s.Begun sort.Id) b b at 35 inside here (begins.hash at) (begins.keeps_hash at) in
    then_reads text st (s.Begun sort.Id) s.Whole b b (with_part (Id name) b) at (35 ∷ inside) inside after mark (part_name text sort.Id b mark.place name inside after mark.there i)
part_read text st b begins at p suffix rest here (g.class name inside after i) =
    let mark = step text st (s.Begun sort.Class) b b at 46 inside here (begins.dot at) (begins.keeps_dot at) in
    then_reads text st (s.Begun sort.Class) s.Whole b b (with_part (Class name) b) at (46 ∷ inside) inside after mark (part_name text sort.Class b mark.place name inside after mark.there i)
part_read text st b begins at p suffix rest here (g.has name inside after i) =
    let mark = step text st s.Opened b b at 91 inside here (begins.bracket at) (begins.keeps_bracket at) in
    then_reads text st s.Opened s.Whole b b (with_part (Has name) b) at (91 ∷ inside) inside after mark (has_read text b mark.place name inside after mark.there i)
part_read text st b begins at p suffix rest here (g.equals name value inside after end i j) =
    let mark = step text st s.Opened b b at 91 inside here (begins.bracket at) (begins.keeps_bracket at) in
    then_reads text st s.Opened s.Whole b b (with_part (Is name value) b) at (91 ∷ inside) inside end mark (is_read text b mark.place name value inside after end mark.there i j)

abbrev with_parts : List Part → Built → Built
with_parts ps b = record b { parts = b.parts ++ ps }

none_more : (b : Built) → with_parts [] b ≡ b
none_more b = ap (λ (ps : List Part). record b { parts = ps }) (append-nil b.parts)

one_more : (p : Part) (ps : List Part) (b : Built) → with_parts ps (with_part p b) ≡ with_parts (p ∷ ps) b
one_more p ps b = ap (λ (qs : List Part). record b { parts = qs }) (append_assoc b.parts (p ∷ []) ps)

parts_read : (text : Scalars) (ps : List Part) (suffix rest : Scalars) → AreParts ps suffix rest → (b : Built) (at : ℕ) → drop at text ≡ suffix → Reads text s.Whole s.Whole b (with_parts ps b) at suffix rest
parts_read text ps suffix rest (g.no_part end) b at here = record { place = at; there = here; same = ap (λ x. run text s.Whole at x end) (sym (none_more b)) }
parts_read text ps suffix rest (g.part p others inside mid end i more) b at here =
    let one = part_read text s.Whole b (begins_whole text b) at p inside mid here i in
    let further = parts_read text others mid end more (with_part p b) one.place one.there in
    record { place = further.place; there = further.there; same = one.same ∙ (further.same ∙ ap (λ x. run text s.Whole further.place x end) (one_more p others b)) }

-- ---- compounds

-- a state before a compound
record Opens (text : Scalars) (st : State) (b : Built) : Type 0 where
  pub begins : Begins text st b
  pub name : (at c : ℕ) → is_name_scalar c ≡ true → next st at c ≡ Some (s.Name sort.Tag at)
  pub keeps_name : (at : ℕ) → build text st at k.Name b ≡ b
  pub star : (at : ℕ) → next st at 42 ≡ Some s.Whole
  pub takes_star : (at : ℕ) → build text st at k.Star b ≡ with_any k.Star b

opens_before : (text : Scalars) (b : Built) → Opens text s.Before b
unfolding next build
opens_before text b = record { begins = begins_before text b; name = λ at c e. ap (next_before at) (name_kind c e); keeps_name = λ at. refl; star = λ at. refl; takes_star = λ at. refl }

opens_gap : (text : Scalars) (b : Built) → Opens text s.Gap b
unfolding next build
opens_gap text b = record { begins = begins_gap text b; name = λ at c e. ap (next_gap at) (name_kind c e); keeps_name = λ at. refl; star = λ at. refl; takes_star = λ at. refl }

-- what is built of whole chains and compounds
abbrev pub base : Chains → List Compound → Built
base chains done = record { chains = chains; chain = done; tag = None; parts = [] }

abbrev held : Chains → List Compound → Compound → Built
held chains done c = record { chains = chains; chain = done; tag = c.tag; parts = c.parts }

compound_read : (text : Scalars) (st : State) (chains : Chains) (done : List Compound) → Opens text st (base chains done) → (at : ℕ) (c : Compound) (suffix rest : Scalars) → drop at text ≡ suffix
    → IsCompound c suffix rest → Reads text st s.Whole (base chains done) (held chains done c) at suffix rest
compound_read text st chains done opens at c suffix rest here (g.any_tag ps inside end more) =
    let b = base chains done in
    let star = step text st s.Whole b (with_any k.Star b) at 42 inside here (opens.star at) (opens.takes_star at) in
    then_reads text st s.Whole s.Whole b (with_any k.Star b) (held chains done (compound_of (Some Any) ps)) at (42 ∷ inside) inside end star (parts_read text ps inside end more (with_any k.Star b) star.place star.there)
compound_read text st chains done opens at c suffix rest here (g.tagged name ps inside mid end i more) =
    let b = base chains done in
    let read = name_read text st (s.Name sort.Tag at) b at (stays_name text sort.Tag at) (opens.name at) (opens.keeps_name at) name inside mid here i in
    let further = parts_read text ps mid end more (with_name sort.Tag name b) read.place read.there in
    record {
      place = further.place;
      there = further.there;
      same = read.same ∙ (name_whole text sort.Tag at read.place b mid (name_ends name inside mid i)
          ∙ (ap (λ w. run text s.Whole read.place (with_name sort.Tag w b) mid) read.word ∙ further.same));
    }
compound_read text st chains done opens at c suffix rest here (g.untagged p ps inside mid end i more) =
    let b = base chains done in
    let one = part_read text st b opens.begins at p inside mid here i in
    then_reads text st s.Whole s.Whole b (with_part p b) (held chains done (compound_of None (p ∷ ps))) at inside mid end one (parts_read text ps mid end more (with_part p b) one.place one.there)

-- ---- blanks

blanks_gap : (text suffix rest : Scalars) → Blanks suffix rest → (b : Built) (at : ℕ) → drop at text ≡ suffix → Reads text s.Gap s.Gap b b at suffix rest
unfolding next build
blanks_gap text suffix rest (g.no_blank end) b at here = record { place = at; there = here; same = refl }
blanks_gap text suffix rest (g.blank c inside end e more) b at here =
    let one = step text s.Gap s.Gap b b at c inside here (ap (next_gap at) (blank_kind c e)) (ap (λ kind. end_gap kind b) (blank_kind c e)) in
    then_reads text s.Gap s.Gap s.Gap b b b at (c ∷ inside) inside end one (blanks_gap text inside end more b one.place one.there)

blanks_before : (text suffix rest : Scalars) → Blanks suffix rest → (b : Built) (at : ℕ) → drop at text ≡ suffix → Reads text s.Before s.Before b b at suffix rest
unfolding next build
blanks_before text suffix rest (g.no_blank end) b at here = record { place = at; there = here; same = refl }
blanks_before text suffix rest (g.blank c inside end e more) b at here =
    let one = step text s.Before s.Before b b at c inside here (ap (next_before at) (blank_kind c e)) (ap (λ kind. with_any kind b) (blank_kind c e)) in
    then_reads text s.Before s.Before s.Before b b b at (c ∷ inside) inside end one (blanks_before text inside end more b one.place one.there)

-- ---- chains

gap_read : (text : Scalars) (b : Built) (at gap : ℕ) (mid next_ : Scalars) → drop at text ≡ gap ∷ mid → is_white_space gap ≡ true → Blanks mid next_ → Reads text s.Whole s.Gap b (end_compound b) at (gap ∷ mid) next_
unfolding next build
gap_read text b at gap mid next_ here e more =
    let one = step text s.Whole s.Gap b (end_compound b) at gap mid here (ap after_part (blank_kind gap e)) (ap (λ kind. end_at kind b) (blank_kind gap e)) in
    then_reads text s.Whole s.Gap s.Gap b (end_compound b) (end_compound b) at (gap ∷ mid) mid next_ one (blanks_gap text mid next_ more (end_compound b) one.place one.there)

-- the last compound of a chain is held, and the chain with it is done and the chain that is read
record ChainRead (text : Scalars) (st : State) (chains : Chains) (done cs : List Compound) (at : ℕ) (suffix rest : Scalars) : Type 0 where
  pub last : Compound
  pub front : List Compound
  pub whole : front ++ last ∷ [] ≡ done ++ cs
  pub reads : Reads text st s.Whole (base chains done) (held chains front last) at suffix rest

chain_read : (text : Scalars) (chains : Chains) (cs : List Compound) (suffix rest : Scalars) → IsChain cs suffix rest → (st : State) (done : List Compound) → ((b : Built) → Opens text st b)
    → (at : ℕ) → drop at text ≡ suffix → ChainRead text st chains done cs at suffix rest
chain_read text chains cs suffix rest (g.compound c inside end i) st done opens at here =
    record { last = c; front = done; whole = refl; reads = compound_read text st chains done (opens (base chains done)) at c inside end here i }
chain_read text chains cs suffix rest (g.descendant c others gap inside mid next_ end i e blanks more) st done opens at here =
    let one = compound_read text st chains done (opens (base chains done)) at c inside (gap ∷ mid) here i in
    let between = gap_read text (held chains done c) one.place gap mid next_ one.there e blanks in
    let further = chain_read text chains others next_ end more s.Gap (done ++ c ∷ []) (opens_gap text) between.place between.there in
    record {
      last = further.last;
      front = further.front;
      whole = further.whole ∙ append_assoc done (c ∷ []) others;
      reads = record { place = further.reads.place; there = further.reads.there; same = one.same ∙ (between.same ∙ further.reads.same) };
    }

-- ---- whole selectors

gap_end : (text : Scalars) (b : Built) (at : ℕ) → run text s.Gap at b [] ≡ Ok (end_chain b).chains
unfolding run finish
gap_end text b at = refl

whole_end : (text : Scalars) (b : Built) (at : ℕ) → run text s.Whole at b [] ≡ Ok (end_chain (end_compound b)).chains
unfolding run finish
whole_end text b at = refl

end_read : (text : Scalars) (b : Built) (end tail : Scalars) → Blanks end tail → (at : ℕ) → drop at text ≡ end → tail ≡ [] → run text s.Whole at b end ≡ Ok (end_chain (end_compound b)).chains
end_read text b end tail (g.no_blank same) at here e = ap (λ x. run text s.Whole at b x) e ∙ whole_end text b at
end_read text b end tail (g.blank c inside after is more) at here e =
    let gap = gap_read text b at c inside after here is more in
    gap.same ∙ (ap (λ x. run text s.Gap gap.place (end_compound b) x) e ∙ gap_end text (end_compound b) gap.place)

comma_read : (text : Scalars) (b : Built) (end tail : Scalars) → Blanks end tail → (at : ℕ) → drop at text ≡ end → (rest : Scalars) → tail ≡ 44 ∷ rest
    → Reads text s.Whole s.Before b (end_chain (end_compound b)) at end rest
unfolding next build
comma_read text b end tail (g.no_blank same) at here rest e =
    subst (λ (x : Scalars). Reads text s.Whole s.Before b (end_chain (end_compound b)) at x rest) (sym e) (step text s.Whole s.Before b (end_chain (end_compound b)) at 44 rest (here ∙ e) refl refl)
comma_read text b end tail (g.blank c inside after is more) at here rest e =
    let gap = gap_read text b at c inside after here is more in
    let comma = step text s.Gap s.Before (end_compound b) (end_chain (end_compound b)) gap.place 44 rest (gap.there ∙ e) refl refl in
    record { place = comma.place; there = comma.there; same = gap.same ∙ (ap (λ x. run text s.Gap gap.place (end_compound b) x) e ∙ comma.same) }

abbrev ok_of : Chains → Outcome
ok_of chains = Ok chains

pub selector_read : (text : Scalars) (chains : Chains) (suffix : Scalars) → IsSelector chains suffix → (done : Chains) (at : ℕ) → drop at text ≡ suffix
    → run text s.Before at (base done []) suffix ≡ Ok (done ++ chains)
selector_read text chains suffix (g.chain c inside start end before i after) done at here =
    let blanks = blanks_before text inside start before (base done []) at here in
    let read = chain_read text done c start end i s.Before [] (opens_before text) blanks.place blanks.there in
    blanks.same ∙ (read.reads.same ∙ (end_read text (held done read.front read.last) end [] after read.reads.place read.reads.there refl
    ∙ ap (λ (x : List Compound). ok_of (done ++ x ∷ [])) read.whole))
selector_read text chains suffix (g.either c others inside start end rest before i after more) done at here =
    let blanks = blanks_before text inside start before (base done []) at here in
    let read = chain_read text done c start end i s.Before [] (opens_before text) blanks.place blanks.there in
    let comma = comma_read text (held done read.front read.last) end (44 ∷ rest) after read.reads.place read.reads.there rest refl in
    let further = selector_read text others rest more (done ++ c ∷ []) comma.place comma.there in
    blanks.same ∙ (read.reads.same ∙ (comma.same ∙ (ap (λ (x : List Compound). run text s.Before comma.place (base (done ++ x ∷ []) []) rest) read.whole
    ∙ (further ∙ ap ok_of (append_assoc done (c ∷ []) others)))))

-- what is spelled so is read
pub read_again : (chains : Chains) (text : Scalars) → IsSelector chains text → run text s.Before 0 (base [] []) text ≡ Ok chains
read_again chains text i = selector_read text chains text i [] 0 refl
