-- What is read to its end is spelled so by some selector: what may follow each state.
use Rattle.std.proofs.Common.{◌≡◌, ◌+◌, ◌⊎◌, ℕ, Bool, true, false, ◌==◌, cond, List, [], ◌∷◌, refl, sym, subst, arith, inl, inr}
use Rattle.std.proofs.lemmas.Bool.Decides.{nat_tests}
use Rattle.std.specs.Prelude.{Option, Some, None, Ok}
use Rattle.dom_query.specs.declared.kind.Kind.{Kind}
use Rattle.dom_query.specs.declared.kind.Kind.TheVariants as k
use Rattle.dom_query.specs.declared.state.Sort.{Sort}
use Rattle.dom_query.specs.declared.state.Span.{Span}
use Rattle.dom_query.specs.declared.state.State.{State}
use Rattle.dom_query.specs.declared.state.State.TheVariants as s
use Rattle.dom_query.specs.declared.built.Built.{Built}
use Rattle.dom_semantics.specs.declared.selectors.Compound.{Compound}
use Rattle.dom_semantics.specs.declared.selectors.Part.{Part}
use Rattle.dom_semantics.specs.declared.selectors.Part.TheVariants.{Id, Class, Has, Is}
use Rattle.dom_semantics.specs.declared.selectors.TagTest.TheVariants.{Any, Named}
use Rattle.dom_semantics.specs.SelectorNames.{Scalars, NotNext, is_name_scalar}
use Rattle.dom_semantics.specs.Whitespace.{is_white_space}
use Rattle.dom_semantics.specs.SelectorGrammar as g
use Rattle.dom_semantics.specs.SelectorGrammar.{Blanks, Name, UpToQuote, Value, IsPart, AreParts, IsCompound, IsChain, IsSelector, compound_of}
use Rattle.dom_query.specs.Answers.{Chains}
use Rattle.dom_query.specs.ReadingModel.{Outcome, span, kind_of, next, build, finish, run, go_on, or_stuck, begin_part, begin_compound, after_part, if_name, if_close, next_before, next_gap, next_name, next_attribute, next_equals, next_bare}
use Rattle.dom_query.proofs.KindFacts.{Fact, fact_of, is_name_kind, plain_scalar}
use Rattle.dom_query.proofs.Again.{base, read_again}

-- behind a chain
pub data End : Scalars → Type 0 where
  last : (text : Scalars) → Blanks text [] → End text
  comma : (chains : Chains) (text rest : Scalars) → Blanks text (44 ∷ rest) → IsSelector chains rest → End text

-- behind a compound
pub data Behind : Scalars → Type 0 where
  ends : (text : Scalars) → End text → Behind text
  more : (cs : List Compound) (gap : ℕ) (mid start end : Scalars) → is_white_space gap ≡ true → Blanks mid start → IsChain cs start end → End end → Behind (gap ∷ mid)

-- behind a part
pub record After (text : Scalars) : Type 0 where
  pub parts : List Part
  pub mid : Scalars
  pub are : AreParts parts text mid
  pub behind : Behind mid

-- the rest of a name
pub data Names : Scalars → Scalars → Type 0 where
  no_more : (rest : Scalars) → NotNext is_name_scalar rest → Names rest rest
  one_more : (c : ℕ) (text rest : Scalars) → is_name_scalar c ≡ true → Names text rest → Names (c ∷ text) rest

pub record NameThen (R : Scalars → Type 0) (text : Scalars) : Type 0 where
  pub rest : Scalars
  pub names : Names text rest
  pub behind : R rest

pub data Brackets : Scalars → Type 0 where
  close : (rest : Scalars) → After rest → Brackets (93 ∷ rest)
  equals : (v after rest : Scalars) → Value v after (93 ∷ rest) → After rest → Brackets (61 ∷ after)

pub data Closes : Scalars → Type 0 where
  closes : (rest : Scalars) → After rest → Closes (93 ∷ rest)

pub record WholeName (R : Scalars → Type 0) (text : Scalars) : Type 0 where
  pub name : Scalars
  pub rest : Scalars
  pub is : Name name text rest
  pub behind : R rest

pub record WholeValue (text : Scalars) : Type 0 where
  pub value : Scalars
  pub rest : Scalars
  pub is : Value value text (93 ∷ rest)
  pub behind : After rest

pub record InQuotes (q : ℕ) (text : Scalars) : Type 0 where
  pub value : Scalars
  pub rest : Scalars
  pub is : UpToQuote q value text (93 ∷ rest)
  pub behind : After rest

-- a chain, and what stands behind it
pub record ChainThen (text : Scalars) : Type 0 where
  pub cs : List Compound
  pub end : Scalars
  pub is : IsChain cs text end
  pub behind : End end

pub data AfterGap : Scalars → Type 0 where
  at_end : (text : Scalars) → End text → AfterGap text
  at_chain : (text start : Scalars) → Blanks text start → ChainThen start → AfterGap text

pub record Selects (text : Scalars) : Type 0 where
  pub chains : Chains
  pub is : IsSelector chains text

-- what may follow a state
abbrev pub Follows : State → Scalars → Type 0
Follows s.Before text = Selects text
Follows s.Gap text = AfterGap text
Follows (s.Begun so) text = WholeName After text
Follows (s.Name so from) text = NameThen After text
Follows s.Whole text = After text
Follows s.Opened text = WholeName Brackets text
Follows (s.Attribute from) text = NameThen Brackets text
Follows (s.Equals name) text = WholeValue text
Follows (s.Quoted name q from) text = InQuotes q text
Follows (s.Bare name from) text = NameThen Closes text
Follows (s.Closing name value) text = Closes text

-- what follows the state that comes next, if one does
abbrev Then : Option State → Scalars → Type 0
Then None text = ⊥
Then (Some q) text = Follows q text

-- ---- names

name_of : (c : ℕ) (text rest : Scalars) → is_name_scalar c ≡ true → Names text rest → (name : Scalars) × Name name (c ∷ text) rest
name_of c text rest e (no_more after free) = (c ∷ [], g.last_scalar c after e free)
name_of c text rest e (one_more d inside after is others) = let further = name_of d inside after is others in (c ∷ further.0, g.scalar c further.0 (d ∷ inside) after e further.1)

begun : (R : Scalars → Type 0) (c : ℕ) (text : Scalars) → is_name_scalar c ≡ true → NameThen R text → WholeName R (c ∷ text)
begun R c text e f = let n = name_of c text f.rest e f.names in record { name = n.0; rest = f.rest; is = n.1; behind = f.behind }

named : (R : Scalars → Type 0) (c : ℕ) (text : Scalars) → is_name_scalar c ≡ true → NameThen R text → NameThen R (c ∷ text)
named R c text e f = record { rest = f.rest; names = one_more c text f.rest e f.names; behind = f.behind }

unnamed : (R : Scalars → Type 0) (text : Scalars) → NotNext is_name_scalar text → R text → NameThen R text
unnamed R text free f = record { rest = text; names = no_more text free; behind = f }

-- ---- parts

record PartThen (text : Scalars) : Type 0 where
  pub part : Part
  pub mid : Scalars
  pub is : IsPart part text mid
  pub after : After mid

after_of : (text : Scalars) → PartThen text → After text
after_of text f = record { parts = f.part ∷ f.after.parts; mid = f.after.mid; are = g.part f.part f.after.parts text f.mid f.after.mid f.is f.after.are; behind = f.after.behind }

bracketed : (name text rest : Scalars) → Name name text rest → Brackets rest → PartThen (91 ∷ text)
bracketed name text rest i (close after f) = record { part = Has name; mid = after; is = g.has name text after i; after = f }
bracketed name text rest i (equals v inside after j f) = record { part = Is name v; mid = after; is = g.equals name v text inside after i j; after = f }

part_then : (kind : Kind) (c : ℕ) (text : Scalars) → Fact kind c → Then (begin_part kind) text → PartThen (c ∷ text)
part_then k.Hash c text e f =
    subst (λ (d : ℕ). PartThen (d ∷ text)) (sym e) (record { part = Id f.name; mid = f.rest; is = g.id f.name text f.rest f.is; after = f.behind })
part_then k.Dot c text e f =
    subst (λ (d : ℕ). PartThen (d ∷ text)) (sym e) (record { part = Class f.name; mid = f.rest; is = g.class f.name text f.rest f.is; after = f.behind })
part_then k.Open c text e f = subst (λ (d : ℕ). PartThen (d ∷ text)) (sym e) (bracketed f.name text f.rest f.is f.behind)
part_then k.Name c text e f = absurd f
part_then k.Blank c text e f = absurd f
part_then k.Star c text e f = absurd f
part_then k.Close c text e f = absurd f
part_then k.Equals c text e f = absurd f
part_then k.Quote c text e f = absurd f
part_then k.Comma c text e f = absurd f
part_then k.Other c text e f = absurd f

-- ---- compounds and chains

blank_end : (c : ℕ) (text : Scalars) → is_white_space c ≡ true → End text → End (c ∷ text)
blank_end c text e (last inside bl) = last (c ∷ inside) (g.blank c inside [] e bl)
blank_end c text e (comma chains inside rest bl i) = comma chains (c ∷ inside) rest (g.blank c inside (44 ∷ rest) e bl) i

blank_behind : (c : ℕ) (text : Scalars) → is_white_space c ≡ true → AfterGap text → Behind (c ∷ text)
blank_behind c text e (at_end inside f) = ends (c ∷ inside) (blank_end c inside e f)
blank_behind c text e (at_chain inside start bl f) = more f.cs c inside start f.end e bl f.is f.behind

comma_end : (text : Scalars) → Selects text → End (44 ∷ text)
comma_end text f = comma f.chains (44 ∷ text) text (g.no_blank (44 ∷ text)) f.is

no_parts : (text : Scalars) → Behind text → After text
no_parts text f = record { parts = []; mid = text; are = g.no_part text; behind = f }

after_then : (kind : Kind) (c : ℕ) (text : Scalars) → Fact kind c → Then (after_part kind) text → After (c ∷ text)
after_then k.Blank c text e f = no_parts (c ∷ text) (blank_behind c text e f)
after_then k.Comma c text e f = subst (λ (d : ℕ). After (d ∷ text)) (sym e) (no_parts (44 ∷ text) (ends (44 ∷ text) (comma_end text f)))
after_then k.Hash c text e f = after_of (c ∷ text) (part_then k.Hash c text e f)
after_then k.Dot c text e f = after_of (c ∷ text) (part_then k.Dot c text e f)
after_then k.Open c text e f = after_of (c ∷ text) (part_then k.Open c text e f)
after_then k.Name c text e f = absurd f
after_then k.Star c text e f = absurd f
after_then k.Close c text e f = absurd f
after_then k.Equals c text e f = absurd f
after_then k.Quote c text e f = absurd f
after_then k.Other c text e f = absurd f

chain_of : (c : Compound) (text mid : Scalars) → IsCompound c text mid → Behind mid → ChainThen text
chain_of c text mid i (ends end f) = record { cs = c ∷ []; end = end; is = g.compound c text end i; behind = f }
chain_of c text mid i (more cs gap inside start end e bl j f) = record { cs = c ∷ cs; end = end; is = g.descendant c cs gap text inside start end i e bl j; behind = f }

tag_then : (name text mid : Scalars) → Name name text mid → After mid → ChainThen text
tag_then name text mid i f = chain_of (compound_of (Some (Named name)) f.parts) text f.mid (g.tagged name f.parts text mid f.mid i f.are) f.behind

star_then : (text : Scalars) → After text → ChainThen (42 ∷ text)
star_then text f = chain_of (compound_of (Some Any) f.parts) (42 ∷ text) f.mid (g.any_tag f.parts text f.mid f.are) f.behind

plain_then : (text : Scalars) → PartThen text → ChainThen text
plain_then text f = chain_of (compound_of None (f.part ∷ f.after.parts)) text f.after.mid (g.untagged f.part f.after.parts text f.mid f.after.mid f.is f.after.are) f.after.behind

compound_then : (at : ℕ) (kind : Kind) (c : ℕ) (text : Scalars) → Fact kind c → Then (begin_compound at kind) text → ChainThen (c ∷ text)
compound_then at k.Name c text e f = let n = begun After c text e f in tag_then n.name (c ∷ text) n.rest n.is n.behind
compound_then at k.Star c text e f = subst (λ (d : ℕ). ChainThen (d ∷ text)) (sym e) (star_then text f)
compound_then at k.Hash c text e f = plain_then (c ∷ text) (part_then k.Hash c text e f)
compound_then at k.Dot c text e f = plain_then (c ∷ text) (part_then k.Dot c text e f)
compound_then at k.Open c text e f = plain_then (c ∷ text) (part_then k.Open c text e f)
compound_then at k.Blank c text e f = absurd f
compound_then at k.Comma c text e f = absurd f
compound_then at k.Close c text e f = absurd f
compound_then at k.Equals c text e f = absurd f
compound_then at k.Quote c text e f = absurd f
compound_then at k.Other c text e f = absurd f

selects_by : (text start : Scalars) → Blanks text start → (cs : List Compound) (end : Scalars) → IsChain cs start end → End end → Selects text
selects_by text start bl cs end i (last inside after) = record { chains = cs ∷ []; is = g.chain cs text start inside bl i after }
selects_by text start bl cs end i (comma chains inside rest after j) = record { chains = cs ∷ chains; is = g.either cs chains text start inside rest bl i after j }

selects_of : (text start : Scalars) → Blanks text start → ChainThen start → Selects text
selects_of text start bl f = selects_by text start bl f.cs f.end f.is f.behind

chain_selects : (text : Scalars) → ChainThen text → Selects text
chain_selects text f = selects_of text text (g.no_blank text) f

blank_selects : (c : ℕ) (text : Scalars) → is_white_space c ≡ true → (chains : Chains) → IsSelector chains text → Selects (c ∷ text)
blank_selects c text e chains (g.chain ch inside start end bl i after) = record { chains = ch ∷ []; is = g.chain ch (c ∷ inside) start end (g.blank c inside start e bl) i after }
blank_selects c text e chains (g.either ch others inside start end rest bl i after j) =
    record { chains = ch ∷ others; is = g.either ch others (c ∷ inside) start end rest (g.blank c inside start e bl) i after j }

-- ---- each state

before_then : (at : ℕ) (kind : Kind) (c : ℕ) (text : Scalars) → Fact kind c → Then (next_before at kind) text → Selects (c ∷ text)
before_then at k.Blank c text e f = blank_selects c text e f.chains f.is
before_then at k.Name c text e f = chain_selects (c ∷ text) (compound_then at k.Name c text e f)
before_then at k.Star c text e f = chain_selects (c ∷ text) (compound_then at k.Star c text e f)
before_then at k.Hash c text e f = chain_selects (c ∷ text) (compound_then at k.Hash c text e f)
before_then at k.Dot c text e f = chain_selects (c ∷ text) (compound_then at k.Dot c text e f)
before_then at k.Open c text e f = chain_selects (c ∷ text) (compound_then at k.Open c text e f)
before_then at k.Comma c text e f = absurd f
before_then at k.Close c text e f = absurd f
before_then at k.Equals c text e f = absurd f
before_then at k.Quote c text e f = absurd f
before_then at k.Other c text e f = absurd f

gap_chain : (text : Scalars) → ChainThen text → AfterGap text
gap_chain text f = at_chain text text (g.no_blank text) f

blank_gap : (c : ℕ) (text : Scalars) → is_white_space c ≡ true → AfterGap text → AfterGap (c ∷ text)
blank_gap c text e (at_end inside f) = at_end (c ∷ inside) (blank_end c inside e f)
blank_gap c text e (at_chain inside start bl f) = at_chain (c ∷ inside) start (g.blank c inside start e bl) f

gap_then : (at : ℕ) (kind : Kind) (c : ℕ) (text : Scalars) → Fact kind c → Then (next_gap at kind) text → AfterGap (c ∷ text)
gap_then at k.Blank c text e f = blank_gap c text e f
gap_then at k.Comma c text e f = subst (λ (d : ℕ). AfterGap (d ∷ text)) (sym e) (at_end (44 ∷ text) (comma_end text f))
gap_then at k.Name c text e f = gap_chain (c ∷ text) (compound_then at k.Name c text e f)
gap_then at k.Star c text e f = gap_chain (c ∷ text) (compound_then at k.Star c text e f)
gap_then at k.Hash c text e f = gap_chain (c ∷ text) (compound_then at k.Hash c text e f)
gap_then at k.Dot c text e f = gap_chain (c ∷ text) (compound_then at k.Dot c text e f)
gap_then at k.Open c text e f = gap_chain (c ∷ text) (compound_then at k.Open c text e f)
gap_then at k.Close c text e f = absurd f
gap_then at k.Equals c text e f = absurd f
gap_then at k.Quote c text e f = absurd f
gap_then at k.Other c text e f = absurd f

begun_then : (so : Sort) (at : ℕ) (kind : Kind) (c : ℕ) (text : Scalars) → Fact kind c → Then (if_name (s.Name so at) kind) text → WholeName After (c ∷ text)
begun_then so at k.Name c text e f = begun After c text e f
begun_then so at kind c text e f = absurd f

opened_then : (at : ℕ) (kind : Kind) (c : ℕ) (text : Scalars) → Fact kind c → Then (if_name (s.Attribute at) kind) text → WholeName Brackets (c ∷ text)
opened_then at k.Name c text e f = begun Brackets c text e f
opened_then at kind c text e f = absurd f

name_then : (so : Sort) (from : ℕ) (kind : Kind) (c : ℕ) (text : Scalars) → Fact kind c → (is_name_kind kind ≡ false → is_name_scalar c ≡ false) → Then (next_name (s.Name so from) kind) text
    → NameThen After (c ∷ text)
name_then so from k.Name c text e plain f = named After c text e f
name_then so from kind c text e plain f = unnamed After (c ∷ text) (plain refl) (after_then kind c text e f)

attribute_then : (from at : ℕ) (kind : Kind) (c : ℕ) (text : Scalars) → Fact kind c → Then (next_attribute from at kind) text → NameThen Brackets (c ∷ text)
attribute_then from at k.Name c text e f = named Brackets c text e f
attribute_then from at k.Equals c text e f =
    subst (λ (d : ℕ). NameThen Brackets (d ∷ text)) (sym e) (unnamed Brackets (61 ∷ text) refl (equals f.value text f.rest f.is f.behind))
attribute_then from at k.Close c text e f = subst (λ (d : ℕ). NameThen Brackets (d ∷ text)) (sym e) (unnamed Brackets (93 ∷ text) refl (close text f))
attribute_then from at kind c text e f = absurd f

bare_value : (name text rest : Scalars) → Name name text rest → Closes rest → WholeValue text
bare_value name text rest i (closes after f) = record { value = name; rest = after; is = g.bare name text (93 ∷ after) i; behind = f }

quoted_value : (c : ℕ) (text : Scalars) → (c ≡ 34) ⊎ (c ≡ 39) → InQuotes c text → WholeValue (c ∷ text)
quoted_value c text (inl e) f =
    let inside = subst (λ (d : ℕ). InQuotes d text) e f in
    subst (λ (d : ℕ). WholeValue (d ∷ text)) (sym e) (record { value = inside.value; rest = inside.rest; is = g.double_quoted inside.value text (93 ∷ inside.rest) inside.is; behind = inside.behind })
quoted_value c text (inr e) f =
    let inside = subst (λ (d : ℕ). InQuotes d text) e f in
    subst (λ (d : ℕ). WholeValue (d ∷ text)) (sym e) (record { value = inside.value; rest = inside.rest; is = g.single_quoted inside.value text (93 ∷ inside.rest) inside.is; behind = inside.behind })

equals_then : (name : Span) (at : ℕ) (kind : Kind) (c : ℕ) (text : Scalars) → Fact kind c → Then (next_equals name at c kind) text → WholeValue (c ∷ text)
equals_then name at k.Name c text e f = let n = begun Closes c text e f in bare_value n.name (c ∷ text) n.rest n.is n.behind
equals_then name at k.Quote c text e f = quoted_value c text e f
equals_then name at kind c text e f = absurd f

quote_ends : (q : ℕ) (text : Scalars) → Closes text → InQuotes q (q ∷ text)
quote_ends q text (closes after f) = record { value = []; rest = after; is = g.closed (93 ∷ after); behind = f }

is_it : (c n : ℕ) → (c == n) ≡ true → c ≡ n
is_it c n e = grind (arith, nat_tests)

quoted_then : (b : Bool) (name : Span) (q from at c : ℕ) (text : Scalars) → (c == q) ≡ b → Follows (cond b (s.Closing name (span from at)) (s.Quoted name q from)) text → InQuotes q (c ∷ text)
quoted_then true name q from at c text e f = subst (λ (d : ℕ). InQuotes q (d ∷ text)) (sym (is_it c q e)) (quote_ends q text f)
quoted_then false name q from at c text e f = record { value = c ∷ f.value; rest = f.rest; is = g.inside c f.value text (93 ∷ f.rest) e f.is; behind = f.behind }

bare_then : (name : Span) (from : ℕ) (kind : Kind) (c : ℕ) (text : Scalars) → Fact kind c → Then (next_bare (s.Bare name from) kind) text → NameThen Closes (c ∷ text)
bare_then name from k.Name c text e f = named Closes c text e f
bare_then name from k.Close c text e f = subst (λ (d : ℕ). NameThen Closes (d ∷ text)) (sym e) (unnamed Closes (93 ∷ text) refl (closes text f))
bare_then name from kind c text e f = absurd f

closing_then : (kind : Kind) (c : ℕ) (text : Scalars) → Fact kind c → Then (if_close kind) text → Closes (c ∷ text)
closing_then k.Close c text e f = subst (λ (d : ℕ). Closes (d ∷ text)) (sym e) (closes text f)
closing_then kind c text e f = absurd f

follow : (st : State) (at c : ℕ) (text : Scalars) → Then (next st at c) text → Follows st (c ∷ text)
unfolding next
follow s.Before at c text f = before_then at (kind_of c) c text (fact_of c) f
follow s.Gap at c text f = gap_then at (kind_of c) c text (fact_of c) f
follow (s.Begun so) at c text f = begun_then so at (kind_of c) c text (fact_of c) f
follow (s.Name so from) at c text f = name_then so from (kind_of c) c text (fact_of c) (plain_scalar c) f
follow s.Whole at c text f = after_then (kind_of c) c text (fact_of c) f
follow s.Opened at c text f = opened_then at (kind_of c) c text (fact_of c) f
follow (s.Attribute from) at c text f = attribute_then from at (kind_of c) c text (fact_of c) f
follow (s.Equals name) at c text f = equals_then name at (kind_of c) c text (fact_of c) f
follow (s.Quoted name q from) at c text f = quoted_then (c == q) name q from at c text refl f
follow (s.Bare name from) at c text f = bare_then name from (kind_of c) c text (fact_of c) f
follow (s.Closing name value) at c text f = closing_then (kind_of c) c text (fact_of c) f

-- ---- to the text's end

nothing_left : After []
nothing_left = no_parts [] (ends [] (last [] (g.no_blank [])))

finish_follows : (text : Scalars) (st : State) (at : ℕ) (b : Built) (chains : Chains) → finish text st at b ≡ Some chains → Follows st []
unfolding finish
finish_follows text s.Gap at b chains e = at_end [] (last [] (g.no_blank []))
finish_follows text (s.Name so from) at b chains e = unnamed After [] tt nothing_left
finish_follows text s.Whole at b chains e = nothing_left
finish_follows text st at b chains e = absurd (cc)

or_some : (o : Option Chains) (chains : Chains) → or_stuck [] o ≡ Ok chains → o ≡ Some chains
or_some None chains e = absurd (cc)
or_some (Some x) chains e = cc

go_then : (rest text : Scalars) (later : State → Outcome) (o : Option State) (chains : Chains) → go_on rest later o ≡ Ok chains → ((q : State) → later q ≡ Ok chains → Follows q text) → Then o text
go_then rest text later None chains e h = absurd (cc)
go_then rest text later (Some q) chains e h = h q e

accepted : (text suffix : Scalars) (st : State) (at : ℕ) (b : Built) (chains : Chains) → run text st at b suffix ≡ Ok chains → Follows st suffix
unfolding run
accepted text [] st at b chains e = finish_follows text st at b chains (or_some (finish text st at b) chains e)
accepted text (c ∷ cs) st at b chains e =
    follow st at c cs
    (go_then (c ∷ cs) cs (λ (q : State). run text q (at + 1) (build text st at (kind_of c) b) cs) (next st at c) chains e
    (λ q h. accepted text cs q (at + 1) (build text st at (kind_of c) b) chains h))

same_chains : (x y : Chains) (o : Outcome) → o ≡ Ok x → o ≡ Ok y → y ≡ x
same_chains x y o e h = cc

-- what is read is spelled so
pub read_sound : (chains : Chains) (text : Scalars) → run text s.Before 0 (base [] []) text ≡ Ok chains → IsSelector chains text
read_sound chains text e =
    let f = accepted text text s.Before 0 (base [] []) chains e in
    subst (λ (x : Chains). IsSelector x text) (same_chains chains f.chains (run text s.Before 0 (base [] []) text) e (read_again f.chains text f.is)) f.is
