-- Model of the code, on which no claim rests: how `parse_selector` reads a text from left to right, what may come next, and what each scalar
-- ends.
use Rattle.std.specs.Prelude.{◌≡◌, ℕ, ◌+◌, ◌==◌, length, cond, [], ◌∷◌, ◌++◌, Option, Some, None, Result, Ok, Err, slice_range}
use Rattle.dom_query.specs.declared.kind.Kind.{Kind}
use Rattle.dom_query.specs.declared.kind.Kind.TheVariants as k
use Rattle.dom_query.specs.declared.state.Sort.{Sort}
use Rattle.dom_query.specs.declared.state.Sort.TheVariants as sort
use Rattle.dom_query.specs.declared.state.Span.{Span}
use Rattle.dom_query.specs.declared.state.State.{State}
use Rattle.dom_query.specs.declared.state.State.TheVariants as s
use Rattle.dom_query.specs.declared.built.Built.{Built}
use Rattle.dom_semantics.specs.declared.selectors.Part.{Part}
use Rattle.dom_semantics.specs.declared.selectors.Part.TheVariants.{Id, Class, Has, Is}
use Rattle.dom_semantics.specs.declared.selectors.TagTest.TheVariants.{Any, Named}
use Rattle.dom_semantics.specs.SelectorNames.{Scalars, is_name_scalar}
use Rattle.dom_semantics.specs.Whitespace.{is_white_space}
use Rattle.dom_semantics.specs.SelectorGrammar.{compound_of}
use Rattle.dom_query.specs.Answers.{Chains, Answer}
use Rattle.dom_query.specs.declared.fault.SelectorFault.TheVariants.{BadSelector, NoMemory}

-- what a scalar is outside of quotes
abbrev pub kind_of : ℕ → Kind
kind_of c =
    cond (is_name_scalar c) k.Name (cond (is_white_space c) k.Blank (cond (c == 42) k.Star (cond (c == 35) k.Hash (cond (c == 46) k.Dot
    (cond (c == 91) k.Open (cond (c == 93) k.Close (cond (c == 61) k.Equals (cond (c == 34) k.Quote (cond (c == 39) k.Quote (cond (c == 44) k.Comma k.Other))))))))))

abbrev pub span : ℕ → ℕ → Span
span from to = record { from = from; to = to }

-- what begins a part
abbrev pub begin_part : Kind → Option State
begin_part k.Hash = Some (s.Begun sort.Id)
begin_part k.Dot = Some (s.Begun sort.Class)
begin_part k.Open = Some s.Opened
begin_part kind = None

-- what begins a compound at this place
abbrev pub begin_compound : ℕ → Kind → Option State
begin_compound at k.Name = Some (s.Name sort.Tag at)
begin_compound at k.Star = Some s.Whole
begin_compound at kind = begin_part kind

-- what may follow a whole part
abbrev pub after_part : Kind → Option State
after_part k.Blank = Some s.Gap
after_part k.Comma = Some s.Before
after_part kind = begin_part kind

abbrev pub if_name : State → Kind → Option State
if_name state k.Name = Some state
if_name state kind = None

abbrev pub if_close : Kind → Option State
if_close k.Close = Some s.Whole
if_close kind = None

abbrev pub next_before : ℕ → Kind → Option State
next_before at k.Blank = Some s.Before
next_before at kind = begin_compound at kind

abbrev pub next_gap : ℕ → Kind → Option State
next_gap at k.Blank = Some s.Gap
next_gap at k.Comma = Some s.Before
next_gap at kind = begin_compound at kind

abbrev pub next_name : State → Kind → Option State
next_name state k.Name = Some state
next_name state kind = after_part kind

abbrev pub next_attribute : ℕ → ℕ → Kind → Option State
next_attribute from at k.Name = Some (s.Attribute from)
next_attribute from at k.Equals = Some (s.Equals (span from at))
next_attribute from at kind = if_close kind

abbrev pub next_equals : Span → ℕ → ℕ → Kind → Option State
next_equals name at c k.Name = Some (s.Bare name at)
next_equals name at c k.Quote = Some (s.Quoted name c (at + 1))
next_equals name at c kind = None

abbrev pub next_quoted : Span → ℕ → ℕ → ℕ → ℕ → State
next_quoted name quote from at c = cond (c == quote) (s.Closing name (span from at)) (s.Quoted name quote from)

abbrev pub next_bare : State → Kind → Option State
next_bare state k.Name = Some state
next_bare state kind = if_close kind

-- the state behind the scalar c at a place; none where no selector goes on so
unfoldable pub next : State → ℕ → ℕ → Option State
next s.Before at c = next_before at (kind_of c)
next s.Gap at c = next_gap at (kind_of c)
next (s.Begun sort) at c = if_name (s.Name sort at) (kind_of c)
next (s.Name sort from) at c = next_name (s.Name sort from) (kind_of c)
next s.Whole at c = after_part (kind_of c)
next s.Opened at c = if_name (s.Attribute at) (kind_of c)
next (s.Attribute from) at c = next_attribute from at (kind_of c)
next (s.Equals name) at c = next_equals name at c (kind_of c)
next (s.Quoted name quote from) at c = Some (next_quoted name quote from at c)
next (s.Bare name from) at c = next_bare (s.Bare name from) (kind_of c)
next (s.Closing name value) at c = if_close (kind_of c)

-- ---- what is built

abbrev pub with_part : Part → Built → Built
with_part p b = record b { parts = b.parts ++ p ∷ [] }

abbrev pub with_name : Sort → Scalars → Built → Built
with_name sort.Tag name b = record b { tag = Some (Named name) }
with_name sort.Id name b = with_part (Id name) b
with_name sort.Class name b = with_part (Class name) b

abbrev pub with_any : Kind → Built → Built
with_any k.Star b = record b { tag = Some Any }
with_any kind b = b

-- the compound is whole
abbrev pub end_compound : Built → Built
end_compound b = record b { chain = b.chain ++ compound_of b.tag b.parts ∷ []; tag = None; parts = [] }

-- the chain is whole
abbrev pub end_chain : Built → Built
end_chain b = record b { chains = b.chains ++ b.chain ∷ []; chain = [] }

abbrev pub end_at : Kind → Built → Built
end_at k.Blank b = end_compound b
end_at k.Comma b = end_chain (end_compound b)
end_at kind b = b

abbrev pub end_gap : Kind → Built → Built
end_gap k.Comma b = end_chain b
end_gap kind b = with_any kind b

abbrev pub end_name : Sort → Scalars → Kind → Built → Built
end_name sort name k.Name b = b
end_name sort name kind b = end_at kind (with_name sort name b)

abbrev pub end_part : Part → Kind → Built → Built
end_part p k.Close b = with_part p b
end_part p kind b = b

abbrev pub word_at : Scalars → Span → Scalars
word_at text w = slice_range text w.from w.to

-- what is built with the scalar of this kind at a place of the text
unfoldable pub build : Scalars → State → ℕ → Kind → Built → Built
build text s.Before at kind b = with_any kind b
build text s.Gap at kind b = end_gap kind b
build text (s.Name sort from) at kind b = end_name sort (slice_range text from at) kind b
build text s.Whole at kind b = end_at kind b
build text (s.Attribute from) at kind b = end_part (Has (slice_range text from at)) kind b
build text (s.Bare name from) at kind b = end_part (Is (word_at text name) (slice_range text from at)) kind b
build text (s.Closing name value) at kind b = end_part (Is (word_at text name) (word_at text value)) kind b
build text (s.Begun sort) at kind b = b
build text s.Opened at kind b = b
build text (s.Equals name) at kind b = b
build text (s.Quoted name quote from) at kind b = b

-- the chains, where the text may end
unfoldable pub finish : Scalars → State → ℕ → Built → Option Chains
finish text s.Gap at b = Some (end_chain b).chains
finish text (s.Name sort from) at b = Some (end_chain (end_compound (with_name sort (slice_range text from at) b))).chains
finish text s.Whole at b = Some (end_chain (end_compound b)).chains
finish text state at b = None

-- the chains of a text, or the rest of it from the fault on
abbrev pub Outcome : Type 0
Outcome = Result Chains Scalars

abbrev pub or_stuck : Scalars → Option Chains → Outcome
or_stuck rest (Some chains) = Ok chains
or_stuck rest None = Err rest

abbrev pub go_on : Scalars → (State → Outcome) → Option State → Outcome
go_on rest later (Some state) = later state
go_on rest later None = Err rest

-- what is read of what is left of a text from a place on
unfoldable pub run : Scalars → State → ℕ → Built → Scalars → Outcome
run text state at b [] = or_stuck [] (finish text state at b)
run text state at b (c ∷ cs) = go_on (c ∷ cs) (λ state'. run text state' (at + 1) (build text state at (kind_of c) b) cs) (next state at c)

-- nothing is read yet
abbrev pub no_chains : Built
no_chains = record { chains = []; chain = []; tag = None; parts = [] }

-- what a call answers of what is read
abbrev pub Tells : Outcome → ℕ → Answer → Type 0
Tells r size (Ok chains) = r ≡ Ok chains
Tells r size (Err (BadSelector at)) = (rest : Scalars) × (r ≡ Err rest) × (at + length rest ≡ size)
Tells r size (Err NoMemory) = Unit {0}
