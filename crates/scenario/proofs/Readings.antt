-- A line says one thing or has one fault, and so does a scenario.
use Rattle.std.specs.Prelude.{◌≡◌, ◌≢◌, ◌+◌, ◌⊎◌, ℕ, List, [], ◌∷◌, ◌++◌, length, refl, Ok, Err, Bool, true, false}
use Rattle.std.specs.Str.{chars}
use Rattle.std.specs.Str.Lines.{lines}
use Rattle.std.specs.Fmt.{decimal}
use Rattle.std.proofs.Common.{ap, sym, ◌∙◌, subst, inl, inr, arith, true≢false}
use Rattle.std.proofs.lemmas.Fmt.{decimal_injective, decimal_nonempty}
use Rattle.std.proofs.lemmas.Str.{chars-nil}
use Rattle.dom_semantics.specs.SelectorGrammar.{IsSelector}
use Rattle.dom_query.specs.ReadingModel.{Outcome, run, finish}
use Rattle.dom_query.proofs.Again.{read_again}
use Rattle.scenario.specs.declared.line.Line.{Line}
use Rattle.scenario.specs.declared.line.Line.TheVariants.{Click, Input, Event, Tick}
use Rattle.scenario.specs.declared.line.Verb.{Verb}
use Rattle.scenario.specs.declared.line.Verb.TheVariants as verb
use Rattle.scenario.specs.declared.fault.EventsKind.{EventsKind}
use Rattle.scenario.specs.declared.fault.EventsKind.TheVariants.{TooLong, NotUtf8, BadVerb, MissingField, BadSelector, BadNumber}
use Rattle.scenario.specs.declared.fault.EventsFault.{EventsFault}
use Rattle.scenario.specs.Lines.{Chains, BeginsWith, Fails, HasBadRest, HasFields, HasRest, IsFaultyLine, IsLine, IsSelectorField, IsSkipped, IsTick, RestFails, Says, Selects, number_of, verb_of, verb_text}
use Rattle.scenario.specs.Scenarios.{SayAll, IsFine, FailsFirst, IsScenario, IsRefused}
use Rattle.scenario.proofs.Spaces.{one_split, no_split, verb_solid, one_two}

-- ---- verbs

abbrev verb_number : Verb → ℕ
verb_number verb.Click = 0
verb_number verb.Input = 1
verb_number verb.Event = 2
verb_number verb.Tick = 3

apart : {A : Type 0} (v w : Verb) → (verb_number v ≡ verb_number w → ⊥) → v ≡ w → A
apart v w h e = absurd (h (ap verb_number e))

-- a number by which the texts of verbs differ
abbrev mark : List ℕ → ℕ
mark [] = 0
mark (a ∷ []) = a
mark (a ∷ b ∷ rest) = a

mark_is : (v w : Verb) → verb_text v ≡ verb_text w → mark (verb_text v) ≡ mark (verb_text w)
mark_is v w e = ap mark e

pub one_verb : (v w : Verb) → verb_text v ≡ verb_text w → v ≡ w
one_verb verb.Click verb.Click e = refl
one_verb verb.Click verb.Input e = absurd (let h : 99 ≡ 105 = mark_is verb.Click verb.Input e in omega (arith, h))
one_verb verb.Click verb.Event e = absurd (let h : 99 ≡ 101 = mark_is verb.Click verb.Event e in omega (arith, h))
one_verb verb.Click verb.Tick e = absurd (let h : 99 ≡ 116 = mark_is verb.Click verb.Tick e in omega (arith, h))
one_verb verb.Input verb.Click e = absurd (let h : 105 ≡ 99 = mark_is verb.Input verb.Click e in omega (arith, h))
one_verb verb.Input verb.Input e = refl
one_verb verb.Input verb.Event e = absurd (let h : 105 ≡ 101 = mark_is verb.Input verb.Event e in omega (arith, h))
one_verb verb.Input verb.Tick e = absurd (let h : 105 ≡ 116 = mark_is verb.Input verb.Tick e in omega (arith, h))
one_verb verb.Event verb.Click e = absurd (let h : 101 ≡ 99 = mark_is verb.Event verb.Click e in omega (arith, h))
one_verb verb.Event verb.Input e = absurd (let h : 101 ≡ 105 = mark_is verb.Event verb.Input e in omega (arith, h))
one_verb verb.Event verb.Event e = refl
one_verb verb.Event verb.Tick e = absurd (let h : 101 ≡ 116 = mark_is verb.Event verb.Tick e in omega (arith, h))
one_verb verb.Tick verb.Click e = absurd (let h : 116 ≡ 99 = mark_is verb.Tick verb.Click e in omega (arith, h))
one_verb verb.Tick verb.Input e = absurd (let h : 116 ≡ 105 = mark_is verb.Tick verb.Input e in omega (arith, h))
one_verb verb.Tick verb.Event e = absurd (let h : 116 ≡ 101 = mark_is verb.Tick verb.Event e in omega (arith, h))
one_verb verb.Tick verb.Tick e = refl

pub one_rest : (v w : Verb) (bytes xs ys : List ℕ) → HasRest v bytes xs → HasRest w bytes ys → (v ≡ w) × (xs ≡ ys)
one_rest v w bytes xs ys p q = let s = one_split (verb_text v) xs (verb_text w) ys (verb_solid v) (verb_solid w) (sym p ∙ q) in (one_verb v w s.0, s.1)

-- a line that is a verb alone has no rest
pub no_rest : (v w : Verb) (bytes rest : List ℕ) → bytes ≡ verb_text v → HasRest w bytes rest → ⊥
no_rest v w bytes rest p q = no_split (verb_text v) (verb_text w) rest (verb_solid v) (sym p ∙ q)

-- ---- fields

same_chains : (x y : Chains) (o : Outcome) → o ≡ Ok x → o ≡ Ok y → x ≡ y
same_chains x y o e h = cc

pub one_chain : (bytes : List ℕ) (x y : Chains) → Selects bytes x → Selects bytes y → x ≡ y
one_chain bytes x y p q = same_chains x y _ (read_again x (chars bytes) p) (read_again y (chars bytes) q)

pub one_tick : (bytes : List ℕ) (n m : ℕ) → IsTick bytes n → IsTick bytes m → n ≡ m
one_tick bytes n m p q = decimal_injective n m (let h = p.0 in omega arith) (let h = q.0 in omega arith) (sym p.1 ∙ q.1)

abbrev is_read : Outcome → Bool
is_read (Ok chains) = true
is_read (Err rest) = false

-- no selector is spelled by nothing
nothing_spelled : (chains : Chains) → IsSelector chains [] → ⊥
unfolding run finish
nothing_spelled chains s = let e : ◌≡◌ {A = Outcome} (Err []) (Ok chains) = read_again chains [] s in true≢false (sym (ap is_read e))

nothing_selects : (chains : Chains) → Selects [] chains → ⊥
nothing_selects chains s = nothing_spelled chains (subst (λ (t : List ℕ). IsSelector chains t) chars-nil s)

-- ---- what a rest says

no_decimal : (n : ℕ) → IsTick [] n → ⊥
no_decimal n t =
    let some = decimal_nonempty n (let h = t.0 in omega arith) in
    let none : 0 ≡ length (decimal n) = ap length t.1 in omega (arith, some, none)

pub says_fields : (rest : List ℕ) (line : Line) → Says rest line → HasFields (verb_of line) rest
says_fields rest (Click n chains) s = λ e. nothing_selects chains (subst (λ (b : List ℕ). Selects b chains) e s)
says_fields rest (Input n chains text) s = (s.0, s.1, s.2)
says_fields rest (Event n chains name) s = (s.0, s.1, s.3, s.2)
says_fields rest (Tick n count) s = λ e. no_decimal count (subst (λ (b : List ℕ). IsTick b count) e s)

same_input : (n m : ℕ) (x y : Chains) (t u : List ℕ) → n ≡ m → x ≡ y → t ≡ u → Input n x t ≡ Input m y u
same_input n m x y t u a b c = λ i. Input (a i) (b i) (c i)

same_event : (n m : ℕ) (x y : Chains) (t u : List ℕ) → n ≡ m → x ≡ y → t ≡ u → Event n x t ≡ Event m y u
same_event n m x y t u a b c = λ i. Event (a i) (b i) (c i)

pub one_said : (rest : List ℕ) (a b : Line) → verb_of a ≡ verb_of b → number_of a ≡ number_of b → Says rest a → Says rest b → a ≡ b
one_said rest (Click n x) (Click m y) v k p q = let e = one_chain rest x y p q in λ i. Click (k i) (e i)
one_said rest (Click n x) (Input m y t) v k p q = apart verb.Click verb.Input (λ e. let h : 0 ≡ 1 = e in omega (arith, h)) v
one_said rest (Click n x) (Event m y t) v k p q = apart verb.Click verb.Event (λ e. let h : 0 ≡ 2 = e in omega (arith, h)) v
one_said rest (Click n x) (Tick m c) v k p q = apart verb.Click verb.Tick (λ e. let h : 0 ≡ 3 = e in omega (arith, h)) v
one_said rest (Input n x t) (Click m y) v k p q = apart verb.Input verb.Click (λ e. let h : 1 ≡ 0 = e in omega (arith, h)) v
one_said rest (Input n x t) (Input m y u) v k p q =
    let two = one_two rest p.0 p.1 q.0 q.1 p.2 q.2 in
    same_input n m x y t u k (one_chain p.0 x y p.3 (subst (λ (b : List ℕ). Selects b y) (sym two.0) q.3)) (p.4 ∙ ap chars two.1 ∙ sym q.4)
one_said rest (Input n x t) (Event m y u) v k p q = apart verb.Input verb.Event (λ e. let h : 1 ≡ 2 = e in omega (arith, h)) v
one_said rest (Input n x t) (Tick m c) v k p q = apart verb.Input verb.Tick (λ e. let h : 1 ≡ 3 = e in omega (arith, h)) v
one_said rest (Event n x t) (Click m y) v k p q = apart verb.Event verb.Click (λ e. let h : 2 ≡ 0 = e in omega (arith, h)) v
one_said rest (Event n x t) (Input m y u) v k p q = apart verb.Event verb.Input (λ e. let h : 2 ≡ 1 = e in omega (arith, h)) v
one_said rest (Event n x t) (Event m y u) v k p q =
    let two = one_two rest p.0 p.1 q.0 q.1 p.2 q.2 in
    same_event n m x y t u k (one_chain p.0 x y p.4 (subst (λ (b : List ℕ). Selects b y) (sym two.0) q.4)) (p.5 ∙ ap chars two.1 ∙ sym q.5)
one_said rest (Event n x t) (Tick m c) v k p q = apart verb.Event verb.Tick (λ e. let h : 2 ≡ 3 = e in omega (arith, h)) v
one_said rest (Tick n c) (Click m y) v k p q = apart verb.Tick verb.Click (λ e. let h : 3 ≡ 0 = e in omega (arith, h)) v
one_said rest (Tick n c) (Input m y u) v k p q = apart verb.Tick verb.Input (λ e. let h : 3 ≡ 1 = e in omega (arith, h)) v
one_said rest (Tick n c) (Event m y u) v k p q = apart verb.Tick verb.Event (λ e. let h : 3 ≡ 2 = e in omega (arith, h)) v
one_said rest (Tick n c) (Tick m d) v k p q = let e = one_tick rest c d p q in λ i. Tick (k i) (e i)

-- the selector that a field is said to be isn't refused
selector_taken : (rest selector : List ℕ) (line : Line) → IsSelectorField (verb_of line) rest selector → Says rest line → (chains : Chains) × Selects selector chains
selector_taken rest selector (Click n x) f s = (x, subst (λ (b : List ℕ). Selects b x) (sym f) s)
selector_taken rest selector (Input n x t) f s = (x, subst (λ (b : List ℕ). Selects b x) (one_two rest s.0 s.1 selector f.0 s.2 f.1).0 s.3)
selector_taken rest selector (Event n x t) f s = (x, subst (λ (b : List ℕ). Selects b x) (one_two rest s.0 s.1 selector f.0 s.2 f.1).0 s.4)
selector_taken rest selector (Tick n c) f s = absurd f

tick_taken : (rest : List ℕ) (line : Line) → verb_of line ≡ verb.Tick → Says rest line → ((n : ℕ) → IsTick rest n → ⊥) → ⊥
tick_taken rest (Click n x) v s f = apart verb.Click verb.Tick (λ e. let h : 0 ≡ 3 = e in omega (arith, h)) v
tick_taken rest (Input n x t) v s f = apart verb.Input verb.Tick (λ e. let h : 1 ≡ 3 = e in omega (arith, h)) v
tick_taken rest (Event n x t) v s f = apart verb.Event verb.Tick (λ e. let h : 2 ≡ 3 = e in omega (arith, h)) v
tick_taken rest (Tick n c) v s f = f c s

-- a rest that says something has no fault
said_not_failed : (rest : List ℕ) (line : Line) (kind : EventsKind) → Says rest line → RestFails (verb_of line) rest kind → ⊥
said_not_failed rest line TooLong s f = f
said_not_failed rest line NotUtf8 s f = f
said_not_failed rest line BadVerb s f = f
said_not_failed rest line MissingField s f = f (says_fields rest line s)
said_not_failed rest line BadSelector s f = let taken = selector_taken rest f.1.0 line f.1.1 s in f.1.2 taken.0 taken.1
said_not_failed rest line BadNumber s f = tick_taken rest line f.0 s f.2

no_tick_selector : (v : Verb) (rest selector : List ℕ) → v ≡ verb.Tick → IsSelectorField v rest selector → ⊥
no_tick_selector v rest selector e f = subst (λ (w : Verb). IsSelectorField w rest selector) e f

tick_fields : (v : Verb) (rest : List ℕ) → v ≡ verb.Tick → rest ≢ [] → HasFields v rest
tick_fields v rest e some = subst (λ (w : Verb). HasFields w rest) (sym e) some

-- a rest has one fault
one_rest_fault : (v : Verb) (rest : List ℕ) (a b : EventsKind) → RestFails v rest a → RestFails v rest b → a ≡ b
one_rest_fault v rest TooLong b p q = absurd p
one_rest_fault v rest NotUtf8 b p q = absurd p
one_rest_fault v rest BadVerb b p q = absurd p
one_rest_fault v rest MissingField TooLong p q = absurd q
one_rest_fault v rest MissingField NotUtf8 p q = absurd q
one_rest_fault v rest MissingField BadVerb p q = absurd q
one_rest_fault v rest MissingField MissingField p q = refl
one_rest_fault v rest MissingField BadSelector p q = absurd (p q.0)
one_rest_fault v rest MissingField BadNumber p q = absurd (p (tick_fields v rest q.0 q.1))
one_rest_fault v rest BadSelector TooLong p q = absurd q
one_rest_fault v rest BadSelector NotUtf8 p q = absurd q
one_rest_fault v rest BadSelector BadVerb p q = absurd q
one_rest_fault v rest BadSelector MissingField p q = absurd (q p.0)
one_rest_fault v rest BadSelector BadSelector p q = refl
one_rest_fault v rest BadSelector BadNumber p q = absurd (no_tick_selector v rest p.1.0 q.0 p.1.1)
one_rest_fault v rest BadNumber TooLong p q = absurd q
one_rest_fault v rest BadNumber NotUtf8 p q = absurd q
one_rest_fault v rest BadNumber BadVerb p q = absurd q
one_rest_fault v rest BadNumber MissingField p q = absurd (q (tick_fields v rest p.0 p.1))
one_rest_fault v rest BadNumber BadSelector p q = absurd (no_tick_selector v rest q.1.0 p.0 q.1.1)
one_rest_fault v rest BadNumber BadNumber p q = refl

-- ---- a line

pub one_line : (n : ℕ) (bytes : List ℕ) (a b : Line) → IsLine n bytes a → IsLine n bytes b → a ≡ b
one_line n bytes a b p q =
    let same = one_rest (verb_of a) (verb_of b) bytes p.rest q.rest p.begins q.begins in
    one_said p.rest a b same.0 (p.number_is ∙ sym q.number_is) p.says (subst (λ (rest : List ℕ). Says rest b) (sym same.1) q.says)

bad_rest_apart : (n : ℕ) (bytes : List ℕ) (line : Line) (kind : EventsKind) → IsLine n bytes line → HasBadRest bytes kind → ⊥
bad_rest_apart n bytes line kind p q =
    let same = one_rest (verb_of line) q.0 bytes p.rest q.1 p.begins q.2 in
    said_not_failed p.rest line kind p.says
    (subst (λ (rest : List ℕ). RestFails (verb_of line) rest kind) (sym same.1) (subst (λ (v : Verb). RestFails v q.1 kind) (sym same.0) q.3))

pub said_or_failed : (n : ℕ) (bytes : List ℕ) (line : Line) (kind : EventsKind) → IsLine n bytes line → Fails bytes kind → ⊥
said_or_failed n bytes line TooLong p f = f
said_or_failed n bytes line NotUtf8 p f = f
said_or_failed n bytes line BadVerb p f = f (verb_of line) (inr (p.rest, p.begins))
said_or_failed n bytes line MissingField p f = elim f [
  | inl alone ↦ no_rest alone.0 (verb_of line) bytes p.rest alone.1 p.begins
  | inr bad ↦ bad_rest_apart n bytes line MissingField p bad
]
said_or_failed n bytes line BadSelector p f = bad_rest_apart n bytes line BadSelector p f
said_or_failed n bytes line BadNumber p f = bad_rest_apart n bytes line BadNumber p f

one_bad_rest : (bytes : List ℕ) (a b : EventsKind) → HasBadRest bytes a → HasBadRest bytes b → a ≡ b
one_bad_rest bytes a b p q =
    let same = one_rest p.0 q.0 bytes p.1 q.1 p.2 q.2 in
    one_rest_fault p.0 p.1 a b p.3 (subst (λ (rest : List ℕ). RestFails p.0 rest b) (sym same.1) (subst (λ (v : Verb). RestFails v q.1 b) (sym same.0) q.3))

missing_or_bad : (bytes : List ℕ) (b : EventsKind) → ((v : Verb) × (bytes ≡ verb_text v)) ⊎ HasBadRest bytes MissingField → HasBadRest bytes b → MissingField ≡ b
missing_or_bad bytes b f q = elim f [
  | inl alone ↦ absurd (no_rest alone.0 q.0 bytes q.1 alone.1 q.2)
  | inr bad ↦ one_bad_rest bytes MissingField b bad q
]

verb_there : (bytes : List ℕ) → ((v : Verb) → BeginsWith v bytes → ⊥) → ((v : Verb) × (bytes ≡ verb_text v)) ⊎ HasBadRest bytes MissingField → ⊥
verb_there bytes none f = elim f [
  | inl alone ↦ none alone.0 (inl alone.1)
  | inr bad ↦ none bad.0 (inr (bad.1, bad.2))
]

-- a line has one fault
pub one_fault : (bytes : List ℕ) (a b : EventsKind) → Fails bytes a → Fails bytes b → a ≡ b
one_fault bytes TooLong b p q = absurd p
one_fault bytes NotUtf8 b p q = absurd p
one_fault bytes BadVerb TooLong p q = absurd q
one_fault bytes BadVerb NotUtf8 p q = absurd q
one_fault bytes BadVerb BadVerb p q = refl
one_fault bytes BadVerb MissingField p q = absurd (verb_there bytes p q)
one_fault bytes BadVerb BadSelector p q = absurd (p q.0 (inr (q.1, q.2)))
one_fault bytes BadVerb BadNumber p q = absurd (p q.0 (inr (q.1, q.2)))
one_fault bytes MissingField TooLong p q = absurd q
one_fault bytes MissingField NotUtf8 p q = absurd q
one_fault bytes MissingField BadVerb p q = absurd (verb_there bytes q p)
one_fault bytes MissingField MissingField p q = refl
one_fault bytes MissingField BadSelector p q = missing_or_bad bytes BadSelector p q
one_fault bytes MissingField BadNumber p q = missing_or_bad bytes BadNumber p q
one_fault bytes BadSelector TooLong p q = absurd q
one_fault bytes BadSelector NotUtf8 p q = absurd q
one_fault bytes BadSelector BadVerb p q = absurd (q p.0 (inr (p.1, p.2)))
one_fault bytes BadSelector MissingField p q = sym (missing_or_bad bytes BadSelector q p)
one_fault bytes BadSelector BadSelector p q = refl
one_fault bytes BadSelector BadNumber p q = one_bad_rest bytes BadSelector BadNumber p q
one_fault bytes BadNumber TooLong p q = absurd q
one_fault bytes BadNumber NotUtf8 p q = absurd q
one_fault bytes BadNumber BadVerb p q = absurd (q p.0 (inr (p.1, p.2)))
one_fault bytes BadNumber MissingField p q = sym (missing_or_bad bytes BadNumber q p)
one_fault bytes BadNumber BadSelector p q = one_bad_rest bytes BadNumber BadSelector p q
one_fault bytes BadNumber BadNumber p q = refl

-- a skipped line says nothing
first_is : (a b : ℕ) (xs ys : List ℕ) → a ∷ xs ≡ b ∷ ys → a ≡ b
first_is a b xs ys e = cc e

verb_first : {A : Type 0} (v : Verb) (rest more : List ℕ) → verb_text v ++ (32 ∷ rest) ≡ 35 ∷ more → A
verb_first verb.Click rest more e = absurd (let h : 99 ≡ 35 = first_is 99 35 _ more e in omega (arith, h))
verb_first verb.Input rest more e = absurd (let h : 105 ≡ 35 = first_is 105 35 _ more e in omega (arith, h))
verb_first verb.Event rest more e = absurd (let h : 101 ≡ 35 = first_is 101 35 _ more e in omega (arith, h))
verb_first verb.Tick rest more e = absurd (let h : 116 ≡ 35 = first_is 116 35 _ more e in omega (arith, h))

verb_some : {A : Type 0} (v : Verb) (rest : List ℕ) → verb_text v ++ (32 ∷ rest) ≡ [] → A
verb_some v rest e = absurd (no_split [] (verb_text v) rest refl (sym e))

pub skipped_says_nothing : (n : ℕ) (bytes : List ℕ) (line : Line) → IsSkipped bytes → IsLine n bytes line → ⊥
skipped_says_nothing n bytes line s p = elim s [
  | inl e ↦ verb_some (verb_of line) p.rest (sym p.begins ∙ e)
  | inr h ↦ verb_first (verb_of line) p.rest h.0 (sym p.begins ∙ h.1)
]

-- ---- the lines

same_first : (a b : Line) (xs ys : List Line) → a ≡ b → xs ≡ ys → a ∷ xs ≡ b ∷ ys
same_first a b xs ys p q = λ i. p i ∷ q i

pub one_list : (n : ℕ) (ls : List (List ℕ)) (a b : List Line) → SayAll n ls a → SayAll n ls b → a ≡ b
one_list n [] a b p q = p ∙ sym q
one_list n (bytes ∷ ls) a b p q = elim p [
  | inl s ↦ elim q [
    | inl t ↦ one_list (n + 1) ls a b s.1 t.1
    | inr r ↦ absurd (skipped_says_nothing n bytes r.0 s.0 r.2)
  ]
  | inr s ↦ elim q [
    | inl t ↦ absurd (skipped_says_nothing n bytes s.0 t.0 s.2)
    | inr r ↦ s.3 ∙ same_first s.0 r.0 s.1 r.1 (one_line n bytes s.0 r.0 s.2 r.2) (one_list (n + 1) ls s.1 r.1 s.4 r.4) ∙ sym r.3
  ]
]

fine_or_faulty : (n : ℕ) (bytes : List ℕ) (fault : EventsFault) → IsFine n bytes → IsFaultyLine n bytes fault → ⊥
fine_or_faulty n bytes fault p q = elim p [
  | inl s ↦ q.kept s
  | inr l ↦ said_or_failed n bytes l.0 fault.kind l.1 q.fails
]

same_fault : (f g : EventsFault) → f.line ≡ g.line → f.kind ≡ g.kind → f ≡ g
same_fault f g p q = λ i. record { line = p i; kind = q i }

pub one_first : (n : ℕ) (ls : List (List ℕ)) (f g : EventsFault) → FailsFirst n ls f → FailsFirst n ls g → f ≡ g
one_first n [] f g p q = absurd p
one_first n (bytes ∷ ls) f g p q = elim p [
  | inl a ↦ elim q [
    | inl b ↦ same_fault f g (a.number_is ∙ sym b.number_is) (one_fault bytes f.kind g.kind a.fails b.fails)
    | inr b ↦ absurd (fine_or_faulty n bytes f b.0 a)
  ]
  | inr a ↦ elim q [
    | inl b ↦ absurd (fine_or_faulty n bytes g a.0 b)
    | inr b ↦ one_first (n + 1) ls f g a.1 b.1
  ]
]

pub said_or_refused : (n : ℕ) (ls : List (List ℕ)) (read : List Line) (f : EventsFault) → SayAll n ls read → FailsFirst n ls f → ⊥
said_or_refused n [] read f p q = q
said_or_refused n (bytes ∷ ls) read f p q = elim p [
  | inl s ↦ elim q [
    | inl b ↦ b.kept s.0
    | inr b ↦ said_or_refused (n + 1) ls read f s.1 b.1
  ]
  | inr s ↦ elim q [
    | inl b ↦ said_or_failed n bytes s.0 f.kind s.2 b.fails
    | inr b ↦ said_or_refused (n + 1) ls s.1 f s.4 b.1
  ]
]

-- ---- the file

pub one_scenario : (bytes : List ℕ) (read other : List Line) → IsScenario bytes read → IsScenario bytes other → read ≡ other
one_scenario bytes read other p q = one_list 1 (lines bytes) read other p.1 q.1

pub scenario_or_refused : (bytes : List ℕ) (read : List Line) (f : EventsFault) → IsScenario bytes read → IsRefused bytes f → ⊥
scenario_or_refused bytes read f p q = elim q [
  | inl long ↦ omega (arith, p.0.within, long.0)
  | inr other ↦ elim other [
    | inl bad ↦ bad.0.1 p.0.utf8
    | inr first ↦ said_or_refused 1 (lines bytes) read f p.1 first.1
  ]
]

pub one_refusal : (bytes : List ℕ) (f g : EventsFault) → IsRefused bytes f → IsRefused bytes g → f ≡ g
one_refusal bytes f g p q = elim p [
  | inl a ↦ elim q [
    | inl b ↦ a.1 ∙ sym b.1
    | inr b ↦ elim b [
      | inl c ↦ absurd (omega (arith, a.0, c.0.0))
      | inr c ↦ absurd (omega (arith, a.0, c.0.within))
    ]
  ]
  | inr a ↦ elim a [
    | inl c ↦ elim q [
      | inl b ↦ absurd (omega (arith, b.0, c.0.0))
      | inr b ↦ elim b [
        | inl d ↦ c.1 ∙ sym d.1
        | inr d ↦ absurd (c.0.1 d.0.utf8)
      ]
    ]
    | inr c ↦ elim q [
      | inl b ↦ absurd (omega (arith, b.0, c.0.within))
      | inr b ↦ elim b [
        | inl d ↦ absurd (d.0.1 c.0.utf8)
        | inr d ↦ one_first 1 (lines bytes) f g c.1 d.1
      ]
    ]
  ]
]
