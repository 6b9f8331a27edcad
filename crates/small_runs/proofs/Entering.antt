-- An entry of a small script: it asks, and leaves.
use Rattle.std.proofs.Common.{◌≡◌, ◌∙◌, ap, sym, refl, subst, ℕ, ◌+◌, Bool, true, false, List, [], ◌∷◌, ◌++◌, append_assoc, append-nil, nat_lt, slice_get, if◌then◌else◌, Option, Some, None}
use Rattle.base_text.specs.Scalars.{utf8_len}
use Rattle.base_text.specs.declared.text.TheConstants.{TEXT_LIMIT}
use Rattle.door.specs.declared.values.Actor.{Actor}
use Rattle.door.specs.declared.values.Kind.{Kind}
use Rattle.door.specs.declared.values.Thing.{Thing}
use Rattle.door.specs.declared.values.Value.{Value}
use Rattle.door.specs.declared.values.Value.TheVariants.{Thing as ThingValue, Str, Undefined}
use Rattle.door.specs.declared.members.Member.{Member}
use Rattle.door.specs.declared.members.Member.TheVariants.{WindowDocument, DocumentTitle, DocumentSetTitle, GmLog, ConsoleLog}
use Rattle.door.specs.declared.requests.ErrorKind.{ErrorKind}
use Rattle.door.specs.declared.requests.ErrorKind.TheVariants.{TooLong}
use Rattle.door.specs.declared.requests.Answer.{Answer}
use Rattle.door.specs.declared.requests.Answer.TheVariants.{Value as ValueAnswer, Throw}
use Rattle.door.specs.declared.requests.Request.TheVariants.{Native, Peek, PeekKeys, Reach}
use Rattle.door.specs.declared.marks.Task.{Task}
use Rattle.door.specs.declared.marks.Entry.{Entry}
use Rattle.door.specs.declared.marks.Entry.TheVariants.{Script}
use Rattle.door.specs.declared.marks.Outcome.{Outcome}
use Rattle.door.specs.declared.marks.Outcome.TheVariants.{Done, Throw as ThrowOutcome, Stop, Syntax}
use Rattle.door.specs.declared.marks.Mark.{Mark}
use Rattle.door.specs.declared.marks.Mark.TheVariants.{Turn, Build, Enter, Ask, Dispatch, Back, Leave, Serve, Served}
use Rattle.dom_semantics.specs.Forest.{the_host}
use Rattle.dom_semantics.specs.HostCells.{answer_has_owners}
use Rattle.dom_semantics.specs.Stage.{Origin}
use Rattle.dom_semantics.specs.StageOf.{stage_of}
use Rattle.dom_semantics.specs.Things.{is_actor, the_document, the_window}
use Rattle.dom_semantics.specs.Titles.{title_of, title_refusal}
use Rattle.solo_model.specs.Given.{Given, origin_of}
use Rattle.solo_model.specs.Lawful.{AreAsksOf, IsEntry}
use Rattle.solo_model.specs.Nesting.{Running}
use Rattle.solo_model.specs.NextMark.{MayEnd}
use Rattle.solo_model.specs.Stage as old
use Rattle.solo_model.specs.Truth.{IsGenuineAfter, answer_of, refused_or, text_answer}
use Rattle.solo_model.specs.Turns.{Enters, steps_of}
use Rattle.small_runs.proofs.Asks.{FitsAsk, only_told}
use Rattle.small_runs.proofs.Going.{InTurn, ask-more, enter-more, leave-more, setting}
use Rattle.small_runs.proofs.Sound.{Sound, sound_ask, sound_enter, sound_leave}

-- ---- marks that fit

-- what a script asks fits the table and its grants, and only the page's own scripts have faults of syntax
abbrev pub Fits : Given → Mark → Type 0
Fits given (Ask i (Native member thing arguments) answer) = FitsAsk (origin_of given) i member arguments
Fits given (Ask i request answer) = ⊥
Fits given (Leave i outcome units) = MayEnd i (Script []) outcome
Fits given mark = Unit {0}

abbrev pub AllFit : Given → List Mark → Type 0
AllFit given [] = Unit {0}
AllFit given (mark ∷ marks) = Fits given mark × AllFit given marks

pub fit_split : (given : Given) (xs ys : List Mark) → AllFit given (xs ++ ys) → AllFit given xs × AllFit given ys
fit_split given [] ys h = (tt, h)
fit_split given (x ∷ xs) ys h = let more = fit_split given xs ys h.1 in ((h.0, more.0), more.1)

pub genuine_split : (before xs ys : List Mark) → IsGenuineAfter before (xs ++ ys) → IsGenuineAfter before xs × IsGenuineAfter (before ++ xs) ys
genuine_split before [] ys h = let P : List Mark → Type 0 = λ front. IsGenuineAfter front ys in (tt, subst P (sym (append-nil before)) h)
genuine_split before (x ∷ xs) ys h =
    let P : List Mark → Type 0 = λ front. IsGenuineAfter front ys in
    let more = genuine_split (before ++ x ∷ []) xs ys h.1 in
    ((h.0, more.0), subst P (append_assoc before (x ∷ []) xs) more.1)

ends_alike : (i : Actor) (text : List ℕ) (outcome : Outcome) → MayEnd i (Script []) outcome → MayEnd i (Script text) outcome
ends_alike i text Done h = h
ends_alike i text (ThrowOutcome reason) h = h
ends_alike i text (Stop limit) h = h
ends_alike i text (Syntax at name) h = h

-- ---- no answer carries a cell

short_none : (text : List ℕ) → answer_has_owners (text_answer text) ≡ true
short_none text = by (nat_lt TEXT_LIMIT (utf8_len text))
  where
    by : (b : Bool) → answer_has_owners (if b then Throw TooLong else ValueAnswer (Str text)) ≡ true
    by true = refl
    by false = refl

refused_none : (reason : Option ErrorKind) → answer_has_owners (refused_or reason (ValueAnswer Undefined)) ≡ true
refused_none None = refl
refused_none (Some reason) = refl

pub no_cells : (origin : Origin) (s : old.Stage) (i : Actor) (member : Member) (thing : Thing) (arguments : List Value) (answer : Answer) → FitsAsk origin i member arguments
    → answer_of s i member thing arguments ≡ Some answer → answer_has_owners answer ≡ true
no_cells origin s i WindowDocument thing [] answer fits e = ap answer_has_owners (only_told the_window thing (ValueAnswer (ThingValue the_document)) answer e).1
no_cells origin s i DocumentTitle thing [] answer fits e = ap answer_has_owners (only_told the_document thing (text_answer (title_of s.nodes)) answer e).1 ∙ short_none (title_of s.nodes)
no_cells origin s i DocumentSetTitle thing (Str text ∷ []) answer fits e =
    ap answer_has_owners (only_told the_document thing (refused_or (title_refusal s.nodes i text) (ValueAnswer Undefined)) answer e).1 ∙ refused_none (title_refusal s.nodes i text)
no_cells origin s i GmLog thing (Str text ∷ []) answer fits e = ap answer_has_owners (only_told the_window thing (ValueAnswer Undefined) answer e).1
no_cells origin s i ConsoleLog thing (Str text ∷ []) answer fits e = ap answer_has_owners (only_told the_window thing (ValueAnswer Undefined) answer e).1
no_cells origin s i member thing arguments answer fits e = absurd fits

-- ---- asks

pub asks_more : (given : Given) (before : List Mark) (n : ℕ) (task : Task) (marks : List Mark) (k : ℕ) (i : Actor) (entry : Entry) (asks : List Mark) → AreAsksOf i asks
    → InTurn given before n task marks k (Running i entry ∷ []) → InTurn given before n task (marks ++ asks) k (Running i entry ∷ [])
unfolding AreAsksOf
asks_more given before n task marks k i entry [] own t = let P : List Mark → Type 0 = λ ms. InTurn given before n task ms k (Running i entry ∷ []) in subst P (sym (append-nil marks)) t
asks_more given before n task marks k i entry (Ask j request answer ∷ asks) own t =
    let P : List Mark → Type 0 = λ ms. InTurn given before n task ms k (Running i entry ∷ []) in
    let Q : Actor → Type 0 = λ a. InTurn given before n task (marks ++ Ask a request answer ∷ []) k (Running i entry ∷ []) in
    subst P (append_assoc marks (Ask j request answer ∷ []) asks)
    (asks_more given before n task (marks ++ Ask j request answer ∷ []) k i entry asks own.1 (subst Q (sym own.0) (ask-more given before n task marks k i entry request answer t)))
asks_more given before n task marks k i entry (mark ∷ asks) own t = absurd own

pub sound_asks : (given : Given) (kinds : List Kind) (marks : List Mark) (i : Actor) (asks : List Mark) → is_actor i the_host ≡ false → AreAsksOf i asks → AllFit given asks
    → IsGenuineAfter marks asks → Sound given kinds marks → Sound given kinds (marks ++ asks)
unfolding AreAsksOf
sound_asks given kinds marks i [] other own fits said s = let P : List Mark → Type 0 = λ ms. Sound given kinds ms in subst P (sym (append-nil marks)) s
sound_asks given kinds marks i (Ask j (Native member thing arguments) answer ∷ asks) other own fits said s =
    let P : List Mark → Type 0 = λ ms. Sound given kinds ms in
    let Q : Actor → Type 0 = λ a. is_actor a the_host ≡ false in
    subst P (append_assoc marks (Ask j (Native member thing arguments) answer ∷ []) asks)
    (sound_asks given kinds (marks ++ Ask j (Native member thing arguments) answer ∷ []) i asks other own.1 fits.1 said.1
    (sound_ask given kinds marks j member thing arguments answer s (subst Q (sym own.0) other) fits.0 said.0
    (no_cells (origin_of given) (old.stage_of marks) j member thing arguments answer fits.0 said.0)))
sound_asks given kinds marks i (Ask j (Peek owner place key) answer ∷ asks) other own fits said s = absurd fits.0
sound_asks given kinds marks i (Ask j (PeekKeys owner place) answer ∷ asks) other own fits said s = absurd fits.0
sound_asks given kinds marks i (Ask j (Reach operation) answer ∷ asks) other own fits said s = absurd fits.0
sound_asks given kinds marks i (Turn task ∷ asks) other own fits said s = absurd own
sound_asks given kinds marks i (Build request ∷ asks) other own fits said s = absurd own
sound_asks given kinds marks i (Enter j entry ∷ asks) other own fits said s = absurd own
sound_asks given kinds marks i (Dispatch j event target ∷ asks) other own fits said s = absurd own
sound_asks given kinds marks i (Back j answer ∷ asks) other own fits said s = absurd own
sound_asks given kinds marks i (Leave j outcome units ∷ asks) other own fits said s = absurd own
sound_asks given kinds marks i (Serve j owner value operation ∷ asks) other own fits said s = absurd own
sound_asks given kinds marks i (Served j answer ∷ asks) other own fits said s = absurd own

-- ---- a whole entry

entry_marks : (marks : List Mark) (i : Actor) (text : List ℕ) (asks : List Mark) (outcome : Outcome) (units : ℕ)
    → ((marks ++ Enter i (Script text) ∷ []) ++ asks) ++ Leave i outcome units ∷ [] ≡ marks ++ (Enter i (Script text) ∷ (asks ++ Leave i outcome units ∷ []))
entry_marks marks i text asks outcome units =
    append_assoc (marks ++ Enter i (Script text) ∷ []) asks (Leave i outcome units ∷ []) ∙ append_assoc marks (Enter i (Script text) ∷ []) (asks ++ Leave i outcome units ∷ [])

pub entry_more : (given : Given) (before : List Mark) (n : ℕ) (task : Task) (marks : List Mark) (k : ℕ) (i : Actor) (text : List ℕ) (entry : List Mark) (e : IsEntry i text entry)
    → MayEnd i (Script []) e.outcome → InTurn given before n task marks k [] → slice_get (steps_of given (stage_of (setting given) before) task) k ≡ Some (Enters i (Script text))
    → InTurn given before n task (marks ++ entry) (k + 1) []
entry_more given before n task marks k i text entry e ends t got =
    let P : List Mark → Type 0 = λ ms. InTurn given before n task ms (k + 1) [] in
    let entered = enter-more given before n task marks k (Enters i (Script text)) i (Script text) t got refl in
    let asked = asks_more given before n task (marks ++ Enter i (Script text) ∷ []) (k + 1) i (Script text) e.asks e.own entered in
    let left = leave-more given before n task ((marks ++ Enter i (Script text) ∷ []) ++ e.asks) (k + 1) i (Script text) e.outcome e.units (ends_alike i text e.outcome ends) asked in
    subst P (entry_marks marks i text e.asks e.outcome e.units ∙ ap (λ ms. marks ++ ms) (sym e.whole)) left

-- what a whole entry has that fits
pub entry_fits : (given : Given) (i : Actor) (text : List ℕ) (entry : List Mark) (e : IsEntry i text entry) → AllFit given entry → AllFit given e.asks × MayEnd i (Script []) e.outcome
entry_fits given i text entry e fits =
    let whole : AllFit given (Enter i (Script text) ∷ (e.asks ++ Leave i e.outcome e.units ∷ [])) = subst (AllFit given) e.whole fits in
    let parts = fit_split given e.asks (Leave i e.outcome e.units ∷ []) whole.1 in
    (parts.0, parts.1.0)

pub sound_entry : (given : Given) (kinds : List Kind) (marks : List Mark) (i : Actor) (text : List ℕ) (entry : List Mark) (e : IsEntry i text entry) → is_actor i the_host ≡ false
    → AllFit given entry → IsGenuineAfter marks entry → Sound given kinds marks → Sound given kinds (marks ++ entry)
sound_entry given kinds marks i text entry e other fits said s =
    let P : List Mark → Type 0 = λ ms. Sound given kinds ms in
    let Q : List Mark → Type 0 = λ ms. IsGenuineAfter marks ms in
    let whole : IsGenuineAfter marks (Enter i (Script text) ∷ (e.asks ++ Leave i e.outcome e.units ∷ [])) = subst Q e.whole said in
    let parts = genuine_split (marks ++ Enter i (Script text) ∷ []) e.asks (Leave i e.outcome e.units ∷ []) whole.1 in
    let asked = sound_asks given kinds (marks ++ Enter i (Script text) ∷ []) i e.asks other e.own (entry_fits given i text entry e fits).0 parts.0 (sound_enter given kinds marks i text s) in
    subst P (entry_marks marks i text e.asks e.outcome e.units ∙ ap (λ ms. marks ++ ms) (sym e.whole))
    (sound_leave given kinds ((marks ++ Enter i (Script text) ∷ []) ++ e.asks) i e.outcome e.units asked)
