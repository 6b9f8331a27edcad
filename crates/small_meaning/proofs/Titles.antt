-- The title is read and written, and texts are logged.
use Rattle.std.proofs.Common.{◌≡◌, ◌∙◌, sym, subst, ap, ℕ, ◌≤◌, suc, Bool, true, false, List, [], ◌∷◌, arith, Some, None, codes}
use Rattle.std.proofs.lemmas.Bool.Decides.{nat_tests}
use Rattle.std.specs.Fmt.{decimal}
use Rattle.std.specs.Option.{option_map_or}
use Rattle.std.specs.Prelude.{pos}
use Rattle.door.specs.declared.values.Kind.TheVariants.{Window, Document}
use Rattle.door.specs.declared.values.Thing.{Thing as DoorThing}
use Rattle.door.specs.declared.values.Value.TheVariants as door
use Rattle.door.specs.declared.members.Member.{Member}
use Rattle.door.specs.declared.members.Member.TheVariants.{DocumentTitle, DocumentSetTitle, GmLog, ConsoleLog}
use Rattle.door.specs.declared.requests.ErrorKind.TheVariants as kind
use Rattle.door.specs.declared.requests.Request.TheVariants.{Native as NativeRequest}
use Rattle.door.specs.declared.requests.Answer.{Answer}
use Rattle.door.specs.declared.requests.Answer.TheVariants.{Value as ValueAnswer, Throw as ThrowAnswer}
use Rattle.dom_semantics.specs.Bounds.{is_short}
use Rattle.dom_semantics.specs.Fits.{OfDocument}
use Rattle.js_semantics.specs.Builtin.{Asks}
use Rattle.js_semantics.specs.Evaluator.{With, choose, fails_by, Gives, Ends, unvalued, text_units}
use Rattle.js_semantics.specs.Evaluator as ev
use Rattle.js_semantics.specs.Faults.{text_too_long}
use Rattle.js_semantics.specs.Intrinsics.{Setup}
use Rattle.js_semantics.specs.Machine.{Machine, MetThing, Own, Thing, Value, Refers, Accessor, thing_at, undefined, text, number}
use Rattle.js_semantics.specs.Meaning.{evaluator}
use Rattle.js_semantics.specs.Meetings.{misfit}
use Rattle.js_semantics.specs.Members.{Stands, added_row, chain_bound, found, found_within, get_row, own_of_thing, own_property, prototype_of_thing, read_row, reading, set_row, writing, written_row}
use Rattle.js_semantics.specs.Requests.{answered_row, of_interface, receiver_row, request_row, text_argument, text_made}
use Rattle.js_semantics.specs.Solo.{Program}
use Rattle.small_meaning.specs.declared.prim.Prim.{Prim}
use Rattle.small_meaning.specs.declared.prim.Prim.TheVariants.{Number as NumberPrim, Str as StrPrim}
use Rattle.small_meaning.specs.Rows.{Bare}
use Rattle.small_meaning.specs.Rows as small
use Rattle.solo_model.specs.Things.{thing_of}
use Rattle.small_meaning.specs.Shows.{FitsAnswer, IsText}
use Rattle.small_meaning.proofs.Alike.{Alike, Ready, Stops, fails_alike, met_document}
use Rattle.small_meaning.proofs.Charges.{ask_alike, charge_alike, charge_none}
use Rattle.small_meaning.proofs.Documents.{document_at, native_called, not_over, refused_alike}
use Rattle.small_meaning.proofs.Lookups.{Begins, above_thing, find_stands, here_own, ready_knows, three}
use Rattle.small_meaning.proofs.Texts.{number_text}

-- ---- values

abbrev pub value_of : Prim → Value
value_of (NumberPrim n) = number (pos n)
value_of (StrPrim t) = text t

-- a number is bounded, and a text is one of the language
abbrev pub IsWithin : ℕ → Prim → Type 0
IsWithin most (NumberPrim n) = n ≤ most
IsWithin most (StrPrim t) = IsText t

-- ---- the title, once the document is met

met_at : (setup : Setup) (k : ℕ) (m : Machine) → Begins setup → Ready setup true k m → thing_at m 1 ≡ Some met_document
met_at setup k m b r = document_at setup m r.met b r.things r.since

no_own_title : (setup : Setup) (k : ℕ) (m : Machine) → Begins setup → Ready setup true k m → own_property m (Thing 1) (codes "title") ≡ None
no_own_title setup k m b r = ap (λ thing. own_of_thing thing (codes "title")) (met_at setup k m b r)

title_found : (setup : Setup) (k : ℕ) (m : Machine) → Begins setup → Ready setup true k m → found m (Thing 1) (codes "title") ≡ Stands (Accessor (Some 137) (Some 138) false)
title_found setup k m b r =
    let knows = ready_knows setup true k m b r in
    let chain = three (chain_bound m) knows.bound in
    ap (λ n. found_within n m (Thing 1) (codes "title")) chain.1
    ∙ above_thing (suc (suc chain.0)) m 1 (codes "title") (Own 83) (no_own_title setup k m b r) (ap prototype_of_thing (met_at setup k m b r))
    ∙ here_own (suc chain.0) m 83 (codes "title") (Accessor (Some 137) (Some 138) false) knows.members.title

-- a member of the document is asked of it
document_is : (setup : Setup) (k : ℕ) (m : Machine) (f : ℕ) (next : With DoorThing) (d : ev.Cont) → Begins setup → Ready setup true k m → receiver_row OfDocument (Refers (Thing 1)) next d m f ≡ next (thing_of Document 1) m f
document_is setup k m f next d b r =
    ap (λ thing. of_interface OfDocument (thing_of (option_map_or (λ (thing : MetThing). thing.kind) thing Window) 1) next d m f) (met_at setup k m b r)

asks_title : (setup : Setup) (k : ℕ) (n : ℕ) (m : Machine) (f : ℕ) (d : ev.Cont) → Begins setup → Ready setup true k m
    → get_row (evaluator (suc n)) (Refers (Thing 1)) (codes "title") m f d ≡ request_row DocumentTitle (thing_of Document 1) [] undefined m f d
asks_title setup k n m f d b r =
    find_stands (reading (codes "title")) (Thing 1) (codes "title") (λ x m f. read_row (evaluator (suc n)) (Refers (Thing 1)) x m f d) d m f (Accessor (Some 137) (Some 138) false) (title_found setup k m b r)
    ∙ native_called n 137 (Asks DocumentTitle) (Refers (Thing 1)) [] m f d (ready_knows setup true k m b r).members.asks_title
    ∙ document_is setup k m f (λ thing m f. request_row DocumentTitle thing [] undefined m f d) d b r

-- a text of the language is short
short : (t : List ℕ) → IsText t → is_short t ≡ true
short t h = grind (arith, nat_tests)

title_answered : (setup : Setup) (k : ℕ) (least : Bool) (next : List ℕ → ℕ → Program Bare) (c : small.Cont) (d : ev.Cont) (m : Machine) → Stops setup k least c d → Ready setup least (suc k) m
    → ((t : List ℕ) → IsText t → (left : ℕ) → Alike setup k (next t left) (d (Gives (text t)) m left))
    → (answer : Answer) → FitsAnswer answer → (left : ℕ) → Alike setup k (small.with_text next c answer left) (answered_row DocumentTitle undefined answer m left d)
title_answered setup k least next c d m s r h (ValueAnswer (door.Str t)) fits left =
    let P : Bool → Type 0 = λ is. Alike setup k (next t left) (choose is (d (Gives (text t))) misfit m left) in
    subst P (sym (short t fits)) (h t fits left)
title_answered setup k least next c d m s r h (ThrowAnswer kind.TooLong) fits left = refused_alike setup k least c d kind.TooLong m left tt s r
title_answered setup k least next c d m s r h (ThrowAnswer reason) fits left = fails_alike setup k (answered_row DocumentTitle undefined (ThrowAnswer reason) m left d)
title_answered setup k least next c d m s r h (ValueAnswer value) fits left = fails_alike setup k (answered_row DocumentTitle undefined (ValueAnswer value) m left d)
title_answered setup k least next c d m s r h answer fits left = fails_alike setup k (answered_row DocumentTitle undefined answer m left d)

pub title_asked : (setup : Setup) (k : ℕ) (n : ℕ) (next : List ℕ → ℕ → Program Bare) (c : small.Cont) (d : ev.Cont) (m : Machine) (f : ℕ) → Begins setup → Stops setup k true c d → Ready setup true (suc k) m
    → ((t : List ℕ) → IsText t → (left : ℕ) → Alike setup k (next t left) (d (Gives (text t)) m left))
    → Alike setup k (small.ask (NativeRequest DocumentTitle (thing_of Document 1) []) (small.with_text next c) c f) (get_row (evaluator (suc n)) (Refers (Thing 1)) (codes "title") m f d)
title_asked setup k n next c d m f b s r h =
    let P : Program Machine → Type 0 = λ tree. Alike setup k (small.ask (NativeRequest DocumentTitle (thing_of Document 1) []) (small.with_text next c) c f) tree in
    subst P (sym (asks_title setup (suc k) n m f d b r))
    (ask_alike setup k true (NativeRequest DocumentTitle (thing_of Document 1) []) (small.with_text next c) c (λ answer m f. answered_row DocumentTitle undefined answer m f d) d m f s r
    (title_answered setup k true next c d m s r h))

-- ---- a text is sent

-- what follows the answer of a member to which a text is sent does alike
abbrev pub AnswersAlike : Setup → ℕ → Member → (Answer → ℕ → Program Bare) → ev.Cont → Machine → Type 0
AnswersAlike setup k name next d m = (answer : Answer) → FitsAnswer answer → (left : ℕ) → Alike setup k (next answer left) (answered_row name undefined answer m left d)

-- the console's log and that of userscripts
pub console_answered : (setup : Setup) (k : ℕ) (c : small.Cont) (d : ev.Cont) (m : Machine) → ((left : ℕ) → Alike setup k (c small.Next left) (d (Gives undefined) m left)) → AnswersAlike setup k ConsoleLog (small.with_nothing (c small.Next)) d m
console_answered setup k c d m h (ValueAnswer door.Undefined) fits left = h left
console_answered setup k c d m h (ValueAnswer value) fits left = fails_alike setup k (answered_row ConsoleLog undefined (ValueAnswer value) m left d)
console_answered setup k c d m h answer fits left = fails_alike setup k (answered_row ConsoleLog undefined answer m left d)

pub script_answered : (setup : Setup) (k : ℕ) (c : small.Cont) (d : ev.Cont) (m : Machine) → ((left : ℕ) → Alike setup k (c small.Next left) (d (Gives undefined) m left)) → AnswersAlike setup k GmLog (small.with_nothing (c small.Next)) d m
script_answered setup k c d m h (ValueAnswer door.Undefined) fits left = h left
script_answered setup k c d m h (ValueAnswer value) fits left = fails_alike setup k (answered_row GmLog undefined (ValueAnswer value) m left d)
script_answered setup k c d m h answer fits left = fails_alike setup k (answered_row GmLog undefined answer m left d)

-- the title
written_answered : (setup : Setup) (k : ℕ) (least : Bool) (c : small.Cont) (d : ev.Cont) (m : Machine) → Stops setup k least c d → Ready setup least (suc k) m
    → ((left : ℕ) → Alike setup k (c small.Next left) (d (Gives undefined) m left)) → AnswersAlike setup k DocumentSetTitle (small.with_title (c small.Next) c) d m
written_answered setup k least c d m s r h (ValueAnswer door.Undefined) fits left = h left
written_answered setup k least c d m s r h (ThrowAnswer kind.Limit) fits left = refused_alike setup k least c d kind.Limit m left tt s r
written_answered setup k least c d m s r h (ThrowAnswer kind.TooDeep) fits left = refused_alike setup k least c d kind.TooDeep m left tt s r
written_answered setup k least c d m s r h (ThrowAnswer reason) fits left = fails_alike setup k (answered_row DocumentSetTitle undefined (ThrowAnswer reason) m left d)
written_answered setup k least c d m s r h (ValueAnswer value) fits left = fails_alike setup k (answered_row DocumentSetTitle undefined (ValueAnswer value) m left d)
written_answered setup k least c d m s r h answer fits left = fails_alike setup k (answered_row DocumentSetTitle undefined answer m left d)

-- a text is sent to a member
pub text_sent : (setup : Setup) (k : ℕ) (least : Bool) (name : Member) (thing : DoorThing) (t : List ℕ) (next : Answer → ℕ → Program Bare) (c : small.Cont) (d : ev.Cont) (m : Machine) (f : ℕ) → Stops setup k least c d → Ready setup least (suc k) m
    → AnswersAlike setup k name next d m
    → Alike setup k (small.ask (NativeRequest name thing (door.Str t ∷ [])) next c f) (request_row name thing (door.Str t ∷ []) undefined m f d)
text_sent setup k least name thing t next c d m f s r h = ask_alike setup k least (NativeRequest name thing (door.Str t ∷ [])) next c (λ answer m f. answered_row name undefined answer m f d) d m f s r h

-- a text is made and sent
pub text_made_sent : (setup : Setup) (k : ℕ) (least : Bool) (name : Member) (thing : DoorThing) (t : List ℕ) (next : Answer → ℕ → Program Bare) (c : small.Cont) (d : ev.Cont) (m : Machine) (f : ℕ) → IsText t → Stops setup k least c d → Ready setup least (suc k) m
    → AnswersAlike setup k name next d m
    → Alike setup k (small.charge (text_units t) (small.ask (NativeRequest name thing (door.Str t ∷ [])) next c) c f) (text_made t (λ t m f. request_row name thing (door.Str t ∷ []) undefined m f d) d m f)
text_made_sent setup k least name thing t next c d m f short s r h =
    let P : Bool → Type 0 = λ over. Alike setup k (small.charge (text_units t) (small.ask (NativeRequest name thing (door.Str t ∷ [])) next c) c f)
    (choose over (fails_by text_too_long d) (ev.charge (text_units t) (λ m f. request_row name thing (door.Str t ∷ []) undefined m f d) d) m f) in
    subst P (sym (not_over t short))
    (charge_alike setup k least (text_units t) (small.ask (NativeRequest name thing (door.Str t ∷ [])) next c) c (λ m f. request_row name thing (door.Str t ∷ []) undefined m f d) d m f s r
    (λ left. text_sent setup k least name thing t next c d m left s r h))

-- ---- the title is written

sets_title : (setup : Setup) (k : ℕ) (n : ℕ) (value : Value) (m : Machine) (f : ℕ) (d : ev.Cont) → Begins setup → Ready setup true k m
    → set_row (evaluator (suc n)) (Refers (Thing 1)) (codes "title") value m f d
    ≡ text_argument value (λ t m f. request_row DocumentSetTitle (thing_of Document 1) (door.Str t ∷ []) undefined m f (unvalued d)) (unvalued d) m f
sets_title setup k n value m f d b r =
    ap (λ own. written_row (evaluator (suc n)) (Thing 1) (codes "title") value own m f d) (no_own_title setup k m b r)
    ∙ find_stands writing (Thing 1) (codes "title") (λ x m f. added_row (evaluator (suc n)) (Thing 1) (codes "title") value x m f d) d m f (Accessor (Some 137) (Some 138) false) (title_found setup k m b r)
    ∙ native_called n 138 (Asks DocumentSetTitle) (Refers (Thing 1)) (value ∷ []) m f (unvalued d) (ready_knows setup true k m b r).members.sets_title
    ∙ document_is setup k m f (λ thing m f. text_argument value (λ t m f. request_row DocumentSetTitle thing (door.Str t ∷ []) undefined m f (unvalued d)) (unvalued d) m f) (unvalued d) b r

value_sent : (setup : Setup) (k : ℕ) (value : Prim) (c : small.Cont) (d : ev.Cont) (m : Machine) (f : ℕ) → IsWithin 9999 value → Stops setup k true c d → Ready setup true (suc k) m
    → ((left : ℕ) → Alike setup k (c small.Next left) (d (Gives undefined) m left))
    → Alike setup k (small.written_row (thing_of Document 1) value c f) (text_argument (value_of value) (λ t m f. request_row DocumentSetTitle (thing_of Document 1) (door.Str t ∷ []) undefined m f d) d m f)
value_sent setup k (NumberPrim n) c d m f short s r h =
    text_made_sent setup k true DocumentSetTitle (thing_of Document 1) (decimal n) (small.with_title (c small.Next) c) c d m f (number_text n (omega (arith, short))) s r (written_answered setup k true c d m s r h)
value_sent setup k (StrPrim t) c d m f short s r h =
    let P : Program Bare → Type 0 = λ tree. Alike setup k tree (request_row DocumentSetTitle (thing_of Document 1) (door.Str t ∷ []) undefined m f d) in
    subst P (sym (charge_none (small.ask (NativeRequest DocumentSetTitle (thing_of Document 1) (door.Str t ∷ [])) (small.with_title (c small.Next) c) c) c f))
    (text_sent setup k true DocumentSetTitle (thing_of Document 1) t (small.with_title (c small.Next) c) c d m f s r (written_answered setup k true c d m s r h))

pub title_written : (setup : Setup) (k : ℕ) (n : ℕ) (value : Prim) (c : small.Cont) (d : ev.Cont) (m : Machine) (f : ℕ) → IsWithin 9999 value → Begins setup → Stops setup k true c d → Ready setup true (suc k) m
    → ((left : ℕ) → Alike setup k (c small.Next left) (d Ends m left))
    → Alike setup k (small.written_row (thing_of Document 1) value c f) (set_row (evaluator (suc n)) (Refers (Thing 1)) (codes "title") (value_of value) m f d)
title_written setup k n value c d m f short b s r h =
    let P : Program Machine → Type 0 = λ tree. Alike setup k (small.written_row (thing_of Document 1) value c f) tree in
    subst P (sym (sets_title setup (suc k) n (value_of value) m f d b r))
    (value_sent setup k value c (unvalued d) m f short (record { throws = s.throws; halts = s.halts }) r h)
