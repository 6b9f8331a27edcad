-- The document is asked for, and its title read and written.
use Rattle.std.proofs.Common.{◌≡◌, ◌∙◌, refl, sym, subst, ap, ℕ, ◌+◌, ◌≤◌, suc, zero, Bool, true, false, List, [], ◌∷◌, ◌++◌, length, length-append, arith, Option, Some, None, codes, nat_lt, slice_get, ◌==◌}
use Rattle.std.proofs.lemmas.Bool.Decides.{nat_tests}
use Rattle.std.proofs.lemmas.List.{append-nil}
use Rattle.std.specs.Char.{encode_utf8}
use Rattle.base_text.specs.Scalars.{utf8_len}
use Rattle.base_text.specs.declared.text.TheConstants.{TEXT_LIMIT}
use Rattle.door.specs.declared.zones.Zone.{Zone}
use Rattle.door.specs.declared.zones.Zone.TheVariants.{Page}
use Rattle.door.specs.declared.values.Kind.TheVariants.{Document}
use Rattle.door.specs.declared.values.Thing.{Thing as DoorThing}
use Rattle.door.specs.declared.values.Value.TheVariants as door
use Rattle.door.specs.declared.members.Member.TheVariants.{WindowDocument}
use Rattle.door.specs.declared.requests.ErrorKind.{ErrorKind}
use Rattle.door.specs.declared.requests.ErrorKind.TheVariants as kind
use Rattle.door.specs.declared.requests.Request.TheVariants.{Native as NativeRequest}
use Rattle.door.specs.declared.requests.Answer.{Answer}
use Rattle.door.specs.declared.requests.Answer.TheVariants.{Value as ValueAnswer}
use Rattle.dom_semantics.specs.Fits.{OfWindow}
use Rattle.js_semantics.specs.Builtin.{Builtin, Asks}
use Rattle.js_semantics.specs.Calls.{called_form}
use Rattle.js_semantics.specs.Evaluator.{Evaluator, choose, error_cell, fails_by, Gives}
use Rattle.js_semantics.specs.Evaluator as ev
use Rattle.js_semantics.specs.Faults.{Fault, fitting, refusal_fault}
use Rattle.js_semantics.specs.Intrinsics.{Setup, fresh}
use Rattle.js_semantics.specs.Machine.{Machine, MetThing, Native, Own, Reference, Thing, Value, Refers, Property, Accessor, global_in, global_of, thing_at, undefined}
use Rattle.js_semantics.specs.Meaning.{evaluator, at_top, thrown_by_form}
use Rattle.js_semantics.specs.Meetings.{met_again, met_next, met_row, met_within, misfit}
use Rattle.js_semantics.specs.Members.{Stands, found, read_row, reading}
use Rattle.js_semantics.specs.Names.{bound_name_row, global_name_row, missing_throws, name_row}
use Rattle.js_semantics.specs.Natives.{native_row}
use Rattle.js_semantics.specs.Operations.{is_same_reference}
use Rattle.js_semantics.specs.Requests.{answered_row, request_row, window_or}
use Rattle.js_semantics.specs.Solo.{Program}
use Rattle.small_meaning.specs.Errors.{error_text}
use Rattle.small_meaning.specs.Rows.{Bare}
use Rattle.small_meaning.specs.Rows as small
use Rattle.solo_model.specs.Things.{thing_of, the_window}
use Rattle.small_meaning.specs.Shows.{FitsAnswer, IsText}
use Rattle.small_meaning.proofs.Alike.{Alike, Ready, Stops, fails_alike, got_last, met_document, met_things, thrown_alike, unmet}
use Rattle.small_meaning.proofs.Cells.{form_at}
use Rattle.small_meaning.proofs.Charges.{ask_alike}
use Rattle.small_meaning.proofs.Lookups.{Begins, Knows, bound_none, find_stands, ready_knows}

-- ---- errors

pub not_over : (t : List ℕ) → IsText t → nat_lt TEXT_LIMIT (utf8_len t) ≡ false
not_over t h = grind (arith, nat_tests)

abbrev shown : Fault → List ℕ
shown fault = thrown_by_form (error_cell (fitting fault)).form

-- the refusals that a small script is shown
abbrev pub IsShown : ErrorKind → Type 0
IsShown kind.Limit = Unit {0}
IsShown kind.TooDeep = Unit {0}
IsShown kind.TooLong = Unit {0}
IsShown reason = ⊥

-- a refusal is shown alike
refusal_text : (reason : ErrorKind) → IsShown reason → shown (refusal_fault reason) ≡ error_text reason
unfolding encode_utf8
refusal_text kind.Limit h = refl
refusal_text kind.TooDeep h = refl
refusal_text kind.TooLong h = refl
refusal_text reason h = absurd h

pub refused_alike : (setup : Setup) (k : ℕ) (least : Bool) (c : small.Cont) (d : ev.Cont) (reason : ErrorKind) (m : Machine) (f : ℕ) → IsShown reason → Stops setup k least c d → Ready setup least (suc k) m
    → Alike setup k (c (small.Throws reason) f) (fails_by (refusal_fault reason) d m f)
refused_alike setup k least c d reason m f h s r = thrown_alike setup k least c d (refusal_fault reason) reason m f (refusal_text reason h) s r

-- ---- names and calls

pub name_found : (e : Evaluator) (name : List ℕ) (p : Property) (m : Machine) (f : ℕ) (d : ev.Cont) → found m (global_of m) name ≡ Stands p
    → name_row e missing_throws name at_top m f d ≡ read_row e (Refers (global_of m)) (Stands p) m f d
name_found e name p m f d known =
    let global : Reference = global_of m in
    ap (λ b. bound_name_row e name (missing_throws name) b m f d) (bound_none (length m.scopes + 1) m name)
    ∙ find_stands (reading name) global name (λ x m f. global_name_row e name (missing_throws name) x m f d) d m f p known
    ∙ find_stands (reading name) global name (λ x m f. read_row e (Refers global) x m f d) d m f p known

pub native_called : (n : ℕ) (place : ℕ) (builtin : Builtin) (this : Value) (values : List Value) (m : Machine) (f : ℕ) (d : ev.Cont) → form_at m.cells place ≡ Some (Native builtin)
    → (evaluator (suc n)).call (Refers (Own place)) this values m f d ≡ native_row (evaluator n) builtin this values m f d
unfolding evaluator
native_called n place builtin this values m f d known = ap (λ form. called_form (evaluator n) form this values m f d) known

global_is : (zone : Zone) → is_same_reference (global_in zone) (global_in zone) ≡ true
global_is Page = refl
global_is zone = refl

-- ---- the document is asked for

asks_document : (n : ℕ) (m : Machine) (f : ℕ) (d : ev.Cont) (setup : Setup) → Knows setup m
    → name_row (evaluator (suc n)) missing_throws (codes "document") at_top m f d ≡ request_row WindowDocument the_window [] undefined m f d
asks_document n m f d setup k =
    name_found (evaluator (suc n)) (codes "document") (Accessor (Some 93) None false) m f d k.document
    ∙ native_called n 93 (Asks WindowDocument) (Refers (global_of m)) [] m f d k.members.asks_document
    ∙ ap (λ (is : Bool). window_or is OfWindow (Refers (global_of m)) (λ thing m f. request_row WindowDocument thing [] undefined m f d) d m f) (global_is m.zone)

pub count_met : (setup : Setup) (least : Bool) (k : ℕ) (m : Machine) → Begins setup → (r : Ready setup least k m) → length m.things ≡ 1 + length (met_things r.met)
count_met setup least k m b r = ap length r.things ∙ length-append (fresh setup).things (met_things r.met) ∙ ap (λ n. n + length (met_things r.met)) b.things

got_past : {A : Type 0} (xs : List A) → slice_get xs (length xs) ≡ None
got_past [] = refl
got_past (x ∷ xs) = got_past xs

-- the second thing is none before the document is met
none_at : (setup : Setup) (m : Machine) (met : Bool) → Begins setup → m.things ≡ (fresh setup).things ++ met_things met → met ≡ false → thing_at m 1 ≡ None
none_at setup m met b things e =
    let P : ℕ → Type 0 = λ n. slice_get ((fresh setup).things ++ []) n ≡ None in
    ap (λ ts. slice_get ts 1) things ∙ ap (λ met. slice_get ((fresh setup).things ++ met_things met) 1) e
    ∙ subst P b.things (ap (λ ts. slice_get ts (length (fresh setup).things)) (append-nil (fresh setup).things) ∙ got_past (fresh setup).things)

-- .. and the document after that
pub document_at : (setup : Setup) (m : Machine) (met : Bool) → Begins setup → m.things ≡ (fresh setup).things ++ met_things met → met ≡ true → thing_at m 1 ≡ Some met_document
document_at setup m met b things e =
    let P : ℕ → Type 0 = λ n. slice_get ((fresh setup).things ++ met_document ∷ []) n ≡ Some met_document in
    ap (λ ts. slice_get ts 1) things ∙ ap (λ met. slice_get ((fresh setup).things ++ met_things met) 1) e ∙ subst P b.things (got_last (fresh setup).things met_document)

-- the document is met, if it isn't yet
document_met : (setup : Setup) (k : ℕ) (least : Bool) (tree : Program Bare) (d : ev.Cont) (m : Machine) (f : ℕ) → Begins setup → Ready setup least (suc k) m
    → ((m : Machine) → Ready setup true (suc k) m → Alike setup k tree (d (Gives (Refers (Thing 1))) m f))
    → Alike setup k tree (met_row (thing_of Document 1) m f d)
document_met setup k least tree d m f b r h = by_met r.met refl
  where
    met_first : (room : ℕ) → r.met ≡ false → suc k + 1 ≤ room → length m.things ≡ 1 → Alike setup k tree (met_next room (thing_of Document 1) m f d)
    met_first zero e low long = absurd (omega (arith, low))
    met_first (suc room) e low long =
        let next : Machine = record m { things = m.things ++ met_document ∷ []; room = room } in
        let P : ℕ → Type 0 = λ n. Alike setup k tree (d (Gives (Refers (Thing n))) next f) in
        let Q : ℕ → Type 0 = λ n. Alike setup k tree (choose (1 == n) (λ m f. met_within room Document m f d) misfit m f) in
        let none : met_things r.met ≡ [] = ap met_things e in
        subst Q (sym long) (subst P (sym long) (h next (record {
          zone = r.zone;
          more = r.more;
          cells = r.cells;
          met = true;
          since = refl;
          things = ap (λ ts. ts ++ met_document ∷ []) r.things ∙ ap (λ ts. ((fresh setup).things ++ ts) ++ met_document ∷ []) none ∙ plain (fresh setup).things;
          room = omega (arith, low);
        })))
      where
        plain : (ts : List MetThing) → (ts ++ []) ++ met_document ∷ [] ≡ ts ++ met_document ∷ []
        plain [] = refl
        plain (t ∷ ts) = ap (λ rest. t ∷ rest) (plain ts)

    by_met : (met : Bool) → r.met ≡ met → Alike setup k tree (met_row (thing_of Document 1) m f d)
    by_met true e =
        let P : Option MetThing → Type 0 = λ thing. Alike setup k tree (met_again (thing_of Document 1) thing m f d) in
        subst P (sym (document_at setup m r.met b r.things e)) (h m (record { zone = r.zone; more = r.more; cells = r.cells; met = r.met; since = e; things = r.things; room = r.room }))
    by_met false e =
        let long : length m.things ≡ 1 = count_met setup least (suc k) m b r ∙ ap (λ x. 1 + length (met_things x)) e in
        let P : Option MetThing → Type 0 = λ thing. Alike setup k tree (met_again (thing_of Document 1) thing m f d) in
        let low : unmet r.met ≡ 1 = ap unmet e in
        subst P (sym (none_at setup m r.met b r.things e)) (met_first m.room e (omega (arith, low, r.room)) long)

document_answered : (setup : Setup) (k : ℕ) (least : Bool) (next : DoorThing → ℕ → Program Bare) (d : ev.Cont) (m : Machine) → Begins setup → Ready setup least (suc k) m
    → ((m : Machine) (left : ℕ) → Ready setup true (suc k) m → Alike setup k (next (thing_of Document 1) left) (d (Gives (Refers (Thing 1))) m left))
    → (answer : Answer) → FitsAnswer answer → (left : ℕ) → Alike setup k (small.with_document next answer left) (answered_row WindowDocument undefined answer m left d)
document_answered setup k least next d m b r h (ValueAnswer (door.Thing thing)) fits left =
    let P : DoorThing → Type 0 = λ thing. Alike setup k (small.of_document thing.kind (next thing left)) (answered_row WindowDocument undefined (ValueAnswer (door.Thing thing)) m left d) in
    subst P (sym fits) (document_met setup k least (next (thing_of Document 1) left) d m left b r (λ m. h m left))
document_answered setup k least next d m b r h (ValueAnswer value) fits left = fails_alike setup k (answered_row WindowDocument undefined (ValueAnswer value) m left d)
document_answered setup k least next d m b r h answer fits left = fails_alike setup k (answered_row WindowDocument undefined answer m left d)

-- the name `document`, once its unit is charged
pub document_asked : (setup : Setup) (k : ℕ) (least : Bool) (n : ℕ) (next : DoorThing → ℕ → Program Bare) (c : small.Cont) (d : ev.Cont) (m : Machine) (f : ℕ) → Begins setup → Stops setup k least c d → Ready setup least (suc k) m
    → ((m : Machine) (left : ℕ) → Ready setup true (suc k) m → Alike setup k (next (thing_of Document 1) left) (d (Gives (Refers (Thing 1))) m left))
    → Alike setup k (small.ask (NativeRequest WindowDocument the_window []) (small.with_document next) c f) (name_row (evaluator (suc n)) missing_throws (codes "document") at_top m f d)
document_asked setup k least n next c d m f b s r h =
    let P : Program Machine → Type 0 = λ tree. Alike setup k (small.ask (NativeRequest WindowDocument the_window []) (small.with_document next) c f) tree in
    subst P (sym (asks_document n m f d setup (ready_knows setup least (suc k) m b r)))
    (ask_alike setup k least (NativeRequest WindowDocument the_window []) (small.with_document next) c (λ answer m f. answered_row WindowDocument undefined answer m f d) d m f s r
    (document_answered setup k least next d m b r h))
