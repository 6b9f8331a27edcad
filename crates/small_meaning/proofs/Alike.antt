-- When a small tree and a tree of the language do alike, and when what follows an evaluation does.
use Rattle.std.proofs.Common.{◌≡◌, ◌∙◌, refl, ap, ℕ, ◌+◌, ◌≤◌, suc, zero, Bool, true, false, List, [], ◌∷◌, ◌++◌, append_assoc, length, arith, Option, Some, slice_get}
use Rattle.door.specs.declared.values.Kind.TheVariants.{Document}
use Rattle.door.specs.declared.requests.Request.{Request}
use Rattle.door.specs.declared.requests.Answer.{Answer}
use Rattle.door.specs.declared.requests.ErrorKind.{ErrorKind}
use Rattle.door.specs.declared.marks.StopKind.{StopKind}
use Rattle.js_semantics.specs.Evaluator.{error_cell, fails_by, made_within}
use Rattle.js_semantics.specs.Evaluator as ev
use Rattle.js_semantics.specs.Faults.{Fault, fitting}
use Rattle.js_semantics.specs.Intrinsics.{Setup, fresh}
use Rattle.js_semantics.specs.Machine.{Machine, Cell, MetThing, Own, Refers, here_or_none}
use Rattle.js_semantics.specs.Meaning.{thrown_by_cell, thrown_by_form, thrown_text}
use Rattle.js_semantics.specs.Solo.{Program, Asks, Emits, Stuck}
use Rattle.small_meaning.specs.Errors.{error_text}
use Rattle.small_meaning.specs.Rows.{Bare}
use Rattle.small_meaning.specs.Rows as small
use Rattle.js_semantics.specs.Entries.{LEVELS}
use Rattle.small_meaning.specs.Shows.{FitsAnswer}

-- ---- the machine

abbrev pub met_document : MetThing
met_document = record { kind = Document; slots = [] }

abbrev pub met_things : Bool → List MetThing
met_things false = []
met_things true = met_document ∷ []

-- the document may still take room
abbrev pub unmet : Bool → ℕ
unmet false = 1
unmet true = 0

-- the document is met, where it has to be
abbrev pub IsSince : Bool → Bool → Type 0
IsSince false met = Unit {0}
IsSince true met = met ≡ true

-- a machine that small scripts have left, with room for so many errors; the document is met where `least` says so
pub record Ready (setup : Setup) (least : Bool) (k : ℕ) (m : Machine) : Type 0 where
  pub zone : m.zone ≡ setup.zone
  pub more : List (Option Cell)
  pub cells : m.cells ≡ (fresh setup).cells ++ more
  pub met : Bool
  pub since : IsSince least met
  pub things : m.things ≡ (fresh setup).things ++ met_things met
  pub room : k + unmet met ≤ m.room

since_any : (met least : Bool) → met ≡ true → IsSince least met
since_any met true e = e
since_any met false e = tt

-- once it is met it stays so
pub ready_later : (setup : Setup) (least : Bool) (k : ℕ) (m : Machine) → Ready setup true k m → Ready setup least k m
ready_later setup least k m r = record {
  zone = r.zone;
  more = r.more;
  cells = r.cells;
  met = r.met;
  since = since_any r.met least r.since;
  things = r.things;
  room = r.room;
}

pub ready_free : (setup : Setup) (least : Bool) (k : ℕ) (m : Machine) → Ready setup least k m → Ready setup false k m
ready_free setup least k m r = record {
  zone = r.zone;
  more = r.more;
  cells = r.cells;
  met = r.met;
  since = tt;
  things = r.things;
  room = r.room;
}

pub ready_less : (setup : Setup) (least : Bool) (k : ℕ) (m : Machine) → Ready setup least (suc k) m → Ready setup least k m
ready_less setup least k m r = record {
  zone = r.zone;
  more = r.more;
  cells = r.cells;
  met = r.met;
  since = r.since;
  things = r.things;
  room = omega (arith, r.room);
}

-- ---- trees

-- they ask for the same, they say the same and are left on a machine with room for so many errors
unfoldable pub Alike : Setup → ℕ → Program Bare → Program Machine → Type 0
Alike setup k (Asks request next) tree =
    (then : Answer → Program Machine) × (tree ≡ Asks request then) × ((answer : Answer) → FitsAnswer answer → Alike setup k (next answer) (then answer))
Alike setup k (Emits act levels m back) tree =
    (left : Machine) × Ready setup false k left × (tree ≡ Emits act LEVELS left (λ m answer. Stuck)) × (levels ≡ LEVELS) × ((answer : Answer) → back m answer ≡ Stuck)
Alike setup k Stuck tree = Unit {0}

pub asks_alike : (setup : Setup) (k : ℕ) (request : Request) (next : Answer → Program Bare) (then : Answer → Program Machine) → ((answer : Answer) → FitsAnswer answer → Alike setup k (next answer) (then answer))
    → Alike setup k (Asks request next) (Asks request then)
unfolding Alike
asks_alike setup k request next then h = (then, refl, h)

pub fails_alike : (setup : Setup) (k : ℕ) (tree : Program Machine) → Alike setup k Stuck tree
unfolding Alike
fails_alike setup k tree = tt

-- ---- what follows a throw or a stop

pub record Stops (setup : Setup) (k : ℕ) (least : Bool) (c : small.Cont) (d : ev.Cont) : Type 0 where
  pub throws : (reason : ErrorKind) (f : ℕ) (m : Machine) (place : ℕ) → Ready setup least k m → thrown_text m (Refers (Own place)) ≡ error_text reason
      → Alike setup k (c (small.Throws reason) f) (d (ev.Throws (Refers (Own place))) m f)
  pub halts : (stop : StopKind) (f : ℕ) (m : Machine) → Ready setup least (suc k) m → Alike setup k (c (small.Halts stop) f) (d (ev.Halts stop) m f)

pub stops_later : (setup : Setup) (k : ℕ) (least : Bool) (c : small.Cont) (d : ev.Cont) → Stops setup k least c d → Stops setup k true c d
stops_later setup k least c d s = record {
  throws = λ reason f m place r. s.throws reason f m place (ready_later setup least k m r);
  halts = λ stop f m r. s.halts stop f m (ready_later setup least (suc k) m r);
}

-- ---- a throw

pub got_last : {A : Type 0} (xs : List A) (x : A) → slice_get (xs ++ x ∷ []) (length xs) ≡ Some x
got_last [] x = refl
got_last (y ∷ xs) x = got_last xs x

pub thrown_alike : (setup : Setup) (k : ℕ) (least : Bool) (c : small.Cont) (d : ev.Cont) (fault : Fault) (reason : ErrorKind) (m : Machine) (f : ℕ) → thrown_by_form (error_cell (fitting fault)).form ≡ error_text reason
    → Stops setup k least c d → Ready setup least (suc k) m → Alike setup k (c (small.Throws reason) f) (fails_by fault d m f)
thrown_alike setup k least c d fault reason m f text s r = go m.room r.room
  where
    cell : Cell
    cell = error_cell (fitting fault)

    after : ℕ → Machine
    after room = record m { cells = m.cells ++ Some cell ∷ []; room = room }

    shown : (room : ℕ) → thrown_text (after room) (Refers (Own (length m.cells))) ≡ error_text reason
    shown room = ap (λ x. thrown_by_cell (here_or_none x)) (got_last m.cells (Some cell)) ∙ text

    go : (room : ℕ) → suc k + unmet r.met ≤ room → Alike setup k (c (small.Throws reason) f) (made_within room cell (λ place. d (ev.Throws (Refers (Own place)))) d m f)
    go zero h = absurd (omega (arith, h))
    go (suc room) h = s.throws reason f (after room) (length m.cells) (record {
      zone = r.zone;
      more = r.more ++ Some cell ∷ [];
      cells = ap (λ cells. cells ++ Some cell ∷ []) r.cells ∙ append_assoc (fresh setup).cells r.more (Some cell ∷ []);
      met = r.met;
      since = r.since;
      things = r.things;
      room = omega (arith, h);
    }) (shown room)
