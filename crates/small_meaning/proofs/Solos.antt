-- What alike trees do by themselves is the same.
use Rattle.std.proofs.Common.{◌≡◌, refl, sym, subst, ℕ, ◌≤◌, suc, zero, false, List, [], ◌∷◌, arith, inl}
use Rattle.std.proofs.lemmas.List.{append-nil}
use Rattle.door.specs.declared.requests.Answer.{Answer}
use Rattle.door.specs.declared.marks.Entry.{Entry}
use Rattle.door.specs.declared.marks.Entry.TheVariants.{Script, Listener, Timer, Serve}
use Rattle.js_semantics.specs.Entries as language
use Rattle.js_semantics.specs.Intrinsics.{Setup, fresh}
use Rattle.js_semantics.specs.Machine.{Machine}
use Rattle.js_semantics.specs.Meaning.{script_entry}
use Rattle.js_semantics.specs.Solo.{Program, Asks, Emits, Stuck, Runs, Entering}
use Rattle.small_meaning.specs.Rows.{Bare, Fresh}
use Rattle.small_meaning.specs.Rows as small
use Rattle.js_semantics.specs.Entries.{LEVELS}
use Rattle.solo_model.specs.Solo.{Show, Enters, Answers, Backs, Deed, IsSoloFrom}
use Rattle.small_scripts.specs.Trees.{body_of}
use Rattle.small_meaning.specs.Shows.{AreFit, FitsEntry, MayRun, entries_in}
use Rattle.small_meaning.proofs.Alike.{Alike, Ready}
use Rattle.small_meaning.proofs.Lines.{IsOutermost, entry_alike}
use Rattle.small_meaning.proofs.Lookups.{Begins, begins}
use Rattle.small_meaning.proofs.Texts.{lines_sound}

-- what doesn't fit does nothing
no_solo : {M : Type 0} (enters : Entering M) (shows : List Show) (deeds : List Deed) → IsSoloFrom enters (Runs Stuck) shows deeds → ⊥
unfolding IsSoloFrom
no_solo enters [] deeds h = h
no_solo enters (show ∷ shows) deeds h = h

no_return : (setup : Setup) (tree : Program Bare) (shows : List Show) (deeds : List Deed) → tree ≡ Stuck → IsSoloFrom (small.enters setup) (Runs tree) shows deeds → ⊥
no_return setup tree shows deeds e h =
    let P : Program Bare → Type 0 = λ tree. IsSoloFrom (small.enters setup) (Runs tree) shows deeds in no_solo (small.enters setup) shows deeds (subst P e h)

abbrev waits : Machine → Answer → Program Machine
waits m answer = Stuck

abbrev SoloAs : Setup → List Show → Type 0
SoloAs setup shows = (k : ℕ) (tree : Program Bare) (other : Program Machine) (deeds : List Deed) → entries_in shows ≤ k → Alike setup k tree other → IsSoloFrom (small.enters setup) (Runs tree) shows deeds
    → IsSoloFrom language.enters (Runs other) shows deeds

-- an entry is made
entered : (setup : Setup) (shows : List Show) (entry : Entry) (k : ℕ) (levels : ℕ) (bare : Bare) (back : Bare → Answer → Program Bare) (m : Machine) (deeds : List Deed) → MayRun setup.zone setup.grants → Begins setup → IsOutermost levels bare back
    → Ready setup false k m → suc (entries_in shows) ≤ k → FitsEntry setup.zone entry → SoloAs setup shows
    → (tree : Program Bare) × small.enters setup entry levels bare back tree × IsSoloFrom (small.enters setup) (Runs tree) shows deeds
    → (tree : Program Machine) × language.enters entry LEVELS m waits tree × IsSoloFrom language.enters (Runs tree) shows deeds
entered setup shows (Script text) zero levels bare back m deeds may b outer r few fits then_solo h = absurd (omega (arith, few))
entered setup shows (Script text) (suc k) levels bare back m deeds may b outer r few fits then_solo (tree, (lines, reads, is), solo) =
    let other : Program Machine = script_entry language.FUEL LEVELS (body_of setup.zone lines) m waits in
    let Q : Program Bare → Type 0 = λ tree. IsSoloFrom (small.enters setup) (Runs tree) shows deeds in
    let alike = entry_alike setup k lines levels bare back m may (lines_sound setup.zone text lines reads fits.0) b outer r in
    (other, inl (body_of setup.zone lines, fits.1 lines reads, refl), then_solo k _ other deeds (omega (arith, few)) alike (subst Q is solo))
entered setup shows (Listener place event current) k levels bare back m deeds may b outer r few fits then_solo (tree, h, solo) = absurd h
entered setup shows (Timer place) k levels bare back m deeds may b outer r few fits then_solo (tree, h, solo) = absurd h
entered setup shows (Serve value operation) k levels bare back m deeds may b outer r few fits then_solo (tree, h, solo) = absurd h

pub solo_as : (setup : Setup) (shows : List Show) → MayRun setup.zone setup.grants → Begins setup → AreFit setup.zone shows → SoloAs setup shows
unfolding Alike IsSoloFrom
solo_as setup [] may b fits k (Asks request next) other deeds few (following, e, h) solo =
    let P : Program Machine → Type 0 = λ tree. IsSoloFrom language.enters (Runs tree) [] deeds in subst P (sym e) solo
solo_as setup [] may b fits k (Emits act levels bare back) other deeds few (m, r, e, same, over) solo =
    let P : Program Machine → Type 0 = λ tree. IsSoloFrom language.enters (Runs tree) [] deeds in subst P (sym e) solo
solo_as setup [] may b fits k Stuck other deeds few alike solo = absurd solo
solo_as setup (Answers answer ∷ shows) may b fits k (Asks request next) other deeds few (following, e, h) (more, first, solo) =
    let P : Program Machine → Type 0 = λ tree. IsSoloFrom language.enters (Runs tree) (Answers answer ∷ shows) deeds in
    subst P (sym e) (more, first, solo_as setup shows may b fits.1 k (next answer) (following answer) more few (h answer fits.0) solo)
solo_as setup (Enters entry ∷ shows) may b fits k (Emits act levels bare back) other deeds few (m, r, e, same, over) (more, first, h) =
    let P : Program Machine → Type 0 = λ tree. IsSoloFrom language.enters (Runs tree) (Enters entry ∷ shows) deeds in
    subst P (sym e) (more, first, entered setup shows entry k levels bare back m more may b (record { levels_are = same; over = over }) r few fits.0 (solo_as setup shows may b fits.1) h)
solo_as setup (Backs answer ∷ shows) may b fits k (Emits act levels bare back) other deeds few (m, r, e, same, over) (more, first, solo) = absurd (no_return setup (back bare answer) shows more (over answer) solo)
solo_as setup (Enters entry ∷ shows) may b fits k (Asks request next) other deeds few alike solo = absurd solo
solo_as setup (Backs answer ∷ shows) may b fits k (Asks request next) other deeds few alike solo = absurd solo
solo_as setup (Answers answer ∷ shows) may b fits k (Emits act levels bare back) other deeds few alike solo = absurd solo
solo_as setup (show ∷ shows) may b fits k Stuck other deeds few alike solo = absurd solo

-- the machine before anything
ready_fresh : (setup : Setup) → Begins setup → Ready setup false 1000 (fresh setup)
unfolding fresh
ready_fresh setup b = record {
  zone = refl;
  more = [];
  cells = sym (append-nil (fresh setup).cells);
  met = false;
  since = tt;
  things = sym (append-nil (fresh setup).things);
  room = b.room;
}

outermost : IsOutermost LEVELS Fresh (λ m answer. Stuck)
outermost = record { levels_are = refl; over = λ answer. refl }

pub small_solos : (setup : Setup) (shows : List Show) (deeds : List Deed) → MayRun setup.zone setup.grants → AreFit setup.zone shows → entries_in shows ≤ 1000 → IsSoloFrom (small.enters setup) small.beginning shows deeds
    → IsSoloFrom language.enters (language.beginning setup) shows deeds
unfolding IsSoloFrom
small_solos setup [] deeds may fits few solo = solo
small_solos setup (Enters entry ∷ shows) deeds may fits few solo =
    let b = begins setup may in
    entered setup shows entry 1000 LEVELS Fresh (λ m answer. Stuck) (fresh setup) deeds may b outermost (ready_fresh setup b) few fits.0 (solo_as setup shows may b fits.1) solo
small_solos setup (Backs answer ∷ shows) deeds may fits few solo = absurd (no_return setup Stuck shows deeds refl solo)
small_solos setup (Answers answer ∷ shows) deeds may fits few solo = absurd solo
