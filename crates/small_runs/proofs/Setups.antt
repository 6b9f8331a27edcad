-- What the actors of a small run are set up with, by both definitions.
use Rattle.std.proofs.Common.{◌≡◌, ◌⊎◌, ◌∙◌, inl, inr, ap, sym, refl, ℕ, ◌+◌, ◌-◌, ◌≤◌, Bool, true, false, List, [], ◌∷◌, arith, map, nat_eq, nat_le, if◌then◌else◌, slice_get, Option, Some, None}
use Prim.Native.Nat.{zero, suc}
use Rattle.std.proofs.lemmas.Bool.Decides.{nat_tests}
use Rattle.std.specs.Option.{option_map_or}
use Rattle.door.specs.declared.grants.GrantSet.{GrantSet}
use Rattle.door.specs.declared.values.Actor.{Actor}
use Rattle.door.specs.declared.zones.Zone.{Zone}
use Rattle.door.specs.declared.zones.Zone.TheVariants.{Page, XrayScript}
use Rattle.door.specs.declared.members.Member.TheVariants.{GmLog}
use Rattle.dom_semantics.specs.declared.selectors.Compound.{Compound}
use Rattle.dom_semantics.specs.Fits.{is_script}
use Rattle.dom_semantics.specs.Grants.{grants_of, has_grant, is_granted, no_grants}
use Rattle.js_semantics.specs.Intrinsics.{Setup}
use Rattle.small_forms.specs.declared.userscript.Userscript.{Userscript}
use Rattle.small_meaning.specs.Shows.{MayRun}
use Rattle.solo_model.specs.Acts.{setups_of}
use Rattle.solo_model.specs.Given as given
use Rattle.solo_model.specs.Given.{Given, granted_to, origin_of, zone_by, zone_of, zone_of_script}
use Rattle.solo_model.specs.Lawful.{Piece}
use Rattle.solo_model.specs.Openings.{is_plain}
use Rattle.solo_model.specs.Things.{the_page, userscript}
use Rattle.small_runs.proofs.Acting.{By}
use Rattle.small_runs.proofs.Closing.{AreApart}
use Rattle.small_runs.specs.SmallGiven.{given_of, input_of, log_grant, script_given, small_setups}

abbrev grants_in : List Userscript → List GrantSet
grants_in scripts = map (λ (script : given.Userscript). script.grants) (map script_given scripts)

-- each script that starts has the log
log_granted : (scripts : List Userscript) (m : ℕ) (text : List ℕ) → slice_get (map (λ (script : Userscript). script.text) scripts) m ≡ Some text → slice_get (grants_in scripts) m ≡ Some log_grant
log_granted [] m text e = absurd cc
log_granted (script ∷ scripts) zero text e = refl
log_granted (script ∷ scripts) (suc m) text e = log_granted scripts m text e

at_least : (m : ℕ) → nat_le 2 (m + 2) ≡ true
at_least m = grind (arith, nat_tests)

back : (m : ℕ) → m + 2 - 2 ≡ m
back m = omega arith

not_page : (m : ℕ) → nat_eq (m + 2) 1 ≡ false
not_page m = grind (arith, nat_tests)

script_grants : (address : List ℕ) (pieces : List Piece) (scripts : List Userscript) (read : List ℕ → Option (List (List Compound))) (m : ℕ) (text : List ℕ)
    → slice_get (map (λ (script : Userscript). script.text) scripts) m ≡ Some text → grants_of (origin_of (given_of address pieces scripts read)) (userscript m) ≡ Some log_grant
script_grants address pieces scripts read m text e =
    chosen (nat_le 2 (m + 2)) (at_least m) ∙ ap (slice_get (grants_in scripts)) (back m) ∙ log_granted scripts m text e
  where
    chosen : (b : Bool) → b ≡ true → (if b then slice_get (grants_in scripts) (m + 2 - 2) else None) ≡ slice_get (grants_in scripts) (m + 2 - 2)
    chosen true h = refl
    chosen false h = absurd cc

pub script_logs : (address : List ℕ) (pieces : List Piece) (scripts : List Userscript) (read : List ℕ → Option (List (List Compound))) (m : ℕ) (text : List ℕ)
    → slice_get (map (λ (script : Userscript). script.text) scripts) m ≡ Some text → is_granted (origin_of (given_of address pieces scripts read)) (userscript m) GmLog ≡ true
script_logs address pieces scripts read m text e = ap (λ o. option_map_or (λ grants. has_grant GmLog grants) o (has_grant GmLog no_grants)) (script_grants address pieces scripts read m text e)

pub script_is : (m : ℕ) → is_script (userscript m) ≡ true
script_is m = at_least m

zone_above : (grants : GrantSet) (m : ℕ) → zone_by grants (m + 2) ≡ zone_of_script grants
zone_above grants m = ap (zone_by grants) (two m)
  where
    two : (k : ℕ) → k + 2 ≡ suc (suc k)
    two k = omega arith

-- the page
pub same_page : (address : List ℕ) (pieces : List Piece) (scripts : List Userscript) (read : List ℕ → Option (List (List Compound)))
    → small_setups address the_page ≡ setups_of (given_of address pieces scripts read) the_page
same_page address pieces scripts read = refl

small_script : (address : List ℕ) (m : ℕ) → small_setups address (userscript m) ≡ record { zone = XrayScript; grants = log_grant; address = address }
small_script address m = rw (not_page m) refl

-- a userscript that starts
pub same_script : (address : List ℕ) (pieces : List Piece) (scripts : List Userscript) (read : List ℕ → Option (List (List Compound))) (m : ℕ) (text : List ℕ)
    → slice_get (map (λ (script : Userscript). script.text) scripts) m ≡ Some text → small_setups address (userscript m) ≡ setups_of (given_of address pieces scripts read) (userscript m)
same_script address pieces scripts read m text e =
    let run : Given = given_of address pieces scripts read in
    let granted : granted_to run (userscript m) ≡ log_grant = ap (λ o. option_map_or (λ (grants : GrantSet). grants) o no_grants) (script_grants address pieces scripts read m text e) in
    let zone : zone_of run (userscript m) ≡ XrayScript = zone_above (granted_to run (userscript m)) m ∙ ap zone_of_script granted in
    let with_grants : Zone → GrantSet → Setup = λ z g. record { zone = z; grants = g; address = address } in
    small_script address m ∙ sym (ap (λ z. with_grants z (granted_to run (userscript m))) zone ∙ ap (with_grants XrayScript) granted)

-- ---- no script runs among the page's own

none_alone : (scripts : List Userscript) (k : ℕ) → (option_map_or (λ (grants : GrantSet). grants) (slice_get (grants_in scripts) k) no_grants).no_grant ≡ false
none_alone [] k = refl
none_alone (script ∷ scripts) zero = refl
none_alone (script ∷ scripts) (suc k) = none_alone scripts k

granted_alone : (address : List ℕ) (pieces : List Piece) (scripts : List Userscript) (read : List ℕ → Option (List (List Compound))) (j : Actor)
    → (granted_to (given_of address pieces scripts read) j).no_grant ≡ false
granted_alone address pieces scripts read j = by (nat_le 2 j.0)
  where
    by : (b : Bool) → (option_map_or (λ (grants : GrantSet). grants) (if b then slice_get (grants_in scripts) (j.0 - 2) else None) no_grants).no_grant ≡ false
    by true = none_alone scripts (j.0 - 2)
    by false = refl

zone_apart : (grants : GrantSet) (n : ℕ) → grants.no_grant ≡ false → is_plain (zone_by grants n) ≡ false
zone_apart grants zero h = refl
zone_apart grants (suc zero) h = refl
zone_apart grants (suc (suc n)) h = rw h refl

pub given_apart : (address : List ℕ) (pieces : List Piece) (scripts : List Userscript) (read : List ℕ → Option (List (List Compound))) → AreApart (setups_of (given_of address pieces scripts read))
given_apart address pieces scripts read j = zone_apart (granted_to (given_of address pieces scripts read) j) j.0 (granted_alone address pieces scripts read j)

abbrev among : Bool → Setup → Setup → Setup
among b s t = if b then s else t

pub small_apart : (address : List ℕ) → AreApart (small_setups address)
small_apart address j = by (nat_eq j.0 1)
  where
    by : (b : Bool) → is_plain (among b (record { zone = Page; grants = no_grants; address = address }) (record { zone = XrayScript; grants = log_grant; address = address })).zone ≡ false
    by true = refl
    by false = refl

pub small_may_run : (address : List ℕ) (j : Actor) → MayRun (small_setups address j).zone (small_setups address j).grants
small_may_run address j = by (nat_eq j.0 1)
  where
    by : (b : Bool) → MayRun (among b (record { zone = Page; grants = no_grants; address = address }) (record { zone = XrayScript; grants = log_grant; address = address })).zone
        (among b (record { zone = Page; grants = no_grants; address = address }) (record { zone = XrayScript; grants = log_grant; address = address })).grants
    by true = tt
    by false = refl

pub small_zone_of_script : (address : List ℕ) (m : ℕ) → (small_setups address (userscript m)).zone ≡ XrayScript
small_zone_of_script address m = ap (λ (s : Setup). s.zone) (small_script address m)

-- ---- who acts, and who doesn't

abbrev actor : ℕ → Actor
actor n = record { 0 = n }

same_above : (n m : ℕ) → suc (suc n) ≡ m + 2 → n ≡ m
same_above n m e = omega (arith, e)

two_more : (m : ℕ) → suc (suc m) ≡ m + 2
two_more m = omega arith

no_one : (m : ℕ) → suc (suc m) ≡ 1 → ⊥
no_one m e = omega (arith, e)

number_of : (a b : Actor) → a ≡ b → a.0 ≡ b.0
number_of a b e = ap (λ (i : Actor). i.0) e

acts_or_not : (pieces : List Piece) (scripts : List Userscript) (n : ℕ) → 1 ≤ n → By (input_of pieces scripts) (actor n) ⊎ (By (input_of pieces scripts) (actor n) → ⊥)
acts_or_not pieces scripts zero h = absurd (omega (arith, h))
acts_or_not pieces scripts (suc zero) h = inl (inl refl)
acts_or_not pieces scripts (suc (suc m)) h = by (slice_get (map (λ (script : Userscript). script.text) scripts) m) refl
  where
    none : (o : Option (List ℕ)) → slice_get (map (λ (script : Userscript). script.text) scripts) m ≡ None → By (input_of pieces scripts) (actor (suc (suc m))) → ⊥
    none o e (inl is) = no_one m (number_of (actor (suc (suc m))) the_page is)
    none o e (inr (k, text, got, is)) =
        let same : m ≡ k = same_above m k (number_of (actor (suc (suc m))) (userscript k) is) in
        absurd_some text (sym e ∙ ap (slice_get (map (λ (script : Userscript). script.text) scripts)) same ∙ got)
      where
        absurd_some : (text : List ℕ) → None ≡ Some text → ⊥
        absurd_some text e = cc

    by : (o : Option (List ℕ)) → slice_get (map (λ (script : Userscript). script.text) scripts) m ≡ o
        → By (input_of pieces scripts) (actor (suc (suc m))) ⊎ (By (input_of pieces scripts) (actor (suc (suc m))) → ⊥)
    by (Some text) e = inl (inr (m, text, e, ap actor (two_more m)))
    by None e = inr (none None e)

pub acts_or_rests : (pieces : List Piece) (scripts : List Userscript) (i : Actor) → 1 ≤ i.0 → By (input_of pieces scripts) i ⊎ (By (input_of pieces scripts) i → ⊥)
acts_or_rests pieces scripts i h = acts_or_not pieces scripts i.0 h
