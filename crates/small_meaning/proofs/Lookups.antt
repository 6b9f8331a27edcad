-- What names and members of a small script come to, in a machine that small scripts have left.
use Rattle.std.proofs.Common.{◌≡◌, ◌∙◌, refl, sym, subst, ap, ℕ, ◌+◌, ◌≤◌, suc, zero, Bool, true, false, List, ◌++◌, length, length-append, arith, Option, Some, None, codes}
use Rattle.door.specs.declared.grants.GrantSet.{GrantSet}
use Rattle.door.specs.declared.zones.Zone.{Zone}
use Rattle.door.specs.declared.zones.Zone.TheVariants.{Host, Page, XrayScript, PlainScript}
use Rattle.js_semantics.specs.Evaluator.{With, Cont}
use Rattle.js_semantics.specs.Intrinsics.{Setup, fresh}
use Rattle.js_semantics.specs.Machine.{Machine, Cell, MetThing, Reference, Own, Thing, Refers, Property, Datum, Accessor, global_in, global_of}
use Rattle.js_semantics.specs.Members.{Found, Passing, Stands, found_within, found, find_by, on_found, beyond_within, chain_bound, own_property, prototype_of, along}
use Rattle.js_semantics.specs.Names.{bound_within}
use Rattle.small_meaning.specs.Shows.{MayRun}
use Rattle.small_meaning.proofs.Cells.{HasMembers, HasPageNames, HasScriptNames, own_of_met, page_cells, page_members, page_names, page_of, page_room, page_things, script_cells, script_members, script_names, script_of, script_room, script_things}
use Rattle.small_meaning.proofs.Alike.{Ready, met_things}

-- ---- chains of prototypes

pub bound_none : (n : ℕ) (m : Machine) (name : List ℕ) → bound_within n m None name ≡ None
unfolding bound_within
bound_none zero m name = refl
bound_none (suc n) m name = refl

pub here_own : (n : ℕ) (m : Machine) (place : ℕ) (key : List ℕ) (p : Property) → own_property m (Own place) key ≡ Some p → found_within (suc n) m (Own place) key ≡ Stands p
unfolding found_within
here_own n m place key p e = ap (λ o. along o (prototype_of m (Own place)) (λ next. found_within n m next key)) e

here_thing : (n : ℕ) (m : Machine) (k : ℕ) (key : List ℕ) (p : Property) → own_property m (Thing k) key ≡ Some p → found_within (suc n) m (Thing k) key ≡ Stands p
unfolding found_within
here_thing n m k key p e = ap (λ o. along o (prototype_of m (Thing k)) (λ next. found_within n m next key)) e

above_own : (n : ℕ) (m : Machine) (place : ℕ) (key : List ℕ) (r : Reference) → own_property m (Own place) key ≡ None → prototype_of m (Own place) ≡ Some r → found_within (suc n) m (Own place) key ≡ found_within n m r key
unfolding found_within
above_own n m place key r e a =
    ap (λ o. along o (prototype_of m (Own place)) (λ next. found_within n m next key)) e ∙ ap (λ q. along None q (λ next. found_within n m next key)) a

pub above_thing : (n : ℕ) (m : Machine) (k : ℕ) (key : List ℕ) (r : Reference) → own_property m (Thing k) key ≡ None → prototype_of m (Thing k) ≡ Some r → found_within (suc n) m (Thing k) key ≡ found_within n m r key
unfolding found_within
above_thing n m k key r e a =
    ap (λ o. along o (prototype_of m (Thing k)) (λ next. found_within n m next key)) e ∙ ap (λ q. along None q (λ next. found_within n m next key)) a

-- a chain of three is looked at whole
pub three : (n : ℕ) → 3 ≤ n → (j : ℕ) × (n ≡ suc (suc (suc j)))
three zero h = absurd (omega (arith, h))
three (suc zero) h = absurd (omega (arith, h))
three (suc (suc zero)) h = absurd (omega (arith, h))
three (suc (suc (suc j))) h = (j, refl)

-- what is found is what stands
pub find_stands : (passing : Passing) (r : Reference) (key : List ℕ) (k : With Found) (c : Cont) (m : Machine) (f : ℕ) (p : Property) → found m r key ≡ Stands p → find_by passing r key k c m f ≡ k (Stands p) m f
find_stands passing r key k c m f p e = ap (λ x. on_found (beyond_within (chain_bound m) passing key k c) k x m f) e

-- ---- what stands in the machine

-- what a machine holds of its beginning
pub record Holds (setup : Setup) (m : Machine) : Type 0 where
  pub more : List (Option Cell)
  pub met : List MetThing
  pub zone : m.zone ≡ setup.zone
  pub cells : m.cells ≡ (fresh setup).cells ++ more
  pub things : m.things ≡ (fresh setup).things ++ met

-- the function that a script logs with stands under its name
abbrev pub LogStands : Zone → Machine → Type 0
LogStands Page m = found m (global_of m) (codes "console") ≡ Stands (Datum (Refers (Own 52)) true false)
LogStands zone m = found m (global_of m) (codes "GM_log") ≡ Stands (Datum (Refers (Own 55)) true false)

-- what is known of every such machine
pub record Knows (setup : Setup) (m : Machine) : Type 0 where
  pub bound : 3 ≤ chain_bound m
  pub members : HasMembers m.cells
  pub document : found m (global_of m) (codes "document") ≡ Stands (Accessor (Some 93) None false)
  pub log : LogStands setup.zone m

long_enough : (m : Machine) (cells more : List (Option Cell)) → m.cells ≡ cells ++ more → length cells ≡ 300 → 3 ≤ chain_bound m
long_enough m cells more e n =
    let long : length m.cells ≡ length cells + length more = ap length e ∙ length-append cells more in omega (arith, long, n)

page_knows : (log : Bool) (grants : GrantSet) (address : List ℕ) (m : Machine) → Holds (page_of log grants address) m → Knows (page_of log grants address) m
page_knows log grants address m h = record {
  bound = bound;
  members = members;
  document = subst (λ (r : Reference). found m r (codes "document") ≡ Stands (Accessor (Some 93) None false)) (sym global) (
      ap (λ n. found_within n m (Thing 0) (codes "document")) chain.1
      ∙ above_thing (suc (suc chain.0)) m 0 (codes "document") (Own 89) (met (codes "document") ∙ names.document) (ap (λ ts. prototype_of (record m { things = ts }) (Thing 0)) h.things ∙ names.above)
      ∙ here_own (suc chain.0) m 89 (codes "document") (Accessor (Some 93) None false) members.document);
  log = subst (λ (r : Reference). found m r (codes "console") ≡ Stands (Datum (Refers (Own 52)) true false)) (sym global) (
      ap (λ n. found_within n m (Thing 0) (codes "console")) chain.1
      ∙ here_thing (suc (suc chain.0)) m 0 (codes "console") (Datum (Refers (Own 52)) true false) (met (codes "console") ∙ names.console));
}
  where
    setup : Setup
    setup = page_of log grants address

    bound : 3 ≤ chain_bound m
    bound = long_enough m (fresh setup).cells h.more h.cells (page_cells log grants address)

    chain : (j : ℕ) × (chain_bound m ≡ suc (suc (suc j)))
    chain = three (chain_bound m) bound

    members : HasMembers m.cells
    members = subst (λ (cells : List (Option Cell)). HasMembers cells) (sym h.cells) (page_members log grants address h.more)

    names : HasPageNames ((fresh setup).things ++ h.met)
    names = page_names log grants address h.met

    global : global_of m ≡ Thing 0
    global = ap global_in h.zone

    met : (key : List ℕ) → own_property m (Thing 0) key ≡ own_of_met ((fresh setup).things ++ h.met) 0 key
    met key = ap (λ ts. own_of_met ts 0 key) h.things

script_knows : (grants : GrantSet) (address : List ℕ) (m : Machine) → Holds (script_of grants address) m → Knows (script_of grants address) m
script_knows grants address m h = record {
  bound = bound;
  members = members;
  document = subst (λ (r : Reference). found m r (codes "document") ≡ Stands (Accessor (Some 93) None false)) (sym global) (
      ap (λ n. found_within n m (Own 299) (codes "document")) chain.1
      ∙ above_own (suc (suc chain.0)) m 299 (codes "document") (Thing 0) names.document names.above
      ∙ above_thing (suc chain.0) m 0 (codes "document") (Own 89) names.bare names.window
      ∙ here_own chain.0 m 89 (codes "document") (Accessor (Some 93) None false) members.document);
  log = subst (λ (r : Reference). found m r (codes "GM_log") ≡ Stands (Datum (Refers (Own 55)) true false)) (sym global) (
      ap (λ n. found_within n m (Own 299) (codes "GM_log")) chain.1
      ∙ here_own (suc (suc chain.0)) m 299 (codes "GM_log") (Datum (Refers (Own 55)) true false) names.gm_log);
}
  where
    setup : Setup
    setup = script_of grants address

    bound : 3 ≤ chain_bound m
    bound = long_enough m (fresh setup).cells h.more h.cells (script_cells grants address)

    chain : (j : ℕ) × (chain_bound m ≡ suc (suc (suc j)))
    chain = three (chain_bound m) bound

    members : HasMembers m.cells
    members = subst (λ (cells : List (Option Cell)). HasMembers cells) (sym h.cells) (script_members grants address h.more)

    names : HasScriptNames m.cells m.things
    names =
        let P : List (Option Cell) → Type 0 = λ cells. HasScriptNames cells m.things in
        let Q : List MetThing → Type 0 = λ things. HasScriptNames ((fresh setup).cells ++ h.more) things in
        subst P (sym h.cells) (subst Q (sym h.things) (script_names grants address h.more h.met))

    global : global_of m ≡ Own 299
    global = ap global_in h.zone

-- ---- in each set-up

-- what is known of a set-up
pub record Begins (setup : Setup) : Type 0 where
  pub knows : (m : Machine) → Holds setup m → Knows setup m
  pub things : length (fresh setup).things ≡ 1
  pub room : 1001 ≤ (fresh setup).room

page_begins : (log : Bool) (grants : GrantSet) (address : List ℕ) → Begins (page_of log grants address)
page_begins log grants address = record {
  knows = page_knows log grants address;
  things = page_things log grants address;
  room = let room = page_room log grants address in omega (arith, room);
}

script_begins : (grants : GrantSet) (address : List ℕ) → Begins (script_of grants address)
script_begins grants address = record {
  knows = script_knows grants address;
  things = script_things grants address;
  room = let room = script_room grants address in omega (arith, room);
}

begins_in : (zone : Zone) (grants : GrantSet) (address : List ℕ) → MayRun zone grants → Begins (record { zone = zone; grants = grants; address = address })
begins_in Page grants address h = page_begins grants.log grants address
begins_in XrayScript grants address h =
    let P : Bool → Type 0 = λ log. Begins (record { zone = XrayScript; grants = record grants { log = log }; address = address }) in
    subst P (sym h) (script_begins grants address)
begins_in Host grants address h = absurd h
begins_in PlainScript grants address h = absurd h

pub begins : (setup : Setup) → MayRun setup.zone setup.grants → Begins setup
begins setup h = begins_in setup.zone setup.grants setup.address h

-- ---- a machine that small scripts have left

pub ready_holds : (setup : Setup) (least : Bool) (k : ℕ) (m : Machine) → Ready setup least k m → Holds setup m
ready_holds setup least k m r = record { more = r.more; met = met_things r.met; zone = r.zone; cells = r.cells; things = r.things }

pub ready_knows : (setup : Setup) (least : Bool) (k : ℕ) (m : Machine) → Begins setup → Ready setup least k m → Knows setup m
ready_knows setup least k m b r = b.knows m (ready_holds setup least k m r)
