-- What is found in the cells and things that a script begins with, whatever was made or met after them.
use Rattle.std.proofs.Common.{◌≡◌, refl, ℕ, Bool, true, false, List, [], ◌∷◌, ◌++◌, length, Option, Some, None, codes, slice_get}
use Rattle.std.specs.Char.{encode_utf8}
use Rattle.door.specs.declared.grants.GrantSet.{GrantSet}
use Rattle.door.specs.declared.zones.Zone.TheVariants.{Page, XrayScript}
use Rattle.door.specs.declared.members.Member.TheVariants.{WindowDocument, DocumentTitle, DocumentSetTitle, GmLog, ConsoleLog}
use Rattle.js_semantics.specs.Builtin.{Asks}
use Rattle.js_semantics.specs.Calls.{form_of_cell}
use Rattle.js_semantics.specs.Intrinsics.{Setup, fresh, intrinsics}
use Rattle.js_semantics.specs.Machine.{Cell, Form, GLOBAL_PLACE, Native, Reference, Own, Thing, Refers, Property, Datum, Accessor, MetThing, Slot, here_or_none, undefined}
use Rattle.js_semantics.specs.Members.{own_of_cell, own_of_thing, prototype_of_cell, prototype_of_thing}
use Rattle.small_meaning.proofs.Globals.{found_named}

abbrev pub own_at : List (Option Cell) → ℕ → List ℕ → Option Property
own_at cells place key = own_of_cell (here_or_none (slice_get cells place)) key

abbrev pub above_at : List (Option Cell) → ℕ → Option Reference
above_at cells place = prototype_of_cell (here_or_none (slice_get cells place))

abbrev pub form_at : List (Option Cell) → ℕ → Option Form
form_at cells place = form_of_cell (here_or_none (slice_get cells place))

-- the interfaces' members, and what asks for them
pub record HasMembers (cells : List (Option Cell)) : Type 0 where
  pub document : own_at cells 89 (codes "document") ≡ Some (Accessor (Some 93) None false)
  pub title : own_at cells 83 (codes "title") ≡ Some (Accessor (Some 137) (Some 138) false)
  pub log : own_at cells 52 (codes "log") ≡ Some (Datum (Refers (Own 53)) true false)
  pub asks_document : form_at cells 93 ≡ Some (Native (Asks WindowDocument))
  pub asks_title : form_at cells 137 ≡ Some (Native (Asks DocumentTitle))
  pub sets_title : form_at cells 138 ≡ Some (Native (Asks DocumentSetTitle))
  pub asks_log : form_at cells 53 ≡ Some (Native (Asks ConsoleLog))
  pub asks_gm_log : form_at cells 55 ≡ Some (Native (Asks GmLog))

abbrev pub own_of_met : List MetThing → ℕ → List ℕ → Option Property
own_of_met things k key = own_of_thing (slice_get things k) key

abbrev pub above_met : List MetThing → ℕ → Option Reference
above_met things k = prototype_of_thing (slice_get things k)

-- the page's global names stand on its window
pub record HasPageNames (things : List MetThing) : Type 0 where
  pub document : own_of_met things 0 (codes "document") ≡ None
  pub console : own_of_met things 0 (codes "console") ≡ Some (Datum (Refers (Own 52)) true false)
  pub above : above_met things 0 ≡ Some (Own 89)

-- a userscript's stand on its global above the window
pub record HasScriptNames (cells : List (Option Cell)) (things : List MetThing) : Type 0 where
  pub document : own_at cells 299 (codes "document") ≡ None
  pub gm_log : own_at cells 299 (codes "GM_log") ≡ Some (Datum (Refers (Own 55)) true false)
  pub above : above_at cells 299 ≡ Some (Thing 0)
  pub bare : own_of_met things 0 (codes "document") ≡ None
  pub window : above_met things 0 ≡ Some (Own 89)

-- the set-ups of the page and of a userscript that may log
abbrev pub page_of : Bool → GrantSet → List ℕ → Setup
page_of log grants address = record { zone = Page; grants = record grants { log = log }; address = address }

abbrev pub script_of : GrantSet → List ℕ → Setup
script_of grants address = record { zone = XrayScript; grants = record grants { log = true }; address = address }

pub page_members : (log : Bool) (grants : GrantSet) (address : List ℕ) (more : List (Option Cell)) → HasMembers ((fresh (page_of log grants address)).cells ++ more)
unfolding fresh encode_utf8
page_members log grants address more = record {
  document = refl;
  title = refl;
  log = refl;
  asks_document = refl;
  asks_title = refl;
  sets_title = refl;
  asks_log = refl;
  asks_gm_log = refl;
}

pub script_members : (grants : GrantSet) (address : List ℕ) (more : List (Option Cell)) → HasMembers ((fresh (script_of grants address)).cells ++ more)
unfolding fresh encode_utf8
script_members grants address more = record {
  document = refl;
  title = refl;
  log = refl;
  asks_document = refl;
  asks_title = refl;
  sets_title = refl;
  asks_log = refl;
  asks_gm_log = refl;
}

-- the global names begin with `undefined`
abbrev first_slots : List Slot
first_slots = record { key = codes "undefined"; property = Datum undefined false false } ∷ []

pub page_names : (log : Bool) (grants : GrantSet) (address : List ℕ) (met : List MetThing) → HasPageNames ((fresh (page_of log grants address)).things ++ met)
unfolding fresh encode_utf8
page_names log grants address met =
    let named = λ (key : List ℕ). found_named GLOBAL_PLACE 0 (intrinsics (page_of log grants address).grants address) first_slots key in
    record { document = named (codes "document"); console = named (codes "console"); above = refl }

pub script_names : (grants : GrantSet) (address : List ℕ) (more : List (Option Cell)) (met : List MetThing)
    → HasScriptNames ((fresh (script_of grants address)).cells ++ more) ((fresh (script_of grants address)).things ++ met)
unfolding fresh encode_utf8
script_names grants address more met =
    let named = λ (key : List ℕ). found_named GLOBAL_PLACE 0 (intrinsics (script_of grants address).grants address) first_slots key in
    record { document = named (codes "document"); gm_log = named (codes "GM_log"); above = refl; bare = refl; window = refl }

-- one thing is met, and there is room for many cells
pub page_things : (log : Bool) (grants : GrantSet) (address : List ℕ) → length (fresh (page_of log grants address)).things ≡ 1
unfolding fresh
page_things log grants address = refl

pub script_things : (grants : GrantSet) (address : List ℕ) → length (fresh (script_of grants address)).things ≡ 1
unfolding fresh
script_things grants address = refl

pub page_room : (log : Bool) (grants : GrantSet) (address : List ℕ) → (fresh (page_of log grants address)).room ≡ 999842
unfolding fresh
page_room log grants address = refl

pub script_room : (grants : GrantSet) (address : List ℕ) → (fresh (script_of grants address)).room ≡ 999841
unfolding fresh
script_room grants address = refl

pub page_cells : (log : Bool) (grants : GrantSet) (address : List ℕ) → length (fresh (page_of log grants address)).cells ≡ 300
unfolding fresh
page_cells log grants address = refl

pub script_cells : (grants : GrantSet) (address : List ℕ) → length (fresh (script_of grants address)).cells ≡ 300
unfolding fresh
script_cells grants address = refl
