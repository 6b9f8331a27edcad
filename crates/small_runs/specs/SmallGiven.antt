-- What a run of the small forms is given; this project's own.
use Rattle.std.specs.Prelude.{◌≢◌, ◌≤◌, ℕ, true, List, [], ◌∷◌, length, map, nat_eq, if◌then◌else◌, Option, Some, AllPairs}
use Rattle.base_text.specs.Scalars.{utf8_len}
use Rattle.door.specs.declared.grants.GrantSet.{GrantSet}
use Rattle.door.specs.declared.limits.TheConstants.{ADDRESS_LIMIT, USERSCRIPT_LIMIT}
use Rattle.door.specs.declared.marks.Mark.{Mark}
use Rattle.door.specs.declared.values.Actor.{Actor}
use Rattle.door.specs.declared.zones.Zone.TheVariants.{Page, XrayScript}
use Rattle.dom_semantics.specs.declared.selectors.Compound.{Compound}
use Rattle.dom_semantics.specs.Forest.{the_host}
use Rattle.dom_semantics.specs.Grants.{no_grants}
use Rattle.dom_semantics.specs.Stage.{IsReading}
use Rattle.small_forms.specs.declared.userscript.Userscript.{Userscript}
use Rattle.small_forms.specs.Scripts.{IsUserscript}
use Rattle.solo_model.specs.Closed.{ActsAreSolo, ActsAreSoloSoFar, Setups}
use Rattle.solo_model.specs.Given as given
use Rattle.solo_model.specs.Given.{DocumentEnd, Given}
use Rattle.solo_model.specs.Lawful.{Input, Piece}

-- a userscript of the small form is granted the log alone
abbrev pub log_grant : GrantSet
log_grant = record no_grants { log = true }

-- it starts at document-end, says no namespace, and keeps its values under its name
abbrev pub script_given : Userscript → given.Userscript
script_given script = record {
  starter = Some (record { text = script.text; moment = DocumentEnd });
  owner = record { namespace = []; name = script.name };
  grants = log_grant;
}

abbrev pub piece_given : Piece → given.Piece
piece_given piece = record { writes = piece.writes; script = piece.script }

-- a page in pieces and userscripts at an address; there is no scenario, and nothing was kept
abbrev pub given_of : List ℕ → List Piece → List Userscript → (List ℕ → Option (List (List Compound))) → Given
given_of address pieces scripts read = record {
  address = address;
  pieces = map piece_given pieces;
  scripts = map script_given scripts;
  lines = [];
  stores = [];
  read_selector = read;
}

-- the same as it was said before
abbrev pub input_of : List Piece → List Userscript → Input
input_of pieces scripts = record { pieces = pieces; starts = map (λ (script : Userscript). script.text) scripts }

-- each of them is a userscript of the form
abbrev pub AreUserscripts : List Userscript → Type 0
AreUserscripts [] = Unit {0}
AreUserscripts (script ∷ scripts) = IsUserscript script.text script.name script.lines × AreUserscripts scripts

-- selectors are read by the grammar, address and userscripts keep their limits, and no two userscripts say the same name
pub record IsSmall (address : List ℕ) (scripts : List Userscript) (read : List ℕ → Option (List (List Compound))) : Type 0 where
  pub reading : IsReading read
  pub short : utf8_len address ≤ ADDRESS_LIMIT
  pub few : length scripts ≤ USERSCRIPT_LIMIT
  pub forms : AreUserscripts scripts
  pub names : AllPairs (λ a b. a ≢ b) (map (λ (script : Userscript). script.name) scripts)

-- what the actors of a small run are set up with, as it was said before: the page is actor 1, and every other that runs is a userscript
abbrev pub small_setups : List ℕ → Setups
small_setups address i =
    if nat_eq i.0 1 then record { zone = Page; grants = no_grants; address = address } else record { zone = XrayScript; grants = log_grant; address = address }

-- every actor but the host does what its own machine does, as it was said before
abbrev pub AllActsAreSolo : List ℕ → List Mark → Type 0
AllActsAreSolo address marks = (i : Actor) → i ≢ the_host → ActsAreSolo (small_setups address) i marks

-- the same of a run that was cut off
abbrev pub AllActsAreSoloSoFar : List ℕ → List Mark → Type 0
AllActsAreSoloSoFar address marks = (i : Actor) → i ≢ the_host → ActsAreSoloSoFar (small_setups address) i marks
