-- What a run is given, as plain lists; this project's own in form.
use Rattle.std.specs.Prelude.{◌≡◌, ◌+◌, ◌&&◌, ℕ, Bool, true, false, not, List, [], ◌∷◌, All, map, nat_lt, filter, if◌then◌else◌, Option, None, is_some, is_none}
use Rattle.std.specs.List.{list_any}
use Rattle.std.specs.Option.{option_map_or}
use Rattle.std.specs.Str.{bytes_eq}
use Prim.Native.Nat.{zero, suc}
use Rattle.door.specs.declared.values.Actor.{Actor}
use Rattle.door.specs.declared.grants.GrantSet.{GrantSet}
use Rattle.door.specs.declared.zones.Zone.{Zone}
use Rattle.door.specs.declared.zones.Zone.TheVariants.{Host, Page, XrayScript, PlainScript}
use Rattle.door.specs.declared.requests.Request.{Request}
use Rattle.door.specs.declared.marks.Task.TheVariants as task
use Rattle.door.specs.declared.marks.Mark.{Mark}
use Rattle.door.specs.declared.marks.Mark.TheVariants.{Turn}
use Rattle.dom_semantics.specs.declared.kept.Owner.{Owner}
use Rattle.dom_semantics.specs.declared.selectors.Compound.{Compound}
use Rattle.dom_semantics.specs.Grants.{grants_of, no_grants}
use Rattle.dom_semantics.specs.Stage.{Origin, Setting, IsSetting}
use Rattle.dom_semantics.specs.Stores.{Stores, are_ascending, is_owner}

-- a piece of the page: the requests that build it, where a node goes by its number among the page's own nodes, and the script at its end
pub record Piece : Type 0 where
  pub writes : List Request
  pub script : Option (List ℕ)

-- when a userscript starts (Greasemonkey manual, @run-at)
pub data Moment : Type 0 where
  DocumentStart : Moment
  DocumentEnd : Moment
  DocumentIdle : Moment

-- how a userscript starts: its text and its moment
pub record Starter : Type 0 where
  pub text : List ℕ
  pub moment : Moment

-- a userscript: how it starts, if it does; whose values its own are, which have no name where it was refused; and what it was granted
pub record Userscript : Type 0 where
  pub starter : Option Starter
  pub owner : Owner
  pub grants : GrantSet

-- a line of the scenario, with its number in the file; the alternatives of its selector are chains of compounds
pub data Line : Type 0 where
  Click : (number : ℕ) → List (List Compound) → Line
  Input : (number : ℕ) → List (List Compound) → (text : List ℕ) → Line
  Event : (number : ℕ) → List (List Compound) → (kind : List ℕ) → Line
  Tick : (number : ℕ) → (milliseconds : ℕ) → Line

-- the page's address, the page in pieces, the userscripts in the order of their file names, the lines of the scenario, the loaded store, and
-- how selectors are read
pub record Given : Type 0 where
  pub address : List ℕ
  pub pieces : List Piece
  pub scripts : List Userscript
  pub lines : List Line
  pub stores : Stores
  pub read_selector : List ℕ → Option (List (List Compound))

-- ---- actors

abbrev pub origin_of : Given → Origin
origin_of given = record {
  address = given.address;
  owners = map (λ (script : Userscript). script.owner) given.scripts;
  grants = map (λ (script : Userscript). script.grants) given.scripts;
  read_selector = given.read_selector;
}

-- what an actor was granted; the page has no grants
abbrev pub granted_to : Given → Actor → GrantSet
granted_to given i = option_map_or (λ grants. grants) (grants_of (origin_of given) i) no_grants

-- a script whose metadata says `@grant none` runs among the page's own (Greasemonkey manual, @grant)
abbrev pub zone_of_script : GrantSet → Zone
zone_of_script grants = if grants.no_grant then PlainScript else XrayScript

abbrev pub zone_by : GrantSet → ℕ → Zone
zone_by grants zero = Host
zone_by grants (suc zero) = Page
zone_by grants (suc (suc n)) = zone_of_script grants

abbrev pub zone_of : Given → Actor → Zone
zone_of given i = zone_by (granted_to given i) i.0

-- ---- the clock

abbrev pub line_number : Line → ℕ
line_number (Click k chains) = k
line_number (Input k chains text) = k
line_number (Event k chains kind) = k
line_number (Tick k n) = k

-- how far a line moves the clock
abbrev pub ticks_of : Line → ℕ
ticks_of (Tick k n) = n
ticks_of line = 0

-- the clock where the line of a number begins: the sum of the ticks before it
abbrev pub clock_before : ℕ → List Line → ℕ
clock_before k [] = 0
clock_before k (line ∷ lines) = if nat_lt (line_number line) k then ticks_of line + clock_before k lines else clock_before k lines

-- the clock that a mark sets, with its place
abbrev pub clock_by : List Line → ℕ → Mark → List (ℕ × ℕ) → List (ℕ × ℕ)
clock_by lines at (Turn (task.Line k)) clocks = (at, clock_before k lines) ∷ clocks
clock_by lines at mark clocks = clocks

abbrev pub clocks_from : List Line → ℕ → List Mark → List (ℕ × ℕ)
clocks_from lines at [] = []
clocks_from lines at (mark ∷ marks) = clock_by lines at mark (clocks_from lines (suc at) marks)

-- what the stage of a run is given: a line's turn sets the clock, and that of a timer needs no word of the host
abbrev pub setting_of : Given → List Mark → Setting
setting_of given marks = record { origin = origin_of given; stores = given.stores; clocks = clocks_from given.lines 0 marks }

-- ---- what holds of it

-- a script's text ends each piece but the last, which has none
abbrev pub are_cut : List Piece → Bool
are_cut [] = false
are_cut (piece ∷ []) = is_none piece.script
are_cut (piece ∷ pieces) = is_some piece.script && are_cut pieces

-- each script that was read has a name (Greasemonkey manual, @name)
abbrev pub was_read : Userscript → Bool
was_read script = not (bytes_eq [] script.owner.name)

-- one that was refused doesn't start, keeps no values and was granted nothing
abbrev pub refused_script : Userscript
refused_script = record { starter = None; owner = record { namespace = []; name = [] }; grants = no_grants }

abbrev pub IsReadOrRefused : Userscript → Type 0
IsReadOrRefused script = was_read script ≡ false → script ≡ refused_script

-- whose values they are, of the scripts that were read, also of those that don't start
abbrev pub owners_in : List Userscript → List Owner
owners_in scripts = map (λ (script : Userscript). script.owner) (filter was_read scripts)

-- none of these is another's equal
abbrev pub are_apart : List Owner → Bool
are_apart [] = true
are_apart (owner ∷ owners) = not (list_any (is_owner owner) owners) && are_apart owners

-- Reading and loading establish these. The limits are kept, selectors are read by their grammar, `@grant none` stands alone and the store is in
-- order. The page is cut at its scripts. No two userscripts that were read share their values. Lines are counted from 1, upwards.
pub record IsGiven (given : Given) : Type 0 where
  pub setting : IsSetting (setting_of given [])
  pub pieces : are_cut given.pieces ≡ true
  pub refused : All IsReadOrRefused given.scripts
  pub owners : are_apart (owners_in given.scripts) ≡ true
  pub lines : are_ascending nat_lt (0 ∷ map line_number given.lines) ≡ true
