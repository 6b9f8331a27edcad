-- How long an actor is closed; this project's own (after MDN, Xray vision).
use Rattle.std.specs.Prelude.{◌≡◌, ◌&&◌, ◌||◌, Bool, true, false, List}
use Rattle.std.specs.List.{list_any}
use Rattle.door.specs.declared.values.TheConstants.{PAGE}
use Rattle.door.specs.declared.values.Actor.{Actor}
use Rattle.door.specs.declared.zones.Zone.{Zone}
use Rattle.door.specs.declared.zones.Zone.TheVariants.{PlainScript}
use Rattle.door.specs.declared.requests.Request.{Request}
use Rattle.door.specs.declared.requests.Request.TheVariants.{Reach}
use Rattle.door.specs.declared.marks.Mark.{Mark}
use Rattle.door.specs.declared.marks.Mark.TheVariants.{Enter, Ask}
use Rattle.dom_semantics.specs.Fits.{is_script}
use Rattle.dom_semantics.specs.Things.{is_actor}

abbrev pub Zones : Type 0
Zones = Actor → Zone

-- a script that runs among the page's own is as one that has reached out
abbrev pub is_plain : Zone → Bool
is_plain PlainScript = true
is_plain zone = false

abbrev pub is_reach : Request → Bool
is_reach (Reach operation) = true
is_reach request = false

-- where a userscript reaches out, the page is closed no longer, and neither is that script
abbrev pub concerns : Actor → Actor → Bool
concerns i script = is_script script && (is_actor i PAGE || is_actor i script)

-- whether the actor is closed no longer by this mark: a userscript asks for a way out, or one that runs among the page's own is entered
abbrev pub opens : Zones → Actor → Mark → Bool
opens zones i (Ask j request answer) = is_reach request && concerns i j
opens zones i (Enter j entry) = is_plain (zones j) && concerns i j
opens zones i mark = false

-- some mark has opened the actor
abbrev pub has_opened : Zones → Actor → List Mark → Bool
has_opened zones i marks = list_any (opens zones i) marks

abbrev pub IsClosed : Zones → Actor → List Mark → Type 0
IsClosed zones i marks = has_opened zones i marks ≡ false
