-- How one actor sees what another owns.
use Rattle.std.specs.Prelude.{Bool, true, false}
use Rattle.door.specs.declared.values.Look.{Look}
use Rattle.door.specs.declared.values.Look.TheVariants.{Own, Xray, Transparent, Denied}
use Rattle.door.specs.declared.zones.Zone.{Zone}
use Rattle.door.specs.declared.zones.Zone.TheVariants.{Page, XrayScript, PlainScript}

-- MDN, Xray vision; that scripts of one page can't see each other is this project's own: the look of a reader at an owner, and whether the two are one actor
abbrev pub look_of : Zone → Zone → Bool → Look
look_of reader owner true = Own
look_of XrayScript Page false = Xray
look_of PlainScript Page false = Transparent
look_of Page PlainScript false = Transparent
look_of reader owner false = Denied
