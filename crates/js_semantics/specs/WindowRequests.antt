-- What the members of Window ask for (HTML, The Window object, Timers).
use Rattle.std.specs.Prelude.{[], ◌∷◌, Option, Some, None}
use Rattle.door.specs.declared.members.Member.{Member}
use Rattle.door.specs.declared.members.Member.TheVariants as member
use Rattle.js_semantics.specs.Arguments.{MemberRow, AsCallback, AsDelay, AsTimer, asks, reads}

abbrev pub window_asks : Member → Option MemberRow
window_asks member.WindowDocument = Some (reads member.WindowDocument)
window_asks member.WindowWindow = Some (reads member.WindowWindow)
window_asks member.WindowSelf = Some (reads member.WindowSelf)
window_asks member.WindowSetTimeout = Some (asks member.WindowSetTimeout (AsCallback ∷ AsDelay ∷ []))
window_asks member.WindowClearTimeout = Some (asks member.WindowClearTimeout (AsTimer ∷ []))
window_asks name = None
