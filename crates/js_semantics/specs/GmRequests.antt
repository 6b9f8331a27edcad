-- What the functions of userscripts and the log of the console ask for (Greasemonkey manual; Console Standard, log).
use Rattle.std.specs.Prelude.{[], ◌∷◌, Option, Some, None}
use Rattle.door.specs.declared.members.Member.{Member}
use Rattle.door.specs.declared.members.Member.TheVariants as member
use Rattle.js_semantics.specs.Machine.{undefined}
use Rattle.js_semantics.specs.Requests.{argument, log_row}
use Rattle.js_semantics.specs.Arguments.{MemberRow, AsText, AsStorable, asks_window}

-- GM_log(x) and console.log(xs)
abbrev pub gm_log_row : MemberRow
gm_log_row ev this values m f c = log_row member.GmLog (argument values 0 ∷ []) m f c

abbrev pub console_log_row : MemberRow
console_log_row ev this values m f c = log_row member.ConsoleLog values m f c

-- GM_getValue(name, default): where nothing is kept, the default
abbrev pub get_value_row : MemberRow
get_value_row ev this values m f c = asks_window member.GmGetValue (AsText ∷ []) (argument values 1) ev this values m f c

abbrev pub gm_asks : Member → Option MemberRow
gm_asks member.GmLog = Some gm_log_row
gm_asks member.ConsoleLog = Some console_log_row
gm_asks member.GmGetValue = Some get_value_row
gm_asks member.GmSetValue = Some (asks_window member.GmSetValue (AsText ∷ AsStorable ∷ []) undefined)
gm_asks member.GmDeleteValue = Some (asks_window member.GmDeleteValue (AsText ∷ []) undefined)
gm_asks member.GmListValues = Some (asks_window member.GmListValues [] undefined)
gm_asks name = None
