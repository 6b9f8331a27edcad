-- The report's bytes, in the form of this project's own, as far as they can come: scripts that start, log, throw, are stopped, and are no scripts.
use Rattle.std.specs.Prelude.{◌+◌, ◌-◌, ℕ, List, [], ◌∷◌, ◌++◌, codes, nat_eq, nat_le, slice_get, if◌then◌else◌, encode_utf8_all, Option, Some, None}
use Rattle.std.specs.List.{flat_map}
use Rattle.std.specs.Fmt.{decimal}
use Rattle.door.specs.declared.values.Actor.{Actor}
use Rattle.door.specs.declared.values.Value.{Value}
use Rattle.door.specs.declared.values.Value.TheVariants.{Str}
use Rattle.door.specs.declared.members.Member.{Member}
use Rattle.door.specs.declared.members.Member.TheVariants.{GmLog, ConsoleLog}
use Rattle.door.specs.declared.requests.Request.{Request}
use Rattle.door.specs.declared.requests.Request.TheVariants.{Native}
use Rattle.door.specs.declared.marks.StopKind.{StopKind}
use Rattle.door.specs.declared.marks.StopKind.TheVariants.{Fuel, Levels, Cells}
use Rattle.door.specs.declared.marks.Outcome.{Outcome}
use Rattle.door.specs.declared.marks.Outcome.TheVariants.{Done, Throw, Stop, Syntax}
use Rattle.door.specs.declared.marks.Mark.{Mark}
use Rattle.door.specs.declared.marks.Mark.TheVariants.{Turn, Ask, Leave}

-- a backslash, LF and CR by a backslash and a letter
abbrev pub escaped_byte : ℕ → List ℕ
escaped_byte b = if nat_eq b 92 then codes "\\\\" else (if nat_eq b 10 then codes "\\n" else (if nat_eq b 13 then codes "\\r" else b ∷ []))

-- all bytes so
abbrev pub escaped : List ℕ → List ℕ
escaped bytes = flat_map escaped_byte bytes

-- who an actor is: the page is actor 1, and the userscripts follow it in byte order of their files
abbrev pub who_of : List (List ℕ) → Actor → Option (List ℕ)
who_of files actor = if nat_eq actor.0 1 then Some (codes "page") else (if nat_le 2 actor.0 then slice_get files (actor.0 - 2) else None)

-- a word, who it is, and the text
abbrev pub log_line : List ℕ → Option (List ℕ) → List ℕ → List ℕ
log_line word None text = []
log_line word (Some who) text = word ++ (32 ∷ (escaped who ++ (32 ∷ (escaped text ++ 10 ∷ []))))

-- what is logged: the text of a single argument
abbrev pub logged_line : Option (List ℕ) → List Value → List ℕ
logged_line who (Str text ∷ []) = log_line (codes "log") who (encode_utf8_all text)
logged_line who arguments = []

-- the line of a request, where it logs (Greasemonkey manual, GM_log; Console Standard, log)
abbrev pub member_line : Option (List ℕ) → Member → List Value → List ℕ
member_line who GmLog arguments = logged_line who arguments
member_line who ConsoleLog arguments = logged_line who arguments
member_line who member arguments = []

abbrev pub request_line : Option (List ℕ) → Request → List ℕ
request_line who (Native member thing arguments) = member_line who member arguments
request_line who request = []

abbrev pub stop_name : StopKind → List ℕ
stop_name Fuel = codes "fuel"
stop_name Levels = codes "levels"
stop_name Cells = codes "cells"

-- a fault of a script's text: its place and its name
abbrev pub fault_text : ℕ → List ℕ → List ℕ
fault_text at name = decimal at ++ (32 ∷ encode_utf8_all name)

-- the line of the end of an entry, where nothing caught a throw, a limit stopped it, or its text has a fault
abbrev pub outcome_line : Option (List ℕ) → Outcome → List ℕ
outcome_line who (Throw text) = log_line (codes "throw") who (encode_utf8_all text)
outcome_line who (Stop stop) = log_line (codes "stop") who (stop_name stop)
outcome_line who (Syntax at name) = log_line (codes "syntax") who (fault_text at name)
outcome_line who Done = []

-- the line of a mark, where it has one
abbrev pub mark_line : List (List ℕ) → Mark → List ℕ
mark_line files (Ask actor request given) = request_line (who_of files actor) request
mark_line files (Leave actor outcome units) = outcome_line (who_of files actor) outcome
mark_line files mark = []

-- how many turns there are
abbrev pub turns_in : List Mark → ℕ
turns_in [] = 0
turns_in (Turn task ∷ marks) = turns_in marks + 1
turns_in (mark ∷ marks) = turns_in marks

-- the line of a userscript that starts
abbrev pub script_line : List ℕ → List ℕ
script_line file = codes "script " ++ (escaped file ++ codes " started\n")

-- up to the log
abbrev pub report_head : List ℕ → List (List ℕ) → List ℕ
report_head address files = codes "pagehost 1\naddress " ++ (address ++ (10 ∷ flat_map script_line files))

-- after the log; the store is empty
abbrev pub report_tail : List ℕ → ℕ → List ℕ
report_tail document turns =
    codes "document\n" ++ (document ++ (codes "\nstore\n{\"form\":1,\"stores\":[]}\nend 0 tasks " ++ (decimal turns ++ 10 ∷ [])))

-- the report of a run at this address, whose userscripts are these files, and whose document is printed so
abbrev pub report_of : List ℕ → List (List ℕ) → List ℕ → List Mark → List ℕ
report_of address files document marks = report_head address files ++ (flat_map (mark_line files) marks ++ report_tail document (turns_in marks))
