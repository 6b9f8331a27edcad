-- The forms of scripts that are read until the language is built; this project's own.
use Rattle.std.specs.Prelude.{◌≡◌, ◌≤◌, ℕ, IsTrue, List, [], ◌∷◌, ◌++◌, length, codes}
use Rattle.std.specs.List.{flat_map}
use Rattle.std.specs.Fmt.{decimal}
use Rattle.small_forms.specs.declared.limits.TheConstants.{ADDED_LIMIT, SCRIPT_LIMIT}
use Rattle.small_forms.specs.declared.script.Part.{Part}
use Rattle.small_forms.specs.declared.script.Part.TheVariants.{Title, Number, Quoted}
use Rattle.small_forms.specs.declared.script.Sum.{Sum}
use Rattle.small_forms.specs.declared.script.Line.{Line}
use Rattle.small_forms.specs.declared.script.Line.TheVariants.{Log, SetTitle}
use Rattle.small_forms.specs.declared.bytes.Class.TheVariants.{Alphanumeric, AlphanumericOrBlank}
use Rattle.small_forms.specs.Bytes.{IsRun, are_in}

-- how a part of a sum is written
abbrev pub part_text : Part → List ℕ
part_text Title = codes "document.title"
part_text (Number n) = decimal n
part_text (Quoted text) = 34 ∷ (text ++ 34 ∷ [])

-- a number has at most three digits, and a quoted text letters, digits and blanks
abbrev pub IsPart : Part → Type 0
IsPart Title = Unit {0}
IsPart (Number n) = n ≤ 999
IsPart (Quoted text) = IsTrue (are_in AlphanumericOrBlank text)

-- each of them is one
abbrev pub AreParts : List Part → Type 0
AreParts [] = Unit {0}
AreParts (part ∷ parts) = IsPart part × AreParts parts

-- a part after the first
abbrev pub added_text : Part → List ℕ
added_text part = codes " + " ++ part_text part

-- how a sum is written
abbrev pub sum_text : Sum → List ℕ
sum_text sum = part_text sum.first ++ flat_map added_text sum.more

-- one part, and no more of them after it than may be added
pub record IsSum (sum : Sum) : Type 0 where
  pub first : IsPart sum.first
  pub more : AreParts sum.more
  pub few : length sum.more ≤ ADDED_LIMIT

-- what the line of a script adds up
abbrev pub sum_of : Line → Sum
sum_of (Log sum) = sum
sum_of (SetTitle sum) = sum

-- each line adds up a sum
abbrev pub AreLines : List Line → Type 0
AreLines [] = Unit {0}
AreLines (line ∷ lines) = IsSum (sum_of line) × AreLines lines

-- a line that calls this function to log, or that sets the title
abbrev pub line_text : List ℕ → Line → List ℕ
line_text logs (Log sum) = logs ++ (40 ∷ (sum_text sum ++ codes ");"))
line_text logs (SetTitle sum) = codes "document.title = " ++ (sum_text sum ++ codes ";")

-- the metadata block up to the name (Greasemonkey manual, Metadata Block)
abbrev pub block_start : List ℕ
block_start = codes "// ==UserScript==\n// @name "

-- the metadata block after the name
abbrev pub block_end : List ℕ
block_end = codes "\n// @grant GM_log\n// ==/UserScript==\n"

-- a line of a userscript (Greasemonkey manual, GM_log)
abbrev pub userscript_line : Line → List ℕ
userscript_line line = line_text (codes "GM_log") line ++ 10 ∷ []

-- the userscript of this name and these lines
abbrev pub userscript_text : List ℕ → List Line → List ℕ
userscript_text name lines = block_start ++ (name ++ (block_end ++ flat_map userscript_line lines))

-- the text of a userscript of this name and these lines, no longer than a userscript may be; all its bytes are ASCII
pub record IsUserscript (text name : List ℕ) (lines : List Line) : Type 0 where
  pub named : IsRun Alphanumeric name
  pub adds : AreLines lines
  pub whole : text ≡ userscript_text name lines
  pub short : length text ≤ SCRIPT_LIMIT

-- a line of the page's script (Console Standard, log)
abbrev pub page_line : Line → List ℕ
page_line line = line_text (codes "console.log") line

-- the lines of the page's script, each but the last with its LF
abbrev pub page_script_text : List Line → List ℕ
page_script_text [] = []
page_script_text (line ∷ []) = page_line line
page_script_text (line ∷ (next ∷ lines)) = page_line line ++ (10 ∷ page_script_text (next ∷ lines))

-- the text of a script element of these lines, all bytes of it ASCII
pub record IsPageScript (text : List ℕ) (lines : List Line) : Type 0 where
  pub adds : AreLines lines
  pub whole : text ≡ page_script_text lines
