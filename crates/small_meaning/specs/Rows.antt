-- What the scripts that are read mean: a table with a row for each form (ECMAScript), where each row is given what goes on after it.
-- The costs are this project's own: one unit for each evaluated expression and statement when it begins, one for each request, and one
-- for each started 64 bytes of a text that is made. Expressions of these forms nest too little to come to the limit of levels.
use Rattle.std.specs.Prelude.{◌≡◌, ◌+◌, ◌-◌, ◌/◌, ℕ, List, [], ◌∷◌, ◌++◌, nat_le, nat_lt, if◌then◌else◌}
use Rattle.std.specs.Fmt.{decimal}
use Rattle.base_text.specs.Scalars.{utf8_len}
use Rattle.base_text.specs.declared.text.TheConstants.{TEXT_LIMIT}
use Rattle.door.specs.declared.zones.Zone.{Zone}
use Rattle.door.specs.declared.zones.Zone.TheVariants.{Page, XrayScript}
use Rattle.door.specs.declared.values.Kind.{Kind}
use Rattle.door.specs.declared.values.Kind.TheVariants.{Document}
use Rattle.door.specs.declared.values.Thing.{Thing}
use Rattle.door.specs.declared.values.Value.TheVariants.{Thing as ThingValue, Str as StrValue, Undefined}
use Rattle.door.specs.declared.members.Member.{Member}
use Rattle.door.specs.declared.members.Member.TheVariants.{WindowDocument, DocumentTitle, DocumentSetTitle, GmLog, ConsoleLog}
use Rattle.door.specs.declared.requests.ErrorKind.{ErrorKind}
use Rattle.door.specs.declared.requests.ErrorKind.TheVariants.{Limit, TooDeep, TooLong}
use Rattle.door.specs.declared.requests.Request.{Request}
use Rattle.door.specs.declared.requests.Request.TheVariants.{Native}
use Rattle.door.specs.declared.requests.Answer.{Answer}
use Rattle.door.specs.declared.requests.Answer.TheVariants.{Value as ValueAnswer, Throw as ThrowAnswer}
use Rattle.door.specs.declared.marks.StopKind.{StopKind}
use Rattle.door.specs.declared.marks.StopKind.TheVariants.{Fuel}
use Rattle.door.specs.declared.marks.Outcome.{Outcome}
use Rattle.door.specs.declared.marks.Outcome.TheVariants.{Done as DoneOutcome, Throw, Stop}
use Rattle.door.specs.declared.marks.Entry.TheVariants.{Script}
use Rattle.small_forms.specs.declared.script.Part.{Part}
use Rattle.small_forms.specs.declared.script.Part.TheVariants.{Title, Number, Quoted}
use Rattle.small_forms.specs.declared.script.Sum.{Sum}
use Rattle.small_forms.specs.declared.script.Line.{Line}
use Rattle.small_forms.specs.declared.script.Line.TheVariants.{Log, SetTitle}
use Rattle.small_forms.specs.Scripts.{IsPageScript, IsUserscript}
use Rattle.small_meaning.specs.declared.prim.Prim.{Prim}
use Rattle.small_meaning.specs.declared.prim.Prim.TheVariants.{Number as NumberPrim, Str as StrPrim}
use Rattle.small_meaning.specs.Errors.{error_text}
use Rattle.solo_model.specs.Things.{the_window}
use Rattle.js_semantics.specs.Intrinsics.{Setup}
use Rattle.js_semantics.specs.Entries.{FUEL, LEVELS}
use Rattle.js_semantics.specs.Solo.{Leaves, Program, Asks, Emits, Stuck, State, Awaits, Entering}

-- what the machine of these scripts holds: nothing that changes
pub data Bare : Type 0 where
  Fresh : Bare

-- how an evaluation ends: with a value, without one, by a throw, or by a stop
pub data Done : Type 0 where
  Gives : Prim → Done
  Next : Done
  Throws : ErrorKind → Done
  Halts : StopKind → Done

-- what follows an evaluation: of how it ended, and of the fuel that is left
abbrev pub Cont : Type 0
Cont = Done → ℕ → Program Bare

-- goes on with a value, and passes on what is none
abbrev pub bind : (Prim → ℕ → Program Bare) → Cont → Cont
bind k c (Gives value) = k value
bind k c Next = c Next
bind k c (Throws reason) = c (Throws reason)
bind k c (Halts stop) = c (Halts stop)

-- goes on after a statement that ended at its end
abbrev pub follow : (ℕ → Program Bare) → Cont → Cont
follow k c (Gives value) = k
follow k c Next = k
follow k c (Throws reason) = c (Throws reason)
follow k c (Halts stop) = c (Halts stop)

-- units are charged; a charge above what is left uses all and stops
unfoldable pub charge : ℕ → (ℕ → Program Bare) → Cont → ℕ → Program Bare
charge units k c fuel = if nat_le units fuel then k (fuel - units) else c (Halts Fuel) 0

-- the units of a text that is made
abbrev pub text_units : List ℕ → ℕ
text_units text = (utf8_len text + 63) / 64

-- a request is charged and made
abbrev pub ask : Request → (Answer → ℕ → Program Bare) → Cont → ℕ → Program Bare
ask request k c = charge 1 (λ fuel. Asks request (λ given. k given fuel)) c

-- goes on with a document
abbrev pub of_document : Kind → Program Bare → Program Bare
of_document Document tree = tree
of_document kind tree = Stuck

-- goes on with the document that is answered; it isn't refused
abbrev pub with_document : (Thing → ℕ → Program Bare) → Answer → ℕ → Program Bare
with_document k (ValueAnswer (ThingValue thing)) fuel = of_document thing.kind (k thing fuel)
with_document k given fuel = Stuck

-- goes on with the text that is answered, unless it would be too long
abbrev pub with_text : (List ℕ → ℕ → Program Bare) → Cont → Answer → ℕ → Program Bare
with_text k c (ValueAnswer (StrValue text)) fuel = k text fuel
with_text k c (ThrowAnswer TooLong) fuel = c (Throws TooLong) fuel
with_text k c given fuel = Stuck

-- goes on after a log, which isn't refused
abbrev pub with_nothing : (ℕ → Program Bare) → Answer → ℕ → Program Bare
with_nothing k (ValueAnswer Undefined) fuel = k fuel
with_nothing k given fuel = Stuck

-- goes on after the title is written, unless there would be too many nodes, or one too deep
abbrev pub with_title : (ℕ → Program Bare) → Cont → Answer → ℕ → Program Bare
with_title k c (ValueAnswer Undefined) fuel = k fuel
with_title k c (ThrowAnswer Limit) fuel = c (Throws Limit) fuel
with_title k c (ThrowAnswer TooDeep) fuel = c (Throws TooDeep) fuel
with_title k c given fuel = Stuck

-- the name `document` (HTML, Window.document)
abbrev pub document_row : (Thing → ℕ → Program Bare) → Cont → ℕ → Program Bare
document_row k c = charge 1 (ask (Native WindowDocument the_window []) (with_document k) c) c

-- `document.title` (HTML, document.title), a number, a text (ECMAScript, Literals)
abbrev pub part_row : Part → Cont → ℕ → Program Bare
part_row Title c = charge 1 (document_row (λ document. ask (Native DocumentTitle document []) (with_text (λ text. c (Gives (StrPrim text))) c) c) c) c
part_row (Number n) c = charge 1 (c (Gives (NumberPrim n))) c
part_row (Quoted text) c = charge 1 (c (Gives (StrPrim text))) c

-- a value as a text (ECMAScript, ToString)
abbrev pub text_of : Prim → List ℕ
text_of (NumberPrim n) = decimal n
text_of (StrPrim text) = text

-- a text is made of two, unless it would be over the limit
abbrev pub joined_row : List ℕ → Cont → ℕ → Program Bare
joined_row text c fuel = if nat_lt TEXT_LIMIT (utf8_len text) then c (Throws TooLong) fuel else charge (text_units text) (c (Gives (StrPrim text))) c fuel

-- two numbers are added, and else the texts of both are joined (ECMAScript, The Addition Operator)
abbrev pub plus_row : Prim → Prim → Cont → ℕ → Program Bare
plus_row (NumberPrim a) (NumberPrim b) c = c (Gives (NumberPrim (a + b)))
plus_row (NumberPrim a) (StrPrim b) c = joined_row (decimal a ++ b) c
plus_row (StrPrim a) (NumberPrim b) c = joined_row (a ++ decimal b) c
plus_row (StrPrim a) (StrPrim b) c = joined_row (a ++ b) c

-- a sum as an expression: nested additions, the leftmost innermost (ECMAScript, Additive Operators)
pub data Addition : Type 0 where
  Lone : Part → Addition
  Plus : Addition → Part → Addition

-- each further part is added to what stands before it
abbrev pub added : Addition → List Part → Addition
added left [] = left
added left (part ∷ parts) = added (Plus left part) parts

-- the left operand, and then the right one
unfoldable pub addition_row : Addition → Cont → ℕ → Program Bare
addition_row (Lone part) c = part_row part c
addition_row (Plus left part) c = charge 1 (addition_row left (bind (λ x. part_row part (bind (λ y. plus_row x y c) c)) c)) c

abbrev pub sum_row : Sum → Cont → ℕ → Program Bare
sum_row sum = addition_row (added (Lone sum.first) sum.more)

-- the function that logs: `console.log` for the page (Console Standard, log), and else `GM_log` (Greasemonkey manual)
abbrev pub log_member : Zone → Member
log_member Page = ConsoleLog
log_member zone = GmLog

-- the statement, the call, and the name and the member that are called
abbrev pub call_units : Zone → ℕ
call_units Page = 4
call_units zone = 3

-- the value of a sum is logged as a text
abbrev pub logged_row : Zone → Prim → Cont → ℕ → Program Bare
logged_row zone value c =
    charge (text_units (text_of value)) (ask (Native (log_member zone) the_window (StrValue (text_of value) ∷ [])) (with_nothing (c Next)) c) c

abbrev pub log_row : Zone → Sum → Cont → ℕ → Program Bare
log_row zone sum c = charge (call_units zone) (sum_row sum (bind (λ value. logged_row zone value c) c)) c

-- the units of a text that is made of an argument; a text is handed on
abbrev pub argument_units : Prim → ℕ
argument_units (NumberPrim n) = text_units (decimal n)
argument_units (StrPrim text) = 0

-- a value is written into the title of a document
abbrev pub written_row : Thing → Prim → Cont → ℕ → Program Bare
written_row document value c =
    charge (argument_units value) (ask (Native DocumentSetTitle document (StrValue (text_of value) ∷ [])) (with_title (c Next) c) c) c

-- the statement and the assignment are charged, and the base of the member is evaluated before the right side (ECMAScript, Assignment Operators)
abbrev pub title_row : Sum → Cont → ℕ → Program Bare
title_row sum c = charge 2 (document_row (λ document. sum_row sum (bind (λ value. written_row document value c) c)) c) c

abbrev pub line_row : Zone → Line → Cont → ℕ → Program Bare
line_row zone (Log sum) c = log_row zone sum c
line_row zone (SetTitle sum) c = title_row sum c

-- the lines in order (ECMAScript, Scripts)
unfoldable pub lines_row : Zone → List Line → Cont → ℕ → Program Bare
lines_row zone [] c = c Next
lines_row zone (line ∷ lines) c = line_row zone line (follow (lines_row zone lines c) c)

-- how an entry ends
abbrev pub outcome_of : Done → Outcome
outcome_of (Gives value) = DoneOutcome
outcome_of Next = DoneOutcome
outcome_of (Throws reason) = Throw (error_text reason)
outcome_of (Halts stop) = Stop stop

-- the entry is left, and the script waits as before
abbrev pub leave : (levels : ℕ) → Bare → (Bare → Answer → Program Bare) → Cont
leave levels m back done fuel = Emits (Leaves (outcome_of done) (FUEL - fuel)) levels m back

-- the lines that a script's text is read as, by its zone
abbrev pub Reads : Zone → List ℕ → List Line → Type 0
Reads Page text lines = IsPageScript text lines
Reads XrayScript text lines = (name : List ℕ) × IsUserscript text name lines
Reads zone text lines = ⊥

-- the script of a text is entered, and runs its lines; the other entries aren't built yet
abbrev pub enters : Setup → Entering Bare
enters setup (Script text) levels m back tree = (lines : List Line) × Reads setup.zone text lines × (tree ≡ lines_row setup.zone lines (leave levels m back) FUEL)
enters setup entry levels m back tree = ⊥

-- before anything the machine waits for an entry; nothing is unfinished, so nothing comes back
abbrev pub beginning : State Bare
beginning = Awaits LEVELS Fresh (λ m answer. Stuck)
