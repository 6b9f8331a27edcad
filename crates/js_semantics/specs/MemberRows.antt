-- The row of each member, from the file of its interface (Web IDL, Interfaces; this project's own in form).
use Rattle.std.specs.Prelude.{◌≡◌, true, List, Option, Some, None, is_some}
use Rattle.door.specs.declared.members.Member.{Member}
use Rattle.js_semantics.specs.Machine.{Value}
use Rattle.js_semantics.specs.Evaluator.{Meaning, Evaluator}
use Rattle.js_semantics.specs.Meetings.{misfit}
use Rattle.js_semantics.specs.Arguments.{MemberRow}
use Rattle.js_semantics.specs.WindowRequests.{window_asks}
use Rattle.js_semantics.specs.TargetRequests.{target_asks}
use Rattle.js_semantics.specs.NodeRequests.{node_asks}
use Rattle.js_semantics.specs.ElementRequests.{element_asks}
use Rattle.js_semantics.specs.DocumentRequests.{document_asks}
use Rattle.js_semantics.specs.EventRequests.{event_asks}
use Rattle.js_semantics.specs.GmRequests.{gm_asks}

-- a row, or that of the next interfaces
abbrev pub or_row : Option MemberRow → Option MemberRow → Option MemberRow
or_row (Some row) later = Some row
or_row None later = later

-- each member has a row
abbrev pub row_or_misfit : Option MemberRow → MemberRow
row_or_misfit (Some row) = row
row_or_misfit None = λ ev this values m f c. misfit m f

abbrev pub row_among : Member → Option MemberRow
row_among name =
    or_row (window_asks name) (or_row (target_asks name) (or_row (node_asks name) (or_row (element_asks name) (or_row (document_asks name)
    (or_row (event_asks name) (gm_asks name))))))

-- none is left out
abbrev pub EachMemberHasARow : Type 0
EachMemberHasARow = (name : Member) → is_some (row_among name) ≡ true

abbrev pub row_of : Member → MemberRow
row_of name = row_or_misfit (row_among name)

-- a getter, a setter or a function of the outside is called
abbrev pub asks_row : Evaluator → Member → Value → List Value → Meaning
asks_row ev name this values m f c = row_of name ev this values m f c
