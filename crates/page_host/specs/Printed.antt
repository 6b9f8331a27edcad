-- The document as it is printed (HTML, Serializing HTML fragments).
use Rattle.std.specs.Prelude.{ℕ, List, encode_utf8_all}
use Rattle.door.specs.declared.marks.Mark.{Mark}
use Rattle.page_text.specs.Printed.{printed}
use Rattle.dom_semantics.specs.StageOf.{stage_of}
use Rattle.solo_model.specs.Given.{Given, setting_of}

-- the document at the end of a journal of a run that is given this, in UTF-8
abbrev pub document_of : Given → List Mark → List ℕ
document_of given marks = encode_utf8_all (printed (stage_of (setting_of given marks) marks).nodes 0)
