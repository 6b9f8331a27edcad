use Rattle.std.proofs.Common.{◌∙◌}
use Rattle.std.proofs.lemmas.Str.{IsUtf8-from_ascii}
use Rattle.small_forms.proofs.AsciiTexts.{ascii_text, ascii-IsAscii}
use Rattle.small_forms.proofs.ascii.text_of.Goals as goal

pub unreachable-requires-in-Err : goal.unreachable-requires-in-Err
unreachable-requires-in-Err c = c.in-Err.ensures.cases.0 (IsUtf8-from_ascii _ (ascii-IsAscii _ c.requires.ascii))

pub returns-in-Ok-of : goal.returns-in-Ok-of
returns-in-Ok-of c = ascii_text _ _ (c.in-Ok-of.ensures.ok ∙ c.in-Ok.ensures.cases.0) c.requires.ascii
