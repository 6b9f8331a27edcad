use Rattle.std.proofs.Common.{◌≡◌, ◌++◌, length}
use Rattle.std.specs.String.{string_bytes}
use denote.Text.{Utf8}
use denote.Shadow.{shadow}
use Rattle.page_text.specs.ValuesModel.{with_line_ends}
use Rattle.page_text.proofs.values.with_line_ends.Given as goal

abbrev pub invariant-loop-read : goal.invariant-loop-read
invariant-loop-read l = shadow (Utf8 l.rest) × (string_bytes l.read ++ with_line_ends l.rest ≡ with_line_ends l.raw)

abbrev pub decreases-loop-read : goal.decreases-loop-read
decreases-loop-read l = length l.rest
