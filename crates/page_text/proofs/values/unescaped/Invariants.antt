use Rattle.std.proofs.Common.{◌≡◌, ◌++◌, length}
use Rattle.std.specs.String.{string_bytes}
use denote.Text.{Utf8}
use denote.Shadow.{shadow}
use Rattle.page_text.specs.ValuesModel.{unescaped}
use Rattle.page_text.proofs.values.unescaped.Given as goal

abbrev pub invariant-loop-read : goal.invariant-loop-read
invariant-loop-read l = shadow (Utf8 l.rest) × (string_bytes l.read ++ unescaped l.rest ≡ unescaped l.raw)

abbrev pub decreases-loop-read : goal.decreases-loop-read
decreases-loop-read l = length l.rest
