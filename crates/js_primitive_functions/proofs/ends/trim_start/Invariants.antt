use denote.Shadow.{shadow}
use denote.Text.{Utf8}
use Rattle.std.proofs.Common.{◌≡◌, ◌≤◌, length}
use Rattle.std.specs.Str.{chars}
use Rattle.js_semantics.specs.Texts.{trimmed_front}
use Rattle.js_primitive_functions.proofs.ends.trim_start.Given as goal

-- what is left comes to what all comes to
abbrev pub invariant-loop-scalar : goal.invariant-loop-scalar
invariant-loop-scalar l = record { text : shadow (Utf8 l.rest); same : trimmed_front (chars l.rest) ≡ trimmed_front (chars l.initial.rest); within : length l.rest ≤ length l.initial.rest }

abbrev pub decreases-loop-scalar : goal.decreases-loop-scalar
decreases-loop-scalar l = length l.rest
