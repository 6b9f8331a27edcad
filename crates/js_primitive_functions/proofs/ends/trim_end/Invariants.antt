use denote.Shadow.{shadow}
use denote.Text.{Utf8}
use Rattle.std.specs.Prelude.{◌≡◌, ◌≤◌, length, reverse}
use Rattle.std.specs.Str.{chars}
use Rattle.js_semantics.specs.Texts.{trimmed_front}
use Rattle.js_primitive_functions.proofs.ends.trim_end.Given as goal

-- what is left comes to what all comes to
abbrev pub invariant-loop-scalar : goal.invariant-loop-scalar
invariant-loop-scalar l = record { text : shadow (Utf8 l.rest); same : trimmed_front (reverse (chars l.rest)) ≡ trimmed_front (reverse (chars l.initial.rest)); within : length l.rest ≤ length l.initial.rest }

abbrev pub decreases-loop-scalar : goal.decreases-loop-scalar
decreases-loop-scalar l = length l.rest
