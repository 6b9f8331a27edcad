use denote.Shadow.{shadow}
use denote.Text.{Utf8}
use Rattle.std.specs.Prelude.{◌≡◌, ◌++◌, length}
use Rattle.std.specs.Str.{chars}
use Rattle.js_semantics.specs.Texts.{singles}
use Rattle.js_primitive_functions.proofs.parts.singles.Given as goal

-- the texts that are told, and those of what is left, are those of all
abbrev pub invariant-loop-scalar : goal.invariant-loop-scalar
invariant-loop-scalar l = record { text : shadow (Utf8 l.rest); same : l.parts ++ singles (chars l.rest) ≡ singles (chars l.initial.rest) }

abbrev pub decreases-loop-scalar : goal.decreases-loop-scalar
decreases-loop-scalar l = length l.rest
