use denote.Shadow.{shadow}
use denote.Text.{Utf8}
use Rattle.std.specs.Prelude.{◌≡◌, ◌≤◌, drop, length}
use Rattle.std.specs.Str.{chars}
use Rattle.js_primitive_functions.proofs.search.after_scalars.Given as goal

-- what is left to drop, of what is left, comes to what all comes to
abbrev pub invariant-loop-left : goal.invariant-loop-left
invariant-loop-left l = record {
  text : shadow (Utf8 l.rest);
  same : drop l.left (chars l.rest) ≡ drop l.initial.left (chars l.initial.rest);
  enough : l.left ≤ length (chars l.rest);
  within : length l.rest ≤ length l.initial.rest;
}

abbrev pub decreases-loop-left : goal.decreases-loop-left
decreases-loop-left l = l.left
