use denote.Shadow.{shadow}
use denote.Text.{Utf8}
use Rattle.std.specs.Prelude.{◌≡◌, ◌≤◌, ◌++◌, length}
use Rattle.std.specs.Str.{chars}
use Rattle.js_semantics.specs.Texts.{parts_of}
use Rattle.js_primitive_functions.proofs.parts.parts_between.Given as goal

-- the parts that are told, and those of what is left, are those of all
abbrev pub invariant-loop-before : goal.invariant-loop-before
invariant-loop-before l = record {
  text : shadow (Utf8 l.rest);
  same : l.parts ++ parts_of (chars l.separator) (chars l.rest) ≡ parts_of (chars l.separator) (chars l.initial.rest);
  within : length l.rest ≤ length l.initial.rest;
}

abbrev pub decreases-loop-before : goal.decreases-loop-before
decreases-loop-before l = length l.rest
