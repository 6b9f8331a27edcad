use Rattle.std.proofs.Common.{◌≡◌, take}
use Rattle.base_text.specs.Scalars.{utf8_len}
use Rattle.js_lexer.proofs.scalars.width.Given as goal

abbrev pub invariant-loop-c : goal.invariant-loop-c
invariant-loop-c l = l.bytes ≡ utf8_len (take l.c-index l.text)
