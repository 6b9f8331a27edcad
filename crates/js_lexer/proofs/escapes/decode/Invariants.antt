use Rattle.std.proofs.Common.{◌≡◌, ◌++◌, length}
use Rattle.std.specs.Prelude.{encode_utf8_all}
use Rattle.std.specs.String.{string_bytes}
use Rattle.js_lexer.specs.StringLiteralsModel.{decode}
use Rattle.js_lexer.proofs.escapes.decode.Given as goal

abbrev pub invariant-loop-given : goal.invariant-loop-given
invariant-loop-given l =
    (encode_utf8_all (decode (length l.initial.body) l.initial.body).0 ≡ string_bytes l.value ++ encode_utf8_all (decode (length l.body) l.body).0)
    × ((decode (length l.initial.body) l.initial.body).1 ≡ (decode (length l.body) l.body).1)

abbrev pub decreases-loop-given : goal.decreases-loop-given
decreases-loop-given l = length l.body
