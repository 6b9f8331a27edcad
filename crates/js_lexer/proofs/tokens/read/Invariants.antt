use Rattle.std.proofs.Common.{length, false}
use Rattle.base_text.specs.Scalars.{utf8_len}
use Rattle.js_lexer.specs.TokenAtFrontModel.{read_from}
use Rattle.js_lexer.proofs.Loop.{IsSoFar}
use Rattle.js_lexer.proofs.tokens.read.Given as goal

abbrev pub invariant-loop-left : goal.invariant-loop-left
invariant-loop-left l = IsSoFar (read_from (length l.text) 0 false l.text) (utf8_len l.text) l.tokens l.at l.line_before l.left

abbrev pub decreases-loop-left : goal.decreases-loop-left
decreases-loop-left l = length l.left
