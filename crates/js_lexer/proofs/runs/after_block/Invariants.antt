use Rattle.std.proofs.Common.{◌≡◌, length, false}
use Rattle.js_lexer.specs.RunsModel.{after_block}
use Rattle.js_lexer.proofs.runs.after_block.Given as goal

abbrev pub invariant-loop-text : goal.invariant-loop-text
invariant-loop-text l = after_block l.line l.text ≡ after_block false l.initial.text

abbrev pub decreases-loop-text : goal.decreases-loop-text
decreases-loop-text l = length l.text
