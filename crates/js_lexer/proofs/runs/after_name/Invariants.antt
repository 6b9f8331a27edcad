use Rattle.std.proofs.Common.{◌≡◌, length}
use Rattle.js_syntax.specs.TokenScalars.{is_name_part}
use Rattle.js_lexer.specs.RunsModel.{after}
use Rattle.js_lexer.proofs.runs.after_name.Given as goal

abbrev pub invariant-loop-text : goal.invariant-loop-text
invariant-loop-text l = after is_name_part l.text ≡ after is_name_part l.initial.text

abbrev pub decreases-loop-text : goal.decreases-loop-text
decreases-loop-text l = length l.text
