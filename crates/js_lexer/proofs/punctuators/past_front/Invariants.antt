use Rattle.std.proofs.Common.{◌≡◌, length}
use Rattle.js_lexer.specs.RunsModel.{past_front}
use Rattle.js_lexer.proofs.punctuators.past_front.Given as goal

abbrev pub invariant-loop-front : goal.invariant-loop-front
invariant-loop-front l = past_front l.front l.text ≡ past_front l.initial.front l.initial.text

abbrev pub decreases-loop-front : goal.decreases-loop-front
decreases-loop-front l = length l.front
