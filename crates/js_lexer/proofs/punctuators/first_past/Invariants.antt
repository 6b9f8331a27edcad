use Rattle.std.proofs.Common.{◌≡◌, length, map}
use Rattle.js_lexer.specs.RunsModel.{after_punctuator}
use Rattle.js_lexer.proofs.punctuators.first_past.Given as goal

abbrev pub invariant-loop-fronts : goal.invariant-loop-fronts
invariant-loop-fronts l = after_punctuator (map (λ m. m.now) l.fronts) l.text ≡ after_punctuator (map (λ m. m.now) l.initial.fronts) l.text

abbrev pub decreases-loop-fronts : goal.decreases-loop-fronts
decreases-loop-fronts l = length l.fronts
