use Rattle.std.proofs.Common.{◌≡◌, length}
use Rattle.js_lexer.specs.declared.string_literals.Taken.TheVariants.{Nothing}
use Rattle.js_lexer.specs.StringLiteralsModel.{after_text}
use Rattle.js_lexer.proofs.string_literals.after_text.Given as goal

abbrev pub invariant-loop-text : goal.invariant-loop-text
invariant-loop-text l = after_text l.quote l.taken l.text ≡ after_text l.quote Nothing l.initial.text

abbrev pub decreases-loop-text : goal.decreases-loop-text
decreases-loop-text l = length l.text
