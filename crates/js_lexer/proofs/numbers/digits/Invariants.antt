use Rattle.std.proofs.Common.{◌≡◌, ◌≤◌, length}
use Rattle.js_lexer.specs.RunsModel.{digits_from, too_wide}
use Rattle.js_lexer.proofs.numbers.digits.Given as goal

abbrev pub invariant-loop-text : goal.invariant-loop-text
invariant-loop-text l = (digits_from l.radix l.number l.text ≡ digits_from l.radix 0 l.initial.text) × (l.number ≤ too_wide)

abbrev pub decreases-loop-text : goal.decreases-loop-text
decreases-loop-text l = length l.text
