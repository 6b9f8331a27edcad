use Rattle.std.proofs.Common.{◌≡◌, length}
use Rattle.dom_semantics.specs.SelectorFits.{has_word}
use Rattle.dom_query.proofs.fits.has_word.Given as goal

abbrev pub invariant-loop-word : goal.invariant-loop-word
invariant-loop-word l = has_word l.word l.left ≡ has_word l.word l.initial.left

abbrev pub decreases-loop-word : goal.decreases-loop-word
decreases-loop-word l = length l.left
