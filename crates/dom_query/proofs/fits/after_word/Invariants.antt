use Rattle.std.proofs.Common.{◌≡◌, length}
use Rattle.dom_query.specs.WordsModel.{after_word}
use Rattle.dom_query.proofs.fits.after_word.Given as goal

abbrev pub invariant-loop-text : goal.invariant-loop-text
invariant-loop-text l = after_word l.text ≡ after_word l.initial.text

abbrev pub decreases-loop-text : goal.decreases-loop-text
decreases-loop-text l = length l.text
