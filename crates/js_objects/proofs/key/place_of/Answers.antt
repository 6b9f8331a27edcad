use Rattle.std.proofs.Common.{◌∙◌, sym, refl}
use Rattle.js_objects.proofs.Keys.{place_here, place_past, place_long}
use Rattle.js_objects.proofs.key.place_of.Goals as goal

pub returns-then-count-gt-MOST_DIGITS : goal.returns-then-count-gt-MOST_DIGITS
returns-then-count-gt-MOST_DIGITS c = sym (place_long c.args.key.now (rw c.count.ensures.exact at c.if-count-gt-MOST_DIGITS.true))

pub returns-in-Some : goal.returns-in-Some
returns-in-Some c = c.place_if_spelled.ensures ∙ sym (place_here c.in-Some.number c.args.key.now _ (rw c.in-Some.is at c.number_of.ensures.some).0 (rw c.in-Some.is at c.number_of.ensures.some).1 refl)

pub returns-in-None : goal.returns-in-None
returns-in-None c = sym (place_past c.args.key.now (rw c.in-None.is at c.number_of.ensures.none))
