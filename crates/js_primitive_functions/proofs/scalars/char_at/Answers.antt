use Rattle.std.proofs.Common.{to_z-of_z}
use Rattle.std.proofs.lemmas.Str.{chars-nil}
use Rattle.js_primitive_functions.proofs.scalars.char_at.Goals as goal

pub returns-in-Some : goal.returns-in-Some
returns-in-Some c =
    let there = rw (to_z-of_z c.ranges.place) at c.in-Some.ensures in
    rw (← there) c.single.ensures

pub returns-in-None : goal.returns-in-None
returns-in-None c =
    let there = rw (to_z-of_z c.ranges.place) at c.in-None.ensures in
    rw (← there) (rw chars-nil at c.text_of.ensures)
