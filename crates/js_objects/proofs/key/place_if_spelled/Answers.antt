use Rattle.std.proofs.Common.{refl}
use Rattle.js_objects.proofs.key.place_if_spelled.Goals as goal

pub returns-then-is_spelled : goal.returns-then-is_spelled
returns-then-is_spelled c = rw (← c.is_spelled.ensures, c.if-is_spelled.true) refl

pub returns-else-is_spelled : goal.returns-else-is_spelled
returns-else-is_spelled c = rw (← c.is_spelled.ensures, c.if-is_spelled.false) refl
