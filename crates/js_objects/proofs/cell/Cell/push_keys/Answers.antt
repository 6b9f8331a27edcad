use Rattle.std.proofs.Common.{◌∙◌}
use Rattle.js_objects.proofs.cell.Cell.push_keys.Goals as goal

pub returns : goal.returns
returns c = λ names. c.in_ok-push_keys.ensures ∙ c.in_ok-push_places.ensures names
