use Rattle.std.proofs.Common.{◌∙◌, ap, refl}
use Rattle.js_objects.specs.Elements.{length_prop}
use Rattle.js_objects.proofs.ElementLists.{seen_length}
use Rattle.js_objects.proofs.elements.Elements.length.Goals as goal

pub returns : goal.returns
returns c = c.self.invariant.1 ∙ ap (λ n. length_prop n) (seen_length _ _ _ c.self.view_is refl)
