use Rattle.js_objects.proofs.ElementLists.{set_fields, seen_set}
use Rattle.js_objects.proofs.elements.Elements.write.Goals as goal

pub invariant_of-self : goal.invariant_of-self
invariant_of-self c = set_fields _ _ _ _ _ c.element.ensures c.self.invariant

pub returns : goal.returns
returns c = seen_set _ _ _ _ _ c.element.ensures c.self.view_is
