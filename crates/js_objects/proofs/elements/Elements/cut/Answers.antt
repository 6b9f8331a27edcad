use Rattle.js_objects.proofs.ElementLists.{cut_fields, seen_cut}
use Rattle.js_objects.proofs.elements.Elements.cut.Goals as goal

pub invariant_of-self : goal.invariant_of-self
invariant_of-self c = cut_fields _ _ _ _ _ _ c.truncate.ensures.items c.self.invariant c.self.view_is c.requires c.length_property.ensures

pub returns : goal.returns
returns c = seen_cut _ _ _ _ c.truncate.ensures.items c.self.view_is
