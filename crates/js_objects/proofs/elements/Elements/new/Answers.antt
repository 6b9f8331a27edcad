use Rattle.js_objects.proofs.ElementLists.{fields_none}
use Rattle.js_objects.proofs.elements.Elements.new.Goals as goal

pub invariant_of-result : goal.invariant_of-result
invariant_of-result c = fields_none _ _ c.new.ensures.items c.length_property.ensures
