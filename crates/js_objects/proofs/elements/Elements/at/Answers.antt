use Rattle.std.proofs.Common.{◌∙◌}
use Rattle.js_objects.proofs.ElementLists.{element_here, element_past}
use Rattle.js_objects.proofs.elements.Elements.at.Goals as goal

pub returns-then-place-len : goal.returns-then-place-len
returns-then-place-len c = element_here _ _ _ _ _ c.self.view_is c.self.invariant.0 (c.len.ensures ∙ c.self.inside.props.ok.0) c.if-place-len.true c.index.ensures

pub returns-else-place-len : goal.returns-else-place-len
returns-else-place-len c = element_past _ _ _ _ c.self.view_is (c.len.ensures ∙ c.self.inside.props.ok.0) c.if-place-len.false
