use Rattle.std.proofs.Common.{◌∙◌}
use Rattle.js_objects.proofs.ElementLists.{pushed_fields, seen_pushed}
use Rattle.js_objects.proofs.elements.Elements.push.Goals as goal

pub invariant_of-self-2 : goal.invariant_of-self-2
invariant_of-self-2 c = pushed_fields _ _ _ _ _ _ _ c.element.ensures c.in_ok-push.ensures.items c.self.invariant (c.len-count.ensures ∙ c.self.inside.props.ok.0) c.if-count.false c.length_property.ensures

pub returns-clause-ok : goal.returns-clause-ok
returns-clause-ok c = seen_pushed _ _ _ _ _ c.element.ensures c.in_ok-push.ensures.items c.self.view_is
