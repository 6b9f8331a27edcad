use Rattle.std.proofs.Common.{◌∙◌}
use Rattle.js_objects.proofs.ElementLists.{seen_length}
use Rattle.js_objects.proofs.elements.Elements.count.Goals as goal

pub returns-clause-exact : goal.returns-clause-exact
returns-clause-exact c = seen_length _ _ _ c.self.view_is (c.len.ensures ∙ c.self.inside.props.ok.0)

pub returns-clause-bound : goal.returns-clause-bound
returns-clause-bound c = rw (c.len.ensures, c.self.inside.props.ok.0) c.self.invariant.2
