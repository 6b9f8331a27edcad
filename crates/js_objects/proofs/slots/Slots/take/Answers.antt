use Rattle.std.proofs.Common.{◌∙◌}
use Rattle.js_objects.proofs.SlotLists.{take_here, take_there, take_not}
use Rattle.js_objects.proofs.slots.Slots.take.Goals as goal

pub returns-then-at-len-clause-there : goal.returns-then-at-len-clause-there
returns-then-at-len-clause-there c = take_there _ _ _ _ _ _ c.self.view_is c.place_among-at.ensures c.deref.ensures.value c.if-at-len.true (c.len.ensures ∙ c.self.inside.props.ok.0)

pub returns-then-at-len-clause-rest : goal.returns-then-at-len-clause-rest
returns-then-at-len-clause-rest c = take_here _ _ _ _ _ _ _ c.self.view_is c.place_among-at.ensures c.deref.ensures.value c.if-at-len.true (c.len.ensures ∙ c.self.inside.props.ok.0) c.remove.ensures.items

pub returns-else-at-len-clause-there : goal.returns-else-at-len-clause-there
returns-else-at-len-clause-there c = (take_not _ _ _ _ _ _ c.self.view_is c.place_among-at.ensures c.deref.ensures.value c.if-at-len.false (c.len.ensures ∙ c.self.inside.props.ok.0)).0

pub returns-else-at-len-clause-rest : goal.returns-else-at-len-clause-rest
returns-else-at-len-clause-rest c = (take_not _ _ _ _ _ _ c.self.view_is c.place_among-at.ensures c.deref.ensures.value c.if-at-len.false (c.len.ensures ∙ c.self.inside.props.ok.0)).1
