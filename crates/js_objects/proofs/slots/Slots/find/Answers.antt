use Rattle.std.proofs.Common.{◌∙◌}
use Rattle.js_objects.proofs.SlotLists.{find_here, find_none}
use Rattle.js_objects.proofs.slots.Slots.find.Goals as goal

pub returns-then-at-len : goal.returns-then-at-len
returns-then-at-len c = find_here _ _ _ _ _ _ _ c.self.view_is c.place_among-at.ensures c.deref.ensures.value c.index.ensures c.if-at-len.true (c.len.ensures ∙ c.self.inside.props.ok.0)

pub returns-else-at-len : goal.returns-else-at-len
returns-else-at-len c = find_none _ _ _ _ _ _ c.self.view_is c.place_among-at.ensures c.deref.ensures.value c.if-at-len.false (c.len.ensures ∙ c.self.inside.props.ok.0)
