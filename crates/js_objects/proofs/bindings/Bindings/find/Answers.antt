use Rattle.std.proofs.Common.{◌∙◌}
use Rattle.js_objects.proofs.SlotLists.{name_here, name_not}
use Rattle.js_objects.proofs.bindings.Bindings.find.Goals as goal

pub returns-then-at-len : goal.returns-then-at-len
returns-then-at-len c = name_here _ _ _ _ _ _ _ c.self.view_is c.place_among-at.ensures c.deref.ensures.value c.index.ensures c.if-at-len.true (c.len.ensures ∙ c.self.inside.bound.ok.0)

pub returns-else-at-len : goal.returns-else-at-len
returns-else-at-len c = name_not _ _ _ _ _ _ c.self.view_is c.place_among-at.ensures c.deref.ensures.value c.if-at-len.false (c.len.ensures ∙ c.self.inside.bound.ok.0)
