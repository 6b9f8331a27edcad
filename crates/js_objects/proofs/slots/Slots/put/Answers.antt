use Rattle.std.proofs.Common.{◌∙◌}
use Rattle.js_objects.proofs.SlotLists.{put_here, put_new}
use Rattle.js_objects.proofs.slots.Slots.put.Goals as goal

pub returns-then-at-len-clause-ok : goal.returns-then-at-len-clause-ok
returns-then-at-len-clause-ok c = put_here _ _ _ _ _ _ _ _ c.self.view_is c.place_among-at.ensures c.deref.ensures.value c.index_mut.ensures.value c.if-at-len.true (c.len.ensures ∙ c.self.inside.props.ok.0)

pub returns-clause-ok : goal.returns-clause-ok
returns-clause-ok c = put_new _ _ _ _ _ _ _ _ c.self.view_is c.place_among-at.ensures c.deref.ensures.value c.if-at-len.false (c.len.ensures ∙ c.self.inside.props.ok.0) (rw c.in_ok-key.ensures at c.in_ok-push.ensures.items)
