use Rattle.std.proofs.Common.{◌∙◌, sym, ap}
use Rattle.std.specs.Option.{option_copied}
use Rattle.js_objects.proofs.HeapRows.{room_some, room_none, room_full}
use Rattle.js_objects.proofs.heap.Heap.room.Goals as goal

pub returns-in-Some : goal.returns-in-Some
returns-in-Some c = record {
  exact = room_some _ _ _ _ _ c.self.view_is c.self.invariant (rw c.deref.ensures.value at (sym c.entry_of.ensures ∙ ap option_copied c.in-Some.is)) c.saturating_sub.ensures;
  full = room_full _ _ _ (room_some _ _ _ _ _ c.self.view_is c.self.invariant (rw c.deref.ensures.value at (sym c.entry_of.ensures ∙ ap option_copied c.in-Some.is)) c.saturating_sub.ensures);
}

pub returns-in-None : goal.returns-in-None
returns-in-None c = record {
  exact = room_none _ _ _ c.self.view_is c.self.invariant (rw c.deref.ensures.value at (sym c.entry_of.ensures ∙ ap option_copied c.in-None.is));
  full = room_full _ _ _ (room_none _ _ _ c.self.view_is c.self.invariant (rw c.deref.ensures.value at (sym c.entry_of.ensures ∙ ap option_copied c.in-None.is)));
}
