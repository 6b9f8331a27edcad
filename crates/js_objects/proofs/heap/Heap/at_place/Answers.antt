use Rattle.std.proofs.Common.{◌∙◌, sym, ap}
use Rattle.std.specs.Option.{option_copied}
use Rattle.js_objects.proofs.HeapRows.{place_some, place_none, place_out, place_in}
use Rattle.js_objects.proofs.heap.Heap.at_place.Goals as goal

pub returns-in-Some : goal.returns-in-Some
returns-in-Some c = record {
  some = place_some _ _ _ _ _ _ c.self.view_is c.self.invariant (rw c.deref.ensures.value at (sym c.entry_of.ensures ∙ ap option_copied c.in-Some.is)) c.cell_among.ensures;
  within = place_in _ _ _ _ (place_some _ _ _ _ _ _ c.self.view_is c.self.invariant (rw c.deref.ensures.value at (sym c.entry_of.ensures ∙ ap option_copied c.in-Some.is)) c.cell_among.ensures);
  none = place_none _ _ _ _ _ _ c.self.view_is c.self.invariant (rw c.deref.ensures.value at (sym c.entry_of.ensures ∙ ap option_copied c.in-Some.is)) c.cell_among.ensures;
}

pub returns-in-None : goal.returns-in-None
returns-in-None c = record { some = tt; within = tt; none = place_out _ _ _ _ c.self.view_is c.self.invariant (rw c.deref.ensures.value at (sym c.entry_of.ensures ∙ ap option_copied c.in-None.is)) }
