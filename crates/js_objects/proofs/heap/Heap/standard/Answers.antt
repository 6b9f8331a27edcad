use Rattle.std.proofs.Common.{◌∙◌, sym, ap}
use Rattle.std.specs.Option.{option_copied}
use Rattle.js_objects.proofs.HeapRows.{standard_some, standard_none, standard_out, standard_in}
use Rattle.js_objects.proofs.heap.Heap.standard.Goals as goal

pub returns-in-Some : goal.returns-in-Some
returns-in-Some c = record {
  some = standard_some _ _ _ _ _ _ c.self.view_is (rw c.deref.ensures.value at (sym c.entry_of.ensures ∙ ap option_copied c.in-Some.is)) c.standard_among.ensures.some;
  within = standard_in _ _ _ _ _ c.self.view_is c.self.invariant (standard_some _ _ _ _ _ _ c.self.view_is (rw c.deref.ensures.value at (sym c.entry_of.ensures ∙ ap option_copied c.in-Some.is)) c.standard_among.ensures.some);
  none = standard_none _ _ _ _ _ _ c.self.view_is (rw c.deref.ensures.value at (sym c.entry_of.ensures ∙ ap option_copied c.in-Some.is)) c.standard_among.ensures.none;
}

pub returns-in-None : goal.returns-in-None
returns-in-None c = record { some = tt; within = tt; none = standard_out _ _ _ _ c.self.view_is (rw c.deref.ensures.value at (sym c.entry_of.ensures ∙ ap option_copied c.in-None.is)) }
