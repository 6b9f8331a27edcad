use Rattle.std.proofs.Common.{refl}
use Rattle.js_objects.proofs.HeapRows.{len_within, cell_here, changed_sound, changed, proto_stays, closed, not_closed, closed_there}
use Rattle.js_objects.proofs.heap.Heap.set_proto.Goals as goal

pub returns-then-closes-clause-cycle : goal.returns-then-closes-clause-cycle
returns-then-closes-clause-cycle c = closed _ c.args.self.now _ _ _ refl c.if-closes.true c.closes.ensures

pub index_mut-requires : goal.index_mut-requires
index_mut-requires c = len_within _ _ _ _ c.self.view_is c.self.inside.cells.ok.0 c.requires.at

pub invariant_of-self : goal.invariant_of-self
invariant_of-self c = changed_sound _ _ _ _ _ c.self.invariant (cell_here _ _ _ _ c.self.view_is c.requires.at c.index_mut.ensures.value) refl refl (proto_stays _ _ _ _ _ _ c.self.view_is c.self.invariant (cell_here _ _ _ _ c.self.view_is c.requires.at c.index_mut.ensures.value) c.requires.within c.if-closes.false c.closes.ensures)

pub returns-clause-ok : goal.returns-clause-ok
returns-clause-ok c = changed _ _ _ _ _ _ _ c.self.view_is (cell_here _ _ _ _ c.self.view_is c.requires.at c.index_mut.ensures.value) refl refl

pub returns-clause-cycle : goal.returns-clause-cycle
returns-clause-cycle c = not_closed _ _ _ _ _ _ _ refl c.self.view_is c.self.invariant c.requires.within c.if-closes.false c.closes.ensures

pub returns-then-closes-clause-machine : goal.returns-then-closes-clause-machine
returns-then-closes-clause-machine c = λ names m h. closed_there _ names m _ _ _ _ c.self.view_is c.self.invariant h (closed _ c.args.self.now _ _ _ refl c.if-closes.true c.closes.ensures)

pub returns-clause-machine : goal.returns-clause-machine
returns-clause-machine c = λ names m h. closed_there _ names m _ _ _ _ c.self.view_is c.self.invariant h (not_closed _ _ _ _ _ _ _ refl c.self.view_is c.self.invariant c.requires.within c.if-closes.false c.closes.ensures)
