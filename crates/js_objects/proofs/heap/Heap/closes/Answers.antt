use Rattle.std.proofs.Common.{◌≡◌, ◌∙◌, ◌<◌, ◌-◌, length, suc, sym, ap, subst, arith, Some}
use Rattle.std.specs.Prelude.{slice_get}
use Rattle.js_objects.specs.ChainsModel.{comes_to}
use Rattle.js_objects.specs.Heaps.{Store}
use Rattle.js_objects.proofs.Chains.{comes_none, comes_here, comes_on, comes_short}
use Rattle.js_objects.proofs.HeapRows.{len_within, cell_here, proto_in}
use Rattle.js_objects.proofs.heap.Heap.closes.Goals as goal

pub loop-left-init : goal.loop-left-init
loop-left-init c =
    let all : c.len-left.result ≡ length c.args.self.now.cells = c.len-left.ensures ∙ (c.self.inside.cells.ok.0 ∙ ap (λ (s : Store). length s.cells) c.self.view_is) in
    (ap (λ n. comes_to n c.args.self.now.cells c.args.c.0 c.args.p) all, c.requires)

pub returns-in-None : goal.returns-in-None
returns-in-None c = comes_none c.loop-left.left _ _ ∙ (rw c.in-None.is at c.loop-left.invariant.0)

pub returns-then-at-c : goal.returns-then-at-c
returns-then-at-c c = comes_here c.loop-left.left (c.loop-left.left - 1) _ _ c.in-Some.at (omega (arith, c.loop-left-test.true)) c.if-at-c.true ∙ (rw c.in-Some.is at c.loop-left.invariant.0)

pub index-requires : goal.index-requires
index-requires c = len_within _ _ _ _ c.self.view_is c.self.inside.cells.ok.0 (rw c.in-Some.is at c.loop-left.invariant.1)

pub loop-left-preserved : goal.loop-left-preserved
loop-left-preserved c =
    let within : c.in-Some.at.0 < length c.args.self.now.cells = rw c.in-Some.is at c.loop-left.invariant.1 in
    let here : slice_get c.args.self.now.cells c.in-Some.at.0 ≡ Some c.index.result.now = subst (λ (s : Store). slice_get s.cells c.in-Some.at.0 ≡ Some c.index.result.now) c.self.view_is (cell_here _ _ _ _ c.self.view_is within c.index.ensures) in
    (sym (comes_on c.loop-left.left (c.loop-left.left - 1) _ _ c.in-Some.at c.index.result.now (omega (arith, c.loop-left-test.true)) c.if-at-c.false here) ∙ (rw c.in-Some.is at c.loop-left.invariant.0), proto_in _ _ _ _ c.self.view_is c.self.invariant within c.index.ensures)

pub returns : goal.returns
returns c = comes_short c.loop-left.left _ _ c.loop-left.next c.loop-left-test.false ∙ c.loop-left.invariant.0
