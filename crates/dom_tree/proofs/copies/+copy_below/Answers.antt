use Rattle.std.proofs.Common.{rules, sym, ap, ◌∙◌, subst, arith, ◌≡◌, ◌<◌, ◌+◌, ◌-◌, ◌++◌, [], ◌∷◌, get_or, length-append, Some}
use Rattle.std.specs.Prelude.{length}
use Rattle.dom_semantics.specs.Forest.{Forest, Node, node_at, children_of}
use Rattle.dom_semantics.specs.Changes.{laid, starts, copied, with_children}
use Rattle.dom_tree.specs.Copies.{parents_of_copies}
use Rattle.dom_tree.proofs.Closing.{refilled}
use Rattle.dom_tree.proofs.Counted.{room-left, room-here, length-copied, length-parents}
use Rattle.dom_tree.proofs.CopySteps.{laid-step, parents-step, starts-step, laid-end, parents-end, starts-end, copied-more, parents-more, with_children-seam}
use Rattle.dom_tree.proofs.LevelLemmas.{is_child-at}
use Rattle.dom_tree.proofs.Same.{length-with}
use Rattle.dom_tree.proofs.copies.+copy_below.Goals as goal

pub overflow_cast-nodes : goal.overflow_cast-nodes
overflow_cast-nodes t c =
    let copies = c.loop-child.copies.nodes in
    let left = room-left c.args.levels c.args.nodes.now c.args.maker c.args.n (length c.args.nodes.now) _ _ c.loop-child.child-index _ c.children-child-items.result.now c.args.copies.now.nodes.items copies.items c.if-levels-eq0.false c.loop-child.invariant.nodes c.requires.room in
    let long = c.len.ensures ∙ copies.ok.0 in
    omega arith

pub copy_below-requires : goal.copy_below-requires
copy_below-requires t c =
    let f = c.args.nodes.now in
    let items = c.loop-child.invariant.items in
    let within : c.loop-child.child-index < length (children_of f c.args.n) = subst (λ xs. c.loop-child.child-index < length xs) items c.loop-child-test.true in
    let known = c.requires.known c.args.n _ (is_child-at f c.args.n c.loop-child.child-index 0 within) in
    let room = room-here c.args.levels f c.args.maker c.args.n (length f) _ _ c.loop-child.child-index _ c.children-child-items.result.now c.args.copies.now.nodes.items c.loop-child.copies.nodes.items c.if-levels-eq0.false c.loop-child.invariant.nodes c.requires.room c.loop-child-test.true in
    (search rules, (c.requires.known, (subst (λ xs. get_or xs c.loop-child.child-index 0 < length f) (sym items) known, room)))

pub loop-child-preserved : goal.loop-child-preserved
loop-child-preserved t c =
    let f = c.args.nodes.now in
    let levels = c.args.levels - 1 in
    let lay = copied levels f c.args.maker in
    let at = length f + length c.args.copies.now.nodes.items in
    let rows = parents_of_copies levels f (Some at) in
    let old = c.loop-child.copies.nodes in
    let new = c.copy_below.new.copies.nodes in
    let items = c.children-child-items.result.now in
    let i = c.loop-child.child-index in
    let a = length f + length old.items in
    let child = get_or items i 0 in
    let nodes = c.in_ok-copy_below.ensures.nodes in
    let place : c.len-place.result ≡ length c.args.copies.now.nodes.items = c.len-place.ensures ∙ c.args.copies.now.nodes.ok.0 in
    let long : c.len.result ≡ length old.items = c.len.ensures ∙ old.ok.0 in
    let parents = c.in_ok-copy_below.ensures.parents ∙ ap (λ k. c.loop-child.copies.parents.items ++ parents_of_copies levels f (Some (length f + k)) a child) place in
    let number = c.in_ok-push-2.ensures.items ∙ ap (λ k. c.loop-child.children.items ++ (length f + k) ∷ []) long in
    let more = ap length nodes ∙ length-append old.items (lay a child) in
    let next : length f + length new.items ≡ a + length (lay a child) = omega arith in
    let rows-next : length f + length new.items ≡ a + length (rows a child) = next ∙ ap (λ k. a + k) (length-copied levels f c.args.maker a child ∙ sym (length-parents levels f (Some at) a child)) in
    record {
      items = c.loop-child.invariant.items;
      nodes = laid-step lay a (length f + length new.items) old.items new.items _ items i c.loop-child-test.true c.loop-child.invariant.nodes nodes next;
      parents = parents-step rows a (length f + length new.items) c.loop-child.copies.parents.items c.copy_below.new.copies.parents.items _ items i c.loop-child-test.true c.loop-child.invariant.parents parents rows-next;
      children = starts-step lay a (length f + length new.items) c.loop-child.children.items c.push-in-loop-child.new.self.items _ items i c.loop-child-test.true c.loop-child.invariant.children number next;
    }

pub set_children-requires : goal.set_children-requires
set_children-requires t c =
    let f = c.args.nodes.now in
    let lay = copied (c.args.levels - 1) f c.args.maker in
    let copies = c.loop-child.copies.nodes in
    let old = c.args.copies.now.nodes.items in
    let whole = laid-end lay (length f + length copies.items) copies.items _ c.children-child-items.result.now c.loop-child.child-index c.loop-child-test.false c.loop-child.invariant.nodes in
    let long = ap length whole ∙ length-append old (record (node_at f c.args.n) { maker = c.args.maker; children = [] } ∷ laid lay (length f + length old + 1) (children_of f c.args.n)) in
    let place : c.len-place.result ≡ length old = c.len-place.ensures ∙ c.args.copies.now.nodes.ok.0 in
    let same = ap length c.deref_mut.ensures.value in
    omega arith

pub returns-clause-nodes : goal.returns-clause-nodes
returns-clause-nodes t c =
    let f = c.args.nodes.now in
    let lay = copied (c.args.levels - 1) f c.args.maker in
    let copies = c.loop-child.copies.nodes in
    let old = c.args.copies.now.nodes.items in
    let at = length f + length old in
    let x : Node = record (node_at f c.args.n) { maker = c.args.maker; children = [] } in
    let rest = laid lay (at + 1) (children_of f c.args.n) in
    let items = c.children-child-items.result.now in
    let whole = laid-end lay (length f + length copies.items) copies.items (old ++ x ∷ rest) items c.loop-child.child-index c.loop-child-test.false c.loop-child.invariant.nodes in
    let children = starts-end lay (length f + length copies.items) c.loop-child.children.items (starts lay (at + 1) (children_of f c.args.n)) items c.loop-child.child-index c.loop-child-test.false c.loop-child.invariant.children in
    let place : c.len-place.result ≡ length old = c.len-place.ensures ∙ c.args.copies.now.nodes.ok.0 in
    let is : c.set_children.new.nodes ≡ with_children (old ++ x ∷ rest) (length old) (starts lay (at + 1) (children_of f c.args.n)) =
    c.set_children.ensures ∙ (ap (λ (g : Forest). with_children g c.len-place.result c.loop-child.children.items) (c.deref_mut.ensures.value ∙ whole) ∙ (ap (λ k. with_children (old ++ x ∷ rest) k c.loop-child.children.items) place ∙ ap (λ cs. with_children (old ++ x ∷ rest) (length old) cs) children)) in
    let long : length c.set_children.new.nodes ≡ length copies.items = ap length is ∙ (length-with (old ++ x ∷ rest) (length old) _ ∙ sym (ap length whole)) in
    refilled copies.len copies.items c.set_children.new.nodes copies.ok.0 long
    ∙ (is ∙ (with_children-seam old x rest (starts lay (at + 1) (children_of f c.args.n)) ∙ ap (λ r. old ++ r) (copied-more c.args.levels f c.args.maker at c.args.n c.if-levels-eq0.false)))

pub returns-clause-parents : goal.returns-clause-parents
returns-clause-parents t c =
    let f = c.args.nodes.now in
    let old = c.args.copies.now in
    let at = length f + length old.nodes.items in
    let rows = parents_of_copies (c.args.levels - 1) f (Some at) in
    parents-end rows (length f + length c.loop-child.copies.nodes.items) c.loop-child.copies.parents.items _ c.children-child-items.result.now c.loop-child.child-index c.loop-child-test.false c.loop-child.invariant.parents
    ∙ ap (λ r. old.parents.items ++ r) (parents-more c.args.levels f c.args.parent at c.args.n c.if-levels-eq0.false)
