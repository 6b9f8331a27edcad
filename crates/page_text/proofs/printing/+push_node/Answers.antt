use Rattle.std.proofs.Common.{◌≡◌, ◌∙◌, ◌-◌, ◌++◌, ap, sym, arith, ℕ, Vec, Global}
use Rattle.std.specs.Prelude.{encode_utf8_all}
use Rattle.dom_semantics.specs.Forest.{children_of, form_at}
use Rattle.page_text.specs.Around.{back_of}
use Rattle.page_text.proofs.PrintedParts.{child_more, children_printed, front_at, inside_of, printed_parts, with_back, with_inside, without_inside}
use Rattle.page_text.proofs.printing.+push_node.Goals.{then-has_inside+else-loop-child-test, else-has_inside}
use Rattle.page_text.proofs.printing.+push_node.Goals as goal

pub returns : goal.returns
returns t c =
    let f = c.args.tree.now in
    let n = c.args.node in
    let front = front_at f n in
    let inside = inside_of (form_at f n) (children_printed (c.args.levels - 1) f (children_of f n)) in
    let joined : c.if-has_inside.out.items ≡ c.args.out.now.items ++ (encode_utf8_all front ++ encode_utf8_all inside) =
    elim c.if-has_inside.branch [
      | then-has_inside+else-loop-child-test w ↦
          ap (λ (v : Vec ℕ Global). v.items) w.out-is
          ∙ with_inside f n (c.args.levels - 1) w.loop-child.child-index c.args.out.now.items front _ _ (sym c.has_inside.ensures ∙ w.if-has_inside.true) w.loop-child.invariant.0 (omega (arith, w.loop-child-test.false)) w.loop-child.invariant.1
      | else-has_inside w ↦
          ap (λ (v : Vec ℕ Global). v.items) w.out-is ∙ without_inside f n (c.args.levels - 1) c.args.out.now.items front _ (sym c.has_inside.ensures ∙ w.if-has_inside.false) c.in_ok-push_front.ensures
    ]
    in
    with_back c.args.out.now.items front inside (back_of (form_at f n)) _ _ joined c.in_ok-push_back.ensures ∙ ap (λ xs. c.args.out.now.items ++ encode_utf8_all xs) (sym (printed_parts c.args.levels f n (omega (arith, c.if-levels-eq0.false))))

pub loop-child-preserved : goal.loop-child-preserved
loop-child-preserved t c =
    (c.loop-child.invariant.0, child_more c.args.tree.now (c.args.levels - 1) c.loop-child.child-index 0 c.children-child-items.result.now c.args.out.now.items (front_at c.args.tree.now c.args.node) c.loop-child.out.items c.push_node.new.out.items c.loop-child-test.true c.loop-child.invariant.1 c.in_ok-push_node.ensures)
