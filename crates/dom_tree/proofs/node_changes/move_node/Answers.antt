use Rattle.std.proofs.Common.{◌∙◌, ap, arith, ◌<◌}
use Rattle.std.specs.Prelude.{Some, length}
use Rattle.std.proofs.lemmas.Result.{on_ok_weaker}
use Rattle.dom_tree.proofs.Parents.{parent_of-child, child-within}
use Rattle.dom_tree.proofs.Same.{moved-root, moved-shift, moved-other, length-with}
use Rattle.dom_tree.proofs.node_changes.move_node.Goals as goal

pub returns-in_default-clause-ok : goal.returns-in_default-clause-ok
returns-in_default-clause-ok c =
    on_ok_weaker c.put_child.result (λ e. e ∙ moved-root c.args.nodes.now c.requires.forest c.args.node c.args.parent c.args.before c.requires.known (c.requires.from ∙ c.in_default.is)) c.put_child.ensures.ok

pub shift_child-requires-clause-child : goal.shift_child-requires-clause-child
shift_child-requires-clause-child c =
    parent_of-child c.args.nodes.now c.args.node c.args.parent (c.requires.from ∙ (c.in-Some.is ∙ ap Some c.if-from-parent.true))

pub returns-then-from-parent-clause-ok : goal.returns-then-from-parent-clause-ok
returns-then-from-parent-clause-ok c =
    c.shift_child.ensures ∙ moved-shift c.args.nodes.now c.requires.forest c.args.node c.args.parent c.args.before c.requires.known (c.requires.from ∙ (c.in-Some.is ∙ ap Some c.if-from-parent.true))

pub drop_child-requires : goal.drop_child-requires
drop_child-requires c =
    let f = c.args.nodes.now in
    let within : c.in-Some.from < length f = child-within f c.in-Some.from c.args.node (parent_of-child f c.args.node c.in-Some.from (c.requires.from ∙ c.in-Some.is)) in
    let long = ap length c.in_ok-put_child.ensures.ok ∙ length-with f c.args.parent _ in
    omega arith

pub returns-clause-ok : goal.returns-clause-ok
returns-clause-ok c =
    let f = c.args.nodes.now in
    let some = c.requires.from ∙ c.in-Some.is in
    let within = child-within f c.in-Some.from c.args.node (parent_of-child f c.args.node c.in-Some.from some) in
    c.drop_child.ensures ∙ moved-other f c.requires.forest c.args.node c.args.parent c.in-Some.from c.args.before c.requires.known within some c.if-from-parent.false c.put_child-2.new.nodes c.in_ok-put_child.ensures.ok
