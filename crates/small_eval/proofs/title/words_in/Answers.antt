use Rattle.std.proofs.Common.{◌++◌, []}
use Rattle.small_eval.proofs.Collapses.{bytes_more, child_more, children_read}
use Rattle.small_eval.proofs.title.words_in.Goals as goal

pub loop-child-preserved : goal.loop-child-preserved
loop-child-preserved c =
    let before = c.loop-child.invariant in
    let more = c.in_ok-push_own.ensures in
    (before.0 ++ more.0, bytes_more [] _ _ before.0 more.0 before.1 more.1, child_more _ c.children-child-items.result.now c.loop-child.child-index _ _ _ _ _ before.0 more.0 c.loop-child-test.true before.2 more.2)

pub returns : goal.returns
returns c =
    let all = c.loop-child.invariant in
    children_read c.args.tree.now c.args.node c.children-child-items.result.now c.loop-child.child-index _ _ all.0 _ c.children-child-items.ensures.list c.loop-child-test.false all.1 all.2
