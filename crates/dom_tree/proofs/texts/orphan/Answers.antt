use Rattle.std.proofs.Common.{◌∙◌, ap, arith, cond, get_or, None}
use Rattle.dom_semantics.specs.Forest.{is_among}
use Rattle.dom_tree.proofs.LevelLemmas.{is_among-at, take_all}
use Rattle.dom_tree.proofs.Replaced.{orphan-more}
use Rattle.dom_tree.proofs.texts.orphan.Goals as goal

pub bounds-parents-n : goal.bounds-parents-n
bounds-parents-n c = let known = c.requires _ (is_among-at c.args.numbers.now c.loop-n.n-index 0 c.loop-n-test.true) in omega (arith, c.loop-n.auto.parents)

pub loop-n-preserved : goal.loop-n-preserved
loop-n-preserved c m =
    let known = c.requires _ (is_among-at c.args.numbers.now c.loop-n.n-index 0 c.loop-n-test.true) in
    orphan-more c.loop-n.parents c.args.numbers.now c.loop-n.n-index m _ c.loop-n-test.true (omega (arith, c.loop-n.auto.parents)) (c.loop-n.invariant m)

pub returns : goal.returns
returns c m = c.loop-n.invariant m ∙ ap (λ ns. cond (is_among m ns) None (get_or c.args.parents.now m None)) (take_all c.loop-n.n-index c.args.numbers.now c.loop-n-test.false)
