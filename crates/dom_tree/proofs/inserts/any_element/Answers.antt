use Rattle.std.proofs.Common.{sym, ◌∙◌, ap}
use Rattle.dom_semantics.specs.Forest.{Node, form_at, is_element}
use Rattle.dom_tree.proofs.NodeLemmas.{node_at-read}
use Rattle.dom_tree.proofs.LevelLemmas.{list_any-passed, list_any-failed, list_any-end, is_among-at}
use Rattle.dom_tree.proofs.inserts.any_element.Goals as goal

pub bounds-nodes-n : goal.bounds-nodes-n
bounds-nodes-n c = c.requires _ (is_among-at c.args.numbers.now c.loop-n.n-index 0 c.loop-n-test.true)

pub returns-then-is_element : goal.returns-then-is_element
returns-then-is_element c =
    let f = c.args.nodes.now in
    let known = c.requires _ (is_among-at c.args.numbers.now c.loop-n.n-index 0 c.loop-n-test.true) in
    list_any-passed (λ n. is_element (form_at f n)) c.args.numbers.now c.loop-n.n-index 0 c.loop-n-test.true
    (c.if-is_element.ensures ∙ ap (λ (y : Node). is_element y.form) (node_at-read f _ c.index-nodes-n.result known c.index-nodes-n.is))
    ∙ c.loop-n.invariant

pub loop-n-preserved : goal.loop-n-preserved
loop-n-preserved c =
    let f = c.args.nodes.now in
    let known = c.requires _ (is_among-at c.args.numbers.now c.loop-n.n-index 0 c.loop-n-test.true) in
    list_any-failed (λ n. is_element (form_at f n)) c.args.numbers.now c.loop-n.n-index 0 c.loop-n-test.true
    (c.if-is_element.ensures ∙ ap (λ (y : Node). is_element y.form) (node_at-read f _ c.index-nodes-n.result known c.index-nodes-n.is))
    ∙ c.loop-n.invariant

pub returns : goal.returns
returns c = sym (list_any-end _ c.args.numbers.now c.loop-n.n-index c.loop-n-test.false) ∙ c.loop-n.invariant
