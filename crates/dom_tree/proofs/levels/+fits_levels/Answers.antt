use Rattle.std.proofs.Common.{rules, sym, ◌∙◌, ap, subst, ◌<◌, ◌-◌, get_or}
use Rattle.std.specs.Prelude.{length}
use Rattle.std.specs.List.{list_all}
use Rattle.dom_semantics.specs.Forest.{Node, has_levels, children_of}
use Rattle.dom_tree.proofs.NodeLemmas.{node_at-read}
use Rattle.dom_tree.proofs.LevelLemmas.{has_levels-more, list_all-passed, list_all-failed, list_all-end, is_child-at}
use Rattle.dom_tree.proofs.levels.+fits_levels.Goals as goal

pub loop-child-init : goal.loop-child-init
loop-child-init t c =
    let f = c.args.nodes.now in
    let items = c.children-child-items.ensures ∙ ap (λ (y : Node). y.children) (node_at-read f c.args.n c.index-nodes-n.result c.requires.node c.index-nodes-n.is) in
    (items, ap (λ xs. list_all (λ child. has_levels (c.args.levels - 1) f child) xs) items ∙ sym (has_levels-more c.args.levels f c.args.n c.if-levels-eq0.false))

pub fits_levels-requires : goal.fits_levels-requires
fits_levels-requires t c =
    let f = c.args.nodes.now in
    let items = c.loop-child.invariant.0 in
    let within : c.loop-child.child-index < length (children_of f c.args.n) = subst (λ xs. c.loop-child.child-index < length xs) items c.loop-child-test.true in
    let known = c.requires.known c.args.n _ (is_child-at f c.args.n c.loop-child.child-index 0 within) in
    (search rules, (c.requires.known, subst (λ xs. get_or xs c.loop-child.child-index 0 < length f) (sym items) known))

pub returns-then-not-fits_levels : goal.returns-then-not-fits_levels
returns-then-not-fits_levels t c =
    list_all-failed (λ child. has_levels (c.args.levels - 1) c.args.nodes.now child) c.children-child-items.result.now c.loop-child.child-index 0 c.loop-child-test.true c.if-not-fits_levels.ensures
    ∙ c.loop-child.invariant.1

pub loop-child-preserved : goal.loop-child-preserved
loop-child-preserved t c = (
  c.loop-child.invariant.0,
  list_all-passed (λ child. has_levels (c.args.levels - 1) c.args.nodes.now child) c.children-child-items.result.now c.loop-child.child-index 0 c.loop-child-test.true c.if-not-fits_levels.ensures
      ∙ c.loop-child.invariant.1,
)

pub returns : goal.returns
returns t c =
    sym (list_all-end _ c.children-child-items.result.now c.loop-child.child-index c.loop-child-test.false) ∙ c.loop-child.invariant.1
