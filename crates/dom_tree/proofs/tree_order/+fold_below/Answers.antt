use Rattle.std.proofs.Common.{rules, ◌≡◌, ◌<◌, ◌-◌, ℕ, true, List, ap, sym, subst, ◌∙◌, get_or, length, drop}
use Rattle.std.proofs.lemmas.List.{at_drop_all}
use Rattle.dom_semantics.specs.Forest.{Forest, Node, children_of, is_child}
use Rattle.dom_tree.proofs.Folds.{below, below-none, at-child, folds-fault, folds-same, folds-none, may-same}
use Rattle.dom_tree.proofs.LevelLemmas.{is_child-at}
use Rattle.dom_tree.proofs.NodeLemmas.{node_at-read}
use Rattle.dom_tree.proofs.tree_order.+fold_below.Goals as goal

-- a child that is read is a node
child-known : (f : Forest) (n : ℕ) (items : List ℕ) (i : ℕ) → ((p c : ℕ) → is_child f p c ≡ true → c < length f) → items ≡ children_of f n → i < length items → get_or items i 0 < length f
child-known f n items i known e lt =
    let within : i < length (children_of f n) = subst (λ xs. i < length xs) e lt in
    subst (λ xs. get_or xs i 0 < length f) (sym e) (known n _ (is_child-at f n i 0 within))

pub returns-then-levels-eq0 : goal.returns-then-levels-eq0
returns-then-levels-eq0 g t c =
    folds-none (goal.F-pre g c.args.step.now) (goal.F-post g c.args.step.now) c.args.nodes.now c.args.init _ (below-none c.args.levels c.args.nodes.now (children_of c.args.nodes.now c.args.n) c.if-levels-eq0.true)

pub loop-child-init : goal.loop-child-init
loop-child-init g t c =
    let f = c.args.nodes.now in
    let items = c.children-child-items.ensures ∙ ap (λ (y : Node). y.children) (node_at-read f c.args.n c.index-nodes-n.result c.requires.node c.index-nodes-n.is) in
    let same = ap (below c.args.levels f) items in
    record {
      children = items;
      callable = may-same (goal.F-pre g c.args.step.now) (goal.F-post g c.args.step.now) f c.args.init _ _ (sym same) c.requires.callable;
      folds = λ r h. folds-same (goal.F-pre g c.args.step.now) (goal.F-post g c.args.step.now) f c.args.init r _ _ same h;
    }

pub step-requires : goal.step-requires
step-requires g t c =
    let f = c.args.nodes.now in
    let known = child-known f c.args.n c.children-child-items.result.now c.loop-child.child-index c.requires.known c.loop-child.invariant.children c.loop-child-test.true in
    let at = at-child (goal.F-pre g c.args.step.now) (goal.F-post g c.args.step.now) f c.loop-child.folded c.args.levels c.children-child-items.result.now c.loop-child.child-index c.if-levels-eq0.false c.loop-child-test.true c.loop-child.invariant.callable in
    at.here known

pub returns-in_err-folded : goal.returns-in_err-folded
returns-in_err-folded g t c =
    let f = c.args.nodes.now in
    let known = child-known f c.args.n c.children-child-items.result.now c.loop-child.child-index c.requires.known c.loop-child.invariant.children c.loop-child-test.true in
    let at = at-child (goal.F-pre g c.args.step.now) (goal.F-post g c.args.step.now) f c.loop-child.folded c.args.levels c.children-child-items.result.now c.loop-child.child-index c.if-levels-eq0.false c.loop-child-test.true c.loop-child.invariant.callable in
    folds-fault (goal.F-pre g c.args.step.now) (goal.F-post g c.args.step.now) f c.args.init _ c.in_err-folded.field-0.0 c.from_residual.result c.from_residual.ensures.1
    (c.loop-child.invariant.folds _ (at.faults _ known c.in_err-folded.ensures))

pub fold_below-requires : goal.fold_below-requires
fold_below-requires g t c κs within =
    let f = c.args.nodes.now in
    let known = child-known f c.args.n c.children-child-items.result.now c.loop-child.child-index c.requires.known c.loop-child.invariant.children c.loop-child-test.true in
    let at = at-child (goal.F-pre g c.args.step.now) (goal.F-post g c.args.step.now) f c.loop-child.folded c.args.levels c.children-child-items.result.now c.loop-child.child-index c.if-levels-eq0.false c.loop-child-test.true c.loop-child.invariant.callable in
    (search rules, (within.0, (within.1.0, (within.1.1, (c.requires.known, (known, at.under _ known c.in_ok-folded.ensures))))))

pub returns-in_err-folded-2 : goal.returns-in_err-folded-2
returns-in_err-folded-2 g t c =
    let f = c.args.nodes.now in
    let known = child-known f c.args.n c.children-child-items.result.now c.loop-child.child-index c.requires.known c.loop-child.invariant.children c.loop-child-test.true in
    let at = at-child (goal.F-pre g c.args.step.now) (goal.F-post g c.args.step.now) f c.loop-child.folded c.args.levels c.children-child-items.result.now c.loop-child.child-index c.if-levels-eq0.false c.loop-child-test.true c.loop-child.invariant.callable in
    folds-fault (goal.F-pre g c.args.step.now) (goal.F-post g c.args.step.now) f c.args.init _ c.in_err-folded-2.field-0.0 c.from_residual-in_err-folded-2.result c.from_residual-in_err-folded-2.ensures.1
    (c.loop-child.invariant.folds _ (at.faults_under _ _ known c.in_ok-folded.ensures c.in_err-folded-2.ensures))

pub loop-child-preserved : goal.loop-child-preserved
loop-child-preserved g t c =
    let f = c.args.nodes.now in
    let known = child-known f c.args.n c.children-child-items.result.now c.loop-child.child-index c.requires.known c.loop-child.invariant.children c.loop-child-test.true in
    let at = at-child (goal.F-pre g c.args.step.now) (goal.F-post g c.args.step.now) f c.loop-child.folded c.args.levels c.children-child-items.result.now c.loop-child.child-index c.if-levels-eq0.false c.loop-child-test.true c.loop-child.invariant.callable in
    record {
      children = c.loop-child.invariant.children;
      callable = at.rest _ _ known c.in_ok-folded.ensures c.in_ok-folded-2.ensures;
      folds = λ r h. c.loop-child.invariant.folds r (at.goes_on _ _ r known c.in_ok-folded.ensures c.in_ok-folded-2.ensures h);
    }

pub returns : goal.returns
returns g t c =
    c.loop-child.invariant.folds _ (folds-none (goal.F-pre g c.args.step.now) (goal.F-post g c.args.step.now) c.args.nodes.now c.loop-child.folded _ (at_drop_all (below c.args.levels c.args.nodes.now) c.children-child-items.result.now c.loop-child.child-index c.loop-child-test.false))
