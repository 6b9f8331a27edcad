use Rattle.std.proofs.Common.{◌∙◌}
use Rattle.dom_tree.proofs.Folds.{may-descendants, folds-descendants}
use Rattle.dom_tree.proofs.tree.Tree.try_fold_descendants.Goals as goal

pub fold_below-requires-clause-callable : goal.fold_below-requires-clause-callable
fold_below-requires-clause-callable g c =
    may-descendants (goal.F-pre g c.args.step) (goal.F-post g c.args.step) c.args.self.now _ _ c.args.node.0 c.args.init (c.deref.ensures.value ∙ c.self.view_is) c.depth_limit.ensures.exact c.requires.callable

pub returns : goal.returns
returns g c =
    folds-descendants (goal.F-pre g c.args.step) (goal.F-post g c.args.step) c.args.self.now _ _ c.args.node.0 c.args.init c.fold_below.result (c.deref.ensures.value ∙ c.self.view_is) c.depth_limit.ensures.exact c.fold_below.ensures
