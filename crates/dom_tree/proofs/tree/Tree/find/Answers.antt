use Rattle.std.proofs.Common.{rules, inr, subst}
use Rattle.dom_semantics.specs.Forest.{descendants_of}
use Rattle.dom_tree.specs.Folds.{Finds}
use Rattle.dom_tree.specs.Ids.{number_of}
use Rattle.dom_tree.proofs.Folds.{end_of, may-always, finds-ended, finds-known}
use Rattle.dom_tree.proofs.tree.Tree.find.Goals as goal

pub try_fold_descendants-requires-clause-callable : goal.try_fold_descendants-requires-clause-callable
try_fold_descendants-requires-clause-callable g c = search (rules, may-always, c.requires.callable)

pub returns-in-Ok-clause-first : goal.returns-in-Ok-clause-first
returns-in-Ok-clause-first g c =
    let below = descendants_of c.args.self.now c.args.node.0 in
    let found : Finds (goal.P-post g c.args.passes) c.args.self.now below (number_of (end_of c.try_fold_descendants.result)) = search (rules, finds-ended) in
    (c.requires.known, inr (c.if-passes.ensures, subst (λ r. Finds (goal.P-post g c.args.passes) c.args.self.now below (number_of (end_of r))) c.in-Ok.is found))

pub returns-clause-first : goal.returns-clause-first
returns-clause-first g c =
    let below = descendants_of c.args.self.now c.args.node.0 in
    let found : Finds (goal.P-post g c.args.passes) c.args.self.now below (number_of (end_of c.try_fold_descendants.result)) = search (rules, finds-ended) in
    (c.requires.known, inr (c.if-passes.ensures, subst (λ r. Finds (goal.P-post g c.args.passes) c.args.self.now below (number_of (end_of r))) c.in-Err.is found))

pub returns-clause-known : goal.returns-clause-known
returns-clause-known g c =
    let below = descendants_of c.args.self.now c.args.node.0 in
    let found : Finds (goal.P-post g c.args.passes) c.args.self.now below (number_of (end_of c.try_fold_descendants.result)) = search (rules, finds-ended) in
    finds-known (goal.P-post g c.args.passes) c.args.self.now below c.in-Err.found.0 (subst (λ r. Finds (goal.P-post g c.args.passes) c.args.self.now below (number_of (end_of r))) c.in-Err.is found)
