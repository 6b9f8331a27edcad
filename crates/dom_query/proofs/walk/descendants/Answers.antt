use Rattle.std.proofs.Common.{rules, ◌≡◌, ◌<◌, length}
use Rattle.std.specs.Prelude.{All, IfOk}
use Rattle.dom_semantics.specs.Forest.{descendants_of}
use Rattle.dom_tree.proofs.Folds.{may-always}
use Rattle.dom_query.proofs.Walks.{lists, lists-known}
use Rattle.dom_query.proofs.walk.descendants.Goals as goal

pub try_fold_descendants-requires-clause-callable : goal.try_fold_descendants-requires-clause-callable
try_fold_descendants-requires-clause-callable c = search (rules, may-always)

pub returns-clause-list : goal.returns-clause-list
returns-clause-list c =
    let all : IfOk c.try_fold_descendants.result (λ nodes. nodes.items ≡ descendants_of c.args.tree.now c.args.root.0) = search (rules, lists) in
    all

pub returns-clause-known : goal.returns-clause-known
returns-clause-known c =
    let all : IfOk c.try_fold_descendants.result (λ nodes. All (λ n. n < length c.args.tree.now) nodes.items) = search (rules, lists-known) in
    all
