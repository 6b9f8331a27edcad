use Rattle.std.proofs.Common.{rules, ◌∙◌, ◌≡◌, length}
use Rattle.std.specs.Prelude.{is_ok, nat_le}
use Rattle.dom_semantics.specs.Forest.{descendants_of}
use Rattle.dom_tree.proofs.Folds.{may-always, one_more, room-fits}
use Rattle.dom_tree.proofs.tree.Tree.fits.Goals as goal

pub try_fold_descendants-requires-clause-callable : goal.try_fold_descendants-requires-clause-callable
try_fold_descendants-requires-clause-callable c = search (rules, may-always)

pub returns-in-Ok : goal.returns-in-Ok
returns-in-Ok c =
    let below = descendants_of c.args.self.now c.args.n in
    let all : is_ok c.try_fold_descendants.result ≡ nat_le (length below) c.in-Ok.left = search (rules, room-fits) in
    c.is_ok.ensures.value ∙ (all ∙ one_more (length below) c.in-Ok.left c.args.room c.in-Ok.ensures)
