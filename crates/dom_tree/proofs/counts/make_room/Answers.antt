use Rattle.std.proofs.Common.{sym, ◌∙◌, ap}
use Rattle.std.specs.Prelude.{is_some, position}
use Rattle.dom_tree.specs.Counts.{is_of, count_in}
use Rattle.dom_tree.proofs.CountLemmas.{count_in-push, has_count-some}
use Rattle.dom_tree.proofs.counts.make_room.Goals as goal

pub returns-in_ok-push-clause-same : goal.returns-in_ok-push-clause-same
returns-in_ok-push-clause-same c other =
    ap (λ counts. count_in counts other) c.in_ok-push.ensures.items ∙ count_in-push c.args.counts.now.items c.args.maker other

pub returns-else-is_none-clause-ok : goal.returns-else-is_none-clause-ok
returns-else-is_none-clause-ok c =
    has_count-some c.args.counts.now.items c.args.maker (ap (λ counts. is_some (position (is_of c.args.maker) counts)) (sym c.deref.ensures.value) ∙ (ap is_some (sym c.place_of.ensures) ∙ c.if-is_none.ensures))
