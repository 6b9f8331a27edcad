use Rattle.std.proofs.Common.{arith, sym}
use Rattle.dom_stage.proofs.NodeMoves.{parent_within, up_from_more}
use Rattle.dom_stage.proofs.moves.+is_at_or_above.Goals as goal

pub is_at_or_above-requires : goal.is_at_or_above-requires
is_at_or_above-requires t c =
    (omega (arith, c.decreases, c.if-limit-eq0.false), parent_within c.args.tree.now c.args.n.0 c.in-Some.parent.0 (sym c.in-Some.ensures))
