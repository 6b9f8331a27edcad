use Rattle.std.proofs.Common.{arith}
use Rattle.dom_stage.proofs.NodeMoves.{last_at}
use Rattle.dom_stage.proofs.moves.last_in.Goals as goal

pub returns-clause-exact : goal.returns-clause-exact
returns-clause-exact c = last_at c.args.numbers.now c.if-count-eq0.false

pub returns-clause-known : goal.returns-clause-known
returns-clause-known c = λ limit all. all _ 0 (omega (arith, c.if-count-eq0.false))
