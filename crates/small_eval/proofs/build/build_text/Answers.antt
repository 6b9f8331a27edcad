use Rattle.std.proofs.Common.{arith}
use Rattle.dom_semantics.specs.Forest.{Written}
use Rattle.small_eval.proofs.Building.{headed_created, text_built}
use Rattle.small_eval.proofs.build.build_text.Goals as goal

pub returns-clause-built : goal.returns-clause-built
returns-clause-built c = text_built c.args.world.now c.create_text.new.world c.append.new.world _ c.next_number.result c.args.text.now c.args.parent c.next_number.ensures c.in_ok-create_text.ensures.built c.in_ok-append.ensures.built

pub returns-clause-headed : goal.returns-clause-headed
returns-clause-headed c late later h = c.in_ok-append.ensures.headed late (omega (arith, later, c.next_number.ensures)) (headed_created c.args.world.now.tree c.create_text.new.world.tree (Written c.args.text.now) c.in_ok-create_text.ensures.tree h)
