use Rattle.std.proofs.Common.{arith}
use Rattle.dom_semantics.specs.Forest.{Tagged}
use Rattle.small_eval.proofs.Building.{element_built, headed_created}
use Rattle.small_eval.proofs.build.build_element.Goals as goal

pub returns-clause-built : goal.returns-clause-built
returns-clause-built c = element_built c.args.world.now c.create_element.new.world c.append.new.world _ c.next_number.result c.args.tag.now c.in_ok-tag.tag c.args.parent c.in_ok-tag.ensures c.next_number.ensures c.in_ok-create_element.ensures.built c.in_ok-append.ensures.built

pub returns-clause-headed : goal.returns-clause-headed
returns-clause-headed c late later h = c.in_ok-append.ensures.headed late (omega (arith, later, c.next_number.ensures)) (headed_created c.args.world.now.tree c.create_element.new.world.tree (Tagged c.in_ok-tag.tag) c.in_ok-create_element.ensures.tree h)
