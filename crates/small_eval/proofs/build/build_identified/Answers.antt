use Rattle.std.proofs.Common.{arith, ◌<◌}
use Rattle.dom_semantics.specs.Forest.{Tagged}
use Rattle.small_eval.proofs.Building.{headed_created, identified_built, made_element}
use Rattle.small_eval.proofs.build.build_identified.Goals as goal

pub identify-requires-clause-element : goal.identify-requires-clause-element
identify-requires-clause-element c = made_element c.args.world.now c.create_element.new.world c.in_ok-tag.tag c.next_number-number.result c.in_ok-create_element.ensures.built.sound c.in_ok-create_element.ensures.tree c.in_ok-create_element.ensures.own c.next_number-number.ensures

pub returns-clause-built : goal.returns-clause-built
returns-clause-built c = identified_built c.args.world.now c.create_element.new.world c.identify.new.world c.append.new.world _ c.next_number-number.result c.args.tag.now c.in_ok-tag.tag c.args.id.now c.in_ok-id.id c.args.parent c.in_ok-tag.ensures c.in_ok-id.ensures c.next_number-number.ensures
    c.in_ok-create_element.ensures.built c.in_ok-identify.ensures.built c.in_ok-append.ensures.built

pub returns-clause-headed : goal.returns-clause-headed
returns-clause-headed c late later h =
    let far : 3 < c.next_number-number.result = omega (arith, later, c.next_number-number.ensures) in
    c.in_ok-append.ensures.headed late far (c.in_ok-identify.ensures.headed far (headed_created c.args.world.now.tree c.create_element.new.world.tree (Tagged c.in_ok-tag.tag) c.in_ok-create_element.ensures.tree h))
