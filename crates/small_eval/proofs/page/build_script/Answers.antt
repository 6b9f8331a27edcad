use Rattle.std.proofs.Common.{◌<◌, subst, arith, length, ℕ}
use Rattle.door.specs.declared.values.Kind.TheVariants.{Element}
use Rattle.solo_model.specs.Things.{thing_of}
use Rattle.small_eval.specs.Builds.{HasBuilt}
use Rattle.small_eval.specs.Pieces.{text_writes}
use Rattle.small_eval.proofs.Building.{empty_told, script_full}
use Rattle.small_eval.proofs.page.build_script.Goals as goal

pub returns-clause-built : goal.returns-clause-built
returns-clause-built c =
    let some : 0 < length c.args.text.now = omega (arith, c.count.ensures.exact, c.if-count-eq0.false) in
    let P : ℕ → Type 0 = λ n. HasBuilt (text_writes (length c.build_element.new.world.own.items) c.args.text.now (thing_of Element n)) 1 c.build_element.new.world c.build_text.new.world in
    script_full c.args.world.now c.build_element.new.world c.build_text.new.world c.args.text.now (empty_told c.args.text.now some) c.in_ok-build_element.ensures.built (subst P c.next_number.ensures c.in_ok-build_text.ensures.built)
