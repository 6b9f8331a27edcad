use Rattle.std.proofs.Common.{ap, ◌∙◌, ◌∷◌, [], length}
use Rattle.door.specs.declared.values.Value.TheVariants.{Str}
use Rattle.door.specs.declared.members.Member.TheVariants.{DocumentCreateElement}
use Rattle.small_eval.specs.Pieces.{creates}
use Rattle.small_eval.proofs.Building.{built_one, create_told}
use Rattle.small_eval.proofs.build.create_element.Goals as goal

pub returns-clause-built : goal.returns-clause-built
returns-clause-built c =
    let values = c.in_ok-arguments.ensures ∙ ap (λ t. Str t ∷ []) c.in_ok-share.ensures in
    built_one c.args.world.now c.create.new.world (creates c.args.tag.now) _ (length c.args.world.now.tree ∷ []) c.requires.room.sound c.in_ok-create.ensures.sound
    (create_told c.args.world.now DocumentCreateElement c.args.tag.now c.in_ok-arguments.arguments c.requires.room.sound c.requires.room.rooted values) c.in_ok-create.ensures.added c.in_ok-create.ensures.own
