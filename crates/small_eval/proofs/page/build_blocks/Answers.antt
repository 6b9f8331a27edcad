use Rattle.std.proofs.Common.{sym, subst, Bool}
use Rattle.small_eval.specs.Builds.{HasBuilt}
use Rattle.small_eval.specs.Pieces.{block_writes}
use Rattle.small_eval.specs.Turns.{block_nodes}
use Rattle.small_eval.proofs.Building.{blocks_whole, built_none}
use Rattle.small_eval.proofs.page.build_blocks.Goals as goal

pub returns-then-not-blocks-clause-built : goal.returns-then-not-blocks-clause-built
returns-then-not-blocks-clause-built c =
    let P : Bool → Type 0 = λ b. HasBuilt (block_writes b) (block_nodes b) c.args.world.now c.args.world.now in
    subst P (sym c.if-not-blocks.true) (built_none c.args.world.now c.requires.room.sound)

pub returns-clause-built : goal.returns-clause-built
returns-clause-built c =
    let P : Bool → Type 0 = λ b. HasBuilt (block_writes b) (block_nodes b) c.args.world.now c.build_identified-2.new.world in
    subst P (sym c.if-not-blocks.false) (blocks_whole c.args.world.now c.build_identified.new.world c.build_identified-2.new.world c.requires.body c.in_ok-build_identified.ensures.built c.in_ok-build_identified-2.ensures.built)
