use Rattle.metadata_block.proofs.SameBlocks.{select_alike}
use Rattle.metadata_block.proofs.laws.same_blocks_select_alike.Goals as goal

pub returns : goal.returns
returns c = λ m n. select_alike c.args.address.now c.same_rules_fit_alike.ensures m n
