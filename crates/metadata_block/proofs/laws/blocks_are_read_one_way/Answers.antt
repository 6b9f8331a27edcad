use Rattle.metadata_block.proofs.OneBlock.{one_way}
use Rattle.metadata_block.proofs.laws.blocks_are_read_one_way.Goals as goal

pub returns : goal.returns
returns c = λ s one other. one_way s one other
