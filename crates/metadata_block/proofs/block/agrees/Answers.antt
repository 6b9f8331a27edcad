use Rattle.metadata_block.proofs.Alike.{all_agree, first_agrees}
use Rattle.metadata_block.proofs.block.agrees.Goals as goal

pub returns : goal.returns
returns c = (
  λ t. all_agree c.args.grants.now c.args.grant c.requires (c.agrees_first.ensures.0 t),
  λ agrees. c.agrees_first.ensures.1 (first_agrees c.args.grants.now c.args.grant agrees),
)
