use Rattle.scenario.proofs.Spaces.{split_told}
use Rattle.scenario.proofs.fields.split_space.Goals as goal

pub returns : goal.returns
returns c = split_told c.args.s.now c.split_once.result c.split_once.ensures.cases
