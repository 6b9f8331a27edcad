use Rattle.metadata_block.proofs.OneAnswer.{one_meta, one_fault, not_both}
use Rattle.metadata_block.proofs.laws.a_block_has_at_most_one_answer.Goals as goal

pub returns-clause-one : goal.returns-clause-one
returns-clause-one c = λ s m n. one_meta c.rules_are_read_one_way.ensures.one s m n

pub returns-clause-one_fault : goal.returns-clause-one_fault
returns-clause-one_fault c = λ s f g. one_fault c.rules_are_read_one_way.ensures.one c.rules_are_read_one_way.ensures.not_refused s f g

pub returns-clause-not_both : goal.returns-clause-not_both
returns-clause-not_both c = λ s m f. not_both c.rules_are_read_one_way.ensures.one c.rules_are_read_one_way.ensures.not_refused s m f
