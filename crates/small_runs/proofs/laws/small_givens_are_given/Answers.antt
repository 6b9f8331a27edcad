use Rattle.small_runs.proofs.Givens.{given_in_order}
use Rattle.small_runs.proofs.laws.small_givens_are_given.Goals as goal

pub returns : goal.returns
returns c = given_in_order
