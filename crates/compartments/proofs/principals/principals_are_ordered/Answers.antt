use Rattle.compartments.proofs.Rights.{has_its_own, has_theirs}
use Rattle.compartments.proofs.principals.principals_are_ordered.Goals as goal

pub returns-clause-reflexive : goal.returns-clause-reflexive
returns-clause-reflexive c = has_its_own

pub returns-clause-transitive : goal.returns-clause-transitive
returns-clause-transitive c = has_theirs
