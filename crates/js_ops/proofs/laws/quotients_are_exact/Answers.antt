use Rattle.js_ops.proofs.Division.{told_as_quotient}
use Rattle.js_ops.proofs.laws.quotients_are_exact.Goals as goal

pub returns : goal.returns
returns c = told_as_quotient
