use Rattle.compartments.proofs.Origins.{expanded_over}
use Rattle.compartments.proofs.principals.is_within.Goals as goal

pub returns-in-Expanded : goal.returns-in-Expanded
returns-in-Expanded c =
    expanded_over c.args.origins.now c.in-Expanded.others c.as_slice-in-Expanded.result.now c.as_slice-in-Expanded-2.result.now
    c.args.q.now c.contains_all.result
    c.in-Expanded.is c.as_slice-in-Expanded.ensures c.as_slice-in-Expanded-2.ensures c.contains_all.ensures
