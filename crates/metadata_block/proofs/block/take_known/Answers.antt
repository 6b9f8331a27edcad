use Rattle.metadata_block.proofs.Counts.{untouched}
use Rattle.metadata_block.proofs.block.take_known.Goals as goal

pub returns-in-RunAt-clause-kept : goal.returns-in-RunAt-clause-kept
returns-in-RunAt-clause-kept g c = untouched c.take_run_at.result (g.P.Patterns.refusals c.args.patterns.now)

pub returns-in-Grant-clause-kept : goal.returns-in-Grant-clause-kept
returns-in-Grant-clause-kept g c = untouched c.take_grant.result (g.P.Patterns.refusals c.args.patterns.now)
