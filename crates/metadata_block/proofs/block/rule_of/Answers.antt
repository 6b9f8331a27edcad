use Rattle.metadata_block.proofs.Counts.{rule_kept}
use Rattle.metadata_block.proofs.block.rule_of.Goals as goal

pub returns-in-Err-clause-kept : goal.returns-in-Err-clause-kept
returns-in-Err-clause-kept g c =
    rule_kept (g.P.Patterns.refusals c.args.patterns.now) (g.P.Patterns.refusals c.read_rule.new.patterns) c.args.pair.now.line c.in-Err.fault c.fault_of.result c.fault_of.ensures c.in-Err.ensures.exact
