use Rattle.scenario.proofs.ScenarioFacts.{the_scenarios, the_faults}
use Rattle.scenario.proofs.laws.some_scenarios_are_read_so.Goals as goal

pub returns-clause-scenarios : goal.returns-clause-scenarios
returns-clause-scenarios c = the_scenarios

pub returns-clause-faults : goal.returns-clause-faults
returns-clause-faults c = the_faults
