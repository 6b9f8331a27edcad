use Rattle.scenario.proofs.Decided.{read_or_refused}
use Rattle.scenario.proofs.Readings.{one_refusal, one_scenario, scenario_or_refused}
use Rattle.scenario.proofs.laws.a_scenario_has_one_reading.Goals as goal

pub returns-clause-some : goal.returns-clause-some
returns-clause-some c = λ bytes. read_or_refused bytes

pub returns-clause-one : goal.returns-clause-one
returns-clause-one c = λ bytes read other. one_scenario bytes read other

pub returns-clause-one_fault : goal.returns-clause-one_fault
returns-clause-one_fault c = λ bytes fault other. one_refusal bytes fault other

pub returns-clause-not_both : goal.returns-clause-not_both
returns-clause-not_both c = λ bytes read fault. scenario_or_refused bytes read fault
