use Rattle.url_rules.proofs.Readings.{one_rule, not_refused}
use Rattle.url_rules.proofs.laws.rules_are_read_one_way.Goals as goal

pub returns-clause-one : goal.returns-clause-one
returns-clause-one c = λ line s rule other. one_rule line s rule other

pub returns-clause-not_refused : goal.returns-clause-not_refused
returns-clause-not_refused c = λ line s rule before after f. not_refused line s rule before after f
