use Rattle.std.proofs.Common.{subst}
use Rattle.scenario.specs.Lines.{IsName}
use Rattle.scenario.proofs.Numbers.{false_true}
use Rattle.scenario.proofs.Spaces.{one_two}
use Rattle.scenario.proofs.fields.read_event.Goals as goal

pub returns-then-not-is_name-clause-fault : goal.returns-then-not-is_name-clause-fault
returns-then-not-is_name-clause-fault c = λ fields.
    let two = one_two c.args.rest.now fields.0 fields.1 c.in-Some.selector.now c.in-Some.name.now fields.3 c.in-Some.ensures in
    false_true c.is_name.result c.if-not-is_name.true (c.is_name.ensures.1 (subst IsName two.1 fields.2))
