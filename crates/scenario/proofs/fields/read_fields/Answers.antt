use Rattle.std.proofs.Common.{subst, sym}
use Rattle.base_text.specs.Answers.{IfFault}
use Rattle.scenario.specs.Lines.{RestFails}
use Rattle.scenario.specs.declared.line.Verb.{Verb}
use Rattle.scenario.proofs.fields.read_fields.Goals as goal

pub returns-in-Input-clause-fault : goal.returns-in-Input-clause-fault
returns-in-Input-clause-fault c = subst (λ (v : Verb). IfFault c.read_input.result (RestFails v c.args.rest.now)) (sym c.in-Input.is) c.read_input.ensures.fault

pub returns-in-Event-clause-fault : goal.returns-in-Event-clause-fault
returns-in-Event-clause-fault c = subst (λ (v : Verb). IfFault c.read_event.result (RestFails v c.args.rest.now)) (sym c.in-Event.is) c.read_event.ensures.fault
