use Rattle.scenario.proofs.Spaces.{no_verb}
use Rattle.scenario.proofs.fields.read_line.Goals as goal

pub returns-in_default-verb_of-clause-fault : goal.returns-in_default-verb_of-clause-fault
returns-in_default-verb_of-clause-fault c = no_verb c.args.line.now c.in-Some.word.now c.in-Some.rest.now c.in-Some.ensures c.in_default-verb_of.ensures
