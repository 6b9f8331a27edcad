use Rattle.solo_model.specs.Given.{setting_of}
use Rattle.solo_model.proofs.Ends.{ends, few_in_all, waits_or_cut}
use Rattle.solo_model.proofs.laws.lawful_journals_end.Goals as goal

pub returns-clause-few : goal.returns-clause-few
returns-clause-few c = λ given marks lawful. few_in_all given (setting_of given marks) marks lawful

pub returns-clause-unfinished : goal.returns-clause-unfinished
returns-clause-unfinished c = λ given marks lawful. (ends given marks lawful).0

pub returns-clause-cut : goal.returns-clause-cut
returns-clause-cut c = λ given marks lawful. waits_or_cut given marks lawful
