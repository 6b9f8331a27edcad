use Rattle.page_text.proofs.Reading.{text_taken}
use Rattle.page_text.proofs.steps.text_step.Goals as goal

pub returns-clause-rest : goal.returns-clause-rest
returns-clause-rest c = λ h. (rw c.scan.ensures.back (text_taken c.args.s.rest.now h), c.scan.ensures.utf8)
