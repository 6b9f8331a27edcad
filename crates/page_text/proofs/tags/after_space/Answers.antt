use Rattle.page_text.proofs.Reading.{space_taken}
use Rattle.page_text.proofs.tags.after_space.Goals as goal

pub returns-clause-less : goal.returns-clause-less
returns-clause-less c = λ h. rw c.scan.ensures.back (space_taken c.args.text.now h)
