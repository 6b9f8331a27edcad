use Rattle.page_text.proofs.PageFacts.{the_pages, the_faults}
use Rattle.page_text.proofs.facts.some_pages_are_spelled_so.Goals as goal

pub returns-clause-pages : goal.returns-clause-pages
returns-clause-pages c = the_pages

pub returns-clause-faults : goal.returns-clause-faults
returns-clause-faults c = the_faults
