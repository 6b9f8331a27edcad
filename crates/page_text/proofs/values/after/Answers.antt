use Rattle.page_text.proofs.Reading.{after_is}
use Rattle.page_text.proofs.values.after.Goals as goal

pub returns : goal.returns
returns c = after_is c.args.word.now c.args.text.now c.strip_prefix.result c.utf8.text c.strip_prefix.ensures.cases
