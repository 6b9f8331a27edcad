use Rattle.js_reference_parser.proofs.Parsed.{one_script}
use Rattle.js_reference_parser.proofs.laws.scripts_are_read_one_way.Goals as goal

pub returns : goal.returns
returns c = λ chains levels tokens script other a b. one_script chains levels tokens script other a b
