use Rattle.std.proofs.Common.{false}
use Rattle.js_reference_parser.proofs.EndsWell.{ends_well_from}
use Rattle.js_reference_parser.proofs.laws.tokens_of_a_text_end_well.Goals as goal

pub returns : goal.returns
returns c = λ text tokens h. ends_well_from 0 false text tokens h
