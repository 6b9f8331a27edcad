use Rattle.js_reference_parser.proofs.Widening.{script_widens}
use Rattle.js_reference_parser.proofs.laws.wider_limits_keep_scripts.Goals as goal

pub returns : goal.returns
returns c = λ chains wide levels deep tokens script le lt a. script_widens chains wide levels deep le lt tokens script a
