use Rattle.js_lexer.proofs.Shorter.{numeral_left, part_narrow}
use Rattle.js_lexer.proofs.token_at_front.number.Goals as goal

pub before-requires : goal.before-requires
before-requires c = numeral_left c.args.text.now (c.numeral-value.result.0, c.numeral-value.result.1.now) c.numeral-value.ensures

pub width-requires : goal.width-requires
width-requires c = part_narrow c.args.text.now c.numeral-value.result.1.now c.before-then-rest_runs_on.result.now _ c.before-then-rest_runs_on.ensures c.requires
