use Rattle.std.proofs.Common.{◌∙◌, false, rules}
use Rattle.js_ops.proofs.Spelling.{first_read, start_read}
use Rattle.js_ops.proofs.numeral.start_on.Goals as goal

pub returns-else-c-eq45 : goal.returns-else-c-eq45
returns-else-c-eq45 c = λ rest.
    c.digit_on.ensures rest ∙ first_read false c.args.c rest ∙ start_read c.args.c rest (search rules) c.if-c-eq45.false
