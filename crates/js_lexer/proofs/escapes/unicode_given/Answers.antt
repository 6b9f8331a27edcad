use Rattle.std.proofs.Common.{sym, ◌∙◌}
use Rattle.js_lexer.proofs.HexRuns.{unicode_below, lone_half}
use Rattle.js_lexer.proofs.escapes.unicode_given.Goals as goal

pub returns-in_err-scalar : goal.returns-in_err-scalar
returns-in_err-scalar c =
    let below = unicode_below c.args.text.now (c.in_ok-number.number, c.in_ok-number.rest.now) c.in_ok-number.ensures in
    rw (c.from_residual-in_err-scalar.ensures, ← c.in_ok-number.ensures)
    (lone_half c.in_ok-number.number c.in_ok-number.rest.now below c.in_err-scalar.ensures.cases (sym c.is_high_surrogate.ensures ∙ c.if-is_high_surrogate.false))
