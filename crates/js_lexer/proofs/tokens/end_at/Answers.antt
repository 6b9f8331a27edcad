use Rattle.std.proofs.Common.{◌∙◌}
use Rattle.std.proofs.lemmas.Str.{chars-nil}
use Rattle.js_lexer.proofs.Loop.{end_token}
use Rattle.js_lexer.proofs.tokens.end_at.Goals as goal

pub returns-in-Ok : goal.returns-in-Ok
returns-in-Ok c = end_token c.args.at c.args.line_before c.in-Ok.text (c.in-Ok.ensures.scalars ∙ chars-nil)
