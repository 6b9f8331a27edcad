use Rattle.js_syntax.specs.TokenScalars.{is_name_part}
use Rattle.js_lexer.proofs.Shorter.{tail_shorter}
use Rattle.js_lexer.proofs.token_at_front.front_of.Goals as goal

pub name-requires : goal.name-requires
name-requires c = tail_shorter is_name_part _ c.args.text.now c.after_name.result.now c.after_name.ensures
