use Rattle.js_lexer.proofs.Shorter.{text_shorter, body_narrow}
use Rattle.js_lexer.proofs.token_at_front.text_after.Goals as goal

pub slice_bounds-body-count : goal.slice_bounds-body-count
slice_bounds-body-count c = text_shorter c.args.quote c.args.text.now c.in-Some.rest.now c.in-Some.ensures

pub text_with-requires : goal.text_with-requires
text_with-requires c = body_narrow _ c.args.text.now _ c.requires
