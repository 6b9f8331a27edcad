use Rattle.std.proofs.Common.{arith, sym, refl, Ok, ◌∙◌}
use Rattle.base_text.specs.declared.text.TextFault.TheVariants.{TooLong}
use Rattle.js_lexer.proofs.Shorter.{left_shorter, part_narrow}
use Rattle.js_lexer.proofs.Bodies.{body_word, not_long}
use Rattle.js_lexer.proofs.token_at_front.text_with.Goals as goal

pub returns-in-Ok : goal.returns-in-Ok
returns-in-Ok c =
    body_word c.args.quote c.args.body.now c.args.rest.now c.in-Ok.text c.in_ok-value.left.now _ c.in_ok-value.ensures (c.in-Ok.ensures.ok ∙ c.deref.ensures) (sym c.if-is_empty.ensures)
    (λ h. not_long (Ok c.in-Ok.text) c.in-Ok.text TooLong _ _ refl c.in-Ok.ensures.too_long.1 (rw (c.deref.ensures) h))

pub before-requires : goal.before-requires
before-requires c = left_shorter c.args.body.now _ c.in_ok-value.left.now c.in_ok-value.ensures

pub width-requires : goal.width-requires
width-requires c = part_narrow c.args.body.now c.in_ok-value.left.now c.before-in-Ok-2.result.now _ c.before-in-Ok-2.ensures c.requires

pub overflow_add-len_utf8 : goal.overflow_add-len_utf8
overflow_add-len_utf8 c =
    let narrow = part_narrow c.args.body.now c.in_ok-value.left.now c.before-in-Ok-2.result.now _ c.before-in-Ok-2.ensures c.requires in
    omega (arith, c.width.ensures, c.len_utf8.ensures.upper_bound)
