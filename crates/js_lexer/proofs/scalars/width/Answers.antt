use Rattle.std.proofs.Common.{arith, ◌+◌}
use Rattle.base_text.proofs.Utf8.{utf8_len-take}
use Rattle.js_lexer.proofs.Widths.{utf8_len-more}
use Rattle.js_lexer.proofs.scalars.width.Goals as goal

pub overflow_add-bytes : goal.overflow_add-bytes
overflow_add-bytes c =
    let more = utf8_len-more c.args.text.now c.loop-c.c-index c.c-item.result c.len_utf8-bytes.result c.loop-c-test.true c.c-item.is c.len_utf8-bytes.ensures.len in
    let within = utf8_len-take (c.loop-c.c-index + 1) c.args.text.now in
    omega (arith, c.loop-c.invariant, c.requires)

pub loop-c-preserved : goal.loop-c-preserved
loop-c-preserved c =
    let more = utf8_len-more c.args.text.now c.loop-c.c-index c.c-item.result c.len_utf8-bytes.result c.loop-c-test.true c.c-item.is c.len_utf8-bytes.ensures.len in
    omega (arith, c.loop-c.invariant)
