use Rattle.std.proofs.Common.{arith}
use Rattle.base_text.specs.declared.text.TheConstants.{SOURCE_LIMIT}
use Rattle.js_lexer.proofs.Shorter.{part_narrow, before_narrow, part_width}
use Rattle.js_lexer.proofs.tokens.place_after.Goals as goal

pub width-requires : goal.width-requires
width-requires c = part_narrow c.args.left.now c.args.rest.now c.before-2.result.now SOURCE_LIMIT c.before-2.ensures (omega (arith, c.requires.limit))

pub overflow_cast-result : goal.overflow_cast-result
overflow_cast-result c =
    let narrow = part_narrow c.args.left.now c.args.rest.now c.before-2.result.now SOURCE_LIMIT c.before-2.ensures (omega (arith, c.requires.limit)) in
    omega (arith, c.width.ensures)

pub overflow_add-result : goal.overflow_add-result
overflow_add-result c =
    let narrow = before_narrow c.args.left.now c.args.rest.now in
    let same = part_width c.args.left.now c.args.rest.now c.before-2.result.now c.width.result c.before-2.ensures c.width.ensures in
    omega (arith, c.requires.limit)
