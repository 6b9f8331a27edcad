use Rattle.std.proofs.Common.{◌∙◌}
use Rattle.js_primitive_functions.proofs.PartsBetween.{three_texts}
use Rattle.js_primitive_functions.proofs.replacement.joined.Goals as goal

pub returns-clause-ok : goal.returns-clause-ok
returns-clause-ok c =
    let whole = three_texts c.args.first.now c.args.second.now c.args.third.now c.as_str.result.now c.utf8.first c.utf8.second (c.as_str.ensures.value ∙ c.in_ok-whole.ensures) in
    rw whole at c.of.ensures.scalars
