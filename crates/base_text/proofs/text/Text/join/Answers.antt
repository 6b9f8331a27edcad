use Rattle.std.proofs.Common.{arith, length-append}
use Rattle.std.proofs.lemmas.Grind.{common_steps}
use Rattle.std.proofs.lemmas.Str.{chars-append}
use Rattle.base_text.proofs.text.Text.join.Goals as goal

pub new_text-requires-clause-counted : goal.new_text-requires-clause-counted
new_text-requires-clause-counted c =
    let both = chars-append c.as_str-left.result.now c.as_str-right.result.now c.as_str-left.utf8 in
    let parts = length-append c.args.self.now c.args.right.now in
    grind (arith, common_steps)

pub returns-clause-ok : goal.returns-clause-ok
returns-clause-ok c =
    let both = chars-append c.as_str-left.result.now c.as_str-right.result.now c.as_str-left.utf8 in
    rw (c.in_ok-new_text.ensures.scalars, c.in_ok-joined.ensures, both, c.as_str-left.ensures.scalars, c.as_str-right.ensures.scalars)
