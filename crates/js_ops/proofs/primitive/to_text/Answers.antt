use Rattle.std.proofs.Common.{◌≡◌, true, false, rules}
use Rattle.std.specs.Str.{chars}
use Rattle.js_ops.proofs.primitive.to_text.Goals as goal

pub returns-in-Undefined : goal.returns-in-Undefined
unfolding chars
returns-in-Undefined c = rw c.in-Undefined.is c.word.ensures

pub returns-in-Null : goal.returns-in-Null
unfolding chars
returns-in-Null c = rw c.in-Null.is c.word-in-Null.ensures

pub returns-in-Bool-true : goal.returns-in-Bool-true
unfolding chars
returns-in-Bool-true c =
    let so : c.in-Bool-true.field-0 ≡ true = search rules in
    rw (c.in-Bool-true.is, so) c.word-in-Bool-true.ensures

pub returns-in-Bool-false : goal.returns-in-Bool-false
unfolding chars
returns-in-Bool-false c =
    let so : c.in-Bool-false.field-0 ≡ false = search rules in
    rw (c.in-Bool-false.is, so) c.word-in-Bool-false.ensures
