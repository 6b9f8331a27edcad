use Rattle.std.specs.Str.{chars}
use Rattle.js_ops.proofs.primitive.type_name.Goals as goal

pub returns-in-Undefined : goal.returns-in-Undefined
unfolding chars
returns-in-Undefined c = rw c.in-Undefined.is c.word.ensures

pub returns-in-Null : goal.returns-in-Null
unfolding chars
returns-in-Null c = rw c.in-Null.is c.word-in-Null.ensures

pub returns-in-Bool : goal.returns-in-Bool
unfolding chars
returns-in-Bool c = rw c.in-Bool.is c.word-in-Bool.ensures

pub returns-in-Number : goal.returns-in-Number
unfolding chars
returns-in-Number c = rw c.in-Number.is c.word-in-Number.ensures

pub returns-in-Str : goal.returns-in-Str
unfolding chars
returns-in-Str c = rw c.in-Str.is c.word-in-Str.ensures
