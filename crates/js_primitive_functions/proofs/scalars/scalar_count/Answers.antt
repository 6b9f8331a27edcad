use Rattle.std.proofs.Common.{rules}
use Rattle.std.proofs.lemmas.Str.{chars_from_encodes, chars-IsAscii}
use Rattle.js_primitive_functions.proofs.scalars.scalar_count.Goals as goal

pub returns-then-is_ascii-clause-exact : goal.returns-then-is_ascii-clause-exact
returns-then-is_ascii-clause-exact c = search (rules, chars-IsAscii)

pub returns-clause-exact : goal.returns-clause-exact
returns-clause-exact c = search (rules, chars_from_encodes)
