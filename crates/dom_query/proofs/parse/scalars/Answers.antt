use Rattle.std.proofs.Common.{rules}
use Rattle.std.proofs.lemmas.Str.{chars_from_encodes}
use Rattle.dom_query.proofs.parse.scalars.Goals as goal

pub returns : goal.returns
returns c = search (rules, chars_from_encodes)
