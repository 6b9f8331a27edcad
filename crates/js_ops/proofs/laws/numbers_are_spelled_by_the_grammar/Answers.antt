use Rattle.js_ops.proofs.Grammar.{spelled_as_parts}
use Rattle.js_ops.proofs.laws.numbers_are_spelled_by_the_grammar.Goals as goal

pub returns : goal.returns
returns c = spelled_as_parts
