use Rattle.std.proofs.Common.{rules, ◌∙◌}
use Rattle.js_primitive_functions.proofs.ByteSearch.{from_front, nowhere, split_found}
use Rattle.js_primitive_functions.proofs.search.split_at_first.Goals as goal

pub returns-in-Some-clause-cases : goal.returns-in-Some-clause-cases
returns-in-Some-clause-cases c =
    split_found c.args.wanted.now c.args.s.now _ _ c.in-Some.at _ c.utf8.wanted c.utf8.s c.in-Some.ensures.cases (c.range.ensures.value ∙ from_front c.args.s.now c.in-Some.at) c.range_from.ensures.value (search rules)

pub returns-in-Some-clause-texts : goal.returns-in-Some-clause-texts
returns-in-Some-clause-texts c = (c.range.utf8, c.range_from.utf8)

pub returns-in-None-clause-cases : goal.returns-in-None-clause-cases
returns-in-None-clause-cases c = nowhere c.args.wanted.now c.args.s.now c.utf8.wanted c.utf8.s c.in-None.ensures.cases
