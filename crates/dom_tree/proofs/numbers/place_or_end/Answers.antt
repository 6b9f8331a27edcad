use Rattle.std.proofs.Common.{sym, ◌∙◌, arith}
use Rattle.std.specs.Prelude.{nat_eq}
use Rattle.std.proofs.lemmas.List.Quantifiers.{position-Some}
use Rattle.dom_tree.proofs.Lists.{before_child-found, before_child-none, insert-end, list_any-position}
use Rattle.dom_tree.proofs.numbers.place_or_end.Goals as goal

pub returns-in-Some-clause-placed : goal.returns-in-Some-clause-placed
returns-in-Some-clause-placed c n =
    let p = position-Some (nat_eq c.args.other) c.args.numbers.now c.in-Some.at 0 (sym c.in-Some.ensures) in
    before_child-found n c.args.other c.args.numbers.now c.in-Some.at 0 p.0 p.1 p.2

pub returns-in-None-clause-placed : goal.returns-in-None-clause-placed
returns-in-None-clause-placed c n =
    before_child-none n c.args.other c.args.numbers.now (list_any-position (nat_eq c.args.other) c.args.numbers.now (sym c.in-None.ensures)) ∙ sym (insert-end c.args.numbers.now n)

pub returns-in-Some-clause-within : goal.returns-in-Some-clause-within
returns-in-Some-clause-within c =
    let p = position-Some (nat_eq c.args.other) c.args.numbers.now c.in-Some.at 0 (sym c.in-Some.ensures) in omega arith
