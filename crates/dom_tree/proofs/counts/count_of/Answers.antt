use Rattle.std.proofs.Common.{sym}
use Rattle.std.proofs.lemmas.List.Quantifiers.{position-Some}
use Rattle.dom_tree.specs.Counts.{is_of}
use Rattle.dom_tree.proofs.CountLemmas.{count_in-first, count_in-none, has_count-none}
use Rattle.dom_tree.proofs.counts.count_of.Goals as goal

pub returns-in-Some : goal.returns-in-Some
returns-in-Some c =
    let p = position-Some (is_of c.args.maker) c.args.counts.now c.in-Some.at (record { 0 = 0 }, 0) (sym c.in-Some.ensures) in
    sym (count_in-first c.args.counts.now c.args.maker c.in-Some.at _ p.0 p.1 p.2)

pub returns-in-None : goal.returns-in-None
returns-in-None c = sym (count_in-none c.args.counts.now c.args.maker (has_count-none c.args.counts.now c.args.maker (sym c.in-None.ensures)))
