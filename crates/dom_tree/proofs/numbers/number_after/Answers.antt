use Rattle.std.proofs.Common.{add-one, sym, ◌∙◌, ap}
use Rattle.std.specs.Prelude.{nat_eq, slice_get}
use Rattle.std.proofs.lemmas.List.Quantifiers.{position-Some}
use Rattle.dom_tree.proofs.Lists.{after_in-found, after_in-none, list_any-position}
use Rattle.dom_tree.proofs.numbers.number_after.Goals as goal

pub returns-in_err-at : goal.returns-in_err-at
returns-in_err-at c =
    c.from_residual.ensures ∙ sym (after_in-none c.args.n c.args.numbers.now (list_any-position (nat_eq c.args.n) c.args.numbers.now (sym c.in_err-at.ensures)))

pub returns : goal.returns
returns c =
    let p = position-Some (nat_eq c.args.n) c.args.numbers.now c.in_ok-at.at 0 (sym c.in_ok-at.ensures) in
    let found = after_in-found c.args.n c.args.numbers.now c.in_ok-at.at 0 p.0 p.1 p.2 in
    c.number_at.ensures ∙ (ap (λ i. slice_get c.args.numbers.now i) (add-one c.in_ok-at.at) ∙ sym found)
