use Rattle.std.proofs.Common.{sym, ◌∙◌, ap}
use Rattle.std.specs.Prelude.{position, slice_set, ◌++◌, ◌∷◌, []}
use Rattle.std.proofs.lemmas.List.Quantifiers.{position-Some}
use Rattle.dom_tree.specs.Places.{is_named}
use Rattle.dom_tree.proofs.Lists.{set_in-found, set_in-none, list_any-position, same_pair}
use Rattle.dom_tree.proofs.attributes.set_value.Goals as goal

pub returns-in-Some-clause-ok : goal.returns-in-Some-clause-ok
returns-in-Some-clause-ok c =
    let name = c.args.name.now in
    let attributes = c.args.attributes.now.items in
    let found = ap (λ xs. position (is_named name) xs) (sym c.deref.ensures.value) ∙ sym c.in-Some.ensures in
    let p = position-Some (is_named name) attributes c.in-Some.at c.index_mut.result.now found in
    ap (λ n. slice_set attributes c.in-Some.at n) (same_pair _ _ _ _ (ap (λ a. a.0) c.index_mut.ensures.value) c.in_ok-value.ensures) ∙ sym (set_in-found name c.args.value.now attributes c.in-Some.at _ p.0 p.1 p.2)

pub returns-in_ok-push-in-None-clause-ok : goal.returns-in_ok-push-in-None-clause-ok
returns-in_ok-push-in-None-clause-ok c =
    let name = c.args.name.now in
    let none = list_any-position (is_named name) c.args.attributes.now.items (ap (λ xs. position (is_named name) xs) (sym c.deref.ensures.value) ∙ sym c.in-None.ensures) in
    c.in_ok-push-in-None.ensures.items ∙ (ap (λ x. c.args.attributes.now.items ++ x ∷ []) (same_pair _ _ _ _ c.in_ok-share-in-None.ensures c.in_ok-value.ensures) ∙ sym (set_in-none name c.args.value.now c.args.attributes.now.items none))
