use Rattle.std.proofs.Common.{sym, ◌∙◌, ap}
use Rattle.std.specs.Prelude.{position, Some}
use Rattle.std.specs.Option.{option_copied}
use Rattle.std.proofs.lemmas.List.Quantifiers.{position-Some}
use Rattle.dom_semantics.specs.Forest.{attribute_in}
use Rattle.dom_tree.specs.Places.{is_named}
use Rattle.dom_tree.proofs.Lists.{attribute_in-found, attribute_in-none, list_any-position}
use Rattle.dom_tree.proofs.node.Stored.attribute.Goals as goal

pub returns-in_err-at : goal.returns-in_err-at
returns-in_err-at c =
    let name = c.args.name.now in
    let attributes = c.self.inside.attributes.items in
    let none = list_any-position (is_named name) attributes (ap (λ xs. position (is_named name) xs) (sym c.deref.ensures.value) ∙ sym c.in_err-at.ensures) in
    ap option_copied c.from_residual.ensures ∙ (sym (attribute_in-none name attributes none) ∙ ap (λ n. attribute_in name n.attributes) c.self.view_is)

pub returns : goal.returns
returns c =
    let name = c.args.name.now in
    let attributes = c.self.inside.attributes.items in
    let found = ap (λ xs. position (is_named name) xs) (sym c.deref.ensures.value) ∙ sym c.in_ok-at.ensures in
    let p = position-Some (is_named name) attributes c.in_ok-at.at c.index-attribute.result.now found in
    ap (λ a. Some a.1) c.index-attribute.ensures ∙ (sym (attribute_in-found name attributes c.in_ok-at.at _ p.0 p.1 p.2) ∙ ap (λ n. attribute_in name n.attributes) c.self.view_is)
