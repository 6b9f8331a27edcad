use Rattle.std.proofs.Common.{rules, ◌∙◌, ap}
use Rattle.std.specs.Prelude.{is_some, position}
use Rattle.std.proofs.lemmas.Fn.{filter_same}
use Rattle.dom_tree.specs.Places.{is_named}
use Rattle.dom_tree.proofs.Lists.{list_any-is_some}
use Rattle.dom_tree.proofs.attributes.drop_name.Goals as goal

pub returns-clause-dropped : goal.returns-clause-dropped
returns-clause-dropped c = filter_same _ _ _ (λ x b f' k. search rules) _ _ c.retain.ensures.filtered

pub returns-clause-there : goal.returns-clause-there
returns-clause-there c =
    c.is_some-there.ensures ∙ (ap is_some c.place_of.ensures ∙ (ap (λ xs. is_some (position (is_named c.args.name.now) xs)) c.deref.ensures.value ∙ list_any-is_some (is_named c.args.name.now) c.args.attributes.now.items (c.args.name.now, c.args.name.now)))
