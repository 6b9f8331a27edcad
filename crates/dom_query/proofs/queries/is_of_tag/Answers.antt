use Rattle.std.proofs.Common.{ap, sym, ◌∙◌}
use Rattle.dom_semantics.specs.Forest.{form_at}
use Rattle.dom_tree.specs.Forms.{form_of}
use Rattle.dom_query.proofs.SingleTests.{of_tag-star, of_tag-name}
use Rattle.dom_query.proofs.queries.is_of_tag.Goals as goal

pub returns-then-is_text : goal.returns-then-is_text
returns-then-is_text c =
    of_tag-star c.is_text.result c.args.tag.now c.in-Some-Element.name (form_at c.args.tree.now c.args.n.0)
    (sym (ap form_of c.in-Some-Element.field-0-is) ∙ c.in-Some-Element.ensures.form) c.is_text.ensures c.if-is_text.true

pub returns-else-is_text : goal.returns-else-is_text
returns-else-is_text c =
    of_tag-name c.is_text.result c.is_same_name.result c.args.tag.now c.in-Some-Element.name (form_at c.args.tree.now c.args.n.0)
    (sym (ap form_of c.in-Some-Element.field-0-is) ∙ c.in-Some-Element.ensures.form) c.is_text.ensures c.if-is_text.false c.is_same_name.ensures
