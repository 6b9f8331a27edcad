use Rattle.std.proofs.Common.{sym, ◌∙◌, ap, subst}
use Rattle.dom_semantics.specs.Forest.{form_at, takes_children}
use Rattle.dom_tree.specs.Texts.{FitsText}
use Rattle.dom_tree.specs.Forms.{form_of}
use Rattle.dom_tree.proofs.Gathered.{text_in-holder}
use Rattle.dom_tree.proofs.tree.Tree.text_at.Goals as goal

pub returns-in-Some-Element : goal.returns-in-Some-Element
returns-in-Some-Element c =
    let f = c.args.self.now in
    let holds = ap takes_children (sym c.in-Some-Element.ensures.form) ∙ ap (λ x. takes_children (form_of x)) c.in-Some-Element.field-0-is in
    subst (λ t. FitsText c.joined.result t) (text_in-holder (form_at f c.args.node.0) f c.args.node.0 holds) c.joined.ensures

pub returns-in-None : goal.returns-in-None
returns-in-None c =
    let f = c.args.self.now in
    subst (λ t. FitsText c.joined-in-None.result t) (text_in-holder (form_at f c.args.node.0) f c.args.node.0 (ap takes_children (sym c.in-None.ensures.form))) c.joined-in-None.ensures
