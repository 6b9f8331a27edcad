use Rattle.std.proofs.Common.{sym, ◌∙◌, ap, subst, ◌<◌}
use Rattle.std.specs.Prelude.{Some, length, slice_set}
use Rattle.std.proofs.lemmas.Bool.{cond-false}
use Rattle.dom_semantics.specs.Forest.{Forest}
use Rattle.dom_semantics.specs.Changes.{inserted, moved, removed, insert_refusal, is_itself}
use Rattle.dom_tree.specs.Tree.{IsTree}
use Rattle.dom_tree.proofs.Closing.{refilled, can_move}
use Rattle.dom_tree.proofs.Moves.{tree-moved}
use Rattle.dom_tree.proofs.Same.{length-moved}
use Rattle.dom_tree.proofs.tree.Tree.insert.Goals as goal

pub invariant_of-self-2 : goal.invariant_of-self-2
invariant_of-self-2 c =
    let nodes = c.self.inside.nodes in
    let f = nodes.items in
    let parent = c.args.parent.0 in
    let node = c.args.node.0 in
    let before = c.number_of-before.result in
    let is = c.in_ok-move_node.ensures.ok ∙ ap (λ (g : Forest). moved (removed g node) parent node before) c.deref_mut.ensures.value in
    let long = ap length is ∙ length-moved f parent node before in
    let none = ap (λ (g : Forest). insert_refusal g parent node before) (sym c.deref.ensures.value) ∙ c.in_ok-check_insert.ensures.ok in
    let can = can_move f parent node before (subst (λ (g : Forest). parent < length g) (sym c.self.view_is) c.requires.parent) (subst (λ (g : Forest). node < length g) (sym c.self.view_is) c.requires.node) none in
    subst (λ (g : Forest). IsTree g (slice_set c.self.inside.parents.items node (Some parent)) c.self.inside.counts.items)
    (sym (refilled nodes.len f c.move_node.new.nodes nodes.ok.0 long ∙ is))
    (tree-moved f c.self.inside.parents.items c.self.inside.counts.items parent node before can c.self.invariant)

pub returns-clause-ok : goal.returns-clause-ok
returns-clause-ok c =
    let nodes = c.self.inside.nodes in
    let parent = c.args.parent.0 in
    let node = c.args.node.0 in
    let before = c.number_of-before.result in
    let is = c.in_ok-move_node.ensures.ok ∙ ap (λ (g : Forest). moved (removed g node) parent node before) c.deref_mut.ensures.value in
    let long = ap length is ∙ length-moved nodes.items parent node before in
    let other = c.if-is_itself.ensures in
    refilled nodes.len nodes.items c.move_node.new.nodes nodes.ok.0 long ∙ (is ∙ (ap (λ (g : Forest). moved (removed g node) parent node before) c.self.view_is ∙ (sym (cond-false (is_itself node before) c.args.self.now _ (sym other)) ∙ ap (λ b. inserted c.args.self.now parent node b) c.number_of-before.ensures)))
