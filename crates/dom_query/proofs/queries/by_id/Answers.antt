use Rattle.std.proofs.Common.{ap, ◌∙◌, ℕ}
use Rattle.std.specs.List.{find}
use Rattle.dom_semantics.specs.Forest.{tree_order}
use Rattle.dom_semantics.specs.Queries.{is_of_id}
use Rattle.dom_query.proofs.queries.by_id.Goals as goal

pub returns : goal.returns
returns c =
    let f = c.args.tree.now in
    c.first_of_id.ensures ∙ ap (λ (n : ℕ). find (λ (m : ℕ). is_of_id f c.args.id.now m) (tree_order f n)) c.document.ensures.number
