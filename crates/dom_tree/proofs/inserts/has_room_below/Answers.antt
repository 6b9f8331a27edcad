use Rattle.std.proofs.Common.{◌∙◌, ap}
use Rattle.std.specs.Prelude.{nat_lt}
use Rattle.dom_semantics.specs.Forest.{depth_of}
use Rattle.dom_tree.proofs.Rows.{known-rows, depth-same}
use Rattle.dom_tree.proofs.inserts.has_room_below.Goals as goal

pub steps_up-requires-clause-known : goal.steps_up-requires-clause-known
steps_up-requires-clause-known c = known-rows c.args.nodes.now c.args.parents.now c.requires.parents

pub returns : goal.returns
returns c =
    let limit = c.depth_limit-limit.ensures.exact in
    let same = c.steps_up.ensures.exact ∙ depth-same c.args.nodes.now c.args.parents.now c.requires.parents c.depth_limit-limit.result c.args.n limit in
    ap (λ d. nat_lt d c.depth_limit-limit.result) same ∙ ap (λ l. nat_lt (depth_of c.args.nodes.now c.args.n) l) limit
