use Rattle.std.proofs.Common.{◌∙◌, ap, arith, ◌≡◌, ◌-◌}
use Rattle.std.specs.Prelude.{not}
use Rattle.dom_semantics.specs.Forest.{depth_of, DEPTH_LIMIT, has_levels}
use Rattle.dom_tree.proofs.Rows.{known-rows, depth-same}
use Rattle.dom_tree.proofs.inserts.is_too_deep.Goals as goal

pub steps_up-depth-requires-clause-known : goal.steps_up-depth-requires-clause-known
steps_up-depth-requires-clause-known c = known-rows c.args.nodes.now c.args.parents.now c.requires.parents

pub overflow_sub-limit : goal.overflow_sub-limit
overflow_sub-limit c =
    let same = c.steps_up-depth.ensures.exact ∙ depth-same c.args.nodes.now c.args.parents.now c.requires.parents c.depth_limit-limit.result c.args.parent c.depth_limit-limit.ensures.exact in
    let low = c.requires.forest.shallow c.args.parent in
    let limit = c.depth_limit-limit.ensures.exact in
    omega arith

pub returns : goal.returns
returns c =
    let f = c.args.nodes.now in
    let same : c.steps_up-depth.result ≡ depth_of f c.args.parent = c.steps_up-depth.ensures.exact ∙ depth-same f c.args.parents.now c.requires.parents c.depth_limit-limit.result c.args.parent c.depth_limit-limit.ensures.exact in
    let limit = c.depth_limit-limit.ensures.exact in
    let room : c.depth_limit-limit.result - c.steps_up-depth.result ≡ DEPTH_LIMIT - depth_of f c.args.parent = omega arith in
    ap not (c.fits_levels.ensures ∙ ap (λ l. has_levels l f c.args.node) room)
