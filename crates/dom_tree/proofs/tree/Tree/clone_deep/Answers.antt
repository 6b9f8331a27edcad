use Rattle.std.proofs.Common.{sym, ◌∙◌, ap, arith, subst, ◌≡◌, ◌+◌, ◌<◌, ◌^◌}
use Rattle.std.specs.Prelude.{ℕ, length, List, Option, ◌++◌}
use Prim.Native.Nat.{suc}
use Rattle.dom_semantics.specs.Forest.{Forest, Node, in_order, tree_order, made_by, DEPTH_LIMIT, NODE_LIMIT}
use Rattle.dom_tree.specs.Counts.{IsRaised}
use Rattle.dom_tree.proofs.Copied.{tree-copied, copies_alone, parents_alone, copies_count}
use Rattle.dom_tree.proofs.tree.Tree.clone_deep.Goals as goal

pub copy_below-requires-clause-room : goal.copy_below-requires-clause-room
unfolding NODE_LIMIT
copy_below-requires-clause-room c =
    let f = c.args.self.now in
    let n = c.args.n in
    let none = ap length c.new-copies.ensures.nodes in
    let levels : c.depth_limit-levels.result + 1 ≡ suc DEPTH_LIMIT = let exact = c.depth_limit-levels.ensures.exact in omega arith in
    let same = c.deref.ensures.value ∙ c.self.view_is in
    let long = ap length same in
    let count = ap (λ (g : Forest). length (in_order (c.depth_limit-levels.result + 1) g n)) same ∙ ap (λ k. length (in_order k f n)) levels in
    let most = c.requires.count in
    let room = c.requires.room in
    omega arith

pub add_nodes-requires : goal.add_nodes-requires
unfolding NODE_LIMIT
add_nodes-requires c =
    let f = c.self.inside.nodes.items in
    let n = c.args.n in
    let maker = c.args.maker in
    let made = c.self.invariant.counts maker ∙ ap (λ (g : Forest). made_by g maker) c.self.view_is in
    let copies = copies_alone f c.deref.result.now maker n (c.depth_limit-levels.result + 1) c.new-copies.result.nodes.items c.copy_below.new.copies.nodes.items c.deref.ensures.value c.new-copies.ensures.nodes c.in_ok-copy_below.ensures.nodes in
    let levels : c.depth_limit-levels.result + 1 ≡ suc DEPTH_LIMIT = let exact = c.depth_limit-levels.ensures.exact in omega arith in
    let long = ap length copies ∙ (copies_count f maker n (c.depth_limit-levels.result + 1) levels ∙ ap (λ (g : Forest). length (tree_order g n)) c.self.view_is) in
    let most = c.requires.count in
    omega arith

pub invariant_of-self-2 : goal.invariant_of-self-2
unfolding NODE_LIMIT
invariant_of-self-2 c =
    let s = c.self.inside in
    let f = s.nodes.items in
    let n = c.args.n in
    let maker = c.args.maker in
    let e = c.in_ok-add_nodes.ensures in
    let all = c.depth_limit-levels.result + 1 in
    let copies = copies_alone f c.deref.result.now maker n all c.new-copies.result.nodes.items c.copy_below.new.copies.nodes.items c.deref.ensures.value c.new-copies.ensures.nodes c.in_ok-copy_below.ensures.nodes in
    let rows = parents_alone f c.deref.result.now n all c.new-copies.result.nodes.items c.new-copies.result.parents.items c.copy_below.new.copies.parents.items c.deref.ensures.value c.new-copies.ensures.nodes c.new-copies.ensures.parents c.in_ok-copy_below.ensures.parents in
    let levels : c.depth_limit-levels.result + 1 ≡ suc DEPTH_LIMIT = let exact = c.depth_limit-levels.ensures.exact in omega arith in
    let count = copies_count f maker n all levels ∙ ap (λ (g : Forest). length (tree_order g n)) c.self.view_is in
    let most = c.requires.count in
    let room = subst (λ (g : Forest). length g < 2 ^ 31) (sym c.self.view_is) c.requires.room in
    tree-copied f _ s.parents.items _ s.counts.items _ maker n all levels c.requires.plain (omega arith)
    (e.nodes ∙ ap (λ (b : List Node). f ++ b) copies) (e.parents ∙ ap (λ (r : List (Option ℕ)). s.parents.items ++ r) rows)
    (subst (λ (b : List Node). IsRaised s.counts.items c.add_nodes.new.counts.items maker (length b)) copies e.counts) c.self.invariant
