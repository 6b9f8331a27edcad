use Rattle.std.proofs.Common.{◌≡◌, ◌-◌, ◌++◌, take}
use Rattle.std.specs.Prelude.{encode_utf8_all}
use Rattle.dom_semantics.specs.Forest.{children_of}
use Rattle.page_text.proofs.PrintedParts.{children_printed, front_at}
use Rattle.page_text.proofs.printing.+push_node.Given as goal

abbrev pub decreases-push_node : goal.decreases-push_node
decreases-push_node l = l.levels

-- the children so far stand after what is before them
abbrev pub invariant-loop-child : goal.invariant-loop-child
invariant-loop-child l =
    (l.child-items ≡ children_of l.tree l.node)
    × (l.out.items ≡ l.fn.out.items ++ (encode_utf8_all (front_at l.tree l.node) ++ encode_utf8_all (children_printed (l.levels - 1) l.tree (take l.child-index l.child-items))))
