use Rattle.std.proofs.Common.{sym}
use Rattle.dom_tree.proofs.Parents.{child-within, parent_of-child}
use Rattle.page_text.proofs.printing.stands_raw.Goals as goal

pub has_raw_texts-requires : goal.has_raw_texts-requires
has_raw_texts-requires c = let found = sym c.in-Some.ensures in child-within c.args.tree.now c.in-Some.parent.0 c.args.node (parent_of-child c.args.tree.now c.args.node c.in-Some.parent.0 found)
