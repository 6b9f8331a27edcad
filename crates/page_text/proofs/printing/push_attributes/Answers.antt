use Rattle.dom_semantics.specs.Forest.{attributes_of}
use Rattle.page_text.specs.Printed.{shown_attribute}
use Rattle.page_text.proofs.Encoded.{more_encoded}
use Rattle.page_text.proofs.printing.push_attributes.Goals as goal

pub loop-i-preserved : goal.loop-i-preserved
loop-i-preserved c =
    more_encoded shown_attribute (attributes_of c.args.tree.now c.args.node) c.loop-i.i (c.in-Some.name.now, c.in-Some.value.now) c.args.out.now.items c.loop-i.out.items c.push_attribute.new.out.items c.in-Some.ensures c.loop-i.invariant c.in_ok-push_attribute-in-Some.ensures
