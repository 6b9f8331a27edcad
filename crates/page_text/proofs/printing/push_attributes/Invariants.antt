use Rattle.std.proofs.Common.{◌≡◌, ◌++◌, take}
use Rattle.std.specs.Prelude.{encode_utf8_all}
use Rattle.std.specs.List.{flat_map}
use Rattle.dom_semantics.specs.Forest.{attributes_of}
use Rattle.page_text.specs.Printed.{shown_attribute}
use Rattle.page_text.proofs.printing.push_attributes.Given as goal

abbrev pub invariant-loop-i : goal.invariant-loop-i
invariant-loop-i l = l.out.items ≡ l.fn.out.items ++ encode_utf8_all (flat_map shown_attribute (take l.i (attributes_of l.tree l.node)))
