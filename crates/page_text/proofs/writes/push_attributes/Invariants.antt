use Rattle.std.proofs.Common.{◌≡◌, ◌++◌, map, take}
use Rattle.page_text.specs.Nodes.{attribute_write}
use Rattle.page_text.proofs.writes.push_attributes.Given as goal

abbrev pub invariant-loop-one : goal.invariant-loop-one
invariant-loop-one l = l.writes ≡ l.fn.writes ++ map (attribute_write l.number) (take l.one-index l.attributes)
