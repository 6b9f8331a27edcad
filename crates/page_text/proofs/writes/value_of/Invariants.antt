use Rattle.std.proofs.Common.{◌≡◌, drop}
use Rattle.page_text.specs.Nodes.{value_of}
use Rattle.page_text.proofs.writes.value_of.Given as goal

abbrev pub invariant-loop-one : goal.invariant-loop-one
invariant-loop-one l = value_of l.word (drop l.one-index l.attributes) ≡ value_of l.word l.attributes
