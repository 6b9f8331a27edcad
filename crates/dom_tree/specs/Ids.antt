-- Nodes by their names.
use Rattle.std.specs.Prelude.{ℕ, List, map, Option, option_map}
use Rattle.dom_tree.specs.declared.form.NodeId.{NodeId}

-- the number of the node that is named, if one is
abbrev pub number_of : Option NodeId → Option ℕ
number_of id = option_map (λ (i : NodeId). i.0) id

-- the numbers of these nodes
abbrev pub numbers_of : List NodeId → List ℕ
numbers_of nodes = map (λ (node : NodeId). node.0) nodes

-- the node of a number by its name
abbrev pub node_id : ℕ → NodeId
node_id n = record { 0 = n }
