-- The targets of events.
use Rattle.std.specs.Prelude.{◌≡◌, ◌<◌, true, length}
use Rattle.door.specs.declared.values.Thing.{Thing}
use Rattle.dom_semantics.specs.Forest.{Forest}
use Rattle.dom_semantics.specs.Things.{is_node_kind}

-- where it is a node, it is one of the tree
abbrev pub HasTarget : Forest → Thing → Type 0
HasTarget f target = is_node_kind target.kind ≡ true → target.number < length f
