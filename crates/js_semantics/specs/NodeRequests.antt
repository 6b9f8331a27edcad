-- What the members of Node ask for (DOM, Interface Node).
use Rattle.std.specs.Prelude.{[], ◌∷◌, Option, Some, None}
use Rattle.door.specs.declared.members.Member.{Member}
use Rattle.door.specs.declared.members.Member.TheVariants as member
use Rattle.js_semantics.specs.Arguments.{MemberRow, AsTextOrEmpty, AsTruth, AsNode, AsNodeOrNone, asks, reads}

abbrev pub node_asks : Member → Option MemberRow
node_asks member.NodeNodeType = Some (reads member.NodeNodeType)
node_asks member.NodeNodeName = Some (reads member.NodeNodeName)
node_asks member.NodeParentNode = Some (reads member.NodeParentNode)
node_asks member.NodeFirstChild = Some (reads member.NodeFirstChild)
node_asks member.NodeLastChild = Some (reads member.NodeLastChild)
node_asks member.NodePreviousSibling = Some (reads member.NodePreviousSibling)
node_asks member.NodeNextSibling = Some (reads member.NodeNextSibling)
node_asks member.NodeOwnerDocument = Some (reads member.NodeOwnerDocument)
node_asks member.NodeChildNodes = Some (reads member.NodeChildNodes)
node_asks member.NodeContains = Some (asks member.NodeContains (AsNode ∷ []))
node_asks member.NodeTextContent = Some (reads member.NodeTextContent)
node_asks member.NodeSetTextContent = Some (asks member.NodeSetTextContent (AsTextOrEmpty ∷ []))
node_asks member.NodeAppendChild = Some (asks member.NodeAppendChild (AsNode ∷ []))
node_asks member.NodeInsertBefore = Some (asks member.NodeInsertBefore (AsNode ∷ AsNodeOrNone ∷ []))
node_asks member.NodeRemoveChild = Some (asks member.NodeRemoveChild (AsNode ∷ []))
node_asks member.NodeRemove = Some (reads member.NodeRemove)
node_asks member.NodeCloneNode = Some (asks member.NodeCloneNode (AsTruth ∷ []))
node_asks name = None
