-- What the members of Element ask for (DOM, Interface Element, Mixin ParentNode).
use Rattle.std.specs.Prelude.{[], ◌∷◌, Option, Some, None}
use Rattle.door.specs.declared.members.Member.{Member}
use Rattle.door.specs.declared.members.Member.TheVariants as member
use Rattle.js_semantics.specs.Arguments.{MemberRow, AsText, asks, reads}

abbrev pub element_asks : Member → Option MemberRow
element_asks member.ElementTagName = Some (reads member.ElementTagName)
element_asks member.ElementId = Some (reads member.ElementId)
element_asks member.ElementSetId = Some (asks member.ElementSetId (AsText ∷ []))
element_asks member.ElementClassName = Some (reads member.ElementClassName)
element_asks member.ElementSetClassName = Some (asks member.ElementSetClassName (AsText ∷ []))
element_asks member.ElementGetAttribute = Some (asks member.ElementGetAttribute (AsText ∷ []))
element_asks member.ElementHasAttribute = Some (asks member.ElementHasAttribute (AsText ∷ []))
element_asks member.ElementSetAttribute = Some (asks member.ElementSetAttribute (AsText ∷ AsText ∷ []))
element_asks member.ElementRemoveAttribute = Some (asks member.ElementRemoveAttribute (AsText ∷ []))
element_asks member.ElementChildren = Some (reads member.ElementChildren)
element_asks member.ElementQuerySelector = Some (asks member.ElementQuerySelector (AsText ∷ []))
element_asks member.ElementQuerySelectorAll = Some (asks member.ElementQuerySelectorAll (AsText ∷ []))
element_asks member.ElementGetElementsByTagName = Some (asks member.ElementGetElementsByTagName (AsText ∷ []))
element_asks name = None
