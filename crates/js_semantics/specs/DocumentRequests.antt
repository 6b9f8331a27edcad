-- What the members of Document ask for (DOM, Interface Document, Mixin ParentNode; HTML, The Document object).
use Rattle.std.specs.Prelude.{[], ◌∷◌, Option, Some, None}
use Rattle.door.specs.declared.members.Member.{Member}
use Rattle.door.specs.declared.members.Member.TheVariants as member
use Rattle.js_semantics.specs.Arguments.{MemberRow, AsText, asks, reads}

abbrev pub document_asks : Member → Option MemberRow
document_asks member.DocumentQuerySelector = Some (asks member.DocumentQuerySelector (AsText ∷ []))
document_asks member.DocumentQuerySelectorAll = Some (asks member.DocumentQuerySelectorAll (AsText ∷ []))
document_asks member.DocumentGetElementsByTagName = Some (asks member.DocumentGetElementsByTagName (AsText ∷ []))
document_asks member.DocumentDocumentElement = Some (reads member.DocumentDocumentElement)
document_asks member.DocumentHead = Some (reads member.DocumentHead)
document_asks member.DocumentBody = Some (reads member.DocumentBody)
document_asks member.DocumentTitle = Some (reads member.DocumentTitle)
document_asks member.DocumentSetTitle = Some (asks member.DocumentSetTitle (AsText ∷ []))
document_asks member.DocumentReadyState = Some (reads member.DocumentReadyState)
document_asks member.DocumentUrl = Some (reads member.DocumentUrl)
document_asks member.DocumentCreateElement = Some (asks member.DocumentCreateElement (AsText ∷ []))
document_asks member.DocumentCreateTextNode = Some (asks member.DocumentCreateTextNode (AsText ∷ []))
document_asks member.DocumentCreateComment = Some (asks member.DocumentCreateComment (AsText ∷ []))
document_asks member.DocumentGetElementById = Some (asks member.DocumentGetElementById (AsText ∷ []))
document_asks name = None
