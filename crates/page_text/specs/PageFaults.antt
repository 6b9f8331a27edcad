-- Why a text is no page, and its first fault, by cases over the grammar (this project's own). The cases exclude one another: of what could be told of
-- one node the room for it comes first, then what has no end, then the length of what is read.
use Rattle.std.specs.Prelude.{◌≡◌, ℕ, suc, ◌<◌, ◌≤◌, Bool, true, false, List, [], ◌∷◌, ◌++◌, length, codes}
use Rattle.std.specs.Str.{is_utf8}
use Rattle.std.specs.Str.Lossy.{utf8_valid_len}
use Rattle.base_text.specs.declared.text.TheConstants.{TEXT_LIMIT}
use Rattle.door.specs.declared.limits.TheConstants.{DEPTH_LIMIT, NODE_LIMIT, PAGE_LIMIT}
use Rattle.dom_semantics.specs.Whitespace.{is_white_space}
use Rattle.page_text.specs.declared.faults.PageFault.{PageFault}
use Rattle.page_text.specs.declared.faults.PageKind.{PageKind}
use Rattle.page_text.specs.declared.faults.PageKind.TheVariants.{NotUtf8, TooLong, Unclosed, BadTag, WrongEnd, TooDeep}
use Rattle.page_text.specs.declared.pieces.Piece.{Piece}
use Rattle.page_text.specs.Bytes.{Bytes, is_name_byte, is_attribute_byte, begins}
use Rattle.page_text.specs.PageSpelling.{AreAll, Run, Space, NowhereIn, UpTo, begins_with, is_other, begins_start_tag, begins_end_tag, begins_comment}
use Rattle.page_text.specs.PageSpelling.{begins_markup, begins_nothing, begins_text, IsRead}
use Rattle.page_text.specs.PageTags.{ReadAttribute, StartTag, IsEquals, IsValue, AreAttributes, IsStartTag, IsEndTag, IsComment, IsShort, tag_of}
use Rattle.page_text.specs.PageTags.{begins_comment_end, begins_doctype}
use Rattle.page_text.specs.PageNodes.{Nodes, count, pieces_of}
use Rattle.page_text.specs.PageGrammar.{HasRoom, HoldsText, begins_end_of, IsTextInside, IsDocument}
use Rattle.page_text.specs.PageOpen.{Opening, IsOpenAt, IsInnermost, EndsInnermost, is_top, may_begin, may_declare}

-- ---- the longest front

-- Something such goes on from these bytes.
abbrev pub GoesOn : (Bytes → Type 0) → Bytes → Type 0
GoesOn Whole front = (b : ℕ) × (more : Bytes) × Whole (front ++ b ∷ more)

-- The text breaks off from all that are such at this place: one of them goes on from what stands before, and none has the byte there as well.
pub record BreaksAt (Whole : Bytes → Type 0) (text place : Bytes) : Type 0 where
  pub front : Bytes
  pub b : ℕ
  pub behind : Bytes
  pub parts : text ≡ front ++ place
  pub here : place ≡ b ∷ behind
  pub viable : GoesOn Whole front
  pub over : (more : Bytes) → Whole (front ++ b ∷ more) → ⊥

-- a whole start tag, and a whole end tag, however long
abbrev pub IsAnyStartTag : Bytes → Type 0
IsAnyStartTag text = (t : StartTag) × IsStartTag text t []

abbrev pub IsAnyEndTag : Bytes → Type 0
IsAnyEndTag text = (name : Bytes) × IsEndTag text name []

-- ---- faults inside tags; the text from the fault's place on stands last

-- The name or the value of the attribute that begins here is too long.
pub data LongInAttribute (text : Bytes) : Bytes → Type 0 where
  long_attribute : {raw rest : Bytes} → Run is_attribute_byte text raw rest → TEXT_LIMIT < length raw → LongInAttribute text text
  long_value : {raw after_name at_value raw_value here value rest : Bytes} → Run is_attribute_byte text raw after_name → 0 < length raw
      → IsEquals after_name at_value → IsValue at_value raw_value here rest → IsRead true raw_value value → TEXT_LIMIT < length value
      → LongInAttribute text here

-- The name of the start tag that begins here, or a part of an attribute behind whole ones, is too long; the tag needn't be whole.
pub data LongInTag (text : Bytes) : Bytes → Type 0 where
  long_name : {inside raw after_name : Bytes} → text ≡ 60 ∷ inside → Run is_name_byte inside raw after_name → TEXT_LIMIT < length raw → LongInTag text inside
  long_in_attribute : {inside raw after_name after_some gap here place : Bytes} {some : List ReadAttribute} → text ≡ 60 ∷ inside
      → Run is_name_byte inside raw after_name → AreAttributes after_name some after_some → Space after_some gap here → 0 < length gap
      → LongInAttribute here place → LongInTag text place

abbrev pub IsFirstLong : Bytes → Bytes → Type 0
IsFirstLong text place = LongInTag text place × ((other : Bytes) → LongInTag text other → length other ≤ length place)

abbrev pub HasNoneLong : Bytes → Type 0
HasNoneLong text = (place : Bytes) → LongInTag text place → ⊥

-- no start tag: a part is too long, a byte is none of a start tag's, or the text ends inside
pub data StartTagFault (text : Bytes) : PageKind → Bytes → Type 0 where
  too_long : {place : Bytes} → IsFirstLong text place → StartTagFault text TooLong place
  breaks_off : {place : Bytes} → HasNoneLong text → BreaksAt IsAnyStartTag text place → StartTagFault text BadTag place
  ends_inside : HasNoneLong text → GoesOn IsAnyStartTag text → StartTagFault text Unclosed text

-- no end tag: a byte is none of an end tag's, or the text ends inside
pub data EndTagFault (text : Bytes) : PageKind → Bytes → Type 0 where
  end_breaks_off : {place : Bytes} → BreaksAt IsAnyEndTag text place → EndTagFault text BadTag place
  end_ends_inside : GoesOn IsAnyEndTag text → EndTagFault text Unclosed text

-- ---- faults of nodes

-- There is no room for a node so many steps below the document, under this number.
pub data HasNoRoom (depth number : ℕ) : PageKind → Type 0 where
  too_many : NODE_LIMIT ≤ number → HasNoRoom depth number TooLong
  too_deep : number < NODE_LIMIT → DEPTH_LIMIT < depth → HasNoRoom depth number TooDeep

-- Text, and not its element's end tag, follows the start tag.
pub record HasTextInside (name inside : Bytes) : Type 0 where
  pub some : 0 < length inside
  pub no_end : begins_end_of name inside ≡ false

-- no content of an element that holds one text, behind its start tag `text`
pub data TextInsideFault (entities : Bool) (depth number : ℕ) (text name inside : Bytes) : PageKind → Bytes → Type 0 where
  no_room_inside : {kind : PageKind} → HasTextInside name inside → HasNoRoom depth number kind
      → TextInsideFault entities depth number text name inside kind inside
  no_end_tag : (HasTextInside name inside → HasRoom depth number) → NowhereIn (begins_end_of name) inside []
      → TextInsideFault entities depth number text name inside Unclosed text
  long_inside : {raw at_end content : Bytes} → HasRoom depth number → UpTo (begins_end_of name) inside raw at_end → begins_end_of name at_end ≡ true
      → IsRead entities raw content → TEXT_LIMIT < length content → TextInsideFault entities depth number text name inside TooLong inside
  bad_end_tag : {raw at_end place : Bytes} {nodes : Nodes} {kind : PageKind} → UpTo (begins_end_of name) inside raw at_end
      → begins_end_of name at_end ≡ true → IsTextInside entities depth number raw nodes → EndTagFault at_end kind place
      → TextInsideFault entities depth number text name inside kind place

-- no comment
pub data CommentFault (text : Bytes) : PageKind → Bytes → Type 0 where
  no_comment_end : (inside : Bytes) → text ≡ codes "<!--" ++ inside → NowhereIn begins_comment_end inside [] → CommentFault text Unclosed text
  long_comment : {content rest : Bytes} → IsComment text content rest → TEXT_LIMIT < length content → CommentFault text TooLong text

-- no element, up to the end of its start tag or, where it holds one text, of its end tag
pub data ElementFault (depth number : ℕ) (text : Bytes) : PageKind → Bytes → Type 0 where
  in_start_tag : {kind : PageKind} {place : Bytes} → StartTagFault text kind place → ElementFault depth number text kind place
  in_text : {t : StartTag} {inside place : Bytes} {entities : Bool} {kind : PageKind} → IsStartTag text t inside → IsShort t
      → HoldsText (tag_of t) entities → TextInsideFault entities (suc depth) (suc number) text t.name inside kind place
      → ElementFault depth number text kind place

-- ---- faults at a place

-- The fault at a place between nodes, where these elements are open and a node would have this number; `text` follows.
pub data FaultAt (has_element : Bool) (open_there : List Opening) (number : ℕ) (text : Bytes) : PageKind → Bytes → Type 0 where
  -- the text's end, where an element is open
  unclosed : (o : Opening) → text ≡ [] → IsInnermost open_there o → FaultAt has_element open_there number text Unclosed o.start
  -- `</` or `<!` that begins nothing, a doctype that is late, and one without an end
  bad_markup : begins_nothing text ≡ true → begins_doctype text ≡ false → FaultAt has_element open_there number text BadTag text
  late_doctype : begins_doctype text ≡ true → may_declare has_element open_there ≡ false → FaultAt has_element open_there number text BadTag text
  no_doctype_end : begins_doctype text ≡ true → may_declare has_element open_there ≡ true → AreAll (is_other 62) text
      → FaultAt has_element open_there number text Unclosed text
  -- text at the top that is no white space, and a second element there
  text_at_top : begins_text text ≡ true → is_top open_there ≡ true → begins is_white_space text ≡ false
      → FaultAt has_element open_there number text BadTag text
  second_element : begins_start_tag text ≡ true → may_begin has_element open_there ≡ false → FaultAt has_element open_there number text BadTag text
  -- a comment, an element or a run of text that there is no room for
  no_room_for_comment : {kind : PageKind} → begins_comment text ≡ true → HasNoRoom (suc (length open_there)) number kind
      → FaultAt has_element open_there number text kind text
  no_room_for_element : {kind : PageKind} → begins_start_tag text ≡ true → may_begin has_element open_there ≡ true
      → HasNoRoom (suc (length open_there)) number kind → FaultAt has_element open_there number text kind text
  no_room_for_text : {kind : PageKind} → begins_text text ≡ true → is_top open_there ≡ false → HasNoRoom (suc (length open_there)) number kind
      → FaultAt has_element open_there number text kind text
  -- no comment, no element, or a run of text that is too long
  in_comment : {kind : PageKind} {place : Bytes} → HasRoom (suc (length open_there)) number → CommentFault text kind place
      → FaultAt has_element open_there number text kind place
  in_element : {kind : PageKind} {place : Bytes} → begins_start_tag text ≡ true → may_begin has_element open_there ≡ true
      → HasRoom (suc (length open_there)) number → ElementFault (suc (length open_there)) number text kind place
      → FaultAt has_element open_there number text kind place
  long_text : {raw content behind : Bytes} → is_top open_there ≡ false → HasRoom (suc (length open_there)) number → UpTo begins_markup text raw behind
      → IsRead true raw content → TEXT_LIMIT < length content → FaultAt has_element open_there number text TooLong text
  -- no end tag, and one that doesn't end the innermost open element
  in_end_tag : {kind : PageKind} {place : Bytes} → begins_end_tag text ≡ true → EndTagFault text kind place
      → FaultAt has_element open_there number text kind place
  wrong_end : {name rest : Bytes} → IsEndTag text name rest → (EndsInnermost open_there name → ⊥) → FaultAt has_element open_there number text WrongEnd text

-- The fault of a text, behind these nodes; the text from its place on stands last.
pub record IsFault (text : Bytes) (nodes : Nodes) (kind : PageKind) (place : Bytes) : Type 0 where
  pub has_element : Bool
  pub open_there : List Opening
  pub rest : Bytes
  pub reached : IsOpenAt text has_element open_there nodes rest
  pub stands : FaultAt has_element open_there (suc (count nodes)) rest kind place

-- ---- pages

-- a byte order mark is dropped (Encoding, UTF-8 decode)
pub data DropsMark : Bytes → Bytes → Type 0 where
  marked : {text : Bytes} → DropsMark (239 ∷ (187 ∷ (191 ∷ text))) text
  unmarked : {text : Bytes} → begins_with (239 ∷ (187 ∷ (191 ∷ []))) text ≡ false → DropsMark text text

-- the bytes are those of this text
pub record IsText (bytes text : Bytes) : Type 0 where
  pub short : length bytes ≤ PAGE_LIMIT
  pub utf8 : is_utf8 bytes ≡ true
  pub mark : DropsMark bytes text

-- The bytes are a page of these pieces.
pub data IsPage (bytes : Bytes) : List Piece → Type 0 where
  page : {text : Bytes} {nodes : Nodes} → IsText bytes text → IsDocument text nodes → IsPage bytes (pieces_of nodes)

-- The bytes are no page, by this fault: these pieces are whole before it.
pub data IsFaulty (bytes : Bytes) : List Piece → PageFault → Type 0 where
  long_page : PAGE_LIMIT < length bytes → IsFaulty bytes [] (record { at = PAGE_LIMIT; kind = TooLong })
  not_utf8 : length bytes ≤ PAGE_LIMIT → is_utf8 bytes ≡ false → IsFaulty bytes [] (record { at = utf8_valid_len bytes; kind = NotUtf8 })
  no_page : {text place : Bytes} {nodes : Nodes} {kind : PageKind} {pieces : List Piece} (front : Bytes) (last : Piece) → IsText bytes text
      → IsFault text nodes kind place → pieces_of nodes ≡ pieces ++ last ∷ [] → bytes ≡ front ++ place
      → IsFaulty bytes pieces (record { at = length front; kind = kind })
