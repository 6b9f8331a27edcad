-- How tags, comments and doctypes are spelled (this project's own, after HTML's syntax in outline).
use Rattle.std.specs.Prelude.{◌≡◌, ℕ, ◌<◌, ◌≤◌, Bool, true, false, not, List, [], ◌∷◌, ◌++◌, length, codes, map}
use Rattle.std.specs.List.{filter}
use Rattle.std.specs.Str.{chars, bytes_eq}
use Rattle.base_text.specs.declared.text.TheConstants.{TEXT_LIMIT}
use Rattle.page_text.specs.declared.tags.Attribute.{Attribute}
use Rattle.page_text.specs.Bytes.{Bytes, is_letter, is_name_byte, is_attribute_byte, begins, sees, opens, lowered}
use Rattle.page_text.specs.PageSpelling.{AreAll, Run, Space, UpTo, begins_with, is_other, is_quote, is_unquoted, IsRead}

-- ---- attributes

-- an attribute as it is read, in bytes: its name in lower case, and its value
pub record ReadAttribute : Type 0 where
  pub name : Bytes
  pub value : Bytes

-- `=` with white space around, or none
pub data IsEquals (text rest : Bytes) : Type 0 where
  equals : {before behind more : Bytes} → Space text before (61 ∷ behind) → Space behind more rest → IsEquals text rest

-- A value: its bytes, the text from its first byte on, and what follows it. It stands in quotes, or is a run that begins with no quote.
pub data IsValue (text : Bytes) : Bytes → Bytes → Bytes → Type 0 where
  quoted : {quote : ℕ} {raw inside rest : Bytes} → is_quote quote ≡ true → text ≡ quote ∷ inside → inside ≡ raw ++ quote ∷ rest → AreAll (is_other quote) raw
      → IsValue text raw inside rest
  unquoted : {raw rest : Bytes} → begins is_quote text ≡ false → Run is_unquoted text raw rest → 0 < length raw → IsValue text raw text rest

-- an attribute, and what follows it
pub data IsAttribute (text : Bytes) : ReadAttribute → Bytes → Type 0 where
  bare : {raw gap behind rest : Bytes} → Run is_attribute_byte text raw rest → 0 < length raw → Space rest gap behind → sees 61 behind ≡ false
      → IsAttribute text (record { name = lowered raw; value = [] }) rest
  valued : {raw after_name at_value raw_value here value rest : Bytes} → Run is_attribute_byte text raw after_name → 0 < length raw
      → IsEquals after_name at_value → IsValue at_value raw_value here rest → IsRead true raw_value value
      → IsAttribute text (record { name = lowered raw; value = value }) rest

-- attributes, each after white space
pub data AreAttributes : Bytes → List ReadAttribute → Bytes → Type 0 where
  no_more : {text : Bytes} → AreAttributes text [] text
  one_more : {text gap here behind rest : Bytes} {a : ReadAttribute} {others : List ReadAttribute} → Space text gap here → 0 < length gap
      → IsAttribute here a behind → AreAttributes behind others rest → AreAttributes text (a ∷ others) rest

abbrev pub attribute_of : ReadAttribute → Attribute
attribute_of a = record { name = chars a.name; value = chars a.value }

-- of attributes with equal names the first counts
abbrev pub first_of_each : List Attribute → List Attribute
first_of_each [] = []
first_of_each (a ∷ others) = a ∷ filter (λ b. not (bytes_eq b.name a.name)) (first_of_each others)

-- ---- tags

-- a start tag as it is read: its name in lower case, and all its attributes
pub record StartTag : Type 0 where
  pub name : Bytes
  pub attributes : List ReadAttribute

-- the end of a start tag, in which a `/` says nothing
pub data EndsTag (text rest : Bytes) : Type 0 where
  closed : {gap : Bytes} → Space text gap (62 ∷ rest) → EndsTag text rest
  slashed : {gap : Bytes} → Space text gap (47 ∷ (62 ∷ rest)) → EndsTag text rest

-- a start tag, and what follows it
pub data IsStartTag (text : Bytes) : StartTag → Bytes → Type 0 where
  start_tag : {inside raw after_name after_all rest : Bytes} {attributes : List ReadAttribute} → text ≡ 60 ∷ inside → begins is_letter inside ≡ true
      → Run is_name_byte inside raw after_name → AreAttributes after_name attributes after_all → EndsTag after_all rest
      → IsStartTag text (record { name = lowered raw; attributes = attributes }) rest

-- the tag and the attributes of the element that it begins
abbrev pub tag_of : StartTag → List ℕ
tag_of t = chars t.name

abbrev pub attributes_of : StartTag → List Attribute
attributes_of t = first_of_each (map attribute_of t.attributes)

-- an end tag, its name in lower case, and what follows it
pub data IsEndTag (text : Bytes) : Bytes → Bytes → Type 0 where
  end_tag : {inside raw after_name gap rest : Bytes} → text ≡ 60 ∷ (47 ∷ inside) → begins is_letter inside ≡ true → Run is_name_byte inside raw after_name
      → Space after_name gap (62 ∷ rest) → IsEndTag text (lowered raw) rest

-- ---- comments and doctypes

abbrev pub begins_comment_end : Bytes → Bool
begins_comment_end text = begins_with (codes "-->") text

-- a comment, up to the next `-->`, and what follows it
pub data IsComment (text : Bytes) : Bytes → Bytes → Type 0 where
  comment : {inside raw end content rest : Bytes} → text ≡ codes "<!--" ++ inside → UpTo begins_comment_end inside raw end → end ≡ codes "-->" ++ rest
      → IsRead false raw content → IsComment text content rest

-- `<!doctype` in any case
abbrev pub begins_doctype : Bytes → Bool
begins_doctype text = opens (codes "<!doctype") text

-- a doctype, up to the next `>`, and what follows it
pub data IsDoctype (text rest : Bytes) : Type 0 where
  doctype : (front : Bytes) → begins_doctype text ≡ true → text ≡ front ++ 62 ∷ rest → AreAll (is_other 62) front → IsDoctype text rest

-- ---- lengths, in bytes of what is read

abbrev pub AreShort : List ReadAttribute → Type 0
AreShort [] = Unit {0}
AreShort (a ∷ others) = (length a.name ≤ TEXT_LIMIT) × (length a.value ≤ TEXT_LIMIT) × AreShort others

-- no part of the tag is too long, also no attribute that doesn't count
abbrev pub IsShort : StartTag → Type 0
IsShort t = (length t.name ≤ TEXT_LIMIT) × AreShort t.attributes
