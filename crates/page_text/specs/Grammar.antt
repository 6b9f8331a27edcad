-- The page grammar as it is spelled: each part of a text by what it is joined of (this project's own, after HTML's syntax in outline).
use Rattle.std.specs.Prelude.{◌≡◌, ℕ, ◌<◌, ◌≤◌, ◌⊎◌, Bool, true, false, List, [], ◌∷◌, ◌++◌, length, drop}
use Rattle.std.specs.Str.{chars}
use Rattle.base_text.specs.declared.text.TheConstants.{TEXT_LIMIT}
use Rattle.page_text.specs.declared.scan.Stop.TheVariants.{AfterSpace, AfterName, AfterAttribute, AfterUnquoted, AtByte, AtCommentEnd}
use Rattle.page_text.specs.declared.tags.Attribute.{Attribute}
use Rattle.page_text.specs.Bytes.{Bytes, is_attribute_byte, begins, sees, lowered}
use Rattle.dom_semantics.specs.Whitespace.{is_white_space}
use Rattle.page_text.specs.ScansModel.{stops}
use Rattle.page_text.specs.ValuesModel.{with_line_ends, read_value}
use Rattle.page_text.specs.TagsModel.{attribute_of, with_attribute}

-- The text is what stands in front, in which no such place is, and what stands behind: nothing, or what begins at such a place.
pub record Upto (q : Bytes → Bool) (text front behind : Bytes) : Type 0 where
  pub whole : text ≡ front ++ behind
  pub clear : (k : ℕ) → k < length front → q (drop k text) ≡ false
  pub stop : (behind ≡ []) ⊎ (q behind ≡ true)

-- white space, or none, and what follows it
abbrev pub Space : Bytes → Bytes → Bytes → Type 0
Space text gap behind = Upto (stops AfterSpace) text gap behind

-- an attribute's name, which is within the limit, and what follows it
abbrev pub AttributeName : Bytes → Bytes → Bytes → Type 0
AttributeName text name behind = Upto (stops AfterAttribute) text name behind × (length (lowered name) ≤ TEXT_LIMIT)

-- `=` with white space around, and what follows it
pub record Equals (text value : Bytes) : Type 0 where
  pub gap : Bytes
  pub after_gap : Bytes
  pub after_sign : Bytes
  pub more : Bytes
  pub before_sign : Space text gap after_gap
  pub sign : after_gap ≡ 61 ∷ after_sign
  pub behind_sign : Space after_sign more value

-- a value in quotes, or a run that begins with no quote, and what follows it
pub data Value (text : Bytes) : Bytes → Bytes → Type 0 where
  in_quotes : (q : ℕ) (inside raw close rest : Bytes) → (q ≡ 34) ⊎ (q ≡ 39) → text ≡ q ∷ inside → Upto (stops (AtByte q)) inside raw close → close ≡ q ∷ rest → Value text raw rest
  unquoted : (raw rest : Bytes) → sees 34 text ≡ false → sees 39 text ≡ false → sees 62 text ≡ false → 0 < length text → Upto (stops AfterUnquoted) text raw rest → Value text raw rest

-- an attribute, and what follows it
pub data IsAttribute (text : Bytes) : Attribute → Bytes → Type 0 where
  bare : (name gap behind rest : Bytes) → AttributeName text name rest → Space rest gap behind → sees 61 behind ≡ false → IsAttribute text (attribute_of (chars (lowered name)) []) rest
  valued : (name after_name value raw rest : Bytes) → AttributeName text name after_name → Equals after_name value → Value value raw rest → length (read_value raw) ≤ TEXT_LIMIT
      → IsAttribute text (attribute_of (chars (lowered name)) (chars (read_value raw))) rest

-- the attributes of a tag, each after white space, up to its end: `>`, with or without `/` before it
pub data AreAttributes : Bytes → List Attribute → Bytes → Type 0 where
  closed : (text gap end rest : Bytes) → Space text gap end → end ≡ 62 ∷ rest → AreAttributes text [] rest
  slashed : (text gap end rest : Bytes) → Space text gap end → end ≡ 47 ∷ (62 ∷ rest) → AreAttributes text [] rest
  more : (text gap here behind rest : Bytes) (a : Attribute) (others : List Attribute) → Space text gap here → begins is_white_space text ≡ true → begins is_attribute_byte here ≡ true
      → IsAttribute here a behind → AreAttributes behind others rest → AreAttributes text (a ∷ others) rest

-- those of these attributes that count, behind those that are found: of equal names the first
abbrev pub counted : List Attribute → List Attribute → List Attribute
counted found [] = found
counted found (a ∷ others) = counted (with_attribute found a) others

-- the attributes that count of a tag, and what follows it
pub record AreCounted (text : Bytes) (found : List Attribute) (rest : Bytes) : Type 0 where
  pub all : List Attribute
  pub spelled : AreAttributes text all rest
  pub first : found ≡ counted [] all

-- the name of a tag, and what follows it
abbrev pub TagName : Bytes → Bytes → Bytes → Type 0
TagName text name behind = Upto (stops AfterName) text name behind

-- an end tag of this name, in lower case, and what follows it
pub record IsEndTag (text name rest : Bytes) : Type 0 where
  pub inside : Bytes
  pub raw : Bytes
  pub after_name : Bytes
  pub gap : Bytes
  pub end : Bytes
  pub mark : text ≡ 60 ∷ (47 ∷ inside)
  pub named : TagName inside raw after_name
  pub space : Space after_name gap end
  pub close : end ≡ 62 ∷ rest
  pub lower : name ≡ lowered raw

-- a comment of this text, and what follows it
pub record IsComment (text : Bytes) (content : List ℕ) (rest : Bytes) : Type 0 where
  pub inside : Bytes
  pub raw : Bytes
  pub end : Bytes
  pub mark : text ≡ 60 ∷ (33 ∷ (45 ∷ (45 ∷ inside)))
  pub up_to_end : Upto (stops AtCommentEnd) inside raw end
  pub close : end ≡ 45 ∷ (45 ∷ (62 ∷ rest))
  pub short : length (with_line_ends raw) ≤ TEXT_LIMIT
  pub is_text : content ≡ chars (with_line_ends raw)
