-- How the smallest parts of a page are spelled: runs of bytes, and the texts that they are read as (this project's own, after HTML's syntax in
-- outline). A part is told by the text that begins with it and what follows it, both lists of bytes.
use Rattle.std.specs.Prelude.{◌≡◌, ℕ, ◌⊎◌, Bool, true, false, not, ◌||◌, ◌&&◌, ◌==◌, [], ◌∷◌, ◌++◌, codes}
use Rattle.dom_semantics.specs.Whitespace.{is_white_space}
use Rattle.page_text.specs.Bytes.{Bytes, is_letter, begins, sees}

-- ---- runs

-- each of them is such
abbrev pub AreAll : (ℕ → Bool) → Bytes → Type 0
AreAll q [] = Unit {0}
AreAll q (b ∷ bs) = (q b ≡ true) × AreAll q bs

-- The text begins with a run of such bytes, as long as it can be, or with none; the rest follows it.
pub record Run (q : ℕ → Bool) (text run rest : Bytes) : Type 0 where
  pub whole : text ≡ run ++ rest
  pub all : AreAll q run
  pub longest : begins q rest ≡ false

-- white space, or none
abbrev pub Space : Bytes → Bytes → Bytes → Type 0
Space text gap rest = Run is_white_space text gap rest

-- the text begins with this word
abbrev pub begins_with : Bytes → Bytes → Bool
begins_with [] text = true
begins_with (w ∷ ws) [] = false
begins_with (w ∷ ws) (b ∷ bs) = (b == w) && begins_with ws bs

-- Nothing such begins at any of these bytes, before this rest.
abbrev pub NowhereIn : (Bytes → Bool) → Bytes → Bytes → Type 0
NowhereIn q [] rest = Unit {0}
NowhereIn q (b ∷ bs) rest = (q (b ∷ (bs ++ rest)) ≡ false) × NowhereIn q bs rest

-- The text begins with what stands before the first place at which something such begins, or is all of it where there is none.
pub record UpTo (q : Bytes → Bool) (text front rest : Bytes) : Type 0 where
  pub whole : text ≡ front ++ rest
  pub nowhere : NowhereIn q front rest
  pub stop : (rest ≡ []) ⊎ (q rest ≡ true)

-- a byte other than this one
abbrev pub is_other : ℕ → ℕ → Bool
is_other mark b = not (b == mark)

-- `"` and `'`
abbrev pub is_quote : ℕ → Bool
is_quote b = (b == 34) || (b == 39)

-- what a value without quotes is made of
abbrev pub is_unquoted : ℕ → Bool
is_unquoted b = not (is_white_space b || (b == 62))

-- ---- what stands at the front of a text

-- `<` and a letter
abbrev pub begins_start_tag : Bytes → Bool
begins_start_tag [] = false
begins_start_tag (b ∷ bs) = (b == 60) && begins is_letter bs

-- `</` and a letter
abbrev pub begins_end_tag : Bytes → Bool
begins_end_tag [] = false
begins_end_tag (b ∷ []) = false
begins_end_tag (b ∷ (c ∷ bs)) = ((b == 60) && (c == 47)) && begins is_letter bs

abbrev pub begins_comment : Bytes → Bool
begins_comment text = begins_with (codes "<!--") text

-- a letter, `/` and `!`
abbrev pub is_behind_mark : ℕ → Bool
is_behind_mark b = is_letter b || ((b == 47) || (b == 33))

-- `<` before one of these; before anything else it is text
abbrev pub begins_markup : Bytes → Bool
begins_markup [] = false
begins_markup (b ∷ bs) = (b == 60) && begins is_behind_mark bs

-- markup that nothing begins with
abbrev pub begins_nothing : Bytes → Bool
begins_nothing text = begins_markup text && not (begins_start_tag text || (begins_end_tag text || begins_comment text))

-- something that is no markup
abbrev pub begins_text : Bytes → Bool
begins_text [] = false
begins_text (b ∷ bs) = not (begins_markup (b ∷ bs))

-- ---- texts and values

-- CR LF and CR are read as LF (HTML, Preprocessing the input stream).
pub data LineEnds : Bytes → Bytes → Type 0 where
  no_line : LineEnds [] []
  in_line : {b : ℕ} {bs read : Bytes} → (b == 13) ≡ false → LineEnds bs read → LineEnds (b ∷ bs) (b ∷ read)
  lone_return : {bs read : Bytes} → sees 10 bs ≡ false → LineEnds bs read → LineEnds (13 ∷ bs) (10 ∷ read)
  return_and_line_feed : {bs read : Bytes} → LineEnds bs read → LineEnds (13 ∷ (10 ∷ bs)) (10 ∷ read)

-- an entity and its character (HTML, Named character references, five of them)
pub data IsEntity : Bytes → ℕ → Type 0 where
  amp : IsEntity (codes "&amp;") 38
  lt : IsEntity (codes "&lt;") 60
  gt : IsEntity (codes "&gt;") 62
  quot : IsEntity (codes "&quot;") 34
  apos : IsEntity (codes "&apos;") 39

abbrev pub begins_entity : Bytes → Bool
begins_entity text =
    begins_with (codes "&amp;") text || (begins_with (codes "&lt;") text || (begins_with (codes "&gt;") text
    || (begins_with (codes "&quot;") text || begins_with (codes "&apos;") text)))

-- Each entity is read as its character, and any other `&` as itself.
pub data Entities : Bytes → Bytes → Type 0 where
  no_character : Entities [] []
  entity : {word bs read : Bytes} {c : ℕ} → IsEntity word c → Entities bs read → Entities (word ++ bs) (c ∷ read)
  itself : {b : ℕ} {bs read : Bytes} → begins_entity (b ∷ bs) ≡ false → Entities bs read → Entities (b ∷ bs) (b ∷ read)

-- how bytes are read, without entities and with them
pub data IsRead : Bool → Bytes → Bytes → Type 0 where
  as_it_stands : {raw read : Bytes} → LineEnds raw read → IsRead false raw read
  with_entities : {raw lines read : Bytes} → LineEnds raw lines → Entities lines read → IsRead true raw read
