-- Bytes of a page and their classes; the page grammar is this project's own, after HTML's tokenization in outline.
use Rattle.std.specs.Prelude.{ℕ, Bool, true, false, not, ◌||◌, ◌&&◌, ◌==◌, nat_le, List, [], ◌∷◌, map}
use Rattle.std.specs.Char.{to_ascii_lowercase}
use Rattle.dom_semantics.specs.Whitespace.{is_white_space}

abbrev pub Bytes : Type 0
Bytes = List ℕ

abbrev pub is_letter : ℕ → Bool
is_letter b = (nat_le 97 b && nat_le b 122) || (nat_le 65 b && nat_le b 90)

-- what a tag's name goes on with: letters, digits, `-` and `:`
abbrev pub is_name_byte : ℕ → Bool
is_name_byte b = is_letter b || ((nat_le 48 b && nat_le b 57) || ((b == 45) || (b == 58)))

-- `"`, `'`, `>`, `/`, `=` and `<`
abbrev pub is_mark : ℕ → Bool
is_mark b = (b == 34) || ((b == 39) || ((b == 62) || ((b == 47) || ((b == 61) || (b == 60)))))

-- what an attribute's name is made of
abbrev pub is_attribute_byte : ℕ → Bool
is_attribute_byte b = not (is_white_space b || is_mark b)

-- the text's first byte is such
abbrev pub begins : (ℕ → Bool) → Bytes → Bool
begins q [] = false
begins q (b ∷ bs) = q b

-- the text's first byte is this one
abbrev pub sees : ℕ → Bytes → Bool
sees b text = begins (λ c. c == b) text

-- the text begins with this word of lower-case letters and other bytes, its letters in any case
abbrev pub opens : Bytes → Bytes → Bool
opens [] text = true
opens (w ∷ ws) [] = false
opens (w ∷ ws) (b ∷ bs) = (to_ascii_lowercase b == w) && opens ws bs

-- letters in lower case
abbrev pub lowered : Bytes → Bytes
lowered text = map to_ascii_lowercase text
