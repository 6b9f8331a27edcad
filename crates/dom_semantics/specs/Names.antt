-- Names of tags and attributes, and the words for what a node is (DOM, 4.9 Interface Element; the names are this project's own).
use Rattle.std.specs.Prelude.{◌||◌, ◌&&◌, ℕ, Bool, false, not, List, [], ◌∷◌, map, codes, nat_eq, nat_le}
use Rattle.std.specs.Char.{to_ascii_lowercase, to_ascii_uppercase}
use Rattle.std.specs.List.{list_all}
use Rattle.dom_semantics.specs.Forest.{Form, Root, Tagged, Written, Noted}
use Rattle.dom_semantics.specs.Whitespace.{is_white_space}

-- in ASCII lower and upper case (Infra, ASCII lowercase)
abbrev pub lower : List ℕ → List ℕ
lower t = map to_ascii_lowercase t

abbrev pub upper : List ℕ → List ℕ
upper t = map to_ascii_uppercase t

-- an ASCII letter (Infra, ASCII alpha)
abbrev pub is_letter : ℕ → Bool
is_letter c = nat_le 97 c && nat_le c 122 || nat_le 65 c && nat_le c 90

-- an ASCII letter, digit, `-` or `:`
abbrev pub is_tag_scalar : ℕ → Bool
is_tag_scalar c = is_letter c || nat_le 48 c && nat_le c 57 || nat_eq c 45 || nat_eq c 58

-- a letter, and then scalars of tags
abbrev pub is_tag : List ℕ → Bool
is_tag [] = false
is_tag (c ∷ cs) = is_letter c && list_all is_tag_scalar cs

-- neither white space nor `"`, `'`, `>`, `/`, `=`, `<`
abbrev pub is_attribute_scalar : ℕ → Bool
is_attribute_scalar c = not (is_white_space c || nat_eq c 34 || nat_eq c 39 || nat_eq c 62 || nat_eq c 47 || nat_eq c 61 || nat_eq c 60)

-- not empty, and of scalars of attribute names
abbrev pub is_attribute_name : List ℕ → Bool
is_attribute_name [] = false
is_attribute_name (c ∷ cs) = list_all is_attribute_scalar (c ∷ cs)

-- (DOM, Node.nodeType)
abbrev pub type_of_form : Form → ℕ
type_of_form Root = 9
type_of_form (Tagged tag) = 1
type_of_form (Written text) = 3
type_of_form (Noted text) = 8

-- (DOM, Node.nodeName)
abbrev pub name_of_form : Form → List ℕ
name_of_form Root = codes "#document"
name_of_form (Tagged tag) = upper tag
name_of_form (Written text) = codes "#text"
name_of_form (Noted text) = codes "#comment"
