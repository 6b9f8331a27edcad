-- A node as it is printed (HTML, Serializing HTML fragments). That no other characters have entities, that no elements but script and style
-- hold raw text, that the list of void elements is the reader's, and that doctypes are not kept, is this project's own.
use Rattle.std.specs.Prelude.{◌≡◌, ℕ, Bool, false, ◌||◌, ◌==◌, List, [], ◌∷◌, ◌++◌, codes, if◌then◌else◌}
use Rattle.std.specs.List.{flat_map}
use Rattle.std.specs.Option.{option_map_or}
use Prim.Native.Nat.{zero, suc}
use Rattle.dom_semantics.specs.Forest.{Form, Root, Tagged, Written, Noted, Forest, DEPTH_LIMIT, form_at, attributes_of, children_of, parent_of}
use Rattle.page_text.specs.Nodes.{is_named, is_void}

-- elements whose texts stand raw (HTML, Raw text elements)
abbrev pub is_raw : List ℕ → Bool
is_raw tag = is_named (codes "script") tag || is_named (codes "style") tag

-- whether the texts directly in a node of this form stand raw
abbrev pub has_raw_texts : Form → Bool
has_raw_texts (Tagged tag) = is_raw tag
has_raw_texts form = false

-- whether a node's text stands raw: by its parent; a node without one stands in no such element
abbrev pub stands_raw : Forest → ℕ → Bool
stands_raw f n = option_map_or (λ p. has_raw_texts (form_at f p)) (parent_of f n) false

-- `&`, `<` and `>` of a text by their entities
abbrev pub text_scalar : ℕ → List ℕ
text_scalar c = if c == 38 then codes "&amp;" else (if c == 60 then codes "&lt;" else (if c == 62 then codes "&gt;" else c ∷ []))

-- `&` and `"` of a value by their entities
abbrev pub value_scalar : ℕ → List ℕ
value_scalar c = if c == 38 then codes "&amp;" else (if c == 34 then codes "&quot;" else c ∷ [])

-- a text, raw or not
abbrev pub shown_text : Bool → List ℕ → List ℕ
shown_text raw text = if raw then text else flat_map text_scalar text

abbrev pub shown_comment : List ℕ → List ℕ
shown_comment text = codes "<!--" ++ (text ++ codes "-->")

-- a blank, the name, `=`, and the value in quotes
abbrev pub shown_attribute : List ℕ × List ℕ → List ℕ
shown_attribute attribute = codes " " ++ (attribute.0 ++ (codes "=\"" ++ (flat_map value_scalar attribute.1 ++ codes "\"")))

abbrev pub start_tag : List ℕ → List (List ℕ × List ℕ) → List ℕ
start_tag tag attributes = codes "<" ++ (tag ++ (flat_map shown_attribute attributes ++ codes ">"))

abbrev pub end_tag : List ℕ → List ℕ
end_tag tag = codes "</" ++ (tag ++ codes ">")

-- an element of this tag around what is inside; a void one has neither that nor an end tag
abbrev pub shown_element : List ℕ → List (List ℕ × List ℕ) → List ℕ → List ℕ
shown_element tag attributes inside = start_tag tag attributes ++ (if is_void tag then [] else inside ++ end_tag tag)

-- a node of this form around what is inside, where its own text stands raw or not
abbrev pub around : Bool → Form → List (List ℕ × List ℕ) → List ℕ → List ℕ
around raw Root attributes inside = inside
around raw (Tagged tag) attributes inside = shown_element tag attributes inside
around raw (Written text) attributes inside = shown_text raw text
around raw (Noted text) attributes inside = shown_comment text

-- the text of a node and all below it, for so many levels
abbrev pub printed_levels : ℕ → Forest → ℕ → List ℕ
printed_levels zero f n = []
printed_levels (suc levels) f n = around (stands_raw f n) (form_at f n) (attributes_of f n) (flat_map (λ child. printed_levels levels f child) (children_of f n))

-- the text of a node and all below it; none is more steps below it than the limit
abbrev pub printed : Forest → ℕ → List ℕ
printed f n = printed_levels (suc DEPTH_LIMIT) f n

-- the text of a node of this forest is that of its form around the texts of its children, however deep they reach
abbrev pub IsPrintedWhole : Forest → ℕ → Type 0
IsPrintedWhole f n = printed f n ≡ around (stands_raw f n) (form_at f n) (attributes_of f n) (flat_map (printed f) (children_of f n))
