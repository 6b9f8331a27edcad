-- Which elements a selector takes (Selectors Level 4, 3.5 and 5 to 6; DOM, match a selector against an element).
use Rattle.std.specs.Prelude.{ℕ, Bool, true, false, ◌||◌, ◌&&◌, List, [], ◌∷◌, Option, Some, None, codes, reverse}
use Rattle.std.specs.List.{list_any, list_all, slice_split}
use Rattle.std.specs.Option.{option_map_or}
use Rattle.std.specs.Str.{bytes_eq}
use Rattle.dom_semantics.specs.Forest.{Forest, Form, Tagged, form_at, attributes_of, attribute_in, ancestors_of}
use Rattle.dom_semantics.specs.declared.selectors.Compound.{Compound}
use Rattle.dom_semantics.specs.declared.selectors.Part.{Part}
use Rattle.dom_semantics.specs.declared.selectors.Part.TheVariants.{Id, Class, Has, Is}
use Rattle.dom_semantics.specs.declared.selectors.TagTest.{TagTest}
use Rattle.dom_semantics.specs.declared.selectors.TagTest.TheVariants.{Any, Named}
use Rattle.dom_semantics.specs.SelectorNames.{Scalars, is_same_name}
use Rattle.dom_semantics.specs.Whitespace.{is_white_space}

abbrev pub Attributes : Type 0
Attributes = List (Scalars × Scalars)

-- `*`, and no tag at all, take each element; tags are compared in ASCII lower case
abbrev pub fits_tag : Option TagTest → Scalars → Bool
fits_tag None tag = true
fits_tag (Some Any) tag = true
fits_tag (Some (Named name)) tag = is_same_name name tag

-- the attribute id is this text
abbrev pub has_id : Scalars → Attributes → Bool
has_id id attributes = option_map_or (λ value. bytes_eq value id) (attribute_in (codes "id") attributes) false

-- the name is one of the parts of the text between white space (DOM, ordered set parser); a name isn't empty
abbrev pub has_word : Scalars → Scalars → Bool
has_word name text = list_any (λ word. bytes_eq word name) (slice_split is_white_space text)

-- the name is one of the words of the attribute class
abbrev pub has_class : Scalars → Attributes → Bool
has_class name attributes = option_map_or (λ value. has_word name value) (attribute_in (codes "class") attributes) false

-- attribute names are compared in ASCII lower case, values exactly
abbrev pub has_name : Scalars → Attributes → Bool
has_name name attributes = list_any (λ (a : Scalars × Scalars). is_same_name name a.0) attributes

abbrev pub has_value : Scalars → Scalars → Attributes → Bool
has_value name value attributes = list_any (λ (a : Scalars × Scalars). is_same_name name a.0 && bytes_eq a.1 value) attributes

abbrev pub fits_part : Part → Attributes → Bool
fits_part (Id name) attributes = has_id name attributes
fits_part (Class name) attributes = has_class name attributes
fits_part (Has name) attributes = has_name name attributes
fits_part (Is name value) attributes = has_value name value attributes

abbrev pub fits_parts : List Part → Attributes → Bool
fits_parts parts attributes = list_all (λ p. fits_part p attributes) parts

-- an element of such a tag that each part fits
abbrev pub fits_form : Compound → Form → Attributes → Bool
fits_form c (Tagged tag) attributes = fits_tag c.tag tag && fits_parts c.parts attributes
fits_form c form attributes = false

abbrev pub fits_compound : Forest → Compound → ℕ → Bool
fits_compound f c n = fits_form c (form_at f n) (attributes_of f n)

-- These compounds fit some of these nodes, one further on for each.
abbrev pub fits_among : Forest → List Compound → List ℕ → Bool
fits_among f [] nodes = true
fits_among f (c ∷ cs) [] = false
fits_among f (c ∷ cs) (n ∷ nodes) = (fits_compound f c n && fits_among f cs nodes) || fits_among f (c ∷ cs) nodes

-- The first of these compounds fits the node, and the others fit some of its ancestors upwards.
abbrev pub fits_inwards : Forest → List Compound → ℕ → Bool
fits_inwards f [] n = false
fits_inwards f (c ∷ cs) n = fits_compound f c n && fits_among f cs (ancestors_of f n)

-- The last compound fits the node, and each one before it an ancestor further up, which may stand above the root of the search.
abbrev pub fits_chain : Forest → List Compound → ℕ → Bool
fits_chain f chain n = fits_inwards f (reverse chain) n

-- one of the chains fits the node
abbrev pub fits : Forest → List (List Compound) → ℕ → Bool
fits f chains n = list_any (λ chain. fits_chain f chain n) chains
