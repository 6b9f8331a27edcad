-- What the queries list (DOM, scope-match a selectors string, and the lists and getters of 4.2 and 4.5).
use Rattle.std.specs.Prelude.{ℕ, Bool, false, ◌||◌, ◌&&◌, List, codes, Option, not, length, ◌==◌}
use Rattle.std.specs.List.{filter, find}
use Rattle.std.specs.Str.{bytes_eq}
use Rattle.dom_semantics.specs.Forest.{Forest, Form, Tagged, form_at, attributes_of, is_element, descendants_of, tree_order}
use Rattle.dom_semantics.specs.declared.selectors.Compound.{Compound}
use Rattle.dom_semantics.specs.SelectorNames.{Scalars, is_same_name}
use Rattle.dom_semantics.specs.SelectorFits.{fits, has_id}

-- the proper descendants of a node that the selector takes, in tree order
abbrev pub selected : Forest → ℕ → List (List Compound) → List ℕ
selected f root chains = filter (λ n. fits f chains n) (descendants_of f root)

-- an element whose attribute id is this text; an empty attribute gives no id (DOM, unique identifier)
abbrev pub is_of_id : Forest → Scalars → ℕ → Bool
is_of_id f id n = is_element (form_at f n) && (not (length id == 0) && has_id id (attributes_of f n))

-- the first of the document's nodes in tree order with this id
abbrev pub first_of_id : Forest → Scalars → Option ℕ
first_of_id f id = find (λ n. is_of_id f id n) (tree_order f 0)

-- an element: any one for `*`, and else one of that tag, compared in ASCII lower case
abbrev pub is_of_tag : Scalars → Form → Bool
is_of_tag tag (Tagged name) = bytes_eq tag (codes "*") || is_same_name tag name
is_of_tag tag form = false

-- the proper descendants of a node of this tag, in tree order
abbrev pub tagged : Forest → ℕ → Scalars → List ℕ
tagged f root tag = filter (λ n. is_of_tag tag (form_at f n)) (descendants_of f root)
