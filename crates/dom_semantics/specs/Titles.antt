-- The document's title (HTML, DOM tree accessors: `document.title`, `document.head`).
use Rattle.std.specs.Prelude.{◌+◌, ℕ, Bool, not, List, [], ◌∷◌, length, codes, nat_le, if◌then◌else◌, Option, Some, None}
use Rattle.std.specs.Option.{option_map_or}
use Rattle.door.specs.declared.values.Actor.{Actor}
use Rattle.door.specs.declared.requests.ErrorKind.{ErrorKind}
use Rattle.door.specs.declared.requests.ErrorKind.TheVariants.{Limit, TooDeep}
use Rattle.dom_semantics.specs.Forest.{Tagged, Forest, DEPTH_LIMIT, NODE_LIMIT, form_at, children_of, is_element, is_tagged, tree_order, child_text, depth_of, made_by}
use Rattle.dom_semantics.specs.Changes.{created, inserted, is_empty, text_refusal, with_text}
use Rattle.dom_semantics.specs.Whitespace.{collapsed}

-- the first of these nodes that passes
abbrev pub first_that : (ℕ → Bool) → List ℕ → Option ℕ
first_that is [] = None
first_that is (n ∷ ns) = if is n then Some n else first_that is ns

-- the first element of this tag among these nodes
abbrev pub first_tagged : List ℕ → Forest → List ℕ → Option ℕ
first_tagged tag f ns = first_that (λ n. is_tagged tag (form_at f n)) ns

-- the title element: the first in tree order
abbrev pub title_element : Forest → Option ℕ
title_element f = first_tagged (codes "title") f (tree_order f 0)

-- its child text content, stripped and collapsed, or the empty text
abbrev pub title_of : Forest → List ℕ
title_of f = option_map_or (λ n. collapsed (child_text f n)) (title_element f) []

-- the document's element (DOM, document element)
abbrev pub document_element : Forest → Option ℕ
document_element f = first_that (λ n. is_element (form_at f n)) (children_of f 0)

-- the head element: its first child of that tag
abbrev pub head_element : Forest → Option ℕ
head_element f = option_map_or (λ n. first_tagged (codes "head") f (children_of f n)) (document_element f) None

-- a title element of this text is appended to a node
abbrev pub title_appended : Forest → Actor → ℕ → List ℕ → Forest
title_appended f maker parent text = with_text (inserted (created f maker (Tagged (codes "title"))) parent (length f) None) maker (length f) text

-- the title is written: the title element gets this text, or else the head a title element of it, or else nothing happens
abbrev pub titled : Forest → Actor → List ℕ → Forest
titled f maker text = option_map_or (λ n. with_text f maker n text) (title_element f) (option_map_or (λ n. title_appended f maker n text) (head_element f) f)

-- how many nodes a new title element of this text is
abbrev pub new_nodes : List ℕ → ℕ
new_nodes text = if is_empty text then 1 else 2

-- a title element that is appended is refused where a node of it would be over one of the limits
abbrev pub append_refusal : Forest → Actor → ℕ → List ℕ → Option ErrorKind
append_refusal f maker parent text =
    if not (nat_le (made_by f maker + new_nodes text) NODE_LIMIT) then Some Limit
    else (if not (nat_le (depth_of f parent + new_nodes text) DEPTH_LIMIT) then Some TooDeep else None)

-- why a title isn't written
abbrev pub title_refusal : Forest → Actor → List ℕ → Option ErrorKind
title_refusal f maker text = option_map_or (λ n. text_refusal f maker n text) (title_element f) (option_map_or (λ n. append_refusal f maker n text) (head_element f) None)
