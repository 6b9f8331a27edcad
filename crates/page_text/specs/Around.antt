-- What is printed of a node before and after what is inside it.
use Rattle.std.specs.Prelude.{ℕ, Bool, true, false, not, List, [], if◌then◌else◌}
use Rattle.dom_semantics.specs.Forest.{Form, Root, Tagged, Written, Noted}
use Rattle.page_text.specs.Nodes.{is_void}
use Rattle.page_text.specs.Printed.{end_tag, shown_comment, shown_text, start_tag}

-- whether what is inside a node of this form is printed
abbrev pub has_inside : Form → Bool
has_inside Root = true
has_inside (Tagged tag) = not (is_void tag)
has_inside (Written text) = false
has_inside (Noted text) = false

-- what stands before it, or the whole of a text or a comment
abbrev pub front_of : Bool → Form → List (List ℕ × List ℕ) → List ℕ
front_of raw Root attributes = []
front_of raw (Tagged tag) attributes = start_tag tag attributes
front_of raw (Written text) attributes = shown_text raw text
front_of raw (Noted text) attributes = shown_comment text

-- what stands after it
abbrev pub back_of : Form → List ℕ
back_of (Tagged tag) = if is_void tag then [] else end_tag tag
back_of form = []
