-- What each forest of a run keeps besides being one (DOM, 4.2 Node tree): which nodes have children, and what the document has.
use Rattle.std.specs.Prelude.{◌≡◌, ◌||◌, Bool, true, not, count_by, is_some, nat_le, slice_get}
use Rattle.std.specs.List.{list_all, list_any}
use Rattle.dom_semantics.specs.Forest.{Forest, Node, IsForest, children_of, form_at, is_element, is_text, takes_children}

-- texts and comments have no children
abbrev pub are_leaves : Forest → Bool
are_leaves f = list_all (λ (node : Node). takes_children node.form || not (is_some (slice_get node.children 0))) f

-- the document has at most one element as its child
abbrev pub has_one_element : Forest → Bool
has_one_element f = nat_le (count_by (λ c. is_element (form_at f c)) (children_of f 0)) 1

-- and no text
abbrev pub has_no_text : Forest → Bool
has_no_text f = not (list_any (λ c. is_text (form_at f c)) (children_of f 0))

-- a forest that keeps these; that a node's parent and the children of that agree is part of its being a forest
pub record IsDocumentTree (f : Forest) : Type 0 where
  pub forest : IsForest f
  pub leaves : are_leaves f ≡ true
  pub one_element : has_one_element f ≡ true
  pub no_text : has_no_text f ≡ true
