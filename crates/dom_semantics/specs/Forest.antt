-- The document's nodes as a forest (DOM, 1.1 Trees and 4.4 Interface Node): each node by the number of its making, with its children in
-- order by number. The document is node 0. A node that has no parent is the root of a tree of its own.
use Rattle.std.specs.Prelude.{◌≡◌, ◌<◌, ◌≤◌, ◌||◌, ◌&&◌, ℕ, Bool, true, false, not, List, [], ◌∷◌, length, nat_eq, slice_get, slice_index_or, option_and_then, count_by, if◌then◌else◌, Option, Some, None}
use Rattle.std.specs.List.{flat_map, list_any, list_all, position_from}
use Rattle.std.specs.Option.{option_map_or}
use Rattle.std.specs.Str.{bytes_eq}
use Prim.Native.Nat.{zero, suc}
use Rattle.door.specs.declared.values.Actor.{Actor}
use Rattle.door.specs.declared.values.TheConstants.{HOST}
use Rattle.door.specs.declared.limits.TheConstants as limits

-- what a node is: the document, an element of a tag, a text or a comment
pub data Form : Type 0 where
  Root : Form
  Tagged : List ℕ → Form
  Written : List ℕ → Form
  Noted : List ℕ → Form

-- a node: who made it, what it is, its attributes in order by name and value, and its children in order by number
pub record Node : Type 0 where
  pub maker : Actor
  pub form : Form
  pub attributes : List (List ℕ × List ℕ)
  pub children : List ℕ

-- the nodes in the order of their making
abbrev pub Forest : Type 0
Forest = List Node

-- the most steps of a node below its root, and the most nodes of one maker; named here again so that proofs don't compute them
unfoldable pub DEPTH_LIMIT : ℕ
DEPTH_LIMIT = limits.DEPTH_LIMIT

unfoldable pub NODE_LIMIT : ℕ
NODE_LIMIT = limits.NODE_LIMIT

-- the actor that makes the document
abbrev pub the_host : Actor
the_host = HOST

-- a node as it is made
abbrev pub new_node : Actor → Form → Node
new_node maker form = record { maker = maker; form = form; attributes = []; children = [] }

-- what stands for a node where none has the number: an empty text
abbrev pub no_node : Node
no_node = new_node the_host (Written [])

-- the document alone
abbrev pub new_forest : Forest
new_forest = new_node the_host Root ∷ []

-- the node of a number, and what it has
abbrev pub node_at : Forest → ℕ → Node
node_at f n = slice_index_or f n no_node

abbrev pub form_at : Forest → ℕ → Form
form_at f n = (node_at f n).form

abbrev pub attributes_of : Forest → ℕ → List (List ℕ × List ℕ)
attributes_of f n = (node_at f n).attributes

abbrev pub children_of : Forest → ℕ → List ℕ
children_of f n = (node_at f n).children

abbrev pub is_document : Form → Bool
is_document Root = true
is_document form = false

abbrev pub is_element : Form → Bool
is_element (Tagged tag) = true
is_element form = false

abbrev pub is_text : Form → Bool
is_text (Written text) = true
is_text form = false

-- only the document and elements have children
abbrev pub takes_children : Form → Bool
takes_children form = is_document form || is_element form

-- an element of this tag
abbrev pub is_tagged : List ℕ → Form → Bool
is_tagged tag (Tagged t) = bytes_eq t tag
is_tagged tag form = false

-- whether a number is among these
abbrev pub is_among : ℕ → List ℕ → Bool
is_among n ns = list_any (nat_eq n) ns

-- c is a child of p (DOM, child)
abbrev pub is_child : Forest → ℕ → ℕ → Bool
is_child f p c = is_among c (children_of f p)

-- the node that has n as a child (DOM, parent)
abbrev pub parent_of : Forest → ℕ → Option ℕ
parent_of f n = position_from (λ (node : Node). is_among n node.children) 0 f

-- the first of a node's children (DOM, first child)
abbrev pub first_child_of : Forest → ℕ → Option ℕ
first_child_of f n = slice_get (children_of f n) 0

-- what stands after n among these
abbrev pub after_in : ℕ → List ℕ → Option ℕ
after_in n [] = None
after_in n (c ∷ cs) = if nat_eq n c then slice_get cs 0 else after_in n cs

-- the child after n of its parent (DOM, next sibling)
abbrev pub next_sibling_of : Forest → ℕ → Option ℕ
next_sibling_of f n = option_and_then (λ p. after_in n (children_of f p)) (parent_of f n)

-- at most so many steps upwards: the parent, its parent and so on (DOM, ancestor)
abbrev pub up_from : ℕ → Forest → ℕ → List ℕ
up_from zero f n = []
up_from (suc steps) f n = option_map_or (λ p. p ∷ up_from steps f p) (parent_of f n) []

-- all ancestors from the parent upwards; no node has more of them than the limit
abbrev pub ancestors_of : Forest → ℕ → List ℕ
ancestors_of f n = up_from (suc DEPTH_LIMIT) f n

-- how many steps a node is below its root
abbrev pub depth_of : Forest → ℕ → ℕ
depth_of f n = length (ancestors_of f n)

-- a is n or an ancestor of n (DOM, inclusive ancestor)
abbrev pub is_inclusive_ancestor : Forest → ℕ → ℕ → Bool
is_inclusive_ancestor f a n = is_among a (n ∷ ancestors_of f n)

-- the last of these numbers
abbrev pub last_of : ℕ → List ℕ → ℕ
last_of n [] = n
last_of n (m ∷ ms) = last_of m ms

-- the ancestor that has no parent, or the node itself where it has none (DOM, root)
abbrev pub root_of : Forest → ℕ → ℕ
root_of f n = last_of n (ancestors_of f n)

-- a node and all below it, for so many levels: each node before its children, and these in order (DOM, tree order)
abbrev pub in_order : ℕ → Forest → ℕ → List ℕ
in_order zero f n = []
in_order (suc levels) f n = n ∷ flat_map (λ child. in_order levels f child) (children_of f n)

-- a node's descendants in tree order (DOM, descendant)
abbrev pub descendants_of : Forest → ℕ → List ℕ
descendants_of f n = flat_map (λ child. in_order DEPTH_LIMIT f child) (children_of f n)

-- a node and its descendants in tree order (DOM, inclusive descendant)
abbrev pub tree_order : Forest → ℕ → List ℕ
tree_order f n = n ∷ descendants_of f n

-- whether the tree under a node, with itself, has at most so many levels
abbrev pub has_levels : ℕ → Forest → ℕ → Bool
has_levels zero f n = false
has_levels (suc levels) f n = list_all (λ child. has_levels levels f child) (children_of f n)

-- the text that a node itself is
abbrev pub own_text : Form → List ℕ
own_text (Written text) = text
own_text form = []

-- the texts directly in a node, joined (DOM, child text content)
abbrev pub child_text : Forest → ℕ → List ℕ
child_text f n = flat_map (λ child. own_text (form_at f child)) (children_of f n)

-- the texts below a node in tree order, joined (DOM, descendant text content)
abbrev pub descendant_text : Forest → ℕ → List ℕ
descendant_text f n = flat_map (λ d. own_text (form_at f d)) (descendants_of f n)

-- the data of a text or a comment, and else the texts below (DOM, get text content; the document is taken as an element is)
abbrev pub text_in : Form → Forest → ℕ → List ℕ
text_in (Written text) f n = text
text_in (Noted text) f n = text
text_in form f n = descendant_text f n

abbrev pub text_of : Forest → ℕ → List ℕ
text_of f n = text_in (form_at f n) f n

-- the value of the attribute of this name (DOM, get an attribute by name)
abbrev pub attribute_in : List ℕ → List (List ℕ × List ℕ) → Option (List ℕ)
attribute_in name [] = None
attribute_in name (attribute ∷ attributes) = if bytes_eq attribute.0 name then Some attribute.1 else attribute_in name attributes

abbrev pub attribute_of : Forest → ℕ → List ℕ → Option (List ℕ)
attribute_of f n name = attribute_in name (attributes_of f n)

-- how many nodes an actor has made; the document is one of the host's
abbrev pub made_by : Forest → Actor → ℕ
made_by f maker = count_by (λ (node : Node). nat_eq node.maker.0 maker.0) f

-- no number stands twice
abbrev pub are_different : List ℕ → Bool
are_different [] = true
are_different (n ∷ ns) = not (is_among n ns) && are_different ns

-- whether an attribute has this name
abbrev pub has_name : List ℕ → List (List ℕ × List ℕ) → Bool
has_name name attributes = list_any (λ (attribute : List ℕ × List ℕ). bytes_eq attribute.0 name) attributes

-- the nodes are a forest: parents and children agree, a node has at most one parent, none is its own ancestor or deeper than the limit
pub record IsForest (f : Forest) : Type 0 where
  -- node 0 is the document, and no other node is one
  pub document : is_document (form_at f 0) ≡ true
  pub alone : (n : ℕ) → is_document (form_at f (suc n)) ≡ false
  -- children are nodes, but not the document
  pub known : (p c : ℕ) → is_child f p c ≡ true → c < length f
  pub free : (p : ℕ) → is_child f p 0 ≡ false
  -- a node is the child of at most one, and stands there once
  pub one_parent : (p q c : ℕ) → is_child f p c ≡ true → is_child f q c ≡ true → p ≡ q
  pub once : (p : ℕ) → are_different (children_of f p) ≡ true
  -- the way up ends within the limit, so no node is its own ancestor
  pub shallow : (n : ℕ) → depth_of f n ≤ DEPTH_LIMIT
