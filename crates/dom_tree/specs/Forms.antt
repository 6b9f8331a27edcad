-- The forms of nodes as `dom_semantics` has them.
use Rattle.std.specs.Prelude.{ℕ, Bool, true, false, List, Option, Some, None}
use denote.Ref.{Bor}
use Rattle.dom_semantics.specs.Forest.{Form, Root, Tagged, Written, Noted}
use Rattle.dom_tree.specs.declared.form.NodeForm.{NodeForm}
use Rattle.dom_tree.specs.declared.form.NodeForm.TheVariants.{Element, Str, Comment}

-- the form of a node that isn't the document
abbrev pub form_of : NodeForm → Form
form_of (Element tag) = Tagged tag
form_of (Str text) = Written text
form_of (Comment text) = Noted text

-- no form is that of the document
abbrev pub form_or_document : Option NodeForm → Form
form_or_document None = Root
form_or_document (Some form) = form_of form

-- what a pair of references points to
abbrev pub pair_copied : {A B : Type 0} → Option (Bor A × Bor B) → Option (A × B)
pair_copied None = None
pair_copied (Some pair) = Some (pair.0.now, pair.1.now)

-- a text or a comment with other data, and any other form as it is
abbrev pub data_in : Form → List ℕ → Form
data_in (Written old) text = Written text
data_in (Noted old) text = Noted text
data_in form text = form

abbrev pub is_comment : Form → Bool
is_comment (Noted text) = true
is_comment form = false
