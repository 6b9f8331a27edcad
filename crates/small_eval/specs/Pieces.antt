-- How the host builds a page of the form that is read, piece by piece (DOM, Interfaces Document, Node and Element); that it is cut after
-- each script element is this project's own. A node goes by its number among the page's own nodes.
use Rattle.std.specs.Prelude.{◌+◌, ℕ, Bool, List, [], ◌∷◌, ◌++◌, codes, if◌then◌else◌, Some, None}
use Rattle.dom_semantics.specs.Changes.{is_empty}
use Rattle.door.specs.declared.values.Kind.TheVariants.{Element, Str as StrKind}
use Rattle.door.specs.declared.values.Thing.{Thing}
use Rattle.door.specs.declared.values.Value.TheVariants.{Thing as ThingValue, Str}
use Rattle.door.specs.declared.members.Member.TheVariants.{DocumentCreateElement, DocumentCreateTextNode, ElementSetAttribute, NodeAppendChild}
use Rattle.door.specs.declared.requests.Request.{Request}
use Rattle.door.specs.declared.requests.Request.TheVariants.{Native}
use Rattle.small_forms.specs.declared.page.Page.{Page}
use Rattle.small_forms.specs.Pages.{texts_of_scripts}
use Rattle.solo_model.specs.Lawful.{Piece}
use Rattle.solo_model.specs.Things.{thing_of, the_document}

-- `Document.createElement`
abbrev pub creates : List ℕ → Request
creates tag = Native DocumentCreateElement the_document (Str tag ∷ [])

-- `Document.createTextNode`
abbrev pub writes : List ℕ → Request
writes text = Native DocumentCreateTextNode the_document (Str text ∷ [])

-- `Element.setAttribute` of the id
abbrev pub identifies : ℕ → List ℕ → Request
identifies n id = Native ElementSetAttribute (thing_of Element n) (Str (codes "id") ∷ (Str id ∷ []))

-- `Node.appendChild`
abbrev pub appends : Thing → Thing → Request
appends parent child = Native NodeAppendChild parent (ThingValue child ∷ [])

-- an element of this tag, which gets the number n, in this parent
abbrev pub element_writes : ℕ → List ℕ → Thing → List Request
element_writes n tag parent = creates tag ∷ (appends parent (thing_of Element n) ∷ [])

-- the same with an id
abbrev pub identified_writes : ℕ → List ℕ → List ℕ → Thing → List Request
identified_writes n tag id parent = creates tag ∷ (identifies n id ∷ (appends parent (thing_of Element n) ∷ []))

-- a text, which gets the number n, in this parent
abbrev pub text_writes : ℕ → List ℕ → Thing → List Request
text_writes n text parent = writes text ∷ (appends parent (thing_of StrKind n) ∷ [])

-- up to the open body, which is node 5
abbrev pub head_writes : List ℕ → List Request
head_writes title =
    element_writes 1 (codes "html") the_document ++ (element_writes 2 (codes "head") (thing_of Element 1) ++ (element_writes 3 (codes "title") (thing_of Element 2)
    ++ (text_writes 4 title (thing_of Element 3) ++ element_writes 5 (codes "body") (thing_of Element 1))))

abbrev pub body : Thing
body = thing_of Element 5

-- the paragraph and the division, where the page has them
abbrev pub block_writes : Bool → List Request
block_writes blocks = if blocks then identified_writes 6 (codes "p") (codes "p") body ++ identified_writes 7 (codes "div") (codes "d") body else []

-- the number of the node after them
abbrev pub after_blocks : Bool → ℕ
after_blocks blocks = if blocks then 8 else 6

-- a script element, whose text is a node where it isn't empty
abbrev pub script_writes : ℕ → List ℕ → List Request
script_writes n text = element_writes n (codes "script") body ++ (if is_empty text then [] else text_writes (n + 1) text (thing_of Element n))

-- the number of the node after it
abbrev pub after_script : ℕ → List ℕ → ℕ
after_script n text = if is_empty text then n + 1 else n + 2

-- a piece for each script element, which ends it, and one for the rest, after what was begun
abbrev pub pieces_from : ℕ → List Request → List (List ℕ) → List Piece
pieces_from n begun [] = record { writes = begun; script = None } ∷ []
pieces_from n begun (text ∷ texts) = record { writes = begun ++ script_writes n text; script = Some text } ∷ pieces_from (after_script n text) [] texts

-- the pieces of a page
abbrev pub pieces_of : Page → List Piece
pieces_of page = pieces_from (after_blocks page.blocks) (head_writes page.title ++ block_writes page.blocks) (texts_of_scripts page.scripts)
