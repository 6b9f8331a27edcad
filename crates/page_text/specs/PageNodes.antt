-- A page as nested data, and what the host is asked to make of it, as a fold down the tree (DOM, Interfaces Document, Element and Node; the order,
-- by the nodes' first bytes, and the pieces are this project's own).
use Rattle.std.specs.Prelude.{ℕ, suc, ◌+◌, cond, List, [], ◌∷◌, ◌++◌, Option, Some, None, map, codes}
use Rattle.door.specs.declared.values.Kind.TheVariants as kind
use Rattle.door.specs.declared.values.Thing.{Thing}
use Rattle.door.specs.declared.requests.Request.{Request}
use Rattle.page_text.specs.declared.tags.Attribute.{Attribute}
use Rattle.page_text.specs.declared.pieces.Piece.{Piece}
use Rattle.page_text.specs.Nodes.{the_document, thing_of, text_writes, comment_writes, element_writes, is_named, value_of, is_runnable}

-- ---- nodes

-- Nodes side by side, each with those behind it; the document's are those at the top. White space there and doctypes make no node. The text of
-- a script is the text inside it.
pub data Nodes : Type 0 where
  NoNodes : Nodes
  -- its tag, its attributes in order, the nodes inside it, and those behind it
  Element : List ℕ → List Attribute → Nodes → Nodes → Nodes
  Text : List ℕ → Nodes → Nodes
  Comment : List ℕ → Nodes → Nodes

-- how many there are, with all that stand inside
abbrev pub count : Nodes → ℕ
count NoNodes = 0
count (Element tag attributes inside behind) = suc (count inside + count behind)
count (Text content behind) = suc (count behind)
count (Comment content behind) = suc (count behind)

-- these, and those behind them
abbrev pub joined : Nodes → Nodes → Nodes
joined NoNodes others = others
joined (Element tag attributes inside behind) others = Element tag attributes inside (joined behind others)
joined (Text content behind) others = Text content (joined behind others)
joined (Comment content behind) others = Comment content (joined behind others)

-- ---- what is made of them

pub data Made : Type 0 where
  -- what the host is asked
  Build : Request → Made
  -- the name of an external script
  External : List ℕ → Made
  -- the text of a script that is run; the page is cut behind it
  Script : List ℕ → Made

-- the text inside an element whose content is one text
abbrev pub text_inside : Nodes → List ℕ
text_inside NoNodes = []
text_inside (Element tag attributes inside behind) = []
text_inside (Text content behind) = content
text_inside (Comment content behind) = []

abbrev pub external_of : Option (List ℕ) → List Made
external_of None = []
external_of (Some name) = External name ∷ []

-- what the end tag of a script makes, and that of any other element
abbrev pub made_at_end : List ℕ → List Attribute → Nodes → List Made
made_at_end tag attributes inside =
    cond (is_named (codes "script") tag)
    (cond (is_runnable attributes) (Script (text_inside inside) ∷ []) (external_of (value_of (codes "src") attributes))) []

-- what is made of nodes in this parent, the first of which gets this number: each is made, then those inside it, then those behind it
abbrev pub made_of : Thing → ℕ → Nodes → List Made
made_of parent number NoNodes = []
made_of parent number (Element tag attributes inside behind) =
    map Build (element_writes number parent tag attributes) ++ (made_of (thing_of kind.Element number) (suc number) inside
    ++ (made_at_end tag attributes inside ++ made_of parent (suc (number + count inside)) behind))
made_of parent number (Text content behind) = map Build (text_writes number parent content) ++ made_of parent (suc number) behind
made_of parent number (Comment content behind) = map Build (comment_writes number parent content) ++ made_of parent (suc number) behind

-- ---- pieces

abbrev pub in_first : (Piece → Piece) → List Piece → List Piece
in_first f [] = []
in_first f (piece ∷ pieces) = f piece ∷ pieces

abbrev pub with_request : Request → Piece → Piece
with_request request piece = record piece { writes = request ∷ piece.writes }

abbrev pub with_external : List ℕ → Piece → Piece
with_external name piece = record piece { external = name ∷ piece.external }

-- what is made, cut behind each script that is run; the last piece is the rest
abbrev pub cut : List Made → List Piece
cut [] = record { writes = []; script = None; external = [] } ∷ []
cut (Build request ∷ others) = in_first (with_request request) (cut others)
cut (External name ∷ others) = in_first (with_external name) (cut others)
cut (Script text ∷ others) = record { writes = []; script = Some text; external = [] } ∷ cut others

-- the pieces of a page of these nodes; the document is number 0
abbrev pub pieces_of : Nodes → List Piece
pieces_of nodes = cut (made_of the_document 1 nodes)
