-- Random changes of the tree by two scripts, played by the definitions, and the lines that they log.
use Rattle.std.specs.Prelude.{ℕ, Bool, true, false, List, [], ◌∷◌, ◌++◌, codes, length, take, nat_eq, slice_index_or, if◌then◌else◌}
use Rattle.std.specs.Fmt.{decimal}
use Prim.Native.Nat.{zero, suc}
use Rattle.door.specs.declared.values.Actor.{Actor}
use Rattle.door.specs.declared.values.Kind.{Kind}
use Rattle.door.specs.declared.values.Kind.TheVariants as kinds
use Rattle.door.specs.declared.values.Thing.{Thing}
use Rattle.door.specs.declared.values.Value.{Value}
use Rattle.door.specs.declared.values.Value.TheVariants as value
use Rattle.door.specs.declared.members.Member.{Member}
use Rattle.door.specs.declared.members.Member.TheVariants as m
use Rattle.door.specs.declared.requests.Answer.{Answer}
use Rattle.door.specs.declared.requests.Answer.TheVariants as answer
use Rattle.door.specs.declared.requests.ErrorKind.{ErrorKind}
use Rattle.door.specs.declared.requests.ErrorKind.TheVariants as error
use Rattle.dom_semantics.specs.Forest.{children_of}
use Rattle.dom_semantics.specs.Fits.{is_answer}
use Rattle.dom_semantics.specs.Things.{thing_of, the_window, the_document, node_thing, is_thing, kind_number}
use Rattle.dom_semantics.specs.Stage.{Stage, start}
use Rattle.dom_semantics.specs.Truth.{reply_of}
use Rattle.dom_semantics.specs.StageOf.{next_or}
use Rattle.dom_semantics.specs.Plays.{given, answer_in}

pub data Before : Type 0 where
  First : Before
  Last : Before
  End : Before
  Pool : ℕ → Before

pub data Op : Type 0 where
  Creates : List ℕ → ℕ → Op
  Writes : List ℕ → Op
  Notes : List ℕ → Op
  Grows : ℕ → Op
  Appends : ℕ → ℕ → Op
  Inserts : ℕ → ℕ → Before → Op
  RemovesChild : ℕ → ℕ → Op
  Removes : ℕ → Op
  Sets : ℕ → List ℕ → List ℕ → Op
  Classes : ℕ → List ℕ → Op
  Names : ℕ → List ℕ → Op
  Finds : List ℕ → Op
  Selects : ℕ → List ℕ → Op
  Contains : ℕ → ℕ → ℕ → Op
  Clones : ℕ → Bool → Op
  Texts : ℕ → List ℕ → Op
  Titles : List ℕ → Op
  Tagged : List ℕ → Op
  Around : ℕ → Op

pub record World : Type 0 where
  pub stage : Stage
  pub actor : Actor
  pub who : List ℕ
  pub pool : List Thing
  pub log : List (List ℕ)

-- ---- requests

abbrev answer_of : World → Member → Thing → List Value → Answer
answer_of w member thing arguments = answer_in (reply_of given.origin w.stage w.actor member thing arguments)

-- an answer that doesn't fit the table would be logged
abbrev checked : World → Member → Answer → World → World
checked w member a next = if is_answer w.actor member a then next else record next { log = next.log ++ codes "misfit" ∷ [] }

abbrev does : Member → Thing → List Value → World → World
does member thing arguments w =
    checked w member (answer_of w member thing arguments)
    (record w { stage = next_or (reply_of given.origin w.stage w.actor member thing arguments) w.stage })

abbrev logs : List ℕ → World → World
logs line w = record w { log = w.log ++ (codes "log " ++ (w.who ++ (codes " " ++ line))) ∷ [] }

abbrev at : World → ℕ → Thing
at w k = slice_index_or w.pool k the_window

abbrev one : Thing → List Value
one t = value.Thing t ∷ []

abbrev text : List ℕ → List Value
text t = value.Str t ∷ []

-- ---- what is shown

abbrev text_in : Answer → List ℕ
text_in (answer.Value (value.Str t)) = t
text_in a = []

abbrev colon : List ℕ → List ℕ
colon [] = []
colon (c ∷ cs) = codes "." ++ (c ∷ cs)

abbrev shown_of : World → Kind → Thing → List ℕ
shown_of w kinds.Str t = codes "#" ++ text_in (answer_of w m.NodeTextContent t [])
shown_of w kinds.Comment t = codes "!" ++ text_in (answer_of w m.NodeTextContent t [])
shown_of w kinds.Document t = codes "doc"
shown_of w kind t = text_in (answer_of w m.ElementTagName t []) ++ colon (text_in (answer_of w m.ElementId t []))

abbrev shown : World → Thing → List ℕ
shown w t = shown_of w t.kind t

abbrev shown_value : World → Value → List ℕ
shown_value w (value.Thing t) = shown w t
shown_value w v = codes "null"

abbrev error_name : ErrorKind → List ℕ
error_name error.Hierarchy = codes "HierarchyRequestError"
error_name error.NotFound = codes "NotFoundError"
error_name error.Syntax = codes "SyntaxError"
error_name reason = codes "other"

abbrev spaced_all : World → List Value → List ℕ
spaced_all w [] = []
spaced_all w (v ∷ vs) = shown_value w v ++ (codes " " ++ spaced_all w vs)

-- what is shown of an answer
abbrev shown_answer : World → Answer → List ℕ
shown_answer w (answer.Value v) = shown_value w v
shown_answer w (answer.List vs) = spaced_all w vs ++ decimal (length vs)
shown_answer w (answer.Throw reason) = codes "throws " ++ error_name reason
shown_answer w a = codes "none"

abbrev flag_in : Answer → List ℕ
flag_in (answer.Value (value.Bool true)) = codes "true"
flag_in (answer.Value (value.Bool false)) = codes "false"
flag_in a = codes "none"

abbrev in_brackets : List ℕ → List ℕ
in_brackets [] = []
in_brackets (c ∷ cs) = codes "(" ++ ((c ∷ cs) ++ codes ")")

abbrev comma : List ℕ → List ℕ → List ℕ
comma [] b = b
comma (c ∷ cs) [] = c ∷ cs
comma (c ∷ cs) (d ∷ ds) = (c ∷ cs) ++ (codes "," ++ (d ∷ ds))

abbrev joined : (ℕ → List ℕ) → List ℕ → List ℕ
joined show [] = []
joined show (n ∷ ns) = comma (show n) (joined show ns)

unfoldable pub dumped : ℕ → World → ℕ → List ℕ
dumped zero w n = []
dumped (suc levels) w n = shown w (node_thing w.stage.nodes n) ++ in_brackets (joined (λ c. dumped levels w c) (children_of w.stage.nodes n))

-- ---- operations

abbrev asks : Member → Thing → List Value → World → World
asks member thing arguments w =
    logs (shown_answer (does member thing arguments w) (answer_of w member thing arguments)) (does member thing arguments w)

abbrev thing_in : Answer → Thing
thing_in (answer.Value (value.Thing t)) = t
thing_in a = the_window

abbrev pooled : Member → Thing → List Value → World → World
pooled member thing arguments w = record (does member thing arguments w) { pool = w.pool ++ thing_in (answer_of w member thing arguments) ∷ [] }

abbrev is_element : Thing → Bool
is_element t = nat_eq (kind_number t.kind) 2

abbrev if_element : Thing → World → World → World
if_element t w done = if is_element t then done else logs (codes "no") w

abbrev value_in : Answer → Value
value_in (answer.Value v) = v
value_in a = value.Null

abbrev before_value : World → Thing → Before → Value
before_value w x First = value_in (answer_of w m.NodeFirstChild x [])
before_value w x Last = value_in (answer_of w m.NodeLastChild x [])
before_value w x End = value.Null
before_value w x (Pool j) = value.Thing (at w j)

abbrev body_of : World → Value
body_of w = value_in (answer_of w m.DocumentBody the_document [])

abbrev is_same : Value → Thing → Bool
is_same (value.Thing a) b = is_thing a b
is_same v b = false

abbrev texts : Thing → List ℕ → World → World
texts x t w =
    let after : World = if is_same (body_of w) x then w else does m.NodeSetTextContent x (text t) w in
    logs (take 40 (text_in (answer_of after m.NodeTextContent x []))) after

abbrev name_of_number : ℕ → List ℕ
name_of_number k = codes "n" ++ decimal k

abbrev with_id : ℕ → World → World
with_id k w = does m.ElementSetId (at w k) (text (name_of_number k)) w

abbrev shown_move : World → Member → Thing → List ℕ
shown_move w member x = shown_answer w (answer_of w member x [])

abbrev line_in : Answer → List ℕ
line_in (answer.Value (value.Str t)) = t
line_in a = codes "null"

-- what is read of a thing is logged
abbrev set_line : World → Member → Thing → List Value → World
set_line w member t arguments = logs (line_in (answer_of w member t arguments)) w

abbrev op : Op → World → World
op (Creates tag k) w = with_id k (pooled m.DocumentCreateElement the_document (text tag) w)
op (Writes t) w = pooled m.DocumentCreateTextNode the_document (text t) w
op (Notes t) w = pooled m.DocumentCreateComment the_document (text t) w
op (Grows k) w = does m.NodeAppendChild (thing_in (answer_of w m.DocumentBody the_document [])) (one (at w k)) w
op (Appends p c) w = asks m.NodeAppendChild (at w p) (one (at w c)) w
op (Inserts x c before) w = asks m.NodeInsertBefore (at w x) (value.Thing (at w c) ∷ before_value w (at w x) before ∷ []) w
op (RemovesChild p c) w = asks m.NodeRemoveChild (at w p) (one (at w c)) w
op (Removes k) w = logs (codes "removed") (does m.NodeRemove (at w k) [] w)
op (Sets k name t) w = if_element (at w k) w (set_line (does m.ElementSetAttribute (at w k) (value.Str name ∷ value.Str t
    ∷ []) w) m.ElementGetAttribute (at w k) (text (codes "DATA-Q")))
op (Classes k t) w = if_element (at w k) w (set_line (does m.ElementSetClassName (at w k) (text t) w) m.ElementClassName (at w k) [])
op (Names k t) w = if_element (at w k) w (set_line (does m.ElementSetId (at w k) (text t) w) m.ElementId (at w k) [])
op (Finds t) w = asks m.DocumentGetElementById the_document (text t) w
op (Selects zero t) w = asks m.DocumentQuerySelectorAll the_document (text t) w
op (Selects (suc k) t) w = asks m.ElementQuerySelectorAll (at w (suc k)) (text t) w
op (Contains a b c) w = logs (flag_in (answer_of w m.NodeContains (at w a) (one (at w b))) ++ (codes " " ++ shown_move w m.NodeParentNode (at w c))) w
op (Clones k deep) w =
    let after : World = pooled m.NodeCloneNode (at w k) (value.Bool deep ∷ []) w in
    logs (dumped 60 after (thing_in (answer_of w m.NodeCloneNode (at w k) (value.Bool deep ∷ []))).number) after
op (Texts k t) w = texts (at w k) t w
op (Titles t) w = let after : World = does m.DocumentSetTitle the_document (text t) w in logs (text_in (answer_of after m.DocumentTitle the_document [])) after
op (Tagged t) w = asks m.DocumentGetElementsByTagName the_document (text t) w
op (Around k) w =
    logs (shown_move w m.NodePreviousSibling (at w k) ++ (codes " " ++ (shown_move w m.NodeNextSibling (at w k) ++ (codes " "
    ++ (shown_move w m.NodeFirstChild (at w k)
    ++ (codes " " ++ (shown_move w m.NodeLastChild (at w k) ++ codes " true"))))))) w

unfoldable pub ops : List Op → World → World
ops [] w = w
ops (o ∷ os) w = ops os (op o w)

-- ---- scripts

-- the document's element, head and body are made where they are missing
abbrev is_null : Answer → Bool
is_null (answer.Value value.Null) = true
is_null a = false

abbrev made_below : Thing → List ℕ → World → World
made_below parent tag w =
    does m.NodeAppendChild parent (one (thing_in (answer_of w m.DocumentCreateElement the_document (text tag)))) (does m.DocumentCreateElement the_document
    (text tag) w)

abbrev unless_there : Member → (World → World) → World → World
unless_there member make w = if is_null (answer_of w member the_document []) then make w else w

abbrev root_of : World → Thing
root_of w = thing_in (answer_of w m.DocumentDocumentElement the_document [])

abbrev prepared : World → World
prepared w =
    unless_there m.DocumentBody (λ w. made_below (root_of w) (codes "body") w) (unless_there m.DocumentHead (λ w. made_below (root_of w) (codes "head") w)
    (unless_there m.DocumentDocumentElement (λ w. made_below the_document (codes "html") w) w))

abbrev pooled_four : World → World
pooled_four w = record w {
  pool = the_document ∷ root_of w ∷ thing_in (answer_of w m.DocumentHead the_document [])
      ∷ thing_in (answer_of w m.DocumentBody the_document []) ∷ [];
}

abbrev ran : Actor → List ℕ → List Op → World → World
ran actor who os w =
    let after : World = ops os (pooled_four (prepared (record w { actor = actor; who = who }))) in
    logs (dumped 260 after 0) after

-- ---- the page

abbrev host : World
host = record { stage = start given; actor = record { 0 = 0 }; who = []; pool = []; log = [] }

abbrev element : ℕ → Thing
element n = thing_of kinds.Element n

abbrev script_text : List ℕ
script_text = codes "if (document.documentElement === null) { document.appendChil"

-- html 1, head 2, title 3 with the text 4, body 5, div x 6 with the text 7 and p 8; the page's script 9 with its text 10
abbrev document : World → World
document w =
    does m.NodeAppendChild (element 9) (one (thing_of kinds.Str 10)) (does m.DocumentCreateTextNode the_document (text script_text)
    (does m.NodeAppendChild (element 5) (one (element 9)) (does m.DocumentCreateElement the_document (text (codes "script"))
    (does m.NodeAppendChild (element 6) (one (element 8)) (does m.ElementSetAttribute (element 8) (value.Str (codes "class") ∷ value.Str (codes "m")
    ∷ []) (does m.DocumentCreateElement the_document (text (codes "p"))
    (does m.NodeAppendChild (element 6) (one (thing_of kinds.Str 7)) (does m.DocumentCreateTextNode the_document (text (codes "t"))
    (does m.ElementSetAttribute (element 6) (value.Str (codes "class") ∷ value.Str (codes "k")
    ∷ []) (does m.ElementSetAttribute (element 6) (value.Str (codes "id") ∷ value.Str (codes "x") ∷ [])
    (does m.NodeAppendChild (element 5) (one (element 6)) (does m.DocumentCreateElement the_document (text (codes "div"))
    (does m.NodeAppendChild (element 1) (one (element 5)) (does m.DocumentCreateElement the_document (text (codes "body"))
    (does m.NodeAppendChild (element 3) (one (thing_of kinds.Str 4)) (does m.DocumentCreateTextNode the_document (text (codes "T"))
    (does m.NodeAppendChild (element 2) (one (element 3)) (does m.DocumentCreateElement the_document (text (codes "title"))
    (does m.NodeAppendChild (element 1) (one (element 2)) (does m.DocumentCreateElement the_document (text (codes "head"))
    (does m.NodeAppendChild the_document (one (element 1)) (does m.DocumentCreateElement the_document (text (codes "html")) w))))))))))))))))))))))

abbrev pub log_of : List Op → List Op → List (List ℕ)
log_of page script = (ran (record { 0 = 2 }) (codes "u.user.js") script (ran (record { 0 = 1 }) (codes "page") page (document host))).log
