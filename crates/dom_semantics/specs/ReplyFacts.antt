-- What members answer, computed by the definitions alone. The expected values are those of the DOM Standard and of the tables of this project.
use Rattle.std.specs.Prelude.{◌≡◌, ℕ, true, false, List, [], ◌∷◌, map, codes, pos, negsuc}
use Rattle.door.specs.declared.values.Actor.{Actor}
use Rattle.door.specs.declared.values.Kind.TheVariants.{Element, Str as StrKind, Comment, Event}
use Rattle.door.specs.declared.values.Shape.TheVariants.{Plain}
use Rattle.door.specs.declared.values.Thing.{Thing}
use Rattle.door.specs.declared.values.Value.{Value}
use Rattle.door.specs.declared.values.Value.TheVariants as value
use Rattle.door.specs.declared.members.Member.{Member}
use Rattle.door.specs.declared.members.Member.TheVariants as m
use Rattle.door.specs.declared.requests.Answer.{Answer}
use Rattle.door.specs.declared.requests.Answer.TheVariants as answer
use Rattle.door.specs.declared.requests.ErrorKind.{ErrorKind}
use Rattle.door.specs.declared.requests.ErrorKind.TheVariants as error
use Rattle.dom_semantics.specs.declared.kept.Kept.TheVariants as kept
use Rattle.dom_semantics.specs.Things.{thing_of, the_window, the_document}
use Rattle.dom_semantics.specs.Stage.{Stage, Setting, start}
use Rattle.dom_semantics.specs.StageOf.{next_or}
use Rattle.dom_semantics.specs.Truth.{reply_of}
use Rattle.dom_semantics.specs.Plays.{answer_in}
use Rattle.dom_semantics.specs.Stores.{Stores}
use Rattle.dom_semantics.specs.Fits.{is_answer}
use Rattle.dom_semantics.specs.SelectorReadingModel.{read_selector}
use Rattle.door.specs.declared.grants.GrantSet.{GrantSet}

-- a request: a member, of which thing, with which arguments
pub record Request : Type 0 where
  pub actor : Actor
  pub member : Member
  pub thing : Thing
  pub arguments : List Value

abbrev all_grants : GrantSet
all_grants = record { no_grant = false; unsafe_window = false; get_value = true; set_value = true; delete_value = true; list_values = true; log = true }

-- the store has a value of the first script; the second one's namespace is n
abbrev setting : Setting
setting = record {
  origin = record {
    address = codes "http://example.com/";
    owners = record { namespace = []; name = codes "a" }
        ∷ record { namespace = codes "n"; name = codes "b" } ∷ [];
    grants = all_grants ∷ all_grants ∷ [];
    read_selector = read_selector;
  };
  stores = (record { namespace = []; name = codes "a" }, (codes "k", kept.Number (pos 1)) ∷ []) ∷ [];
  clocks = [];
}

-- the answers of these requests, one after the other; Stopped is told where there is none
unfoldable pub told_on : Stage → List Request → List Answer
told_on s [] = []
told_on s (r ∷ rs) =
    answer_in (reply_of setting.origin s r.actor r.member r.thing r.arguments)
    ∷ told_on (next_or (reply_of setting.origin s r.actor r.member r.thing r.arguments) s) rs

-- the store after a request
abbrev stores_after : Request → Stores
stores_after r = (next_or (reply_of setting.origin (start setting) r.actor r.member r.thing r.arguments) (start setting)).stores

abbrev by : ℕ → Member → Thing → List Value → Request
by i member thing arguments = record { actor = record { 0 = i }; member = member; thing = thing; arguments = arguments }

abbrev ask : Member → Thing → List Value → Request
ask member thing arguments = by 1 member thing arguments

abbrev element : ℕ → Thing
element n = thing_of Element n

abbrev written : ℕ → Thing
written n = thing_of StrKind n

abbrev text : List ℕ → Value
text t = value.Str t

abbrev thing : Thing → Value
thing t = value.Thing t

abbrev makes : List ℕ → Request
makes tag = by 0 m.DocumentCreateElement the_document (text tag ∷ [])

abbrev puts : Thing → Thing → Request
puts parent child = by 0 m.NodeAppendChild parent (thing child ∷ [])

-- html 1, head 2, body 3, div 4 with id d and class "x y" in it, a text 5 in that, p 6 after the div, a comment 7 in the body; span 8 outside
abbrev page : List Request
page =
    makes (codes "html") ∷ puts the_document (element 1) ∷ makes (codes "head") ∷ puts (element 1) (element 2) ∷ makes (codes "body")
    ∷ puts (element 1) (element 3) ∷ makes (codes "div") ∷ puts (element 3) (element 4)
    ∷ by 0 m.DocumentCreateTextNode the_document (text (codes "hi") ∷ []) ∷ puts (element 4) (written 5) ∷ makes (codes "p") ∷ puts (element 3) (element 6)
    ∷ by 0 m.DocumentCreateComment the_document (text (codes "c") ∷ []) ∷ puts (element 3) (thing_of Comment 7) ∷ makes (codes "span")
    ∷ by 0 m.ElementSetAttribute (element 4) (text (codes "id") ∷ text (codes "d") ∷ [])
    ∷ by 0 m.ElementSetAttribute (element 4) (text (codes "class") ∷ text (codes "x y") ∷ []) ∷ []

-- the stage after these
unfoldable pub staged : Stage → List Request → Stage
staged s [] = s
staged s (r ∷ rs) = staged (next_or (reply_of setting.origin s r.actor r.member r.thing r.arguments) s) rs

abbrev Tells : List Request → List Answer → Type 0
Tells requests answers = told_on (staged (start setting) page) requests ≡ answers

-- ---- answers

abbrev gives : Value → Answer
gives v = answer.Value v

abbrev says : List ℕ → Answer
says t = gives (text t)

abbrev node : Thing → Answer
node t = gives (thing t)

abbrev none : Answer
none = gives value.Null

abbrev done : Answer
done = gives value.Undefined

abbrev yes : Answer
yes = gives (value.Bool true)

abbrev no : Answer
no = gives (value.Bool false)

abbrev number : ℕ → Answer
number n = gives (value.Number (pos n))

abbrev refused : ErrorKind → Answer
refused reason = answer.Throw reason

abbrev list : List Thing → Answer
list things = answer.List (map thing things)

-- ---- requests

abbrev inserts : Thing → Thing → Value → Request
inserts parent child before = ask m.NodeInsertBefore parent (thing child ∷ before ∷ [])

abbrev html : Thing
html = element 1

abbrev body : Thing
body = element 3

abbrev div : Thing
div = element 4

abbrev p : Thing
p = element 6

abbrev span : Thing
span = element 8

pub record ReplyFacts : Type 0 where
  -- insertBefore: a text takes no children, and no node its own ancestor, whatever it is to stand before
  pub into_text : Tells (inserts (written 5) span (thing p) ∷ []) (refused error.Hierarchy ∷ [])
  pub into_itself : Tells (inserts div body (thing p) ∷ []) (refused error.Hierarchy ∷ [])
  -- then that before is no child comes before what the document doesn't take
  pub not_a_child : Tells (inserts div span (thing p) ∷ []) (refused error.NotFound ∷ [])
  pub not_a_child_of_document : Tells (inserts the_document span (thing p) ∷ []) (refused error.NotFound ∷ [])
  pub second_element : Tells (inserts the_document span (thing html) ∷ inserts the_document span value.Null ∷ []) (refused error.Hierarchy
      ∷ refused error.Hierarchy ∷ [])
  pub text_in_document : Tells (inserts the_document (written 5) value.Null ∷ []) (refused error.Hierarchy ∷ [])
  pub document_elsewhere : Tells (inserts span the_document value.Null ∷ []) (refused error.Hierarchy ∷ [])
  pub html_again : Tells (ask m.NodeAppendChild the_document (thing html ∷ []) ∷ []) (refused error.Hierarchy ∷ [])
  -- a comment goes into the document; before itself a node stays
  pub comment_in_document : Tells (inserts the_document (thing_of Comment 7) (thing html) ∷ ask m.NodeFirstChild the_document []
      ∷ []) (node (thing_of Comment 7) ∷ node (thing_of Comment 7) ∷ [])
  pub before_itself : Tells (inserts body div (thing div) ∷ ask m.NodeFirstChild body [] ∷ []) (node div ∷ node div ∷ [])
  -- a node that has a parent is moved
  pub moved : Tells (inserts body p (thing div) ∷ ask m.NodeChildNodes body [] ∷ ask m.NodePreviousSibling div [] ∷ ask m.NodeNextSibling p [] ∷ [])
      (node p ∷ list (p ∷ div ∷ thing_of Comment 7 ∷ []) ∷ node p ∷ node div ∷ [])
  -- removeChild, remove
  pub undefined_is_last : Tells (inserts body span value.Undefined ∷ ask m.NodeLastChild body [] ∷ []) (node span ∷ node span ∷ [])
  pub removed : Tells (ask m.NodeRemoveChild div (thing p ∷ []) ∷ ask m.NodeRemoveChild body (thing p ∷ []) ∷ ask m.NodeParentNode p []
      ∷ ask m.NodeRemove p [] ∷ [])
      (refused error.NotFound ∷ node p ∷ none ∷ done ∷ [])
  -- the moves
  pub moves : Tells (ask m.NodeLastChild body [] ∷ ask m.NodePreviousSibling p [] ∷ ask m.NodePreviousSibling div [] ∷ ask m.NodeParentNode html []
      ∷ ask m.NodeParentNode the_document [] ∷ [])
      (node (thing_of Comment 7) ∷ node div ∷ none ∷ node the_document ∷ none ∷ [])
  pub owners : Tells (ask m.NodeOwnerDocument span [] ∷ ask m.NodeOwnerDocument the_document [] ∷ []) (node the_document ∷ none ∷ [])
  pub contained : Tells (ask m.NodeContains body (thing (written 5) ∷ []) ∷ ask m.NodeContains body (thing body ∷ []) ∷ ask m.NodeContains div (thing p
      ∷ []) ∷ []) (yes ∷ yes ∷ no ∷ [])
  -- types and names
  pub types : Tells (ask m.NodeNodeType div [] ∷ ask m.NodeNodeType (written 5) [] ∷ ask m.NodeNodeType (thing_of Comment 7) []
      ∷ ask m.NodeNodeType the_document [] ∷ [])
      (number 1 ∷ number 3 ∷ number 8 ∷ number 9 ∷ [])
  pub names : Tells (ask m.NodeNodeName div [] ∷ ask m.NodeNodeName (written 5) [] ∷ ask m.NodeNodeName (thing_of Comment 7) []
      ∷ ask m.NodeNodeName the_document [] ∷ ask m.ElementTagName div [] ∷ [])
      (says (codes "DIV") ∷ says (codes "#text") ∷ says (codes "#comment") ∷ says (codes "#document") ∷ says (codes "DIV") ∷ [])
  -- text
  pub texts : Tells (ask m.NodeTextContent the_document [] ∷ ask m.NodeTextContent body [] ∷ ask m.NodeTextContent (thing_of Comment 7) [] ∷ []) (none
      ∷ says (codes "hi") ∷ says (codes "c") ∷ [])
  pub text_set : Tells (ask m.NodeSetTextContent div (text (codes "t") ∷ []) ∷ ask m.NodeFirstChild div [] ∷ ask m.NodeParentNode (written 5) []
      ∷ ask m.NodeSetTextContent div (text [] ∷ []) ∷ ask m.NodeFirstChild div [] ∷ [])
      (done ∷ node (written 9) ∷ none ∷ done ∷ none ∷ [])
  pub data_set : Tells (ask m.NodeSetTextContent (written 5) (text (codes "u") ∷ []) ∷ ask m.NodeTextContent div []
      ∷ ask m.NodeSetTextContent the_document (text (codes "u") ∷ []) ∷ []) (done ∷ says (codes "u") ∷ done ∷ [])
  -- copies: without the children, and with them
  pub copies : Tells (ask m.NodeCloneNode div (value.Bool false ∷ []) ∷ ask m.NodeFirstChild (element 9) [] ∷ ask m.ElementId (element 9) []
      ∷ ask m.NodeCloneNode body (value.Bool true ∷ []) ∷ ask m.NodeChildNodes (element 10) [] ∷ [])
      (node (element 9) ∷ none ∷ says (codes "d") ∷ node (element 10) ∷ list (element 11 ∷ element 13 ∷ thing_of Comment 14 ∷ []) ∷ [])
  pub no_copy_of_document : Tells (ask m.NodeCloneNode the_document (value.Bool true ∷ []) ∷ []) (answer.Stopped ∷ [])
  -- attributes
  pub attributes : Tells (ask m.ElementGetAttribute div (text (codes "ID") ∷ []) ∷ ask m.ElementGetAttribute div (text (codes "q") ∷ [])
      ∷ ask m.ElementHasAttribute div (text (codes "class") ∷ []) ∷ ask m.ElementId p [] ∷ ask m.ElementClassName div [] ∷ [])
      (says (codes "d") ∷ none ∷ yes ∷ says [] ∷ says (codes "x y") ∷ [])
  pub bad_names : Tells (ask m.ElementSetAttribute p (text (codes "a b") ∷ text [] ∷ []) ∷ ask m.ElementSetAttribute p (text [] ∷ text [] ∷ [])
      ∷ ask m.ElementSetAttribute p (text (codes "A1") ∷ text (codes "v") ∷ []) ∷ ask m.ElementGetAttribute p (text (codes "a1") ∷ []) ∷ [])
      (refused error.InvalidCharacter ∷ refused error.InvalidCharacter ∷ done ∷ says (codes "v") ∷ [])
  pub dropped : Tells (ask m.ElementRemoveAttribute div (text (codes "Id") ∷ []) ∷ ask m.ElementHasAttribute div (text (codes "id") ∷ [])
      ∷ ask m.DocumentGetElementById the_document (text (codes "d") ∷ []) ∷ []) (done ∷ no ∷ none ∷ [])
  -- queries
  pub queries : Tells (ask m.DocumentQuerySelector the_document (text (codes ".y") ∷ []) ∷ ask m.DocumentQuerySelector the_document (text (codes "div >a")
      ∷ []) ∷ ask m.ElementQuerySelectorAll body (text (codes "div, p") ∷ []) ∷ ask m.ElementQuerySelector div (text (codes "div") ∷ [])
      ∷ ask m.DocumentQuerySelectorAll the_document (text (codes "html [id=d]") ∷ []) ∷ [])
      (node div ∷ refused error.Syntax ∷ list (div ∷ p ∷ []) ∷ none ∷ list (div ∷ []) ∷ [])
  pub tags : Tells (ask m.ElementGetElementsByTagName body (text (codes "*") ∷ []) ∷ ask m.DocumentGetElementsByTagName the_document (text (codes "P")
      ∷ []) ∷ ask m.ElementChildren body [] ∷ []) (list (div ∷ p ∷ []) ∷ list (p ∷ []) ∷ list (div ∷ p ∷ []) ∷ [])
  pub ids : Tells (ask m.DocumentGetElementById the_document (text (codes "d") ∷ []) ∷ ask m.DocumentGetElementById the_document (text [] ∷ [])
      ∷ []) (node div ∷ none ∷ [])
  -- the document
  pub parts : Tells (ask m.DocumentDocumentElement the_document [] ∷ ask m.DocumentHead the_document [] ∷ ask m.DocumentBody the_document []
      ∷ ask m.DocumentReadyState the_document [] ∷ ask m.DocumentUrl the_document [] ∷ [])
      (node html ∷ node (element 2) ∷ node body ∷ says (codes "loading") ∷ says (codes "http://example.com/") ∷ [])
  pub created : Tells (ask m.DocumentCreateElement the_document (text (codes "1") ∷ []) ∷ ask m.DocumentCreateElement the_document (text [] ∷ [])
      ∷ ask m.DocumentCreateElement the_document (text (codes "A-b:c") ∷ []) ∷ ask m.ElementTagName (element 9) [] ∷ [])
      (refused error.InvalidCharacter ∷ refused error.InvalidCharacter ∷ node (element 9) ∷ says (codes "A-B:C") ∷ [])
  pub titles : Tells (ask m.DocumentTitle the_document [] ∷ ask m.DocumentSetTitle the_document (text (codes " a  b ") ∷ [])
      ∷ ask m.DocumentTitle the_document [] ∷ ask m.NodeFirstChild (element 2) [] ∷ []) (says [] ∷ done ∷ says (codes "a b") ∷ node (element 9) ∷ [])
  -- events
  pub events : Tells (ask m.NewCustomEvent the_window (text (codes "e") ∷ value.Bool true ∷ value.Bool false ∷ value.Cell (record { 0 = 1 }) 300 Plain true
      ∷ []) ∷ ask m.EventType (thing_of Event 0) [] ∷ ask m.EventBubbles (thing_of Event 0) [] ∷ ask m.EventTarget (thing_of Event 0) []
      ∷ ask m.EventIsTrusted (thing_of Event 0) [] ∷ ask m.EventDetail (thing_of Event 0) [] ∷ ask m.EventPreventDefault (thing_of Event 0) []
      ∷ ask m.EventDefaultPrevented (thing_of Event 0) [] ∷ [])
      (node (thing_of Event 0) ∷ says (codes "e") ∷ yes ∷ none ∷ no ∷ gives (value.Cell (record { 0 = 1 }) 300 Plain false) ∷ done ∷ no ∷ [])
  -- the store: each script has its own map, in the order of names
  pub kept : Tells (by 2 m.GmGetValue the_window (text (codes "k") ∷ []) ∷ by 3 m.GmGetValue the_window (text (codes "k") ∷ [])
      ∷ by 3 m.GmSetValue the_window (text (codes "k") ∷ text (codes "x") ∷ []) ∷ by 3 m.GmSetValue the_window (text (codes "j") ∷ value.Bool true ∷ [])
      ∷ by 3 m.GmListValues the_window [] ∷ by 3 m.GmDeleteValue the_window (text (codes "k") ∷ []) ∷ by 3 m.GmListValues the_window []
      ∷ by 2 m.GmGetValue the_window (text (codes "k") ∷ []) ∷ [])
      (number 1 ∷ answer.Absent ∷ done ∷ done ∷ answer.List (text (codes "j") ∷ text (codes "k") ∷ []) ∷ done ∷ answer.List (text (codes "j") ∷ [])
      ∷ number 1 ∷ [])
  -- what doesn't fit the table has no answer: a wrong thing, a wrong argument, a node that isn't there
  pub misfits : Tells (ask m.DocumentTitle div [] ∷ ask m.NodeAppendChild div (text [] ∷ []) ∷ ask m.NodeFirstChild (element 20) []
      ∷ ask m.NodeFirstChild (element 5) [] ∷ ask m.WindowClearTimeout the_window (value.Number (negsuc 0) ∷ []) ∷ ask m.GmListValues the_window [] ∷ [])
      (answer.Stopped ∷ answer.Stopped ∷ answer.Stopped ∷ answer.Stopped ∷ done ∷ answer.Stopped ∷ [])
  -- deleting a name of which nothing is kept makes no map
  pub nothing_deleted : stores_after (by 3 m.GmDeleteValue the_window (text (codes "k") ∷ [])) ≡ setting.stores
  -- a number over the limit, a script without the grant and the page have no answer
  pub too_great : Tells (by 2 m.GmSetValue the_window (text (codes "k") ∷ value.Number (pos 9007199254740992) ∷ []) ∷ by 4 m.GmLog the_window (text []
      ∷ []) ∷ by 1 m.GmLog the_window (text [] ∷ []) ∷ [])
      (answer.Stopped ∷ answer.Stopped ∷ answer.Stopped ∷ [])
  -- answers that don't fit the table
  pub no_text_as_head : is_answer (record { 0 = 2 }) m.DocumentHead (answer.Value (thing (written 4))) ≡ false
  pub no_missing_child : is_answer (record { 0 = 2 }) m.NodeAppendChild (answer.Throw error.NotFound) ≡ false
  pub no_phase_below : is_answer (record { 0 = 2 }) m.EventEventPhase (answer.Value (value.Number (negsuc 0))) ≡ false
  pub no_waived_detail : is_answer (record { 0 = 2 }) m.EventDetail (answer.Value (value.Cell (record { 0 = 1 }) 300 Plain true)) ≡ false
  pub no_cell_of_the_host : is_answer (record { 0 = 2 }) m.EventDetail (answer.Value (value.Cell (record { 0 = 0 }) 300 Plain false)) ≡ false
