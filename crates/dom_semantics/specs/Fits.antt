-- The table of requests, this project's own: for each member what it is asked of, with which arguments, and what it may be answered or refused
-- as; and the same for looks and for ways out of the sandbox. A request or an answer that doesn't fit the table is none of a run.
use Rattle.std.specs.Prelude.{◌||◌, ◌&&◌, ℕ, Bool, true, false, not, List, [], ◌∷◌, nat_eq, nat_le, pos}
use Rattle.std.specs.List.{list_all, list_any}
use Rattle.door.specs.declared.values.TheConstants.{PAGE}
use Rattle.door.specs.declared.values.Actor.{Actor}
use Rattle.door.specs.declared.values.Kind.{Kind}
use Rattle.door.specs.declared.values.Kind.TheVariants as kind
use Rattle.door.specs.declared.values.Shape.{Shape as CellShape}
use Rattle.door.specs.declared.values.Shape.TheVariants as shape
use Rattle.door.specs.declared.values.Thing.{Thing}
use Rattle.door.specs.declared.values.Value.{Value}
use Rattle.door.specs.declared.values.Value.TheVariants as value
use Rattle.door.specs.declared.members.Member.{Member}
use Rattle.door.specs.declared.members.Member.TheVariants as m
use Rattle.door.specs.declared.requests.Answer.{Answer}
use Rattle.door.specs.declared.requests.Answer.TheVariants as answer
use Rattle.door.specs.declared.requests.Request.{Request}
use Rattle.door.specs.declared.requests.Request.TheVariants.{Native, Peek, PeekKeys, Reach}
use Rattle.door.specs.declared.requests.ReachOp.{ReachOp}
use Rattle.door.specs.declared.requests.ReachOp.TheVariants as reach
use Rattle.door.specs.declared.requests.ServeOp.{ServeOp}
use Rattle.door.specs.declared.requests.ServeOp.TheVariants as serve
use Rattle.door.specs.declared.requests.ErrorKind.{ErrorKind}
use Rattle.door.specs.declared.requests.ErrorKind.TheVariants as error
use Rattle.dom_semantics.specs.Bounds.{is_short, is_safe}
use Rattle.dom_semantics.specs.Crossings.{SCOPE_DENIED, export_refusals, is_in, is_walk_refusal}
use Rattle.dom_semantics.specs.HostCells.{owns_cells, has_owner}
use Rattle.dom_semantics.specs.Things.{is_actor, is_kind, is_node_kind, the_window, is_thing}

-- what a value may be; texts and numbers are within their limits, and no value names a cell of the host, which owns none
pub data Sort : Type 0 where
  Nothing : Sort
  Null : Sort
  Flag : Sort
  Count : Sort
  NumberOrNone : Sort
  Text : Sort
  TextOrNull : Sort
  OneOf : List Kind → Sort
  OneOfOrNull : List Kind → Sort
  OneOfOrNone : List Kind → Sort
  Callback : Sort
  CallbackOrNone : Sort
  Storable : Sort
  -- what an event may carry, and that as its reader gets it
  Detail : Sort
  Crossed : Sort

-- what it may be asked of
pub data Receiver : Type 0 where
  OfWindow : Receiver
  OfScript : Receiver
  OfTarget : Receiver
  OfNode : Receiver
  OfOtherNode : Receiver
  OfElement : Receiver
  OfDocument : Receiver
  OfEvent : Receiver

-- what it may be answered, when it isn't refused
pub data Shape : Type 0 where
  One : Sort → Shape
  Each : Sort → Shape
  OneOrAbsent : Sort → Shape

-- a member's row: the last are the refusals that it has
pub record Signature : Type 0 where
  pub receiver : Receiver
  pub arguments : List Sort
  pub result : Shape
  pub refusals : List ErrorKind

-- a row by its parts
abbrev pub of : Receiver → List Sort → Shape → List ErrorKind → Signature
of receiver arguments result refusals = record { receiver = receiver; arguments = arguments; result = result; refusals = refusals }

-- the row of a getter, and that of a query by a selector
abbrev pub reads : Receiver → Sort → Signature
reads receiver sort = of receiver [] (One sort) []

abbrev pub queries : Receiver → Shape → Signature
queries receiver result = of receiver (Text ∷ []) result (error.Syntax ∷ [])

-- kinds of things; only elements, texts and comments have a parent, and only the document and elements have children
abbrev windows : List Kind
windows = kind.Window ∷ []

abbrev documents : List Kind
documents = kind.Document ∷ []

abbrev elements : List Kind
elements = kind.Element ∷ []

abbrev texts : List Kind
texts = kind.Str ∷ []

abbrev comments : List Kind
comments = kind.Comment ∷ []

abbrev events : List Kind
events = kind.Event ∷ []

abbrev parents : List Kind
parents = kind.Document ∷ kind.Element ∷ []

abbrev children : List Kind
children = kind.Element ∷ kind.Str ∷ kind.Comment ∷ []

abbrev nodes : List Kind
nodes = kind.Document ∷ children

abbrev targets : List Kind
targets = kind.Window ∷ nodes

-- the rows of the members, interface by interface
abbrev pub signature : Member → Signature
signature m.WindowDocument = reads OfWindow (OneOf documents)
signature m.WindowWindow = reads OfWindow (OneOf windows)
signature m.WindowSelf = reads OfWindow (OneOf windows)
signature m.WindowSetTimeout = of OfWindow (Callback ∷ NumberOrNone ∷ []) (One Count) (error.Limit ∷ [])
signature m.WindowClearTimeout = of OfWindow (NumberOrNone ∷ []) (One Nothing) []
signature m.EventTargetAddEventListener = of OfTarget (Text ∷ CallbackOrNone ∷ Flag ∷ []) (One Nothing) (error.Limit ∷ [])
signature m.EventTargetRemoveEventListener = of OfTarget (Text ∷ CallbackOrNone ∷ Flag ∷ []) (One Nothing) []
signature m.EventTargetDispatchEvent = of OfTarget (OneOf events ∷ []) (One Flag) (error.InvalidState ∷ [])
signature m.NodeNodeType = reads OfNode Count
signature m.NodeNodeName = reads OfNode Text
signature m.NodeParentNode = reads OfNode (OneOfOrNull parents)
signature m.NodeFirstChild = reads OfNode (OneOfOrNull children)
signature m.NodeLastChild = reads OfNode (OneOfOrNull children)
signature m.NodePreviousSibling = reads OfNode (OneOfOrNull children)
signature m.NodeNextSibling = reads OfNode (OneOfOrNull children)
signature m.NodeOwnerDocument = reads OfNode (OneOfOrNull documents)
signature m.NodeChildNodes = of OfNode [] (Each (OneOf children)) []
signature m.NodeContains = of OfNode (OneOf nodes ∷ []) (One Flag) []
signature m.NodeTextContent = of OfNode [] (One TextOrNull) (error.TooLong ∷ [])
signature m.NodeSetTextContent = of OfNode (Text ∷ []) (One Nothing) (error.Limit ∷ error.TooDeep ∷ [])
signature m.NodeAppendChild = of OfNode (OneOf nodes ∷ []) (One (OneOf children)) (error.Hierarchy ∷ error.TooDeep ∷ [])
signature m.NodeInsertBefore =
    of OfNode (OneOf nodes ∷ OneOfOrNone nodes ∷ []) (One (OneOf children)) (error.Hierarchy ∷ error.NotFound ∷ error.TooDeep ∷ [])
signature m.NodeRemoveChild = of OfNode (OneOf nodes ∷ []) (One (OneOf children)) (error.NotFound ∷ [])
signature m.NodeRemove = reads OfNode Nothing
signature m.NodeCloneNode = of OfOtherNode (Flag ∷ []) (One (OneOf children)) (error.Limit ∷ [])
signature m.ElementTagName = reads OfElement Text
signature m.ElementId = reads OfElement Text
signature m.ElementSetId = of OfElement (Text ∷ []) (One Nothing) []
signature m.ElementClassName = reads OfElement Text
signature m.ElementSetClassName = of OfElement (Text ∷ []) (One Nothing) []
signature m.ElementGetAttribute = of OfElement (Text ∷ []) (One TextOrNull) []
signature m.ElementHasAttribute = of OfElement (Text ∷ []) (One Flag) []
signature m.ElementSetAttribute = of OfElement (Text ∷ Text ∷ []) (One Nothing) (error.InvalidCharacter ∷ [])
signature m.ElementRemoveAttribute = of OfElement (Text ∷ []) (One Nothing) []
signature m.ElementChildren = of OfElement [] (Each (OneOf elements)) []
signature m.ElementQuerySelector = queries OfElement (One (OneOfOrNull elements))
signature m.DocumentQuerySelector = queries OfDocument (One (OneOfOrNull elements))
signature m.ElementQuerySelectorAll = queries OfElement (Each (OneOf elements))
signature m.DocumentQuerySelectorAll = queries OfDocument (Each (OneOf elements))
signature m.ElementGetElementsByTagName = of OfElement (Text ∷ []) (Each (OneOf elements)) []
signature m.DocumentGetElementsByTagName = of OfDocument (Text ∷ []) (Each (OneOf elements)) []
signature m.DocumentDocumentElement = reads OfDocument (OneOfOrNull elements)
signature m.DocumentHead = reads OfDocument (OneOfOrNull elements)
signature m.DocumentBody = reads OfDocument (OneOfOrNull elements)
signature m.DocumentTitle = of OfDocument [] (One Text) (error.TooLong ∷ [])
signature m.DocumentSetTitle = of OfDocument (Text ∷ []) (One Nothing) (error.Limit ∷ error.TooDeep ∷ [])
signature m.DocumentReadyState = reads OfDocument Text
signature m.DocumentUrl = reads OfDocument Text
signature m.DocumentCreateElement = of OfDocument (Text ∷ []) (One (OneOf elements)) (error.InvalidCharacter ∷ error.Limit ∷ [])
signature m.DocumentCreateTextNode = of OfDocument (Text ∷ []) (One (OneOf texts)) (error.Limit ∷ [])
signature m.DocumentCreateComment = of OfDocument (Text ∷ []) (One (OneOf comments)) (error.Limit ∷ [])
signature m.DocumentGetElementById = of OfDocument (Text ∷ []) (One (OneOfOrNull elements)) []
signature m.NewEvent = of OfWindow (Text ∷ Flag ∷ Flag ∷ Null ∷ []) (One (OneOf events)) []
signature m.NewCustomEvent = of OfWindow (Text ∷ Flag ∷ Flag ∷ Detail ∷ []) (One (OneOf events)) []
signature m.EventType = reads OfEvent Text
signature m.EventTarget = reads OfEvent (OneOfOrNull targets)
signature m.EventCurrentTarget = reads OfEvent (OneOfOrNull targets)
signature m.EventEventPhase = reads OfEvent Count
signature m.EventBubbles = reads OfEvent Flag
signature m.EventCancelable = reads OfEvent Flag
signature m.EventDefaultPrevented = reads OfEvent Flag
signature m.EventIsTrusted = reads OfEvent Flag
signature m.EventDetail = reads OfEvent Crossed
signature m.EventPreventDefault = reads OfEvent Nothing
signature m.EventStopPropagation = reads OfEvent Nothing
signature m.EventStopImmediatePropagation = reads OfEvent Nothing
signature m.GmLog = of OfScript (Text ∷ []) (One Nothing) []
signature m.GmGetValue = of OfScript (Text ∷ []) (OneOrAbsent Storable) []
signature m.GmSetValue = of OfScript (Text ∷ Storable ∷ []) (One Nothing) (error.Limit ∷ [])
signature m.GmDeleteValue = of OfScript (Text ∷ []) (One Nothing) []
signature m.GmListValues = of OfScript [] (Each Text) []
signature m.ConsoleLog = of OfWindow (Text ∷ []) (One Nothing) []

-- ---- values

-- a thing of one of these kinds
abbrev pub is_one_of : List Kind → Value → Bool
is_one_of kinds (value.Thing thing) = list_any (is_kind thing.kind) kinds
is_one_of kinds v = false

abbrev pub is_null : Value → Bool
is_null value.Null = true
is_null v = false

abbrev pub is_undefined : Value → Bool
is_undefined value.Undefined = true
is_undefined v = false

abbrev pub is_text : Value → Bool
is_text (value.Str text) = is_short text
is_text v = false

abbrev pub is_flag : Value → Bool
is_flag (value.Bool flag) = true
is_flag v = false

abbrev pub is_number : Value → Bool
is_number (value.Number n) = is_safe n
is_number v = false

-- a number from 0 on
abbrev pub is_count : Value → Bool
is_count (value.Number (pos n)) = is_safe (pos n)
is_count v = false

-- a function of the actor's own, by its place among its proper cells
abbrev pub is_function_shape : CellShape → Bool
is_function_shape shape.Function = true
is_function_shape s = false

abbrev pub is_own_function : Actor → Value → Bool
is_own_function i (value.Cell owner place shape waived) = is_actor owner i && is_function_shape shape && not waived
is_own_function i v = false

abbrev pub is_within_limits : Value → Bool
is_within_limits (value.Str text) = is_short text
is_within_limits (value.Number n) = is_safe n
is_within_limits v = has_owner v

abbrev pub is_waived : Value → Bool
is_waived (value.WaivedThing thing) = true
is_waived (value.Cell owner place shape waived) = waived
is_waived v = false

abbrev pub is_of_sort : Actor → Sort → Value → Bool
is_of_sort i Nothing v = is_undefined v
is_of_sort i Null v = is_null v
is_of_sort i Flag v = is_flag v
is_of_sort i Count v = is_count v
is_of_sort i NumberOrNone v = is_number v || is_undefined v
is_of_sort i Text v = is_text v
is_of_sort i TextOrNull v = is_text v || is_null v
is_of_sort i (OneOf kinds) v = is_one_of kinds v
is_of_sort i (OneOfOrNull kinds) v = is_one_of kinds v || is_null v
is_of_sort i (OneOfOrNone kinds) v = is_one_of kinds v || is_null v || is_undefined v
is_of_sort i Callback v = is_own_function i v
is_of_sort i CallbackOrNone v = is_own_function i v || is_null v || is_undefined v
is_of_sort i Storable v = is_text v || is_flag v || is_number v
is_of_sort i Detail v = is_within_limits v && not (is_undefined v)
is_of_sort i Crossed v = is_within_limits v && not (is_undefined v) && not (is_waived v)

-- one value for each sort
abbrev pub are_of_sorts : Actor → List Sort → List Value → Bool
are_of_sorts i [] [] = true
are_of_sorts i (sort ∷ sorts) (v ∷ vs) = is_of_sort i sort v && are_of_sorts i sorts vs
are_of_sorts i sorts vs = false

-- ---- requests and answers

-- actors from 2 on are userscripts
abbrev pub is_script : Actor → Bool
is_script i = nat_le 2 i.0

-- the functions of userscripts are asked of the window, and by userscripts alone
abbrev pub is_receiver : Actor → Receiver → Thing → Bool
is_receiver i OfWindow thing = is_thing the_window thing
is_receiver i OfScript thing = is_script i && is_thing the_window thing
is_receiver i OfTarget thing = is_thing the_window thing || is_node_kind thing.kind
is_receiver i OfNode thing = is_node_kind thing.kind
is_receiver i OfOtherNode thing = is_node_kind thing.kind && not (is_kind kind.Document thing.kind)
is_receiver i OfElement thing = is_kind kind.Element thing.kind
is_receiver i OfDocument thing = is_kind kind.Document thing.kind
is_receiver i OfEvent thing = is_kind kind.Event thing.kind

-- what an actor asks fits the member's row
abbrev pub is_request : Actor → Member → Thing → List Value → Bool
is_request i member thing arguments = is_receiver i (signature member).receiver thing && are_of_sorts i (signature member).arguments arguments

-- kinds of errors are told apart by their numbers (this project's own); the text of a crossing isn't compared
abbrev pub error_number : ErrorKind → ℕ
error_number error.Hierarchy = 0
error_number error.NotFound = 1
error_number error.InvalidState = 2
error_number error.Syntax = 3
error_number error.InvalidCharacter = 4
error_number error.Limit = 5
error_number error.TooDeep = 6
error_number error.TooLong = 7
error_number error.Range = 8
error_number error.Kind = 9
error_number error.Denied = 10
error_number (error.Crossing text) = 11

abbrev pub is_error : ErrorKind → ErrorKind → Bool
is_error a b = nat_eq (error_number a) (error_number b)

-- the answer has this shape
abbrev pub has_shape : Actor → Shape → Answer → Bool
has_shape i (One sort) (answer.Value v) = is_of_sort i sort v
has_shape i (OneOrAbsent sort) (answer.Value v) = is_of_sort i sort v
has_shape i (OneOrAbsent sort) answer.Absent = true
has_shape i (Each sort) (answer.List vs) = list_all (is_of_sort i sort) vs
has_shape i shape a = false

-- an answer of a member: one of its own refusals, or a value of its shape
abbrev pub is_answer_to : Actor → Signature → Answer → Bool
is_answer_to i s (answer.Throw reason) = list_any (is_error reason) s.refusals
is_answer_to i s a = has_shape i s.result a

abbrev pub is_answer : Actor → Member → Answer → Bool
is_answer i member a = is_answer_to i (signature member) a

-- ---- looks

-- what is looked at is another actor's
abbrev pub is_look_of : Actor → Actor → Bool
is_look_of i owner = owns_cells owner && owns_cells i && not (is_actor owner i)

-- a look at a property of another actor's object: its value as the reader gets it, that there is none, or no right to it
abbrev pub is_look : Answer → Bool
is_look (answer.Value v) = is_within_limits v && not (is_waived v)
is_look answer.Absent = true
is_look answer.Denied = true
is_look a = false

abbrev pub is_look_at_keys : Answer → Bool
is_look_at_keys (answer.Keys keys) = list_all is_short keys
is_look_at_keys answer.Denied = true
is_look_at_keys a = false

-- ---- operations on another's object

-- the object is one of the owner's cells, or a thing as its owner sees it, which is the page's
abbrev pub is_object_of : Actor → Value → Bool
is_object_of owner (value.Cell holder place shape waived) = is_actor holder owner
is_object_of owner (value.WaivedThing thing) = is_actor owner PAGE
is_object_of owner v = false

-- or the window as any script sees it, where something is defined on the page's own (MDN, exportFunction and createObjectIn, defineAs)
abbrev pub is_scope_of : Actor → Value → ServeOp → Bool
is_scope_of owner (value.Thing thing) (serve.Define key v) = is_actor owner PAGE && is_thing the_window thing
is_scope_of owner object operation = false

-- an actor has another one do something to an object of that one's
abbrev pub is_serve : Actor → Actor → Value → ServeOp → Bool
is_serve i owner object operation = is_look_of i owner && (is_object_of owner object || is_scope_of owner object operation)

-- ---- ways out of the sandbox

-- a way out: its arguments, the texts of its refusals, and what comes of it else
pub record WayOut : Type 0 where
  pub arguments : List Value
  pub is_refusal : List ℕ → Bool
  pub is_result : Value → Bool

-- the row of one that isn't refused
abbrev pub never : List ℕ → Bool
never text = false

-- a value that isn't a reference
abbrev pub is_primitive : Value → Bool
is_primitive (value.Thing thing) = false
is_primitive (value.WaivedThing thing) = false
is_primitive (value.Cell owner place shape waived) = false
is_primitive v = true

-- the page's window waived
abbrev pub is_waived_window : Value → Bool
is_waived_window (value.WaivedThing thing) = is_thing the_window thing
is_waived_window v = false

abbrev pub is_plain_shape : CellShape → Bool
is_plain_shape shape.Plain = true
is_plain_shape s = false

-- a waived object of the page, of such a shape
abbrev pub is_of_page : (CellShape → Bool) → Value → Bool
is_of_page is_shape (value.Cell owner place shape waived) = is_actor owner PAGE && waived && is_shape shape
is_of_page is_shape v = false

abbrev pub is_waived_thing : Value → Bool
is_waived_thing (value.WaivedThing thing) = true
is_waived_thing v = false

-- what is waived, what isn't, and a copy in the page
abbrev pub is_bare : Value → Bool
is_bare v = is_within_limits v && (is_primitive v || is_waived v)

abbrev pub is_covered : Value → Bool
is_covered v = is_within_limits v && not (is_waived v)

abbrev pub is_copy : Value → Bool
is_copy v = is_within_limits v && (is_primitive v || is_waived_thing v || is_of_page (λ s. true) v)

-- the rows of the ways out (Greasemonkey manual, unsafeWindow; MDN, Xray vision and Components.utils)
abbrev pub way_out : ReachOp → WayOut
way_out (reach.Waive v) = record { arguments = v ∷ []; is_refusal = never; is_result = is_bare }
way_out (reach.Unwaive v) = record { arguments = v ∷ []; is_refusal = never; is_result = is_covered }
way_out reach.UnsafeWindow = record { arguments = []; is_refusal = never; is_result = is_waived_window }
way_out (reach.Export f scope options) =
    record { arguments = f ∷ scope ∷ options ∷ []; is_refusal = is_in export_refusals; is_result = is_of_page is_function_shape }
way_out (reach.CreateIn scope options) =
    record { arguments = scope ∷ options ∷ []; is_refusal = is_in (SCOPE_DENIED ∷ []); is_result = is_of_page is_plain_shape }
way_out (reach.Clone source scope options functions reflectors) =
    record { arguments = source ∷ scope ∷ options ∷ []; is_refusal = λ text. is_in (SCOPE_DENIED ∷ []) text || is_walk_refusal text; is_result = is_copy }

-- what a userscript asks fits the row
abbrev pub is_reach : Actor → WayOut → Bool
is_reach i way = is_script i && list_all is_within_limits way.arguments

-- its answer: a refusal of its own, what comes of it, or that there was no room, by which its asker is stopped
abbrev pub is_way_out : WayOut → Answer → Bool
is_way_out way (answer.Value v) = way.is_result v
is_way_out way (answer.Throw (error.Crossing text)) = way.is_refusal text
is_way_out way answer.Stopped = true
is_way_out way a = false

-- ---- all requests

-- whether what an actor asks fits the table
abbrev pub is_request_of : Actor → Request → Bool
is_request_of i (Native member thing arguments) = is_request i member thing arguments
is_request_of i (Peek owner place key) = is_look_of i owner && is_short key
is_request_of i (PeekKeys owner place) = is_look_of i owner
is_request_of i (Reach operation) = is_reach i (way_out operation)

-- whether an answer fits its request
abbrev pub is_answer_to_request : Actor → Request → Answer → Bool
is_answer_to_request i (Native member thing arguments) a = is_answer i member a
is_answer_to_request i (Peek owner place key) a = is_look a
is_answer_to_request i (PeekKeys owner place) a = is_look_at_keys a
is_answer_to_request i (Reach operation) a = is_way_out (way_out operation) a
