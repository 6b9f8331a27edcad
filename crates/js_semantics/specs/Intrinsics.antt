-- The cells that each actor begins with, in the order of their places: the built-ins as their table lists them, a constructor directly
-- followed by its prototype, then the scripts among them and the interfaces, each followed by its prototype, and then the members of the
-- outside (ECMAScript, 19 to 23; Web IDL, 3.7; the places are this project's own). What isn't built yet takes no place.
use Rattle.std.specs.Prelude.{ℕ, suc, ◌-◌, ◌+◌, ◌==◌, ◌&&◌, Bool, true, false, List, [], ◌∷◌, ◌++◌, Option, Some, None, length, replicate, codes, if◌then◌else◌}
use Rattle.door.specs.declared.zones.Zone.{Zone}
use Rattle.door.specs.declared.zones.Zone.TheVariants.{Page, PlainScript}
use Rattle.door.specs.declared.grants.GrantSet.{GrantSet}
use Rattle.door.specs.declared.values.Kind.TheVariants.{Window}
use Rattle.door.specs.declared.members.Member.{Member}
use Rattle.door.specs.declared.members.Member.TheVariants as member
use Rattle.js_syntax.specs.declared.tree.Function.{Function}
use Rattle.js_semantics.specs.Builtin.{Builtin}
use Rattle.js_semantics.specs.Builtin as b
use Rattle.js_semantics.specs.Prelude as prelude
use Rattle.js_semantics.specs.Places.{OBJECT_PROTOTYPE, FUNCTION_PROTOTYPE, ARRAY_PROTOTYPE, ERROR_PROTOTYPE, EVENT_TARGET_PROTOTYPE, NODE_PROTOTYPE, DOCUMENT_PROTOTYPE, ELEMENT_PROTOTYPE, WINDOW_PROTOTYPE, EVENT_PROTOTYPE}
use Rattle.js_semantics.specs.Machine.{Machine, Cell, Form, Plain, Closure, Native, Reference, Own, Value, Refers, Property, Datum, Accessor, Slot, undefined, text, CELLS, GLOBAL_PLACE, the_window, the_page_window}
use Rattle.js_semantics.specs.Properties.{property_in, defined_in}

-- where a cell is named: by a key of another cell, as a getter or a setter there, or by a key where it is granted
pub data Named : Type 0 where
  Under : (holder : ℕ) (key : List ℕ) → Named
  Getter : (holder : ℕ) (key : List ℕ) → Named
  Setter : (holder : ℕ) (key : List ℕ) → Named
  Granted : Bool → (holder : ℕ) (key : List ℕ) → Named

-- a cell that an actor begins with
pub record Intrinsic : Type 0 where
  pub named : Named
  pub form : Form
  pub prototype : Option Reference
  pub slots : List Slot

-- a function under a key, and a plain object
abbrev function : ℕ → List ℕ → Builtin → Intrinsic
function holder key builtin = record { named = Under holder key; form = Native builtin; prototype = Some (Own FUNCTION_PROTOTYPE); slots = [] }

abbrev object : ℕ → List ℕ → Option Reference → Intrinsic
object holder key above = record { named = Under holder key; form = Plain; prototype = above; slots = [] }

abbrev hidden : List ℕ → Value → Slot
hidden key value = record { key = key; property = Datum value true false }

-- a prototype, which its constructor names and which names its constructor
abbrev prototype_for : ℕ → Option Reference → Intrinsic
prototype_for constructor above =
    record { named = Under constructor (codes "prototype"); form = Plain; prototype = above; slots = hidden (codes "constructor") (Refers (Own constructor)) ∷ [] }

abbrev getter : ℕ → List ℕ → Member → Intrinsic
getter holder key name = record { named = Getter holder key; form = Native (b.Asks name); prototype = Some (Own FUNCTION_PROTOTYPE); slots = [] }

abbrev setter : ℕ → List ℕ → Member → Intrinsic
setter holder key name = record { named = Setter holder key; form = Native (b.Asks name); prototype = Some (Own FUNCTION_PROTOTYPE); slots = [] }

abbrev plain : Option Reference
plain = Some (Own OBJECT_PROTOTYPE)

-- a global name
abbrev global : List ℕ → Builtin → Intrinsic
global key builtin = function GLOBAL_PLACE key builtin

-- a constructor whose prototype is another's
abbrev sharing : ℕ → List ℕ → Builtin → Intrinsic
sharing place key builtin = record (global key builtin) { slots = hidden (codes "prototype") (Refers (Own place)) ∷ [] }

abbrev error_kind : List ℕ → Builtin → Intrinsic
error_kind key builtin = sharing ERROR_PROTOTYPE key builtin

abbrev custom_event : Intrinsic
custom_event = sharing EVENT_PROTOTYPE (codes "CustomEvent") (b.Asks member.NewCustomEvent)

-- a function of Array.prototype that is a script
abbrev written : List ℕ → Function → Intrinsic
written key code = record { named = Under ARRAY_PROTOTYPE key; form = Closure code None; prototype = Some (Own FUNCTION_PROTOTYPE); slots = [] }

-- the address of the page, which isn't writable
abbrev location : List ℕ → Intrinsic
location address = record (object GLOBAL_PLACE (codes "location") plain) { slots = record { key = codes "href"; property = Datum (text address) false false } ∷ [] }

-- a function of Greasemonkey is named where it is granted
abbrev granted : Bool → List ℕ → Member → Intrinsic
granted is_granted key name = record (global key (b.Asks name)) { named = Granted is_granted GLOBAL_PLACE key }

-- from place 0: Object (20.1)
abbrev pub objects : List Intrinsic
objects =
    global (codes "Object") b.ObjectFunction
    ∷ prototype_for 0 None
    ∷ function 0 (codes "keys") b.ObjectKeys
    ∷ function 0 (codes "create") b.ObjectCreate
    ∷ function 0 (codes "getPrototypeOf") b.ObjectGetPrototypeOf
    ∷ function 0 (codes "setPrototypeOf") b.ObjectSetPrototypeOf
    ∷ function 0 (codes "defineProperty") b.ObjectDefineProperty
    ∷ function 1 (codes "hasOwnProperty") b.ObjectHasOwnProperty
    ∷ function 1 (codes "toString") b.ObjectToString
    ∷ []

-- from place 9: Function (20.2)
abbrev pub functions : List Intrinsic
functions =
    global (codes "Function") b.FunctionFunction
    ∷ prototype_for 9 plain
    ∷ function 10 (codes "call") b.FunctionCall
    ∷ function 10 (codes "apply") b.FunctionApply
    ∷ []

-- from place 13: Array (23.1)
abbrev pub arrays : List Intrinsic
arrays =
    global (codes "Array") b.ArrayFunction
    ∷ prototype_for 13 plain
    ∷ function 13 (codes "isArray") b.ArrayIsArray
    ∷ function 14 (codes "push") b.ArrayPush
    ∷ function 14 (codes "pop") b.ArrayPop
    ∷ function 14 (codes "shift") b.ArrayShift
    ∷ function 14 (codes "unshift") b.ArrayUnshift
    ∷ function 14 (codes "reverse") b.ArrayReverse
    ∷ []

-- from place 21: String, Number and Boolean (22.1, 21.1, 20.3)
abbrev pub primitives : List Intrinsic
primitives =
    global (codes "String") b.StringFunction
    ∷ prototype_for 21 plain
    ∷ global (codes "Number") b.NumberFunction
    ∷ prototype_for 23 plain
    ∷ global (codes "Boolean") b.BooleanFunction
    ∷ prototype_for 25 plain
    ∷ function 22 (codes "charAt") b.StringCharAt
    ∷ function 22 (codes "charCodeAt") b.StringCharCodeAt
    ∷ function 22 (codes "indexOf") b.StringIndexOf
    ∷ function 22 (codes "slice") b.StringSlice
    ∷ function 22 (codes "substring") b.StringSubstring
    ∷ function 22 (codes "split") b.StringSplit
    ∷ function 22 (codes "replace") b.StringReplace
    ∷ function 22 (codes "trim") b.StringTrim
    ∷ function 22 (codes "toLowerCase") b.StringToLowerCase
    ∷ function 22 (codes "toUpperCase") b.StringToUpperCase
    ∷ function 22 (codes "toString") b.StringToString
    ∷ function 24 (codes "toString") b.NumberToString
    ∷ function 26 (codes "toString") b.BooleanToString
    ∷ []

-- from place 40: Math (21.3)
abbrev pub mathematics : List Intrinsic
mathematics =
    object GLOBAL_PLACE (codes "Math") plain
    ∷ function 40 (codes "abs") b.MathAbs
    ∷ function 40 (codes "floor") b.MathFloor
    ∷ function 40 (codes "min") b.MathMin
    ∷ function 40 (codes "max") b.MathMax
    ∷ function 40 (codes "div") b.MathDiv
    ∷ []

-- from place 46: Error and its kinds, with one prototype (20.5)
abbrev pub errors : List Intrinsic
errors =
    global (codes "Error") b.ErrorFunction
    ∷ prototype_for 46 plain
    ∷ function 47 (codes "toString") b.ErrorToString
    ∷ error_kind (codes "TypeError") b.TypeErrorFunction
    ∷ error_kind (codes "RangeError") b.RangeErrorFunction
    ∷ error_kind (codes "ReferenceError") b.ReferenceErrorFunction
    ∷ []

-- from place 52: what logs, the address, and what a userscript keeps (Console Standard; HTML, Location; Greasemonkey manual)
abbrev pub logs : GrantSet → List ℕ → List Intrinsic
logs grants address =
    object GLOBAL_PLACE (codes "console") plain
    ∷ function 52 (codes "log") (b.Asks member.ConsoleLog)
    ∷ location address
    ∷ granted grants.log (codes "GM_log") member.GmLog
    ∷ granted grants.get_value (codes "GM_getValue") member.GmGetValue
    ∷ granted grants.set_value (codes "GM_setValue") member.GmSetValue
    ∷ granted grants.delete_value (codes "GM_deleteValue") member.GmDeleteValue
    ∷ granted grants.list_values (codes "GM_listValues") member.GmListValues
    ∷ []

-- from place 60: the functions of Array.prototype that are scripts (23.1.3)
abbrev pub scripted : List Intrinsic
scripted =
    written (codes "forEach") prelude.for_each
    ∷ prototype_for 60 plain
    ∷ written (codes "map") prelude.map
    ∷ prototype_for 62 plain
    ∷ written (codes "filter") prelude.filter
    ∷ prototype_for 64 plain
    ∷ written (codes "some") prelude.some
    ∷ prototype_for 66 plain
    ∷ written (codes "every") prelude.every
    ∷ prototype_for 68 plain
    ∷ written (codes "indexOf") prelude.index_of
    ∷ prototype_for 70 plain
    ∷ written (codes "slice") prelude.slice
    ∷ prototype_for 72 plain
    ∷ written (codes "join") prelude.join
    ∷ prototype_for 74 plain
    ∷ written (codes "concat") prelude.concat
    ∷ prototype_for 76 plain
    ∷ []

-- from place 78: the interfaces (DOM, HTML); two of them make events
abbrev pub interfaces : List Intrinsic
interfaces =
    global (codes "EventTarget") b.Interface
    ∷ prototype_for 78 plain
    ∷ global (codes "Node") b.Interface
    ∷ prototype_for 80 (Some (Own EVENT_TARGET_PROTOTYPE))
    ∷ global (codes "Document") b.Interface
    ∷ prototype_for 82 (Some (Own NODE_PROTOTYPE))
    ∷ global (codes "Element") b.Interface
    ∷ prototype_for 84 (Some (Own NODE_PROTOTYPE))
    ∷ global (codes "CharacterData") b.Interface
    ∷ prototype_for 86 (Some (Own NODE_PROTOTYPE))
    ∷ global (codes "Window") b.Interface
    ∷ prototype_for 88 (Some (Own EVENT_TARGET_PROTOTYPE))
    ∷ global (codes "Event") (b.Asks member.NewEvent)
    ∷ prototype_for 90 plain
    ∷ custom_event
    ∷ []

-- from place 93: the members of Window and EventTarget (HTML, The Window object, Timers; DOM, Interface EventTarget)
abbrev pub window_members : List Intrinsic
window_members =
    getter WINDOW_PROTOTYPE (codes "document") member.WindowDocument
    ∷ getter WINDOW_PROTOTYPE (codes "window") member.WindowWindow
    ∷ getter WINDOW_PROTOTYPE (codes "self") member.WindowSelf
    ∷ function WINDOW_PROTOTYPE (codes "setTimeout") (b.Asks member.WindowSetTimeout)
    ∷ function WINDOW_PROTOTYPE (codes "clearTimeout") (b.Asks member.WindowClearTimeout)
    ∷ function EVENT_TARGET_PROTOTYPE (codes "addEventListener") (b.Asks member.EventTargetAddEventListener)
    ∷ function EVENT_TARGET_PROTOTYPE (codes "removeEventListener") (b.Asks member.EventTargetRemoveEventListener)
    ∷ function EVENT_TARGET_PROTOTYPE (codes "dispatchEvent") (b.Asks member.EventTargetDispatchEvent)
    ∷ []

-- from place 101: the members of Node (DOM, Interface Node)
abbrev pub node_members : List Intrinsic
node_members =
    getter NODE_PROTOTYPE (codes "nodeType") member.NodeNodeType
    ∷ getter NODE_PROTOTYPE (codes "nodeName") member.NodeNodeName
    ∷ getter NODE_PROTOTYPE (codes "parentNode") member.NodeParentNode
    ∷ getter NODE_PROTOTYPE (codes "firstChild") member.NodeFirstChild
    ∷ getter NODE_PROTOTYPE (codes "lastChild") member.NodeLastChild
    ∷ getter NODE_PROTOTYPE (codes "previousSibling") member.NodePreviousSibling
    ∷ getter NODE_PROTOTYPE (codes "nextSibling") member.NodeNextSibling
    ∷ getter NODE_PROTOTYPE (codes "ownerDocument") member.NodeOwnerDocument
    ∷ getter NODE_PROTOTYPE (codes "childNodes") member.NodeChildNodes
    ∷ function NODE_PROTOTYPE (codes "contains") (b.Asks member.NodeContains)
    ∷ getter NODE_PROTOTYPE (codes "textContent") member.NodeTextContent
    ∷ setter NODE_PROTOTYPE (codes "textContent") member.NodeSetTextContent
    ∷ function NODE_PROTOTYPE (codes "appendChild") (b.Asks member.NodeAppendChild)
    ∷ function NODE_PROTOTYPE (codes "insertBefore") (b.Asks member.NodeInsertBefore)
    ∷ function NODE_PROTOTYPE (codes "removeChild") (b.Asks member.NodeRemoveChild)
    ∷ function NODE_PROTOTYPE (codes "remove") (b.Asks member.NodeRemove)
    ∷ function NODE_PROTOTYPE (codes "cloneNode") (b.Asks member.NodeCloneNode)
    ∷ []

-- from place 118: the members of Element, and those that Document has too (DOM, Interface Element, ParentNode)
abbrev pub element_members : List Intrinsic
element_members =
    getter ELEMENT_PROTOTYPE (codes "tagName") member.ElementTagName
    ∷ getter ELEMENT_PROTOTYPE (codes "id") member.ElementId
    ∷ setter ELEMENT_PROTOTYPE (codes "id") member.ElementSetId
    ∷ getter ELEMENT_PROTOTYPE (codes "className") member.ElementClassName
    ∷ setter ELEMENT_PROTOTYPE (codes "className") member.ElementSetClassName
    ∷ function ELEMENT_PROTOTYPE (codes "getAttribute") (b.Asks member.ElementGetAttribute)
    ∷ function ELEMENT_PROTOTYPE (codes "hasAttribute") (b.Asks member.ElementHasAttribute)
    ∷ function ELEMENT_PROTOTYPE (codes "setAttribute") (b.Asks member.ElementSetAttribute)
    ∷ function ELEMENT_PROTOTYPE (codes "removeAttribute") (b.Asks member.ElementRemoveAttribute)
    ∷ getter ELEMENT_PROTOTYPE (codes "children") member.ElementChildren
    ∷ function ELEMENT_PROTOTYPE (codes "querySelector") (b.Asks member.ElementQuerySelector)
    ∷ function DOCUMENT_PROTOTYPE (codes "querySelector") (b.Asks member.DocumentQuerySelector)
    ∷ function ELEMENT_PROTOTYPE (codes "querySelectorAll") (b.Asks member.ElementQuerySelectorAll)
    ∷ function DOCUMENT_PROTOTYPE (codes "querySelectorAll") (b.Asks member.DocumentQuerySelectorAll)
    ∷ function ELEMENT_PROTOTYPE (codes "getElementsByTagName") (b.Asks member.ElementGetElementsByTagName)
    ∷ function DOCUMENT_PROTOTYPE (codes "getElementsByTagName") (b.Asks member.DocumentGetElementsByTagName)
    ∷ []

-- from place 134: the other members of Document (DOM, Interface Document; HTML, The Document object)
abbrev pub document_members : List Intrinsic
document_members =
    getter DOCUMENT_PROTOTYPE (codes "documentElement") member.DocumentDocumentElement
    ∷ getter DOCUMENT_PROTOTYPE (codes "head") member.DocumentHead
    ∷ getter DOCUMENT_PROTOTYPE (codes "body") member.DocumentBody
    ∷ getter DOCUMENT_PROTOTYPE (codes "title") member.DocumentTitle
    ∷ setter DOCUMENT_PROTOTYPE (codes "title") member.DocumentSetTitle
    ∷ getter DOCUMENT_PROTOTYPE (codes "readyState") member.DocumentReadyState
    ∷ getter DOCUMENT_PROTOTYPE (codes "URL") member.DocumentUrl
    ∷ function DOCUMENT_PROTOTYPE (codes "createElement") (b.Asks member.DocumentCreateElement)
    ∷ function DOCUMENT_PROTOTYPE (codes "createTextNode") (b.Asks member.DocumentCreateTextNode)
    ∷ function DOCUMENT_PROTOTYPE (codes "createComment") (b.Asks member.DocumentCreateComment)
    ∷ function DOCUMENT_PROTOTYPE (codes "getElementById") (b.Asks member.DocumentGetElementById)
    ∷ []

-- from place 145: the members of Event (DOM, Interface Event, Interface CustomEvent)
abbrev pub event_members : List Intrinsic
event_members =
    getter EVENT_PROTOTYPE (codes "type") member.EventType
    ∷ getter EVENT_PROTOTYPE (codes "target") member.EventTarget
    ∷ getter EVENT_PROTOTYPE (codes "currentTarget") member.EventCurrentTarget
    ∷ getter EVENT_PROTOTYPE (codes "eventPhase") member.EventEventPhase
    ∷ getter EVENT_PROTOTYPE (codes "bubbles") member.EventBubbles
    ∷ getter EVENT_PROTOTYPE (codes "cancelable") member.EventCancelable
    ∷ getter EVENT_PROTOTYPE (codes "defaultPrevented") member.EventDefaultPrevented
    ∷ getter EVENT_PROTOTYPE (codes "isTrusted") member.EventIsTrusted
    ∷ getter EVENT_PROTOTYPE (codes "detail") member.EventDetail
    ∷ function EVENT_PROTOTYPE (codes "preventDefault") (b.Asks member.EventPreventDefault)
    ∷ function EVENT_PROTOTYPE (codes "stopPropagation") (b.Asks member.EventStopPropagation)
    ∷ function EVENT_PROTOTYPE (codes "stopImmediatePropagation") (b.Asks member.EventStopImmediatePropagation)
    ∷ []

abbrev pub members : List Intrinsic
members = window_members ++ (node_members ++ (element_members ++ (document_members ++ event_members)))

-- all of them, in the order of their places
abbrev pub intrinsics : GrantSet → List ℕ → List Intrinsic
intrinsics grants address =
    objects ++ (functions ++ (arrays ++ (primitives ++ (mathematics ++ (errors ++ (logs grants address ++ (scripted ++ (interfaces ++ members))))))))

-- ---- their properties

-- a getter is there already
abbrev pub with_set : ℕ → Option Property → Property
with_set i (Some (Accessor get set enumerable)) = Accessor get (Some i) enumerable
with_set i property = Accessor None (Some i) false

-- the property that an intrinsic is, in the list of the cell that names it
abbrev pub named_in : ℕ → ℕ → Named → List Slot → List Slot
named_in place i (Under holder key) slots = if holder == place then defined_in slots key (Datum (Refers (Own i)) true false) else slots
named_in place i (Getter holder key) slots = if holder == place then defined_in slots key (Accessor (Some i) None false) else slots
named_in place i (Setter holder key) slots = if holder == place then defined_in slots key (with_set i (property_in slots key)) else slots
named_in place i (Granted is_granted holder key) slots =
    if (holder == place) && is_granted then defined_in slots key (Datum (Refers (Own i)) true false) else slots

-- the properties of the cell at a place, in the order of the cells that it names, the first of which has place i
abbrev pub slots_from : ℕ → ℕ → List Intrinsic → List Slot → List Slot
slots_from place i [] slots = slots
slots_from place i (x ∷ xs) slots = slots_from place (suc i) xs (named_in place i x.named slots)

abbrev pub cells_from : List Intrinsic → ℕ → List Intrinsic → List (Option Cell)
cells_from all place [] = []
cells_from all place (x ∷ xs) = Some (record { form = x.form; prototype = x.prototype; slots = slots_from place 0 all x.slots }) ∷ cells_from all (suc place) xs

-- ---- the machine before anything

-- what a script is set up with: its zone, its grants and the page's address
pub record Setup : Type 0 where
  pub zone : Zone
  pub grants : GrantSet
  pub address : List ℕ

-- the global names: `undefined`, which isn't writable, and those of the built-ins
abbrev pub global_slots : List Intrinsic → List Slot
global_slots all = slots_from GLOBAL_PLACE 0 all (record { key = codes "undefined"; property = Datum undefined false false } ∷ [])

-- above the global object of a userscript stands the window, as the page has it where the script runs among the page's own
abbrev pub above_global : Zone → Reference
above_global PlainScript = the_page_window
above_global zone = the_window

-- the global object of a userscript is a cell, and the page's is the window itself
abbrev pub global_cell : Zone → List Slot → Option Cell
global_cell Page slots = None
global_cell zone slots = Some (record { form = Plain; prototype = Some (above_global zone); slots = slots })

abbrev pub window_slots : Zone → List Slot → List Slot
window_slots Page slots = slots
window_slots zone slots = []

-- the window is met, and a userscript has its global
abbrev pub cells_beside : Zone → ℕ
cells_beside Page = 1
cells_beside zone = 2

abbrev pub begun : Setup → List Intrinsic → Machine
begun setup all = record {
  zone = setup.zone;
  cells = cells_from all 0 all ++ (replicate (GLOBAL_PLACE - length all) None ++ global_cell setup.zone (global_slots all) ∷ []);
  scopes = [];
  things = record { kind = Window; slots = window_slots setup.zone (global_slots all) } ∷ [];
  objects = [];
  room = CELLS - (length all + cells_beside setup.zone);
}

-- a machine has its intrinsics and has met the window
unfoldable pub fresh : Setup → Machine
fresh setup = begun setup (intrinsics setup.grants setup.address)
