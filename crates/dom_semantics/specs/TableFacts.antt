-- What fits the table of requests, what names a cell of the host, and what a run may be given, computed by the definitions alone. The expected
-- values are those of the tables of this project.
use Rattle.std.specs.Prelude.{◌≡◌, ℕ, Bool, true, false, List, [], ◌∷◌, ◌++◌, codes, pos, replicate, is_some}
use Rattle.std.specs.List.{list_all}
use Rattle.door.specs.declared.values.Actor.{Actor}
use Rattle.door.specs.declared.values.Kind.TheVariants.{Element}
use Rattle.door.specs.declared.values.Shape.{Shape}
use Rattle.door.specs.declared.values.Shape.TheVariants.{Plain, Function}
use Rattle.door.specs.declared.values.Value.{Value}
use Rattle.door.specs.declared.values.Value.TheVariants as value
use Rattle.door.specs.declared.members.Member.TheVariants as m
use Rattle.door.specs.declared.requests.Answer.{Answer}
use Rattle.door.specs.declared.requests.Answer.TheVariants as answer
use Rattle.door.specs.declared.requests.ErrorKind.TheVariants as error
use Rattle.door.specs.declared.requests.ReachOp.{ReachOp}
use Rattle.door.specs.declared.requests.ReachOp.TheVariants as reach
use Rattle.door.specs.declared.requests.Request.{Request}
use Rattle.door.specs.declared.requests.Request.TheVariants.{Native, Peek, PeekKeys, Reach}
use Rattle.door.specs.declared.requests.ServeOp.{ServeOp}
use Rattle.door.specs.declared.requests.ServeOp.TheVariants as serve
use Rattle.door.specs.declared.marks.Entry.TheVariants as entry
use Rattle.door.specs.declared.marks.Mark.TheVariants as mark
use Rattle.door.specs.declared.grants.GrantSet.{GrantSet}
use Rattle.dom_semantics.specs.declared.kept.Kept.TheVariants as kept
use Rattle.dom_semantics.specs.declared.kept.Owner.{Owner}
use Rattle.dom_semantics.specs.DocumentTree.{are_leaves, has_one_element, has_no_text}
use Rattle.dom_semantics.specs.Fits.{is_request_of, is_answer_to_request, is_serve}
use Rattle.dom_semantics.specs.Forest.{Forest, Node, Form, Root, Tagged, Written, new_forest, the_host}
use Rattle.dom_semantics.specs.Grants.{may_ask, no_grants}
use Rattle.dom_semantics.specs.HostCells.{mark_has_owners}
use Rattle.dom_semantics.specs.SelectorReadingModel.{read_selector}
use Rattle.dom_semantics.specs.Stage.{Origin, Setting, start, is_clock_before, is_grant_set}
use Rattle.dom_semantics.specs.Stores.{Stores, are_ascending, is_store}
use Rattle.dom_semantics.specs.Things.{thing_of, the_window, the_document}
use Rattle.dom_semantics.specs.Truth.{is_possible, reply_to}

abbrev actor : ℕ → Actor
actor n = record { 0 = n }

abbrev cell : ℕ → Shape → Bool → Value
cell owner shape waived = value.Cell (actor owner) 300 shape waived

abbrev window : Value
window = value.Thing the_window

abbrev gives : Value → Answer
gives v = answer.Value v

abbrev crossing : List ℕ → Answer
crossing text = answer.Throw (error.Crossing text)

-- ---- operations on another's object

abbrev reads : ServeOp
reads = serve.Get (codes "k")

abbrev defines : ServeOp
defines = serve.Define (codes "k") (cell 1 Function true)

-- ---- ways out, asked by the first userscript

abbrev exports : ReachOp
exports = reach.Export (cell 2 Function false) window value.Undefined

abbrev creates : ReachOp
creates = reach.CreateIn window value.Undefined

abbrev clones : ReachOp
clones = reach.Clone (cell 2 Plain false) window value.Undefined false false

abbrev comes_to : ReachOp → Answer → Bool
comes_to operation a = is_answer_to_request (actor 2) (Reach operation) a

abbrev is_asked : ℕ → Request → Bool
is_asked i request = is_request_of (actor i) request

-- ---- what a run is given

-- the first script may use unsafeWindow, the second has none of its own, the third runs among the page's
abbrev unsafe : GrantSet
unsafe = record no_grants { unsafe_window = true }

abbrev plain : GrantSet
plain = record no_grants { no_grant = true }

abbrev owner : List ℕ → Owner
owner name = record { namespace = []; name = name }

abbrev origin : Origin
origin = record {
  address = codes "http://example.com/";
  owners = owner (codes "a") ∷ owner (codes "b") ∷ owner (codes "c") ∷ [];
  grants = unsafe ∷ no_grants ∷ plain ∷ [];
  read_selector = read_selector;
}

abbrev setting : Setting
setting = record { origin = origin; stores = []; clocks = [] }

abbrev may : ℕ → ReachOp → Bool
may i operation = may_ask origin (actor i) (Reach operation)

-- whether a request may have this answer at the start
abbrev may_be : ℕ → Request → Answer → Bool
may_be i request a = is_possible origin (start setting) (actor i) request a

abbrev keeps : List ℕ → List (List ℕ) → Stores → Stores
keeps name [] stores = (owner name, []) ∷ stores
keeps name (key ∷ []) stores = (owner name, (key, kept.Bool true) ∷ []) ∷ stores
keeps name (key ∷ (second ∷ keys)) stores = (owner name, (key, kept.Bool true) ∷ (second, kept.Bool true) ∷ []) ∷ stores

-- ---- trees

abbrev node : Form → List ℕ → Node
node form children = record { maker = the_host; form = form; attributes = []; children = children }

-- the document with these children, and two elements and a text
abbrev tree : List ℕ → Forest
tree children = node Root children ∷ node (Tagged (codes "a")) [] ∷ node (Tagged (codes "b")) [] ∷ node (Written (codes "t")) [] ∷ []

-- a text with a child
abbrev stem : Forest
stem = node Root [] ∷ node (Written (codes "a")) (2 ∷ []) ∷ node (Written (codes "b")) [] ∷ []

pub record TableFacts : Type 0 where
  -- what comes of each way out
  pub waived : comes_to (reach.Waive window) (gives (value.WaivedThing the_window)) ≡ true
  pub not_waived : comes_to (reach.Waive window) (gives window) ≡ false
  pub unwaived : comes_to (reach.Unwaive (cell 1 Plain true)) (gives (cell 1 Plain false)) ≡ true
  pub still_waived : comes_to (reach.Unwaive (cell 1 Plain true)) (gives (cell 1 Plain true)) ≡ false
  pub page_window : comes_to reach.UnsafeWindow (gives (value.WaivedThing the_window)) ≡ true
  pub other_thing : comes_to reach.UnsafeWindow (gives (value.WaivedThing the_document)) ≡ false
  pub exported : comes_to exports (gives (cell 1 Function true)) ≡ true
  pub exported_object : comes_to exports (gives (cell 1 Plain true)) ≡ false
  pub exported_own : comes_to exports (gives (cell 2 Function true)) ≡ false
  pub created : comes_to creates (gives (cell 1 Plain true)) ≡ true
  pub copied : comes_to clones (gives (cell 1 Plain true)) ≡ true
  pub copied_number : comes_to clones (gives (value.Number (pos 1))) ≡ true
  pub copied_own : comes_to clones (gives (cell 2 Plain true)) ≡ false
  pub no_room : comes_to clones answer.Stopped ≡ true
  pub absent : comes_to clones answer.Absent ≡ false
  -- the refusals of each
  pub no_function : comes_to exports (crossing (codes "NotCallable")) ≡ true
  pub not_own : comes_to exports (crossing (codes "NotOwn")) ≡ true
  pub no_scope : comes_to creates (crossing (codes "ScopeDenied")) ≡ true
  pub created_function : comes_to creates (crossing (codes "NotCallable")) ≡ false
  pub no_window : comes_to reach.UnsafeWindow (crossing (codes "ScopeDenied")) ≡ false
  pub no_limit : comes_to clones (answer.Throw error.Limit) ≡ false
  pub foreign : comes_to clones (crossing (codes "IsForeign at .a[0]")) ≡ true
  pub itself : comes_to clones (crossing (codes "HasAccessor at ")) ≡ true
  pub any_text : comes_to clones (crossing (codes "NotCallable")) ≡ false
  pub no_path : comes_to clones (crossing (codes "IsThing")) ≡ false
  pub no_step : comes_to clones (crossing (codes "IsThing at a")) ≡ false
  pub long_path : comes_to clones (crossing (codes "IsThing at ." ++ replicate 199 97)) ≡ true
  pub longer_path : comes_to clones (crossing (codes "IsThing at ." ++ replicate 200 97)) ≡ false
  -- who asks for what
  pub by_page : is_asked 1 (Reach creates) ≡ false
  pub by_script : is_asked 2 (Reach creates) ≡ true
  pub of_host : is_asked 2 (Reach (reach.Waive (cell 0 Plain false))) ≡ false
  pub look : is_asked 2 (Peek (actor 1) 300 (codes "a")) ≡ true
  pub look_at_itself : is_asked 2 (Peek (actor 2) 300 (codes "a")) ≡ false
  pub look_at_host : is_asked 2 (PeekKeys (actor 0) 1) ≡ false
  pub look_waived : is_answer_to_request (actor 2) (Peek (actor 1) 300 (codes "a")) (gives (cell 1 Plain true)) ≡ false
  pub granted : may 2 reach.UnsafeWindow ≡ true
  pub not_granted : may 3 reach.UnsafeWindow ≡ false
  pub waives : may 3 (reach.Waive window) ≡ true
  pub plain_waives : may 4 (reach.Waive window) ≡ false
  pub page_waives : may 1 (reach.Waive window) ≡ false
  pub serves : is_serve (actor 2) (actor 1) (cell 1 Plain true) reads ≡ true
  pub serves_window : is_serve (actor 2) (actor 1) (value.WaivedThing the_window) reads ≡ true
  pub serves_itself : is_serve (actor 2) (actor 2) (cell 2 Plain true) reads ≡ false
  pub serves_of_third : is_serve (actor 2) (actor 3) (cell 1 Plain true) reads ≡ false
  -- `defineAs` defines on the window that was the scope; nothing else is done there, on no other thing, and not by the page
  pub defines_on_window : is_serve (actor 2) (actor 1) window defines ≡ true
  pub reads_window : is_serve (actor 2) (actor 1) window reads ≡ false
  pub defines_on_document : is_serve (actor 2) (actor 1) (value.Thing the_document) defines ≡ false
  pub page_defines : is_serve (actor 1) (actor 2) window defines ≡ false
  pub none_alone : list_all is_grant_set origin.grants ≡ true
  pub none_with_others : is_grant_set (record plain { unsafe_window = true }) ≡ false
  -- what the host builds: a refusal is a reply, and what fits no row has none
  pub refused_build : is_some (reply_to origin (start setting) the_host (Native m.DocumentCreateElement the_document (value.Str (codes "1") ∷ []))) ≡ true
  pub misfit_build : is_some (reply_to origin (start setting) the_host (Native m.NodeAppendChild the_document (value.Str (codes "1") ∷ []))) ≡ false
  pub absent_build : is_some (reply_to origin (start setting) the_host (Native m.NodeAppendChild the_document (value.Thing (thing_of Element 1) ∷ []))) ≡ false
  -- what is answered is there
  pub there : may_be 2 (Peek (actor 1) 300 (codes "a")) (gives (value.Thing the_document)) ≡ true
  pub not_there : may_be 2 (Peek (actor 1) 300 (codes "a")) (gives (value.Thing (thing_of Element 1))) ≡ false
  pub page_exports : may_be 1 (Reach exports) (gives (cell 1 Function true)) ≡ false
  -- undefined appends, as null does; a text doesn't
  pub undefined_before : is_asked 1 (Native m.NodeInsertBefore the_document (window ∷ value.Undefined ∷ [])) ≡ false
  pub appends : is_asked 1 (Native m.NodeInsertBefore the_document (value.Thing (thing_of Element 1) ∷ value.Undefined ∷ [])) ≡ true
  pub before_text : is_asked 1 (Native m.NodeInsertBefore the_document (value.Thing (thing_of Element 1) ∷ value.Str [] ∷ [])) ≡ false
  -- cells of the host in marks
  pub in_request : mark_has_owners (mark.Ask (actor 2) (Reach (reach.Export (cell 0 Function false) window value.Undefined)) answer.Stopped) ≡ false
  pub in_answer : mark_has_owners (mark.Ask (actor 1) (Peek (actor 2) 300 (codes "a")) (gives (cell 0 Plain false))) ≡ false
  pub in_detail : mark_has_owners (mark.Ask (actor 2) (Native m.NewCustomEvent the_window (cell 0 Plain false ∷ [])) answer.Stopped) ≡ false
  pub in_built : mark_has_owners (mark.Build (Native m.NewCustomEvent the_window (cell 0 Plain false ∷ []))) ≡ false
  pub in_entry : mark_has_owners (mark.Enter (actor 2) (entry.Serve (cell 2 Function false) (serve.Call (cell 0 Plain false) []))) ≡ false
  pub in_call : mark_has_owners (mark.Serve (actor 2) (actor 1) (cell 1 Function true) (serve.Call value.Undefined (cell 0 Plain false ∷ []))) ≡ false
  pub served : mark_has_owners (mark.Served (actor 2) (answer.Thrown (cell 0 Plain false))) ≡ false
  pub of_others : mark_has_owners (mark.Ask (actor 2) (Reach exports) (gives (cell 1 Function true))) ≡ true
  -- the order and the limits of what is loaded
  pub in_order : is_store (keeps (codes "a") (codes "k" ∷ codes "l" ∷ []) (keeps (codes "b") [] [])) ≡ true
  pub owners_turned : is_store (keeps (codes "b") [] (keeps (codes "a") [] [])) ≡ false
  pub keys_turned : is_store (keeps (codes "a") (codes "l" ∷ codes "k" ∷ []) []) ≡ false
  pub key_twice : is_store (keeps (codes "a") (codes "k" ∷ codes "k" ∷ []) []) ≡ false
  pub too_great : is_store ((owner [], (codes "k", kept.Number (pos 9007199254740992)) ∷ []) ∷ []) ≡ false
  pub greatest : is_store ((owner [], (codes "k", kept.Number (pos 9007199254740991)) ∷ []) ∷ []) ≡ true
  -- clocks
  pub clocks : are_ascending is_clock_before ((0, 0) ∷ (4, 10) ∷ (4, 20) ∷ []) ≡ true
  pub set_back : are_ascending is_clock_before ((0, 10) ∷ (4, 5) ∷ []) ≡ false
  pub turned : are_ascending is_clock_before ((4, 5) ∷ (0, 10) ∷ []) ≡ false
  -- trees
  pub document_alone : list_all (λ check. check new_forest) (are_leaves ∷ has_one_element ∷ has_no_text ∷ []) ≡ true
  pub one_element : has_one_element (tree (1 ∷ [])) ≡ true
  pub two_elements : has_one_element (tree (1 ∷ 2 ∷ [])) ≡ false
  pub text_in_document : has_no_text (tree (1 ∷ 3 ∷ [])) ≡ false
  pub no_text : has_no_text (tree (1 ∷ [])) ≡ true
  pub child_of_text : are_leaves stem ≡ false
