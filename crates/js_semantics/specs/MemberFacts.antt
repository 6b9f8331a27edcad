-- What a userscript asks for by members of the outside, and the units that it uses, computed by the definitions alone. The window is the first
-- thing that it has met, so the document is the next; its first own cell has the place 300.
use Rattle.std.specs.Prelude.{ℕ, List, [], ◌∷◌, Some, None, true, false, pos, codes}
use Rattle.door.specs.declared.values.Kind.TheVariants.{Document, Element, Event}
use Rattle.door.specs.declared.values.Shape.TheVariants as shape
use Rattle.door.specs.declared.values.Thing.{Thing}
use Rattle.door.specs.declared.values.Value.{Value}
use Rattle.door.specs.declared.values.Value.TheVariants as door
use Rattle.door.specs.declared.members.Member.TheVariants as m
use Rattle.door.specs.declared.requests.ErrorKind.TheVariants.{InvalidState, Hierarchy}
use Rattle.door.specs.declared.requests.Request.{Request}
use Rattle.door.specs.declared.requests.Request.TheVariants.{Native}
use Rattle.door.specs.declared.requests.Answer.{Answer}
use Rattle.door.specs.declared.requests.Answer.TheVariants as answer
use Rattle.door.specs.declared.marks.Outcome.TheVariants.{Done, Throw}
use Rattle.dom_semantics.specs.Forest.{the_host}
use Rattle.dom_semantics.specs.Grants.{no_grants}
use Rattle.dom_semantics.specs.Things.{thing_of, the_window}
use Rattle.js_syntax.specs.declared.tree.Expr.{Expr}
use Rattle.js_syntax.specs.declared.tree.Expr.TheVariants as ex
use Rattle.js_syntax.specs.declared.tree.Property.TheVariants as property
use Rattle.js_syntax.specs.declared.tree.Stmt.{Stmt}
use Rattle.js_syntax.specs.declared.tree.Stmt.TheVariants as st
use Rattle.js_semantics.specs.Intrinsics.{Setup}
use Rattle.js_semantics.specs.Programs.{AsksIn, AsksFor, Misfits, a_userscript, n, name, do_, assign, call, member, lambda}

abbrev document : Thing
document = thing_of Document 1

abbrev element : Thing
element = thing_of Element 2

-- the first thing that is met after the document, and the first after the window
abbrev event : Thing
event = thing_of Event 2

abbrev gives : Value → Answer
gives v = answer.Value v

abbrev done : Answer
done = gives door.Undefined

abbrev met : Answer
met = gives (door.Thing document)

abbrev log : Expr → Stmt
log e = do_ (call (name (codes "GM_log")) (e ∷ []))

abbrev on_document : List ℕ → List Expr → Expr
on_document key es = call (member (name (codes "document")) key) es

abbrev asks_document : Request
asks_document = Native m.WindowDocument the_window []

abbrev logs : List ℕ → Request
logs t = Native m.GmLog the_window (door.Str t ∷ [])

-- the function that a script made first
abbrev its_function : Value
its_function = door.Cell the_host 300 shape.Function false

abbrev makes_event : Request
makes_event = Native m.NewEvent the_window (door.Str (codes "x") ∷ door.Bool false ∷ door.Bool false ∷ door.Null ∷ [])

abbrev dispatches : Request
dispatches = Native m.EventTargetDispatchEvent document (door.Thing event ∷ [])

abbrev new_event : Expr
new_event = ex.New (name (codes "Event")) (ex.Str (codes "x") ∷ [])

-- a userscript that may read what it keeps
abbrev a_keeper : Setup
a_keeper = record a_userscript { grants = record no_grants { get_value = true; log = true } }

-- members
pub record Members : Type 0 where
  -- GM_log(document.nodeType);
  pub read : AsksFor 20 8 (log (member (name (codes "document")) (codes "nodeType")) ∷ []) (met ∷ gives (door.Number (pos 9)) ∷ done ∷ [])
      (asks_document ∷ Native m.NodeNodeType document [] ∷ logs (codes "9") ∷ []) Done 9
  -- document.getElementById("d").textContent = null;
  pub emptied : AsksFor 20 8
      (do_ (assign (member (on_document (codes "getElementById") (ex.Str (codes "d") ∷ [])) (codes "textContent")) ex.Null) ∷ [])
      (met ∷ gives (door.Thing element) ∷ done ∷ [])
      (asks_document ∷ Native m.DocumentGetElementById document (door.Str (codes "d") ∷ []) ∷ Native m.NodeSetTextContent element (door.Str [] ∷ []) ∷ []) Done 10
  -- GM_log(document.childNodes.length);
  pub listed : AsksFor 20 8 (log (member (member (name (codes "document")) (codes "childNodes")) (codes "length")) ∷ [])
      (met ∷ answer.List (door.Thing element ∷ []) ∷ done ∷ [])
      (asks_document ∷ Native m.NodeChildNodes document [] ∷ logs (codes "1") ∷ []) Done 10
  -- document.contains(null);
  pub no_node : AsksFor 20 8 (do_ (on_document (codes "contains") (ex.Null ∷ [])) ∷ []) (met ∷ []) (asks_document ∷ [])
      (Throw (codes "TypeError: wrong kind of value")) 6
  -- document.appendChild(document); which is refused
  pub refused : AsksFor 20 8 (do_ (on_document (codes "appendChild") (name (codes "document") ∷ [])) ∷ []) (met ∷ met ∷ answer.Throw Hierarchy ∷ [])
      (asks_document ∷ asks_document ∷ Native m.NodeAppendChild document (door.Thing document ∷ []) ∷ [])
      (Throw (codes "HierarchyRequestError: cannot insert here")) 8
  -- document.addEventListener("x", function () { });
  pub listens : AsksFor 20 8 (do_ (on_document (codes "addEventListener") (ex.Str (codes "x") ∷ lambda [] [] ∷ [])) ∷ []) (met ∷ done ∷ [])
      (asks_document ∷ Native m.EventTargetAddEventListener document (door.Str (codes "x") ∷ its_function ∷ door.Bool false ∷ []) ∷ []) Done 8
  -- addEventListener("x", null, {capture: 1});
  pub captures : AsksFor 20 8 (do_ (call (name (codes "addEventListener"))
      (ex.Str (codes "x") ∷ ex.Null ∷ ex.Object (property.Value (codes "capture") (n 1) ∷ []) ∷ [])) ∷ []) (done ∷ [])
      (Native m.EventTargetAddEventListener the_window (door.Str (codes "x") ∷ door.Null ∷ door.Bool true ∷ []) ∷ []) Done 8
  -- setTimeout(function () { }, null);
  pub waits : AsksFor 20 8 (do_ (call (name (codes "setTimeout")) (lambda [] [] ∷ ex.Null ∷ [])) ∷ []) (gives (door.Number (pos 1)) ∷ [])
      (Native m.WindowSetTimeout the_window (its_function ∷ door.Undefined ∷ []) ∷ []) Done 6
  -- clearTimeout("1");
  pub clears : AsksFor 20 8 (do_ (call (name (codes "clearTimeout")) (ex.Str (codes "1") ∷ [])) ∷ []) (done ∷ [])
      (Native m.WindowClearTimeout the_window (door.Undefined ∷ []) ∷ []) Done 5
  -- document.dispatchEvent(new Event("x"));
  pub dispatched : AsksFor 20 8 (do_ (on_document (codes "dispatchEvent") (new_event ∷ [])) ∷ [])
      (met ∷ gives (door.Thing event) ∷ gives (door.Bool true) ∷ []) (asks_document ∷ makes_event ∷ dispatches ∷ []) Done 10
  -- try { document.dispatchEvent(new Event("x")); } catch (e) { GM_log(e.name); }
  pub undispatched : AsksFor 30 9 (st.Try (st.Block (do_ (on_document (codes "dispatchEvent") (new_event ∷ [])) ∷ []))
      (Some (record { name = codes "e"; block = st.Block (log (member (name (codes "e")) (codes "name")) ∷ []) })) None ∷ [])
      (met ∷ gives (door.Thing event) ∷ answer.Throw InvalidState ∷ done ∷ [])
      (asks_document ∷ makes_event ∷ dispatches ∷ logs (codes "InvalidStateError") ∷ []) Done 20
  -- new CustomEvent("x", {bubbles: 1, detail: {}}); whose detail is the object that was made second
  pub custom : AsksFor 20 8 (do_ (ex.New (name (codes "CustomEvent"))
      (ex.Str (codes "x") ∷ ex.Object (property.Value (codes "bubbles") (n 1) ∷ property.Value (codes "detail") (ex.Object []) ∷ []) ∷ [])) ∷ [])
      (gives (door.Thing (thing_of Event 1)) ∷ [])
      (Native m.NewCustomEvent the_window (door.Str (codes "x") ∷ door.Bool true ∷ door.Bool false ∷ door.Cell the_host 301 shape.Plain false ∷ []) ∷ []) Done 8
  -- GM_log(GM_getValue("k", 5)); where nothing is kept
  pub absent : AsksIn a_keeper 20 8 (log (call (name (codes "GM_getValue")) (ex.Str (codes "k") ∷ n 5 ∷ [])) ∷ []) (answer.Absent ∷ done ∷ [])
      (Native m.GmGetValue the_window (door.Str (codes "k") ∷ []) ∷ logs (codes "5") ∷ []) Done 10
  -- document; which is answered as the window under another kind, and with a refusal that it doesn't have
  pub other_kind : Misfits 20 8 (do_ (name (codes "document")) ∷ []) (gives (door.Thing (thing_of Document 0)) ∷ [])
  pub other_refusal : Misfits 20 8 (do_ (name (codes "document")) ∷ []) (answer.Throw Hierarchy ∷ [])
