-- What a userscript does with another's objects, computed by the definitions alone. It meets one as the detail of an event, the first thing that
-- it meets after the window.
use Rattle.std.specs.Prelude.{ℕ, List, [], ◌∷◌, ◌++◌, false, pos, codes}
use Rattle.base_text.specs.declared.operators.UnaryOp.TheVariants as unary
use Rattle.door.specs.declared.values.TheConstants.{PAGE}
use Rattle.door.specs.declared.values.Actor.{Actor}
use Rattle.door.specs.declared.values.Kind.TheVariants.{Event}
use Rattle.door.specs.declared.values.Shape.TheVariants as shape
use Rattle.door.specs.declared.values.Thing.{Thing}
use Rattle.door.specs.declared.values.Value.{Value}
use Rattle.door.specs.declared.values.Value.TheVariants as door
use Rattle.door.specs.declared.members.Member.TheVariants as m
use Rattle.door.specs.declared.requests.Request.{Request}
use Rattle.door.specs.declared.requests.Request.TheVariants.{Native, Peek, PeekKeys}
use Rattle.door.specs.declared.requests.Answer.{Answer}
use Rattle.door.specs.declared.requests.Answer.TheVariants as answer
use Rattle.door.specs.declared.marks.Outcome.TheVariants.{Done, Throw}
use Rattle.dom_semantics.specs.Things.{thing_of, the_window}
use Rattle.js_syntax.specs.declared.tree.Expr.{Expr}
use Rattle.js_syntax.specs.declared.tree.Expr.TheVariants as ex
use Rattle.js_syntax.specs.declared.tree.Stmt.{Stmt}
use Rattle.js_semantics.specs.Programs.{AsksFor, Misfits, n, name, do_, var_, assign, call, member}

abbrev event : Thing
event = thing_of Event 1

abbrev gives : Value → Answer
gives v = answer.Value v

abbrev done : Answer
done = gives door.Undefined

abbrev log : Expr → Stmt
log e = do_ (call (name (codes "GM_log")) (e ∷ []))

abbrev logs : List ℕ → Request
logs t = Native m.GmLog the_window (door.Str t ∷ [])

-- `new CustomEvent("x").detail`, six units with its two requests
abbrev detail : Expr
detail = member (ex.New (name (codes "CustomEvent")) (ex.Str (codes "x") ∷ [])) (codes "detail")

abbrev asks_detail : List Request
asks_detail =
    Native m.NewCustomEvent the_window (door.Str (codes "x") ∷ door.Bool false ∷ door.Bool false ∷ door.Null ∷ [])
    ∷ Native m.EventDetail event [] ∷ []

-- the detail is a plain object or an array of the page, its error, or an object of another userscript
abbrev answers_with : Value → List Answer
answers_with v = gives (door.Thing event) ∷ gives v ∷ []

abbrev an_object : Value
an_object = door.Cell PAGE 0 shape.Plain false

abbrev an_array : Value
an_array = door.Cell PAGE 0 shape.Array false

abbrev an_error : Value
an_error = door.Cell PAGE 0 shape.Error false

abbrev another_script : Actor
another_script = record { 0 = 3 }

abbrev a_stranger : Value
a_stranger = door.Cell another_script 0 shape.Plain false

-- looks
pub record Looks : Type 0 where
  -- GM_log(new CustomEvent("x").detail.a);
  pub shown : AsksFor 20 8 (log (member detail (codes "a")) ∷ []) (answers_with an_object ++ gives (door.Number (pos 7)) ∷ done ∷ [])
      (asks_detail ++ Peek PAGE 0 (codes "a") ∷ logs (codes "7") ∷ []) Done 13
  -- GM_log(typeof new CustomEvent("x").detail.toString); which isn't shown
  pub standard : AsksFor 20 9 (log (ex.Unary unary.TypeOf (member detail (codes "toString"))) ∷ []) (answers_with an_object ++ answer.Absent ∷ done ∷ [])
      (asks_detail ++ Peek PAGE 0 (codes "toString") ∷ logs (codes "function") ∷ []) Done 15
  -- var x = new CustomEvent("x").detail; x.a = 1; GM_log(x.a);
  pub expando : AsksFor 20 8
      (var_ (codes "x") detail ∷ do_ (assign (member (name (codes "x")) (codes "a")) (n 1)) ∷ log (member (name (codes "x")) (codes "a")) ∷ [])
      (answers_with an_object ++ done ∷ []) (asks_detail ++ logs (codes "1") ∷ []) Done 18
  -- GM_log(Object.keys(new CustomEvent("x").detail).length);
  pub keys : AsksFor 20 9 (log (member (call (member (name (codes "Object")) (codes "keys")) (detail ∷ [])) (codes "length")) ∷ [])
      (answers_with an_array ++ answer.Keys (codes "0" ∷ codes "1" ∷ []) ∷ done ∷ [])
      (asks_detail ++ PeekKeys PAGE 0 ∷ logs (codes "2") ∷ []) Done 18
  -- GM_log("a" in new CustomEvent("x").detail);
  pub has : AsksFor 20 8 (log (ex.In (ex.Str (codes "a")) detail) ∷ []) (answers_with an_object ++ answer.Absent ∷ done ∷ [])
      (asks_detail ++ Peek PAGE 0 (codes "a") ∷ logs (codes "false") ∷ []) Done 14
  -- GM_log(new CustomEvent("x").detail.message); of an error of the page
  pub of_error : AsksFor 20 8 (log (member detail (codes "message")) ∷ []) (answers_with an_error ++ done ∷ [])
      (asks_detail ++ logs (codes "undefined") ∷ []) Done 12
  -- new CustomEvent("x").detail(); of a plain object of the page
  pub called : AsksFor 20 8 (do_ (call detail []) ∷ []) (answers_with an_object) asks_detail (Throw (codes "TypeError: not a function")) 8
  -- new CustomEvent("x").detail.a; of another userscript
  pub denied : AsksFor 20 8 (do_ (member detail (codes "a")) ∷ []) (answers_with a_stranger) asks_detail
      (Throw (codes "Error: Permission denied to access property")) 8
  -- new CustomEvent("x").detail(); of another userscript
  pub call_denied : AsksFor 20 8 (do_ (call detail []) ∷ []) (answers_with a_stranger) asks_detail
      (Throw (codes "Error: Permission denied to access property")) 8
  -- GM_log(new CustomEvent("x").detail instanceof Object);
  pub instance_of : AsksFor 20 8 (log (ex.InstanceOf detail (name (codes "Object"))) ∷ []) (answers_with an_object ++ done ∷ [])
      (asks_detail ++ logs (codes "true") ∷ []) Done 13
  -- Object.setPrototypeOf(Object.prototype, new CustomEvent("x").detail); which would close a chain
  pub ring : AsksFor 20 8
      (do_ (call (member (name (codes "Object")) (codes "setPrototypeOf")) (member (name (codes "Object")) (codes "prototype") ∷ detail ∷ [])) ∷ [])
      (answers_with an_object) asks_detail (Throw (codes "TypeError: wrong kind of value")) 12
  -- new CustomEvent("x").detail.a; where the look is denied, which no Xray is
  pub misfit : Misfits 20 8 (do_ (member detail (codes "a")) ∷ []) (answers_with an_object ++ answer.Denied ∷ [])
