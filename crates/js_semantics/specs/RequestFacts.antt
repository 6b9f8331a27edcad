-- What a userscript asks for and the units that it uses, computed by the definitions alone. The window is the first thing that it has met, so
-- the document is the next.
use Rattle.std.specs.Prelude.{ℕ, List, [], ◌∷◌, codes}
use Rattle.base_text.specs.declared.operators.BinaryOp.TheVariants as binary
use Rattle.door.specs.declared.values.Kind.TheVariants.{Window, Document}
use Rattle.door.specs.declared.values.Thing.{Thing}
use Rattle.door.specs.declared.values.Value.TheVariants as door
use Rattle.door.specs.declared.members.Member.TheVariants.{WindowDocument, DocumentTitle, DocumentSetTitle, GmLog}
use Rattle.door.specs.declared.requests.Request.{Request}
use Rattle.door.specs.declared.requests.Request.TheVariants.{Native}
use Rattle.door.specs.declared.requests.ErrorKind.TheVariants.{Limit}
use Rattle.door.specs.declared.requests.Answer.{Answer}
use Rattle.door.specs.declared.requests.Answer.TheVariants as answer
use Rattle.door.specs.declared.marks.Outcome.TheVariants.{Done, Throw}
use Rattle.js_syntax.specs.declared.tree.Expr.{Expr}
use Rattle.js_syntax.specs.declared.tree.Expr.TheVariants as ex
use Rattle.js_syntax.specs.declared.tree.Stmt.{Stmt}
use Rattle.js_semantics.specs.Programs.{AsksFor, n, name, do_, assign, call, member}

abbrev window : Thing
window = record { kind = Window; number = 0 }

abbrev document : Thing
document = record { kind = Document; number = 1 }

-- the document is answered, a text, and nothing
abbrev met : Answer
met = answer.Value (door.Thing document)

abbrev told : List ℕ → Answer
told t = answer.Value (door.Str t)

abbrev done : Answer
done = answer.Value door.Undefined

abbrev log : Expr → Stmt
log e = do_ (call (name (codes "GM_log")) (e ∷ []))

abbrev title : Expr
title = member (name (codes "document")) (codes "title")

abbrev logs : List ℕ → Request
logs t = Native GmLog window (door.Str t ∷ [])

abbrev asks_document : Request
asks_document = Native WindowDocument window []

abbrev titles : List ℕ → Request
titles t = Native DocumentSetTitle document (door.Str t ∷ [])

-- requests and their units
pub record Requests : Type 0 where
  -- GM_log(document.title);
  pub read : AsksFor 20 8 (log title ∷ []) (met ∷ told (codes "Hi") ∷ done ∷ []) (asks_document ∷ Native DocumentTitle document [] ∷ logs (codes "Hi") ∷ []) Done 9
  -- document.title = "x y";
  pub written : AsksFor 20 8 (do_ (assign title (ex.Str (codes "x y"))) ∷ []) (met ∷ done ∷ []) (asks_document ∷ titles (codes "x y") ∷ []) Done 6
  -- document.title = 1 + 2;
  pub made : AsksFor 20 8 (do_ (assign title (ex.Binary binary.Add (n 1) (n 2))) ∷ []) (met ∷ done ∷ []) (asks_document ∷ titles (codes "3") ∷ []) Done 9
  -- GM_log(7);
  pub number : AsksFor 20 8 (log (n 7) ∷ []) (done ∷ []) (logs (codes "7") ∷ []) Done 6
  -- GM_log(1 + 2 + "a" + 3);
  pub joined : AsksFor 20 8 (log (ex.Binary binary.Add (ex.Binary binary.Add (ex.Binary binary.Add (n 1) (n 2)) (ex.Str (codes "a"))) (n 3)) ∷ []) (done ∷ []) (logs (codes "3a3") ∷ []) Done 14
  -- GM_log("");
  pub empty : AsksFor 20 8 (log (ex.Str []) ∷ []) (done ∷ []) (logs [] ∷ []) Done 5
  -- document.title = "x"; which is refused for want of room
  pub refused : AsksFor 20 8 (do_ (assign title (ex.Str (codes "x"))) ∷ []) (met ∷ answer.Throw Limit ∷ []) (asks_document ∷ titles (codes "x") ∷ [])
      (Throw (codes "RangeError: limit reached")) 6
