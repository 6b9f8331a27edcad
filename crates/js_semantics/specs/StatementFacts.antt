-- What small programs do, computed by the definitions alone: statements. The expected values are those of ECMAScript and of the costs of this
-- project.
use Rattle.std.specs.Prelude.{[], ◌∷◌, Some, None, codes}
use Rattle.base_text.specs.declared.operators.BinaryOp.TheVariants as binary
use Rattle.base_text.specs.declared.operators.UnaryOp.TheVariants as unary
use Rattle.door.specs.declared.marks.Outcome.TheVariants.{Done, Throw}
use Rattle.js_syntax.specs.declared.tree.Expr.TheVariants as ex
use Rattle.js_syntax.specs.declared.tree.Stmt.TheVariants as st
use Rattle.js_syntax.specs.declared.tree.ForStart.TheVariants as start
use Rattle.js_syntax.specs.declared.tree.ForTarget.TheVariants as target
use Rattle.js_syntax.specs.declared.tree.Property.TheVariants as property
use Rattle.js_syntax.specs.declared.tree.UpdateOp.TheVariants.{Increment}
use Rattle.js_semantics.specs.Programs.{Does, n, name, do_, say, var_, assign, call, member, lambda, declared}

-- statements
pub record Statements : Type 0 where
  -- var i = 0; while (i < 3) { i = i + 1; } console.log(i);
  pub repeated : Does 50 8 (var_ (codes "i") (n 0)
      ∷ st.While (ex.Binary binary.Less (name (codes "i")) (n 3)) (st.Block (do_ (assign (name (codes "i")) (ex.Binary binary.Add (name (codes "i")) (n 1))) ∷ []))
      ∷ say (name (codes "i")) ∷ []) (codes "3" ∷ []) Done 40
  -- for (var i = 0; ; i++) { if (i === 1) continue; if (i === 3) break; console.log(i); }
  pub jumps : Does 60 8 (st.For (start.Var (record { name = codes "i"; value = Some (n 0) } ∷ [])) None (Some (ex.Postfix Increment (name (codes "i")))) (st.Block (
      st.If (ex.Binary binary.Same (name (codes "i")) (n 1)) st.Continue None ∷ st.If (ex.Binary binary.Same (name (codes "i")) (n 3)) st.Break None ∷ say (name (codes "i")) ∷ []))
      ∷ []) (codes "0" ∷ codes "2" ∷ []) Done 53
  -- var o = {a: 1, b: 2}; for (var k in o) { delete o.b; o.c = 3; console.log(k); }
  pub keys : Does 50 8 (var_ (codes "o") (ex.Object (property.Value (codes "a") (n 1) ∷ property.Value (codes "b") (n 2) ∷ []))
      ∷ st.ForIn (target.Var (codes "k")) (name (codes "o")) (st.Block (do_ (ex.Delete (member (name (codes "o")) (codes "b"))) ∷ do_ (assign (member (name (codes "o")) (codes "c")) (n 3)) ∷ say (name (codes "k")) ∷ []))
      ∷ []) (codes "a" ∷ codes "b" ∷ []) Done 38
  -- try { throw 1; } finally { console.log("f"); }
  pub thrown : Does 20 8 (st.Try (st.Block (st.Throw (n 1) ∷ [])) None (Some (st.Block (say (ex.Str (codes "f")) ∷ []))) ∷ []) (codes "f" ∷ []) (Throw (codes "1")) 12
  -- console.log((function () { try { return 1; } finally { return 2; } })());
  pub replaced : Does 20 10 (say (call (lambda [] (st.Try (st.Block (st.Return (Some (n 1)) ∷ [])) None (Some (st.Block (st.Return (Some (n 2)) ∷ []))) ∷ [])) []) ∷ [])
      (codes "2" ∷ []) Done 15
  -- try { x; } catch (e) { console.log(e.name); }
  pub caught : Does 20 8 (st.Try (st.Block (do_ (name (codes "x")) ∷ [])) (Some (record { name = codes "e"; block = st.Block (say (member (name (codes "e")) (codes "name")) ∷ []) })) None ∷ [])
      (codes "ReferenceError" ∷ []) Done 13
  -- console.log(typeof v); console.log(f()); var v = 1; function f() { return 2; }
  pub hoisted : Does 30 8 (say (ex.Unary unary.TypeOf (name (codes "v"))) ∷ say (call (name (codes "f")) []) ∷ var_ (codes "v") (n 1)
      ∷ declared (codes "f") [] (st.Return (Some (n 2)) ∷ []) ∷ []) (codes "undefined" ∷ codes "2" ∷ []) Done 22
  -- if ("") console.log(1); else console.log(2);
  pub branch : Does 20 8 (st.If (ex.Str []) (say (n 1)) (Some (say (n 2))) ∷ []) (codes "2" ∷ []) Done 9
  -- var x = 2; x *= 5; console.log(x++ + x);
  pub counted : Does 20 8 (var_ (codes "x") (n 2) ∷ do_ (ex.AssignBy binary.Multiply (name (codes "x")) (n 5))
      ∷ say (ex.Binary binary.Add (ex.Postfix Increment (name (codes "x"))) (name (codes "x"))) ∷ []) (codes "21" ∷ []) Done 14
  -- var o = Object.defineProperty({}, "a", {value: 1}); try { o.a = 2; } catch (e) { console.log(e.message); }
  pub fixed : Does 30 8 (var_ (codes "o") (call (member (name (codes "Object")) (codes "defineProperty")) (ex.Object [] ∷ ex.Str (codes "a") ∷ ex.Object (property.Value (codes "value") (n 1) ∷ []) ∷ []))
      ∷ st.Try (st.Block (do_ (assign (member (name (codes "o")) (codes "a")) (n 2)) ∷ [])) (Some (record { name = codes "e"; block = st.Block (say (member (name (codes "e")) (codes "message")) ∷ []) })) None ∷ [])
      (codes "wrong kind of value" ∷ []) Done 23
