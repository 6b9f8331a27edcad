-- What small programs do, computed by the definitions alone: further forms. The expected values are those of ECMAScript and of the costs of this
-- project.
use Rattle.std.specs.Prelude.{[], ◌∷◌, Some, None, true, codes}
use Rattle.base_text.specs.declared.operators.BinaryOp.TheVariants as binary
use Rattle.base_text.specs.declared.operators.UnaryOp.TheVariants as unary
use Rattle.door.specs.declared.marks.Outcome.TheVariants.{Done, Throw}
use Rattle.js_syntax.specs.declared.tree.Expr.TheVariants as ex
use Rattle.js_syntax.specs.declared.tree.Stmt.TheVariants as st
use Rattle.js_syntax.specs.declared.tree.ForTarget.TheVariants as target
use Rattle.js_syntax.specs.declared.tree.Property.TheVariants as property
use Rattle.js_syntax.specs.declared.tree.UpdateOp.TheVariants.{Increment, Decrement}
use Rattle.js_semantics.specs.Programs.{Does, n, name, do_, say, var_, assign, call, member, lambda, declared}

-- the forms that the other facts don't use
pub record Forms : Type 0 where
  -- var x = 1; console.log(++x + x--);
  pub counted : Does 20 8 (var_ (codes "x") (n 1) ∷ say (ex.Binary binary.Add (ex.Prefix Increment (name (codes "x"))) (ex.Postfix Decrement (name (codes "x")))) ∷ []) (codes "4" ∷ []) Done 11
  -- console.log(!0); console.log(+" 12 ");
  pub converted : Does 20 8 (say (ex.Unary unary.Not (n 0)) ∷ say (ex.Unary unary.Plus (ex.Str (codes " 12 "))) ∷ []) (codes "true" ∷ codes "12" ∷ []) Done 16
  -- function F() { } console.log(new F() instanceof F); console.log({} instanceof F);
  pub instances : Does 30 8 (declared (codes "F") [] [] ∷ say (ex.InstanceOf (ex.New (name (codes "F")) []) (name (codes "F"))) ∷ say (ex.InstanceOf (ex.Object []) (name (codes "F"))) ∷ [])
      (codes "true" ∷ codes "false" ∷ []) Done 20
  -- console.log(0 || "a");
  pub either : Does 20 8 (say (ex.Or (n 0) (ex.Str (codes "a"))) ∷ []) (codes "a" ∷ []) Done 9
  -- ;
  pub empty : Does 20 8 (st.Empty ∷ []) [] Done 1
  -- console.log(typeof this);
  pub this_ : Does 20 8 (say (ex.Unary unary.TypeOf ex.This) ∷ []) (codes "object" ∷ []) Done 9
  -- console.log(null == undefined); console.log(null === undefined);
  pub nothing : Does 20 8 (say (ex.Binary binary.Equal ex.Null (name (codes "undefined"))) ∷ say (ex.Binary binary.Same ex.Null (name (codes "undefined"))) ∷ []) (codes "true" ∷ codes "false" ∷ []) Done 18
  -- console.log(1 + true);
  pub kinds : Does 20 8 (say (ex.Binary binary.Add (n 1) (ex.Bool true)) ∷ []) [] (Throw (codes "TypeError: wrong kind of value")) 7
  -- console.log("ab"[1] + "ab".length);
  pub text_parts : Does 20 8 (say (ex.Binary binary.Add (ex.Index (ex.Str (codes "ab")) (n 1)) (member (ex.Str (codes "ab")) (codes "length"))) ∷ []) (codes "b2" ∷ []) Done 13
  -- console.log("a" < "b"); throw 1 < "a";
  pub order : Does 20 8 (say (ex.Binary binary.Less (ex.Str (codes "a")) (ex.Str (codes "b"))) ∷ st.Throw (ex.Binary binary.Less (n 1) (ex.Str (codes "a"))) ∷ [])
      (codes "true" ∷ []) (Throw (codes "TypeError: wrong kind of value")) 13
  -- delete x;
  pub deleted_name : Does 20 8 (do_ (ex.Delete (name (codes "x"))) ∷ []) [] (Throw (codes "TypeError: wrong kind of value")) 2
  -- console.log(delete (5).x);
  pub deleted_of_number : Does 20 8 (say (ex.Delete (member (n 5) (codes "x"))) ∷ []) (codes "true" ∷ []) Done 8
  -- delete "abc"[0];
  pub deleted_of_text : Does 20 8 (do_ (ex.Delete (ex.Index (ex.Str (codes "abc")) (n 0))) ∷ []) [] (Throw (codes "TypeError: wrong kind of value")) 4
  -- var o = {a: 1, a: 2, b: 3}; delete o.a; o.a = 4; for (var k in o) console.log(k);
  pub last : Does 40 8 (var_ (codes "o") (ex.Object (property.Value (codes "a") (n 1) ∷ property.Value (codes "a") (n 2) ∷ property.Value (codes "b") (n 3) ∷ []))
      ∷ do_ (ex.Delete (member (name (codes "o")) (codes "a"))) ∷ do_ (assign (member (name (codes "o")) (codes "a")) (n 4)) ∷ st.ForIn (target.Var (codes "k")) (name (codes "o")) (say (name (codes "k"))) ∷ [])
      (codes "b" ∷ codes "a" ∷ []) Done 30
  -- console.log((function () { return this; })());
  pub plain_call : Does 20 10 (say (call (lambda [] (st.Return (Some ex.This) ∷ [])) []) ∷ []) (codes "undefined" ∷ []) Done 10
  -- while (true) { try { break; } finally { console.log("f"); } }
  pub broken : Does 20 10 (st.While (ex.Bool true) (st.Block (st.Try (st.Block (st.Break ∷ [])) None (Some (st.Block (say (ex.Str (codes "f")) ∷ []))) ∷ [])) ∷ [])
      (codes "f" ∷ []) Done 14
