-- What small programs do, computed by the definitions alone: functions, objects and arrays. The expected values are those of ECMAScript and of the costs of this
-- project.
use Rattle.std.specs.Prelude.{[], ◌∷◌, Some, None, codes}
use Rattle.base_text.specs.declared.operators.BinaryOp.TheVariants as binary
use Rattle.base_text.specs.declared.operators.UnaryOp.TheVariants as unary
use Rattle.door.specs.declared.marks.Outcome.TheVariants.{Done, Throw}
use Rattle.js_syntax.specs.declared.tree.Expr.TheVariants as ex
use Rattle.js_syntax.specs.declared.tree.Stmt.TheVariants as st
use Rattle.js_syntax.specs.declared.tree.Property.TheVariants as property
use Rattle.js_semantics.specs.Programs.{Does, n, name, do_, say, var_, assign, call, member, lambda, declared}

-- functions, objects and their properties, arrays
pub record Functions : Type 0 where
  -- function f(a) { return function () { return a; }; } console.log(f(5)());
  pub closure : Does 20 10 (declared (codes "f") (codes "a" ∷ []) (st.Return (Some (lambda [] (st.Return (Some (name (codes "a"))) ∷ []))) ∷ [])
      ∷ say (call (call (name (codes "f")) (n 5 ∷ [])) []) ∷ []) (codes "5" ∷ []) Done 15
  -- function F() { this.k = 1; } F.prototype.m = function () { return this.k + 1; }; console.log(new F().m());
  pub constructed : Does 30 12 (declared (codes "F") [] (do_ (assign (member ex.This (codes "k")) (n 1)) ∷ [])
      ∷ do_ (assign (member (member (name (codes "F")) (codes "prototype")) (codes "m")) (lambda [] (st.Return (Some (ex.Binary binary.Add (member ex.This (codes "k")) (n 1))) ∷ [])))
      ∷ say (call (member (ex.New (name (codes "F")) []) (codes "m")) []) ∷ []) (codes "2" ∷ []) Done 25
  -- var o = {get a() { return this.b; }, set a(x) { this.b = x + 1; }, b: 1}; o.a = 4; console.log(o.a);
  pub accessors : Does 30 10 (var_ (codes "o") (ex.Object (
      property.Get (codes "a") (record { name = None; params = []; body = st.Return (Some (member ex.This (codes "b"))) ∷ [] })
      ∷ property.Set (codes "a") (record { name = None; params = codes "x" ∷ []; body = do_ (assign (member ex.This (codes "b")) (ex.Binary binary.Add (name (codes "x")) (n 1))) ∷ [] })
      ∷ property.Value (codes "b") (n 1) ∷ []))
      ∷ do_ (assign (member (name (codes "o")) (codes "a")) (n 4)) ∷ say (member (name (codes "o")) (codes "a")) ∷ []) (codes "5" ∷ []) Done 24
  -- var b = Object.create({k: 1}); console.log(b.k); console.log("k" in b); console.log(b.hasOwnProperty("k"));
  pub inherited : Does 40 8 (var_ (codes "b") (call (member (name (codes "Object")) (codes "create")) (ex.Object (property.Value (codes "k") (n 1) ∷ []) ∷ []))
      ∷ say (member (name (codes "b")) (codes "k")) ∷ say (ex.In (ex.Str (codes "k")) (name (codes "b")))
      ∷ say (call (member (name (codes "b")) (codes "hasOwnProperty")) (ex.Str (codes "k") ∷ [])) ∷ []) (codes "1" ∷ codes "true" ∷ codes "false" ∷ []) Done 33
  -- console.log((function f(n) { return n ? n + f(n - 1) : 0; })(2));
  pub named : Does 40 20 (say (call (ex.Function (record {
    name = Some (codes "f");
    params = codes "n" ∷ [];
    body =
        st.Return (Some (ex.Conditional (name (codes "n")) (ex.Binary binary.Add (name (codes "n")) (call (name (codes "f")) (ex.Binary binary.Subtract (name (codes "n")) (n 1) ∷ []))) (n 0))) ∷ [];
  }))
      (n 2 ∷ [])) ∷ []) (codes "3" ∷ []) Done 33
  -- function f(a, b) { return typeof b; } console.log(f(1));
  pub missing : Does 20 10 (declared (codes "f") (codes "a" ∷ codes "b" ∷ []) (st.Return (Some (ex.Unary unary.TypeOf (name (codes "b")))) ∷ [])
      ∷ say (call (name (codes "f")) (n 1 ∷ [])) ∷ []) (codes "undefined" ∷ []) Done 14
  -- var x = 1; x();
  pub no_function : Does 20 6 (var_ (codes "x") (n 1) ∷ do_ (call (name (codes "x")) []) ∷ []) [] (Throw (codes "TypeError: not a function")) 5
  -- var a = [1]; a.push(2, 3); a[3] = 4; console.log(a.pop() + a.length);
  pub array : Does 40 8 (var_ (codes "a") (ex.Array (n 1 ∷ [])) ∷ do_ (call (member (name (codes "a")) (codes "push")) (n 2 ∷ n 3 ∷ []))
      ∷ do_ (assign (ex.Index (name (codes "a")) (n 3)) (n 4))
      ∷ say (ex.Binary binary.Add (call (member (name (codes "a")) (codes "pop")) []) (member (name (codes "a")) (codes "length"))) ∷ []) (codes "7" ∷ []) Done 28
  -- var a = []; a[1] = 1;
  pub sparse : Does 20 6 (var_ (codes "a") (ex.Array []) ∷ do_ (assign (ex.Index (name (codes "a")) (n 1)) (n 1)) ∷ []) [] (Throw (codes "RangeError: out of range")) 7
  -- console.log((function (a) { return this + a; }).call(1, 2));
  pub called : Does 20 10 (say (call (member (lambda (codes "a" ∷ []) (st.Return (Some (ex.Binary binary.Add ex.This (name (codes "a")))) ∷ [])) (codes "call")) (n 1 ∷ n 2 ∷ [])) ∷ [])
      (codes "3" ∷ []) Done 15
