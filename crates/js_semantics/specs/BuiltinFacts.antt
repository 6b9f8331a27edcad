-- What small programs do, computed by the definitions alone: built-ins. The expected values are those of ECMAScript and of the costs of this
-- project.
use Rattle.std.specs.Prelude.{[], ◌∷◌, Some, true, codes}
use Rattle.base_text.specs.declared.operators.BinaryOp.TheVariants as binary
use Rattle.base_text.specs.declared.operators.UnaryOp.TheVariants as unary
use Rattle.door.specs.declared.marks.Outcome.TheVariants.{Done, Throw}
use Rattle.js_syntax.specs.declared.tree.Expr.TheVariants as ex
use Rattle.js_syntax.specs.declared.tree.Stmt.TheVariants as st
use Rattle.js_syntax.specs.declared.tree.Property.TheVariants as property
use Rattle.js_semantics.specs.Programs.{Does, n, name, do_, say, var_, call, member, lambda, declared}

-- built-ins
pub record Builtins : Type 0 where
  -- console.log(Object.keys({a: 1, b: 2}).length);
  pub keys : Does 20 10 (say (member (call (member (name (codes "Object")) (codes "keys")) (ex.Object (property.Value (codes "a") (n 1) ∷ property.Value (codes "b") (n 2) ∷ []) ∷ [])) (codes "length")) ∷ [])
      (codes "2" ∷ []) Done 15
  -- console.log(Object.getPrototypeOf([]) === Array.prototype);
  pub prototype : Does 20 10 (say (ex.Binary binary.Same (call (member (name (codes "Object")) (codes "getPrototypeOf")) (ex.Array [] ∷ [])) (member (name (codes "Array")) (codes "prototype"))) ∷ [])
      (codes "true" ∷ []) Done 13
  -- var a = {}, b = Object.create(a); Object.setPrototypeOf(a, b);
  pub ring : Does 20 10 (st.Var (record { name = codes "a"; value = Some (ex.Object []) } ∷ record { name = codes "b"; value = Some (call (member (name (codes "Object")) (codes "create")) (name (codes "a") ∷ [])) } ∷ [])
      ∷ do_ (call (member (name (codes "Object")) (codes "setPrototypeOf")) (name (codes "a") ∷ name (codes "b") ∷ [])) ∷ []) [] (Throw (codes "TypeError: wrong kind of value")) 12
  -- var o = {}; Object.defineProperty(o, "k", {get: function () { return 7; }}); console.log(o.k); console.log(Object.keys(o).length);
  pub defined : Does 40 10 (var_ (codes "o") (ex.Object [])
      ∷ do_ (call (member (name (codes "Object")) (codes "defineProperty")) (name (codes "o") ∷ ex.Str (codes "k") ∷ ex.Object (property.Value (codes "get") (lambda [] (st.Return (Some (n 7)) ∷ [])) ∷ []) ∷ []))
      ∷ say (member (name (codes "o")) (codes "k")) ∷ say (member (call (member (name (codes "Object")) (codes "keys")) (name (codes "o") ∷ [])) (codes "length")) ∷ []) (codes "7" ∷ codes "0" ∷ []) Done 31
  -- function f(a, b) { return a + b; } console.log(f.apply(null, [1, 2]));
  pub applied : Does 30 10 (declared (codes "f") (codes "a" ∷ codes "b" ∷ []) (st.Return (Some (ex.Binary binary.Add (name (codes "a")) (name (codes "b")))) ∷ [])
      ∷ say (call (member (name (codes "f")) (codes "apply")) (ex.Null ∷ ex.Array (n 1 ∷ n 2 ∷ []) ∷ [])) ∷ []) (codes "3" ∷ []) Done 20
  -- function f() { return 7; } console.log(f.apply(null, null));
  pub applied_to_none : Does 20 10 (declared (codes "f") [] (st.Return (Some (n 7)) ∷ [])
      ∷ say (call (member (name (codes "f")) (codes "apply")) (ex.Null ∷ ex.Null ∷ [])) ∷ []) (codes "7" ∷ []) Done 14
  -- var a = [1, 2, 3]; a.shift(); a.unshift(4, 5); a.reverse(); console.log(a[0] + a.length);
  pub moved : Does 50 10 (var_ (codes "a") (ex.Array (n 1 ∷ n 2 ∷ n 3 ∷ [])) ∷ do_ (call (member (name (codes "a")) (codes "shift")) []) ∷ do_ (call (member (name (codes "a")) (codes "unshift")) (n 4 ∷ n 5 ∷ []))
      ∷ do_ (call (member (name (codes "a")) (codes "reverse")) []) ∷ say (ex.Binary binary.Add (ex.Index (name (codes "a")) (n 0)) (member (name (codes "a")) (codes "length"))) ∷ []) (codes "7" ∷ []) Done 41
  -- console.log("a-b-c".split("-").length); console.log(" Ab ".trim().toUpperCase());
  pub split : Does 40 10 (say (member (call (member (ex.Str (codes "a-b-c")) (codes "split")) (ex.Str (codes "-") ∷ [])) (codes "length"))
      ∷ say (call (member (call (member (ex.Str (codes " Ab ")) (codes "trim")) []) (codes "toUpperCase")) []) ∷ []) (codes "3" ∷ codes "AB" ∷ []) Done 30
  -- console.log("abcb".indexOf("b", 2)); console.log("abc".slice(-2)); console.log("abc".substring(2, 0)); console.log("aa".replace("a", "b"));
  pub parts : Does 50 10 (say (call (member (ex.Str (codes "abcb")) (codes "indexOf")) (ex.Str (codes "b") ∷ n 2 ∷ []))
      ∷ say (call (member (ex.Str (codes "abc")) (codes "slice")) (ex.Unary unary.Minus (n 2) ∷ []))
      ∷ say (call (member (ex.Str (codes "abc")) (codes "substring")) (n 2 ∷ n 0 ∷ []))
      ∷ say (call (member (ex.Str (codes "aa")) (codes "replace")) (ex.Str (codes "a") ∷ ex.Str (codes "b") ∷ [])) ∷ []) (codes "3" ∷ codes "bc" ∷ codes "ab" ∷ codes "ba" ∷ []) Done 47
  -- console.log("ab".charCodeAt(1)); console.log("ab".charAt(5)); "ab".charCodeAt(2);
  pub scalars : Does 40 10 (say (call (member (ex.Str (codes "ab")) (codes "charCodeAt")) (n 1 ∷ [])) ∷ say (call (member (ex.Str (codes "ab")) (codes "charAt")) (n 5 ∷ []))
      ∷ do_ (call (member (ex.Str (codes "ab")) (codes "charCodeAt")) (n 2 ∷ [])) ∷ []) (codes "98" ∷ [] ∷ []) (Throw (codes "RangeError: out of range")) 24
  -- console.log(Math.max(1, 3, 2)); console.log(Math.abs(-4)); console.log(Number("-07")); console.log(String(true)); console.log(Boolean(""));
  pub conversions : Does 60 10 (say (call (member (name (codes "Math")) (codes "max")) (n 1 ∷ n 3 ∷ n 2 ∷ [])) ∷ say (call (member (name (codes "Math")) (codes "abs")) (ex.Unary unary.Minus (n 4) ∷ []))
      ∷ say (call (name (codes "Number")) (ex.Str (codes "-07") ∷ [])) ∷ say (call (name (codes "String")) (ex.Bool true ∷ [])) ∷ say (call (name (codes "Boolean")) (ex.Str [] ∷ [])) ∷ [])
      (codes "3" ∷ codes "4" ∷ codes "-7" ∷ codes "true" ∷ codes "false" ∷ []) Done 51
  -- console.log(new RangeError("r").toString()); throw new Error();
  pub errors : Does 20 10 (say (call (member (ex.New (name (codes "RangeError")) (ex.Str (codes "r") ∷ [])) (codes "toString")) []) ∷ st.Throw (ex.New (name (codes "Error")) []) ∷ [])
      (codes "RangeError: r" ∷ []) (Throw (codes "Error: ")) 15
  -- Object.defineProperty([], 1, {value: 7});
  pub sparse : Does 20 10 (do_ (call (member (name (codes "Object")) (codes "defineProperty")) (ex.Array [] ∷ n 1 ∷ ex.Object (property.Value (codes "value") (n 7) ∷ []) ∷ [])) ∷ [])
      [] (Throw (codes "RangeError: out of range")) 8
  -- Object.defineProperty([1], "length", {value: 5});
  pub longer : Does 20 10 (do_ (call (member (name (codes "Object")) (codes "defineProperty")) (ex.Array (n 1 ∷ []) ∷ ex.Str (codes "length") ∷ ex.Object (property.Value (codes "value") (n 5) ∷ []) ∷ [])) ∷ [])
      [] (Throw (codes "RangeError: out of range")) 9
  -- var a = [1, 2, 3]; a.unshift();
  pub unmoved : Does 20 10 (var_ (codes "a") (ex.Array (n 1 ∷ n 2 ∷ n 3 ∷ [])) ∷ do_ (call (member (name (codes "a")) (codes "unshift")) []) ∷ []) [] Done 9
