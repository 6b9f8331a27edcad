-- What small programs do, computed by the definitions alone. The expected values are those of ECMAScript and of the costs of this project:
-- a unit for each expression and statement, each request, and each started 64 bytes of a text that is made.
use Rattle.std.specs.Prelude.{[], ◌∷◌, true, codes}
use Rattle.base_text.specs.declared.operators.BinaryOp.TheVariants as binary
use Rattle.base_text.specs.declared.operators.UnaryOp.TheVariants as unary
use Rattle.door.specs.declared.marks.Outcome.TheVariants.{Done, Throw}
use Rattle.js_syntax.specs.declared.tree.Expr.TheVariants as ex
use Rattle.js_semantics.specs.Programs.{Does, n, name, do_, say}

-- operators, names and throws
pub record Operators : Type 0 where
  -- console.log(1 + 2);
  pub sum : Does 20 6 (say (ex.Binary binary.Add (n 1) (n 2)) ∷ []) (codes "3" ∷ []) Done 9
  -- console.log(1 + 2 + "a" + 3);
  pub chain : Does 20 9 (say (ex.Binary binary.Add (ex.Binary binary.Add (ex.Binary binary.Add (n 1) (n 2)) (ex.Str (codes "a"))) (n 3)) ∷ []) (codes "3a3" ∷ []) Done 15
  -- console.log(7 / 2);
  pub inexact : Does 20 6 (say (ex.Binary binary.Divide (n 7) (n 2)) ∷ []) [] (Throw (codes "RangeError: out of range")) 7
  -- console.log(9007199254740991 + 1);
  pub too_great : Does 20 6 (say (ex.Binary binary.Add (n 9007199254740991) (n 1)) ∷ []) [] (Throw (codes "RangeError: out of range")) 7
  -- console.log(-7 % 2);
  pub remainder : Does 20 7 (say (ex.Binary binary.Remain (ex.Unary unary.Minus (n 7)) (n 2)) ∷ []) (codes "-1" ∷ []) Done 10
  -- console.log(Math.div(-7, 2));
  pub divided : Does 20 7 (say (ex.Call (ex.Member (ex.Name (codes "Math")) (codes "div")) (ex.Unary unary.Minus (n 7) ∷ n 2 ∷ [])) ∷ []) (codes "-3" ∷ []) Done 12
  -- console.log(typeof x);
  pub type_of_none : Does 20 6 (say (ex.Unary unary.TypeOf (name (codes "x"))) ∷ []) (codes "undefined" ∷ []) Done 9
  -- x;
  pub no_name : Does 20 6 (do_ (name (codes "x")) ∷ []) [] (Throw (codes "ReferenceError: x is not defined")) 2
  -- null.x;
  pub of_null : Does 20 6 (do_ (ex.Member ex.Null (codes "x")) ∷ []) [] (Throw (codes "TypeError: no properties")) 3
  -- 0 && x; console.log(true ? 1 : x);
  pub unneeded : Does 20 6 (do_ (ex.And (n 0) (name (codes "x"))) ∷ say (ex.Conditional (ex.Bool true) (n 1) (name (codes "x"))) ∷ []) (codes "1" ∷ []) Done 12
