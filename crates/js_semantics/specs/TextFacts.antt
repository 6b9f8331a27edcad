-- What small programs do, computed by the definitions alone: the limit of texts. The expected values are those of ECMAScript and of the costs of this
-- project.
use Rattle.std.specs.Prelude.{[], ◌∷◌, codes, replicate}
use Rattle.base_text.specs.declared.operators.BinaryOp.TheVariants as binary
use Rattle.door.specs.declared.marks.Outcome.TheVariants.{Done, Throw}
use Rattle.js_syntax.specs.declared.tree.Expr.TheVariants as ex
use Rattle.js_semantics.specs.Programs.{Does, do_}

-- the greatest text, of 262,144 bytes: two halves of it are joined, and a scalar more is too long
pub record TextLimits : Type 0 where
  -- a + a; where a has 32,768 scalars of four bytes each and 131,072 bytes: 4,096 units for the text
  pub greatest : Does 5000 6 (do_ (ex.Binary binary.Add (ex.Str (replicate 32768 128512)) (ex.Str (replicate 32768 128512))) ∷ []) [] Done 4100
  -- a + a + "b";
  pub too_long : Does 5000 6 (do_ (ex.Binary binary.Add (ex.Binary binary.Add (ex.Str (replicate 32768 128512)) (ex.Str (replicate 32768 128512))) (ex.Str (codes "b"))) ∷ [])
      [] (Throw (codes "RangeError: text too long")) 4102
