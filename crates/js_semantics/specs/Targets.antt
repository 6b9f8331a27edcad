-- What is assigned, counted, deleted or set to a key: a name, or a member of a base (ECMAScript, 6.2.5 and 13.15). It isn't itself an
-- evaluated expression, but the base and the key of a member are.
use Rattle.std.specs.Prelude.{ℕ, List}
use Rattle.js_syntax.specs.declared.tree.Expr.TheOpen as o
use Rattle.js_semantics.specs.Forms.{ExprForm}
use Rattle.js_semantics.specs.Machine.{Value}
use Rattle.js_semantics.specs.Solo.{Stuck}
use Rattle.js_semantics.specs.Evaluator.{With, Meaning, Evaluator, Context, bind}
use Rattle.js_semantics.specs.Members.{get_row, set_row, key_row}
use Rattle.js_semantics.specs.Names.{name_row, missing_throws, write_name_row}

pub data Target : Type 0 where
  ToName : List ℕ → Target
  ToMember : (base : Value) (key : List ℕ) → Target

-- the base is evaluated, then the key (ECMAScript, 13.3.2), which is made a key at once (own); the grammar has no other targets
abbrev pub target_row : Evaluator → ExprForm → Context → With Target → Meaning
target_row ev (o.Name name) here k m f c = k (ToName name) m f
target_row ev (o.Member e key) here k m f c = ev.expr e here m f (bind (λ base. k (ToMember base key)) c)
target_row ev (o.Index e i) here k m f c =
    ev.expr e here m f (bind (λ base m f. ev.expr i here m f (bind (λ value. key_row value (λ key. k (ToMember base key)) c) c)) c)
target_row ev form here k m f c = Stuck

-- a target is read (ECMAScript, 6.2.5.5)
abbrev pub read_target_row : Evaluator → Target → Context → Meaning
read_target_row ev (ToName name) here m f c = name_row ev missing_throws name here m f c
read_target_row ev (ToMember base key) here m f c = get_row ev base key m f c

-- a target is written (ECMAScript, 6.2.5.6); a name is looked for only now
abbrev pub write_target_row : Evaluator → Target → Value → Context → Meaning
write_target_row ev (ToName name) value here m f c = write_name_row ev name value here m f c
write_target_row ev (ToMember base key) value here m f c = set_row ev base key value m f c
