use Rattle.std.proofs.Common.{refl}
use Rattle.std.specs.Char.{encode_utf8}
use Rattle.std.specs.Fmt.{digits}
use denote.Hole.Carrier.{out, shown, hidden}
use Rattle.js_syntax.specs.declared.tree.Expr.{out-Expr}
use Rattle.js_syntax.specs.declared.tree.Expr.TheBlock as b
use Rattle.js_syntax.specs.declared.tree.ForStart.{out-ForStart}
use Rattle.js_syntax.specs.declared.tree.ForTarget.{out-ForTarget}
use Rattle.js_syntax.specs.declared.tree.Property.{out-Property}
use Rattle.js_syntax.specs.declared.tree.Stmt.{out-Stmt}
use Rattle.js_semantics.specs.Bodies.{within}
use Rattle.js_semantics.specs.Intrinsics.{fresh}
use Rattle.js_semantics.specs.Meaning.{evaluator, with_level}
use Rattle.js_semantics.specs.Members.{found_within}
use Rattle.js_semantics.specs.Names.{bound_within}
use Rattle.js_semantics.specs.Operations.{is_above, above_row}
use Rattle.js_semantics.specs.Programs.{acted, left}
use Rattle.js_semantics.proofs.facts.beginnings_are_computed.Goals as goal

pub returns : goal.returns
unfolding encode_utf8 digits evaluator with_level found_within bound_within within is_above above_row fresh left acted out-Expr out-ForStart out-ForTarget out-Property out-Stmt out shown hidden b.shown-the_row-Expr-0 b.shown-the_row-Property-1 b.shown-the_row-Stmt-2 b.shown-the_row-Function-3 b.shown-the_row-Expr-4 b.shown-the_row-Declaration-5 b.shown-the_row-Stmt-6
returns c = record {
  objects = (0, refl, refl, refl);
  functions = (9, refl, refl, refl);
  arrays = (13, refl, refl, refl);
  texts = (21, refl, refl, refl);
  numbers = (23, refl, refl, refl);
  booleans = (25, refl, refl, refl);
  errors = (46, refl, refl, refl);
  documents = (82, refl, refl, refl);
  elements = (84, refl, refl, refl);
  character_data = (86, refl, refl, refl);
  windows = (88, refl, refl, refl);
  events = (90, refl, refl, refl);
  for_each = refl;
  join = refl;
}
