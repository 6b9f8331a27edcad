-- The lines of the small forms as statements of the language (ECMAScript, 13.3 and 13.8, 13.15 and 14.5).
use Rattle.std.specs.Prelude.{List, [], ◌∷◌, codes, map, pos}
use Rattle.base_text.specs.declared.operators.BinaryOp.TheVariants as operator
use Rattle.door.specs.declared.zones.Zone.{Zone}
use Rattle.door.specs.declared.zones.Zone.TheVariants.{Page}
use Rattle.js_syntax.specs.declared.tree.Expr.{Expr}
use Rattle.js_syntax.specs.declared.tree.Expr.TheVariants as ex
use Rattle.js_syntax.specs.declared.tree.Stmt.{Stmt}
use Rattle.js_syntax.specs.declared.tree.Stmt.TheVariants as st
use Rattle.small_forms.specs.declared.script.Part.{Part}
use Rattle.small_forms.specs.declared.script.Part.TheVariants.{Title, Number, Quoted}
use Rattle.small_forms.specs.declared.script.Sum.{Sum}
use Rattle.small_forms.specs.declared.script.Line.{Line}
use Rattle.small_forms.specs.declared.script.Line.TheVariants.{Log, SetTitle}

-- `document.title`
abbrev pub title : Expr
title = ex.Member (ex.Name (codes "document")) (codes "title")

abbrev pub part_expr : Part → Expr
part_expr Title = title
part_expr (Number n) = ex.Number (pos n)
part_expr (Quoted text) = ex.Str text

-- each further part is added to what stands before it
abbrev pub added : Expr → List Part → Expr
added left [] = left
added left (part ∷ parts) = added (ex.Binary operator.Add left (part_expr part)) parts

abbrev pub sum_expr : Sum → Expr
sum_expr sum = added (part_expr sum.first) sum.more

-- the function that logs: `console.log` for the page (Console Standard, log), and else `GM_log` (Greasemonkey manual)
abbrev pub log_function : Zone → Expr
log_function Page = ex.Member (ex.Name (codes "console")) (codes "log")
log_function zone = ex.Name (codes "GM_log")

abbrev pub line_stmt : Zone → Line → Stmt
line_stmt zone (Log sum) = st.Expression (ex.Call (log_function zone) (sum_expr sum ∷ []))
line_stmt zone (SetTitle sum) = st.Expression (ex.Assign title (sum_expr sum))

-- the statements of a script
abbrev pub body_of : Zone → List Line → List Stmt
body_of zone lines = map (line_stmt zone) lines
