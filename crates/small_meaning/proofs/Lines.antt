-- Lines do alike, and entries of them.
use Rattle.std.proofs.Common.{◌≡◌, ◌∙◌, refl, sym, subst, ap, ℕ, ◌+◌, ◌-◌, ◌≤◌, suc, zero, Bool, true, false, List, [], ◌∷◌, ◌++◌, arith, codes, map, None}
use Rattle.std.specs.Fmt.{decimal}
use denote.Hole.Carrier.{out, shown, hidden}
use Rattle.door.specs.declared.zones.Zone.{Zone}
use Rattle.door.specs.declared.zones.Zone.TheVariants.{Host, Page, XrayScript, PlainScript}
use Rattle.door.specs.declared.values.Thing.{Thing as DoorThing}
use Rattle.door.specs.declared.values.Kind.TheVariants.{Document}
use Rattle.door.specs.declared.members.Member.TheVariants.{ConsoleLog, GmLog}
use Rattle.door.specs.declared.requests.Answer.{Answer}
use Rattle.door.specs.declared.marks.Outcome.TheVariants.{Throw}
use Rattle.js_syntax.specs.declared.tree.Expr.{Expr, out-Expr}
use Rattle.js_syntax.specs.declared.tree.Expr.TheVariants as ex
use Rattle.js_syntax.specs.declared.tree.Expr.TheOpen as o
use Rattle.js_syntax.specs.declared.tree.Expr.TheBlock as b
use Rattle.js_syntax.specs.declared.tree.Stmt.{Stmt, out-Stmt}
use Rattle.js_syntax.specs.declared.tree.Stmt.TheVariants as st
use Rattle.js_syntax.specs.declared.limits.TheConstants.{LEVEL_LIMIT}
use Rattle.small_forms.specs.declared.script.Sum.{Sum}
use Rattle.small_forms.specs.declared.script.Line.{Line}
use Rattle.small_forms.specs.declared.script.Line.TheVariants.{Log, SetTitle}
use Rattle.js_semantics.specs.Bodies.{all_of, functions, joined, own_functions, own_names, var_names, within}
use Rattle.js_semantics.specs.Builtin.{Asks}
use Rattle.js_semantics.specs.Entries as language
use Rattle.js_semantics.specs.Evaluator.{Evaluator, Gives, Ends, With, bind, follow, list_row, unvalued}
use Rattle.js_semantics.specs.Evaluator as ev
use Rattle.js_semantics.specs.Expressions.{assign_row, with_base}
use Rattle.js_semantics.specs.Functions.{block_row, declare_functions_row, script_row}
use Rattle.js_semantics.specs.Intrinsics.{Setup}
use Rattle.js_semantics.specs.Machine.{Machine, Own, Thing, Value, Refers, Datum, undefined}
use Rattle.js_semantics.specs.Meaning.{evaluator, at_top, script_entry, thrown_text, with_level}
use Rattle.js_semantics.specs.Meaning as meaning
use Rattle.js_semantics.specs.Members.{Stands, chain_bound, found, found_within, read_row, reading}
use Rattle.js_semantics.specs.Names.{declare_vars_row, missing_throws, name_row}
use Rattle.js_semantics.specs.Requests.{log_row}
use Rattle.js_semantics.specs.Solo.{Act, Program, Emits, Stuck, Leaves}
use Rattle.js_semantics.specs.Targets.{ToMember, write_target_row}
use Rattle.small_meaning.specs.declared.prim.Prim.{Prim}
use Rattle.small_meaning.specs.declared.prim.Prim.TheVariants.{Number as NumberPrim, Str as StrPrim}
use Rattle.small_meaning.specs.Rows.{Bare}
use Rattle.small_meaning.specs.Rows as small
use Rattle.js_semantics.specs.Entries.{LEVELS}
use Rattle.solo_model.specs.Things.{thing_of, the_window}
use Rattle.small_scripts.specs.Trees.{body_of, line_stmt, log_function, sum_expr, title}
use Rattle.small_forms.specs.Scripts.{sum_of}
use Rattle.small_meaning.specs.Shows.{MayRun}
use Rattle.small_meaning.proofs.Alike.{Alike, Ready, Stops, ready_later, ready_less, stops_later}
use Rattle.small_meaning.proofs.Charges.{charge_split}
use Rattle.small_meaning.proofs.Documents.{name_found, native_called}
use Rattle.small_meaning.proofs.Forms.{assign_form, call_form, callee_charged, expr_charged, expression_form, member_form, name_form, stmt_charged}
use Rattle.small_meaning.proofs.Lookups.{Begins, LogStands, find_stands, here_own, ready_knows, three}
use Rattle.small_meaning.proofs.Sums.{document_alike, sum_alike}
use Rattle.small_meaning.proofs.Texts.{AreSoundLines, IsSoundSum, number_text}
use Rattle.small_meaning.proofs.Titles.{IsWithin, console_answered, script_answered, text_made_sent, title_written, value_of}

-- what follows a statement does alike
abbrev pub EndsAlike : Setup → ℕ → Bool → small.Cont → ev.Cont → Type 0
EndsAlike setup k least c d = (m : Machine) (left : ℕ) → Ready setup least (suc k) m → Alike setup k (c small.Next left) (d Ends m left)

-- two units, one after the other
two_units : (setup : Setup) (k : ℕ) (units : ℕ) (next : ℕ → Program Bare) (c : small.Cont) (f : ℕ) (tree : Program Machine) → Alike setup k (small.charge 1 (small.charge units next c) c f) tree → Alike setup k (small.charge (1 + units) next c f) tree
two_units setup k units next c f tree h = subst (λ (t : Program Bare). Alike setup k t tree) (sym (charge_split 1 units next c f)) h

-- ---- the title is set

-- the target of an assignment to the title
title_target : (setup : Setup) (k : ℕ) (e : Evaluator) (sum : Sum) (d : ev.Cont) (m : Machine) (f : ℕ) (tree : Program Bare)
    → Alike setup k tree (e.expr (ex.Name (codes "document")) at_top m f (bind (λ base m f. e.expr (sum_expr sum) at_top m f (bind (λ value m f. write_target_row e (ToMember base (codes "title")) value at_top m f (follow (d (Gives value)) d)) d)) d))
    → Alike setup k tree (assign_row e title (sum_expr sum) at_top m f d)
unfolding out-Expr out-Stmt out shown hidden b.shown-the_row-Expr-0 b.shown-the_row-Property-1 b.shown-the_row-Stmt-2 b.shown-the_row-Function-3 b.shown-the_row-Expr-4 b.shown-the_row-Declaration-5 b.shown-the_row-Stmt-6
title_target setup k e sum d m f tree h = h

title_line : (setup : Setup) (k : ℕ) (least : Bool) (n : ℕ) (sum : Sum) (c : small.Cont) (d : ev.Cont) (m : Machine) (f : ℕ) → 10 ≤ n → IsSoundSum sum → Begins setup → Stops setup k least c d → Ready setup least (suc k) m → EndsAlike setup k least c d
    → Alike setup k (small.title_row sum c f) ((evaluator (suc (suc n))).stmt (st.Expression (ex.Assign title (sum_expr sum))) at_top m f d)
title_line setup k least zero sum c d m f deep h b s r g = absurd (omega (arith, deep))
title_line setup k least (suc zero) sum c d m f deep h b s r g = absurd (omega (arith, deep))
title_line setup k least (suc (suc n)) sum c d m f deep h b s r g =
    let writes : DoorThing → small.Cont = λ document. small.bind (λ value. small.written_row document value c) c in
    let sums : DoorThing → ℕ → Program Bare = λ document. small.sum_row sum (writes document) in
    let e : Evaluator = evaluator (suc (suc n)) in
    let plain : ev.Cont = unvalued d in
    let sets : Value → ev.Cont = λ base. bind (λ value m f. write_target_row e (ToMember base (codes "title")) value at_top m f (follow (plain (Gives value)) plain)) plain in
    let base : ev.Cont = bind (λ base m f. e.expr (sum_expr sum) at_top m f (sets base)) plain in
    two_units setup k 1 (small.document_row sums c) c f ((evaluator (suc (suc (suc (suc n))))).stmt (st.Expression (ex.Assign title (sum_expr sum))) at_top m f d)
    (stmt_charged setup k least (suc (suc (suc n))) (st.Expression (ex.Assign title (sum_expr sum))) (o.Stmt::Expression (ex.Assign title (sum_expr sum))) (small.charge 1 (small.document_row sums c) c) c d m f (expression_form (ex.Assign title (sum_expr sum))) s r
    (λ f. expr_charged setup k least (suc (suc n)) (ex.Assign title (sum_expr sum)) (o.Assign title (sum_expr sum)) (small.document_row sums c) c plain m f (assign_form title (sum_expr sum)) (record { throws = s.throws; halts = s.halts }) r
    (λ f. title_target setup k e sum plain m f (small.document_row sums c f)
    (document_alike setup k least n sums c base m f b (record { throws = s.throws; halts = s.halts }) r
    (λ m f r. let later : Stops setup k true c d = stops_later setup k least c d s in
    sum_alike setup k true sum (suc (suc n)) (writes (thing_of Document 1)) (sets (Refers (Thing 1))) m f deep h b (record { throws = later.throws; halts = later.halts }) r
    (λ value m f p r. title_written setup k (suc n) value c (follow (plain (Gives (value_of value))) plain) m f p b (record { throws = later.throws; halts = later.halts }) r
    (λ f. g m f (ready_later setup least (suc k) m r))))))))

-- ---- a text is logged

console_log : (setup : Setup) (k : ℕ) (least : Bool) (value : Prim) (c : small.Cont) (d : ev.Cont) (m : Machine) (f : ℕ) → IsWithin 9999 value → Stops setup k least c d → Ready setup least (suc k) m
    → ((left : ℕ) → Alike setup k (c small.Next left) (d (Gives undefined) m left)) → Alike setup k (small.logged_row Page value c f) (log_row ConsoleLog (value_of value ∷ []) m f d)
console_log setup k least (NumberPrim n) c d m f p s r h = text_made_sent setup k least ConsoleLog the_window (decimal n) (small.with_nothing (c small.Next)) c d m f (number_text n (omega (arith, p))) s r (console_answered setup k c d m h)
console_log setup k least (StrPrim t) c d m f p s r h = text_made_sent setup k least ConsoleLog the_window t (small.with_nothing (c small.Next)) c d m f p s r (console_answered setup k c d m h)

gm_log : (setup : Setup) (k : ℕ) (least : Bool) (value : Prim) (c : small.Cont) (d : ev.Cont) (m : Machine) (f : ℕ) → IsWithin 9999 value → Stops setup k least c d → Ready setup least (suc k) m
    → ((left : ℕ) → Alike setup k (c small.Next left) (d (Gives undefined) m left)) → Alike setup k (small.logged_row XrayScript value c f) (log_row GmLog (value_of value ∷ []) m f d)
gm_log setup k least (NumberPrim n) c d m f p s r h = text_made_sent setup k least GmLog the_window (decimal n) (small.with_nothing (c small.Next)) c d m f (number_text n (omega (arith, p))) s r (script_answered setup k c d m h)
gm_log setup k least (StrPrim t) c d m f p s r h = text_made_sent setup k least GmLog the_window t (small.with_nothing (c small.Next)) c d m f p s r (script_answered setup k c d m h)

-- the function that logs, and what it is called on
console_callee : (setup : Setup) (k : ℕ) (least : Bool) (n : ℕ) (rest : With (Value × Value)) (d : ev.Cont) (m : Machine) (f : ℕ) → LogStands Page m → Begins setup → Ready setup least k m
    → name_row (evaluator n) missing_throws (codes "console") at_top m f (bind (λ base m f. with_base (evaluator (suc n)) (ToMember base (codes "log")) at_top rest m f d) d) ≡ rest (Refers (Own 53), Refers (Own 52)) m f
console_callee setup k least n rest d m f stands b r =
    let knows = ready_knows setup least k m b r in
    let chain = three (chain_bound m) knows.bound in
    let logs : found m (Own 52) (codes "log") ≡ Stands (Datum (Refers (Own 53)) true false) =
    ap (λ n. found_within n m (Own 52) (codes "log")) chain.1 ∙ here_own (suc (suc chain.0)) m 52 (codes "log") (Datum (Refers (Own 53)) true false) knows.members.log in
    name_found (evaluator n) (codes "console") (Datum (Refers (Own 52)) true false) m f (bind (λ base m f. with_base (evaluator (suc n)) (ToMember base (codes "log")) at_top rest m f d) d) stands
    ∙ find_stands (reading (codes "log")) (Own 52) (codes "log") (λ x m f. read_row (evaluator (suc n)) (Refers (Own 52)) x m f (bind (λ callee. rest (callee, Refers (Own 52))) d)) (bind (λ callee. rest (callee, Refers (Own 52))) d) m f
    (Datum (Refers (Own 53)) true false) logs

gm_callee : (n : ℕ) (rest : With (Value × Value)) (d : ev.Cont) (m : Machine) (f : ℕ) → LogStands XrayScript m
    → name_row (evaluator n) missing_throws (codes "GM_log") at_top m f (bind (λ callee. rest (callee, undefined)) d) ≡ rest (Refers (Own 55), undefined) m f
gm_callee n rest d m f stands = name_found (evaluator n) (codes "GM_log") (Datum (Refers (Own 55)) true false) m f (bind (λ callee. rest (callee, undefined)) d) stands

-- `console.log(..);`
page_log : (setup : Setup) (k : ℕ) (least : Bool) (n : ℕ) (sum : Sum) (c : small.Cont) (d : ev.Cont) (m : Machine) (f : ℕ) → 10 ≤ n → LogStands Page m → IsSoundSum sum → Begins setup → Stops setup k least c d → Ready setup least (suc k) m
    → EndsAlike setup k least c d → Alike setup k (small.log_row Page sum c f) ((evaluator (suc (suc n))).stmt (st.Expression (ex.Call (log_function Page) (sum_expr sum ∷ []))) at_top m f d)
page_log setup k least zero sum c d m f deep known h b s r g = absurd (omega (arith, deep))
page_log setup k least (suc zero) sum c d m f deep known h b s r g = absurd (omega (arith, deep))
page_log setup k least (suc (suc n)) sum c d m f deep known h b s r g =
    let call : Expr = ex.Call (log_function Page) (sum_expr sum ∷ []) in
    let e : Evaluator = evaluator (suc (suc n)) in
    let plain : ev.Cont = unvalued d in
    let stops : Stops setup k least c plain = record { throws = s.throws; halts = s.halts } in
    let sums : ℕ → Program Bare = small.sum_row sum (small.bind (λ value. small.logged_row Page value c) c) in
    let called : With (Value × Value) = λ callee m f. list_row e (sum_expr sum ∷ []) at_top (λ values m f. e.call callee.0 callee.1 values m f plain) m f plain in
    let base : ev.Cont = bind (λ base m f. with_base (evaluator (suc n)) (ToMember base (codes "log")) at_top called m f plain) plain in
    two_units setup k 3 sums c f ((evaluator (suc (suc (suc (suc n))))).stmt (st.Expression call) at_top m f d)
    (stmt_charged setup k least (suc (suc (suc n))) (st.Expression call) (o.Stmt::Expression call) (small.charge 3 sums c) c d m f (expression_form call) s r
    (λ f. two_units setup k 2 sums c f ((evaluator (suc (suc (suc n)))).expr call at_top m f plain)
    (expr_charged setup k least (suc (suc n)) call (o.Call (log_function Page) (sum_expr sum ∷ [])) (small.charge 2 sums c) c plain m f (call_form (log_function Page) (sum_expr sum)) stops r
    (λ f. two_units setup k 1 sums c f (e.callee (log_function Page) at_top called m f plain)
    (callee_charged setup k least (suc n) (log_function Page) (o.Member (ex.Name (codes "console")) (codes "log")) (small.charge 1 sums c) c called plain m f (member_form (ex.Name (codes "console")) (codes "log")) stops r
    (λ f. expr_charged setup k least n (ex.Name (codes "console")) (o.Name (codes "console")) sums c base m f (name_form (codes "console")) (record { throws = s.throws; halts = s.halts }) r
    (λ f. let P : Program Machine → Type 0 = λ tree. Alike setup k (sums f) tree in
    subst P (sym (console_callee setup (suc k) least n called plain m f known b r))
    (sum_alike setup k least sum (suc (suc n)) (small.bind (λ value. small.logged_row Page value c) c) (bind (λ value m f. e.call (Refers (Own 53)) (Refers (Own 52)) (value ∷ []) m f plain) plain) m f deep h b
    (record { throws = s.throws; halts = s.halts }) r
    (λ value m f p r. let Q : Program Machine → Type 0 = λ tree. Alike setup k (small.logged_row Page value c f) tree in
    subst Q (sym (native_called (suc n) 53 (Asks ConsoleLog) (Refers (Own 52)) (value_of value ∷ []) m f plain (ready_knows setup least (suc k) m b r).members.asks_log))
    (console_log setup k least value c plain m f p stops r (λ f. g m f r)))))))))))

-- `GM_log(..);`
script_log : (setup : Setup) (k : ℕ) (least : Bool) (n : ℕ) (sum : Sum) (c : small.Cont) (d : ev.Cont) (m : Machine) (f : ℕ) → 10 ≤ n → LogStands XrayScript m → IsSoundSum sum → Begins setup → Stops setup k least c d → Ready setup least (suc k) m
    → EndsAlike setup k least c d → Alike setup k (small.log_row XrayScript sum c f) ((evaluator (suc (suc n))).stmt (st.Expression (ex.Call (log_function XrayScript) (sum_expr sum ∷ []))) at_top m f d)
script_log setup k least zero sum c d m f deep known h b s r g = absurd (omega (arith, deep))
script_log setup k least (suc n) sum c d m f deep known h b s r g =
    let call : Expr = ex.Call (log_function XrayScript) (sum_expr sum ∷ []) in
    let e : Evaluator = evaluator (suc n) in
    let plain : ev.Cont = unvalued d in
    let stops : Stops setup k least c plain = record { throws = s.throws; halts = s.halts } in
    let sums : ℕ → Program Bare = small.sum_row sum (small.bind (λ value. small.logged_row XrayScript value c) c) in
    let called : With (Value × Value) = λ callee m f. list_row e (sum_expr sum ∷ []) at_top (λ values m f. e.call callee.0 callee.1 values m f plain) m f plain in
    two_units setup k 2 sums c f ((evaluator (suc (suc (suc n)))).stmt (st.Expression call) at_top m f d)
    (stmt_charged setup k least (suc (suc n)) (st.Expression call) (o.Stmt::Expression call) (small.charge 2 sums c) c d m f (expression_form call) s r
    (λ f. two_units setup k 1 sums c f ((evaluator (suc (suc n))).expr call at_top m f plain)
    (expr_charged setup k least (suc n) call (o.Call (log_function XrayScript) (sum_expr sum ∷ [])) (small.charge 1 sums c) c plain m f (call_form (log_function XrayScript) (sum_expr sum)) stops r
    (λ f. callee_charged setup k least n (log_function XrayScript) (o.Name (codes "GM_log")) sums c called plain m f (name_form (codes "GM_log")) stops r
    (λ f. let P : Program Machine → Type 0 = λ tree. Alike setup k (sums f) tree in
    subst P (sym (gm_callee n called plain m f known))
    (sum_alike setup k least sum (suc n) (small.bind (λ value. small.logged_row XrayScript value c) c) (bind (λ value m f. e.call (Refers (Own 55)) undefined (value ∷ []) m f plain) plain) m f deep h b
    (record { throws = s.throws; halts = s.halts }) r
    (λ value m f p r. let Q : Program Machine → Type 0 = λ tree. Alike setup k (small.logged_row XrayScript value c f) tree in
    subst Q (sym (native_called n 55 (Asks GmLog) undefined (value_of value ∷ []) m f plain (ready_knows setup least (suc k) m b r).members.asks_gm_log))
    (gm_log setup k least value c plain m f p stops r (λ f. g m f r)))))))))

-- ---- lines

line_alike : (setup : Setup) (k : ℕ) (least : Bool) (zone : Zone) (n : ℕ) (line : Line) (c : small.Cont) (d : ev.Cont) (m : Machine) (f : ℕ) → MayRun zone setup.grants → 10 ≤ n → LogStands zone m → IsSoundSum (sum_of line) → Begins setup → Stops setup k least c d
    → Ready setup least (suc k) m → EndsAlike setup k least c d → Alike setup k (small.line_row zone line c f) ((evaluator (suc (suc n))).stmt (line_stmt zone line) at_top m f d)
line_alike setup k least Page n (Log sum) c d m f may deep known h b s r g = page_log setup k least n sum c d m f deep known h b s r g
line_alike setup k least XrayScript n (Log sum) c d m f may deep known h b s r g = script_log setup k least n sum c d m f deep known h b s r g
line_alike setup k least Host n (Log sum) c d m f may deep known h b s r g = absurd may
line_alike setup k least PlainScript n (Log sum) c d m f may deep known h b s r g = absurd may
line_alike setup k least zone n (SetTitle sum) c d m f may deep known h b s r g = title_line setup k least n sum c d m f deep h b s r g

lines_alike : (setup : Setup) (k : ℕ) (n : ℕ) (lines : List Line) (c : small.Cont) (d : ev.Cont) (m : Machine) (f : ℕ) → MayRun setup.zone setup.grants → 10 ≤ n → AreSoundLines lines → Begins setup → Stops setup k false c d → Ready setup false (suc k) m
    → EndsAlike setup k false c d → Alike setup k (small.lines_row setup.zone lines c f) (block_row (evaluator (suc (suc n))) (body_of setup.zone lines) at_top m f d)
unfolding small.lines_row
lines_alike setup k n [] c d m f may deep h b s r g = g m f r
lines_alike setup k n (line ∷ lines) c d m f may deep h b s r g =
    line_alike setup k false setup.zone n line (small.follow (small.lines_row setup.zone lines c) c) (follow (λ m f. block_row (evaluator (suc (suc n))) (body_of setup.zone lines) at_top m f d) d) m f
    may deep (ready_knows setup false (suc k) m b r).log h.0 b (record { throws = s.throws; halts = s.halts }) r
    (λ m f r. lines_alike setup k n lines c d m f may deep h.1 b s r g)

-- ---- what a body declares

-- a line has no statement inside
alone : (zone : Zone) (line : Line) → within LEVEL_LIMIT (line_stmt zone line) ≡ line_stmt zone line ∷ []
unfolding within out-Expr out-Stmt out shown hidden b.shown-the_row-Expr-0 b.shown-the_row-Property-1 b.shown-the_row-Stmt-2 b.shown-the_row-Function-3 b.shown-the_row-Expr-4 b.shown-the_row-Declaration-5 b.shown-the_row-Stmt-6
alone zone (Log sum) = refl
alone zone (SetTitle sum) = refl

all_lines : (zone : Zone) (lines : List Line) → all_of (body_of zone lines) ≡ body_of zone lines
all_lines zone [] = refl
all_lines zone (line ∷ lines) = ap (λ first. first ++ all_of (body_of zone lines)) (alone zone line) ∙ ap (λ rest. line_stmt zone line ∷ rest) (all_lines zone lines)

line_names : (zone : Zone) (line : Line) → own_names (out-Stmt (line_stmt zone line)) ≡ []
unfolding out-Expr out-Stmt out shown hidden b.shown-the_row-Expr-0 b.shown-the_row-Property-1 b.shown-the_row-Stmt-2 b.shown-the_row-Function-3 b.shown-the_row-Expr-4 b.shown-the_row-Declaration-5 b.shown-the_row-Stmt-6
line_names zone (Log sum) = refl
line_names zone (SetTitle sum) = refl

line_functions : (zone : Zone) (line : Line) → own_functions (out-Stmt (line_stmt zone line)) ≡ []
unfolding out-Expr out-Stmt out shown hidden b.shown-the_row-Expr-0 b.shown-the_row-Property-1 b.shown-the_row-Stmt-2 b.shown-the_row-Function-3 b.shown-the_row-Expr-4 b.shown-the_row-Declaration-5 b.shown-the_row-Stmt-6
line_functions zone (Log sum) = refl
line_functions zone (SetTitle sum) = refl

names_of_lines : (zone : Zone) (lines : List Line) → joined (map (λ s. own_names (out-Stmt s)) (body_of zone lines)) ≡ []
names_of_lines zone [] = refl
names_of_lines zone (line ∷ lines) = ap (λ first. first ++ joined (map (λ s. own_names (out-Stmt s)) (body_of zone lines))) (line_names zone line) ∙ names_of_lines zone lines

functions_of_lines : (zone : Zone) (lines : List Line) → joined (map (λ s. own_functions (out-Stmt s)) (body_of zone lines)) ≡ []
functions_of_lines zone [] = refl
functions_of_lines zone (line ∷ lines) = ap (λ first. first ++ joined (map (λ s. own_functions (out-Stmt s)) (body_of zone lines))) (line_functions zone line) ∙ functions_of_lines zone lines

no_names : (zone : Zone) (lines : List Line) → var_names (body_of zone lines) ≡ []
no_names zone lines = ap (λ (body : List Stmt). joined (map (λ s. own_names (out-Stmt s)) body)) (all_lines zone lines) ∙ names_of_lines zone lines

no_functions : (zone : Zone) (lines : List Line) → functions (body_of zone lines) ≡ []
no_functions zone lines = ap (λ (body : List Stmt). joined (map (λ s. own_functions (out-Stmt s)) body)) (all_lines zone lines) ∙ functions_of_lines zone lines

script_is : (e : Evaluator) (zone : Zone) (lines : List Line) (m : Machine) (f : ℕ) (d : ev.Cont) → script_row e (body_of zone lines) at_top m f d ≡ block_row e (body_of zone lines) at_top m f d
script_is e zone lines m f d =
    ap (λ names. declare_vars_row names m f (follow (λ m f. declare_functions_row None (functions (body_of zone lines)) m f (follow (λ m f. block_row e (body_of zone lines) at_top m f d) d)) d)) (no_names zone lines)
    ∙ ap (λ gs. declare_functions_row None gs m f (follow (λ m f. block_row e (body_of zone lines) at_top m f d) d)) (no_functions zone lines)

-- ---- an entry

-- what waits before an entry of the small machine
pub record IsOutermost (levels : ℕ) (m : Bare) (back : Bare → Answer → Program Bare) : Type 0 where
  pub levels_are : levels ≡ LEVELS
  pub over : (answer : Answer) → back m answer ≡ Stuck

says_alike : (setup : Setup) (k : ℕ) (act other : Act) (levels : ℕ) (bare : Bare) (back : Bare → Answer → Program Bare) (m : Machine) → other ≡ act → IsOutermost levels bare back → Ready setup false k m
    → Alike setup k (Emits act levels bare back) (Emits other LEVELS m (λ m answer. Stuck))
unfolding Alike
says_alike setup k act other levels bare back m same outer r = (m, r, ap (λ act. Emits act LEVELS m (λ m answer. Stuck)) same, outer.levels_are, outer.over)

leave_stops : (setup : Setup) (k : ℕ) (levels : ℕ) (bare : Bare) (back : Bare → Answer → Program Bare) → IsOutermost levels bare back → Stops setup k false (small.leave levels bare back) (meaning.leave language.FUEL LEVELS (λ m answer. Stuck))
leave_stops setup k levels bare back outer = record {
  throws = λ reason f m place r shown. says_alike setup k (Leaves (small.outcome_of (small.Throws reason)) (language.FUEL - f)) (Leaves (Throw (thrown_text m (Refers (Own place)))) (language.FUEL - f)) levels bare back m
      (ap (λ t. Leaves (Throw t) (language.FUEL - f)) shown) outer r;
  halts = λ stop f m r. says_alike setup k (Leaves (small.outcome_of (small.Halts stop)) (language.FUEL - f)) (Leaves (small.outcome_of (small.Halts stop)) (language.FUEL - f)) levels bare back m refl outer (ready_less setup false k m r);
}

pub entry_alike : (setup : Setup) (k : ℕ) (lines : List Line) (levels : ℕ) (bare : Bare) (back : Bare → Answer → Program Bare) (m : Machine) → MayRun setup.zone setup.grants → AreSoundLines lines → Begins setup → IsOutermost levels bare back → Ready setup false (suc k) m
    → Alike setup k (small.lines_row setup.zone lines (small.leave levels bare back) language.FUEL) (script_entry language.FUEL LEVELS (body_of setup.zone lines) m (λ m answer. Stuck))
unfolding with_level
entry_alike setup k lines levels bare back m may h b outer r =
    let d : ev.Cont = meaning.leave language.FUEL LEVELS (λ m answer. Stuck) in
    let P : Program Machine → Type 0 = λ tree. Alike setup k (small.lines_row setup.zone lines (small.leave levels bare back) language.FUEL) tree in
    let deep : 10 ≤ 477 = omega arith in
    subst P (sym (script_is (evaluator 479) setup.zone lines m language.FUEL d))
    (lines_alike setup k 477 lines (small.leave levels bare back) d m language.FUEL may deep h b (leave_stops setup k levels bare back outer) r
    (λ m f r. says_alike setup k (Leaves (small.outcome_of small.Next) (language.FUEL - f)) (Leaves (small.outcome_of small.Next) (language.FUEL - f)) levels bare back m refl outer (ready_less setup false k m r)))
