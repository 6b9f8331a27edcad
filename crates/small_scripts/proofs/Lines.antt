-- The lines of a script, from its end to its front.
use Rattle.std.proofs.Common.{◌≡◌, ℕ, suc, true, List, [], ◌∷◌, ◌++◌, codes, refl, sym, ap, subst, ◌∙◌, append_assoc}
use Rattle.door.specs.declared.zones.Zone.TheVariants.{Page, XrayScript}
use Rattle.js_syntax.specs.declared.symbol.Symbol.TheVariants as s
use Rattle.js_syntax.specs.declared.tree.Expr.{Expr, out-Expr}
use Rattle.js_syntax.specs.declared.tree.Expr.TheVariants as ex
use Rattle.js_syntax.specs.declared.tree.Stmt.{Stmt}
use Rattle.js_syntax.specs.declared.tree.Stmt.TheVariants as st
use Rattle.js_syntax.specs.Symbols.{Tokens}
use Rattle.js_syntax.specs.Words.{suffixes, is_target}
use Rattle.js_syntax.specs.Grammar.{Parts, Assign, parts_within, not_first}
use Rattle.js_syntax.specs.declared.limits.TheConstants.{CHAIN_LIMIT}
use Rattle.js_syntax.specs.TokenScalars.{Scalars}
use Rattle.small_forms.specs.declared.script.Sum.{Sum}
use Rattle.small_forms.specs.declared.script.Line.{Line}
use Rattle.small_forms.specs.declared.script.Line.TheVariants.{Log, SetTitle}
use Rattle.small_forms.specs.Scripts.{IsSum, sum_of, line_text, sum_text}
use Rattle.small_scripts.specs.Trees.{title, sum_expr, line_stmt}
use Rattle.small_scripts.proofs.Front.{Has, Led, Then, as_well}
use Rattle.small_scripts.proofs.Words.{past_console, past_log, past_gm_log}
use Rattle.small_scripts.proofs.Marks.{past_open, past_close, past_semicolon, past_dot, past_assign}
use Rattle.small_scripts.proofs.Gaps.{past_space}
use Rattle.small_scripts.proofs.Ends.{led_lacks, Lacks, EndsWhole, assign_ends, close_ends, semicolon_ends}
use Rattle.small_scripts.proofs.Expressions as expressions
use Rattle.small_scripts.proofs.Expressions.{Goes}
use Rattle.small_scripts.proofs.Statements.{Spelt, is_spelt}
use Rattle.small_scripts.proofs.Sums.{IsShortSum, past_sum, past_whole_title, close_stands, semicolon_stands, space_stands, dot_is_no_name, open_is_no_name}

abbrev outer : Parts
outer = parts_within CHAIN_LIMIT 63

abbrev inner : Parts
inner = parts_within CHAIN_LIMIT 62

abbrev dot : Scalars
dot = 46 ∷ []

abbrev open_ : Scalars
open_ = 40 ∷ []

abbrev close : Scalars
close = 41 ∷ []

abbrev semi : Scalars
semi = 59 ∷ []

abbrev equals : Scalars
equals = 61 ∷ []

-- the semicolon of a statement, and the statements behind it
abbrev Rest : List Stmt → Tokens → Type 0
Rest body = Led s.Semicolon semi (Spelt body)

rest_lacks : (body : List Stmt) (ts : Tokens) → Rest body ts → Lacks suffixes ts
rest_lacks body ts r = (semicolon_ends semi (Spelt body) ts r).target.part.no_suffix

-- a sum one level deeper is an expression
deeper : (sum : Sum) (Q : Tokens → Type 0) (ts : Tokens) → Then (Assign CHAIN_LIMIT inner true (sum_expr sum)) Q ts → Then (outer.expr true (sum_expr sum)) Q ts
unfolding parts_within
deeper sum Q ts x = x

past_deeper : (sum : Sum) (Q : Tokens → Type 0) (rest : Scalars) → IsSum sum → IsShortSum sum → ((ts : Tokens) → Q ts → EndsWhole ts) → Has Q (41 ∷ rest) → Has (Then (outer.expr true (sum_expr sum)) Q) (sum_text sum ++ 41 ∷ rest)
past_deeper sum Q rest is short ends h = as_well _ _ _ (deeper sum Q) (past_sum inner sum Q (41 ∷ rest) is short ends (close_stands rest) h)

past_last : (sum : Sum) (Q : Tokens → Type 0) (rest : Scalars) → IsSum sum → IsShortSum sum → ((ts : Tokens) → Q ts → EndsWhole ts) → Has Q (59 ∷ rest) → Has (Then (outer.expr true (sum_expr sum)) Q) (sum_text sum ++ 59 ∷ rest)
past_last sum Q rest is short ends h = as_well _ _ _ (deeper sum Q) (past_sum inner sum Q (59 ∷ rest) is short ends (semicolon_stands rest) h)

-- ---- a call

-- the brackets behind a function, and what they make of it
past_call : (n : ℕ) (f : Expr) (sum : Sum) (body : List Stmt) (rest : Scalars) → IsSum sum → IsShortSum sum → Has (Spelt body) rest
    → Has (Then (Goes outer (suc n) f (ex.Call f (sum_expr sum ∷ []))) (Rest body)) (40 ∷ (sum_text sum ++ 41 ∷ (59 ∷ rest)))
past_call n f sum body rest is short h =
    let a = ex.Call f (sum_expr sum ∷ []) in
    let Last = Then (Goes outer n a a) (Rest body) in
    let last : Has Last (59 ∷ rest) = as_well (Rest body) Last (59 ∷ rest) (λ ts r. expressions.goes_no_further outer n a (Rest body) ts (rest_lacks body ts r) r) (past_semicolon (Spelt body) rest h) in
    let closed = past_close Last (59 ∷ rest) last in
    let item = past_deeper sum (Led s.CloseParen close Last) (59 ∷ rest) is short (close_ends close Last) closed in
    as_well _ _ _ (expressions.goes_to_call outer n open_ close f a (sum_expr sum) (Rest body)) (past_open (Then (outer.expr true (sum_expr sum)) (Led s.CloseParen close Last)) (sum_text sum ++ 41 ∷ (59 ∷ rest)) item)

name_first : (w : Scalars) (Q : Tokens → Type 0) (ts : Tokens) → Led s.Name w Q ts → Lacks not_first ts
name_first w Q ts l = led_lacks not_first s.Name w Q ts refl l

-- an expression that begins with a name, and its semicolon, are a statement
called : (w : Scalars) (a : Expr) (body : List Stmt) (ts : Tokens) → Led s.Name w (Then (Goes outer CHAIN_LIMIT (ex.Name w) a) (Rest body)) ts → Spelt (st.Expression a ∷ body) ts
called w a body ts l =
    is_spelt a body semi ts (name_first w _ ts l) (expressions.is_whole outer a (Rest body) ts (semicolon_ends semi (Spelt body)) (expressions.begins outer s.Name w (ex.Name w) a (Rest body) refl expressions.name_leaf ts l))

gm_log_line : (sum : Sum) (body : List Stmt) (rest : Scalars) → IsSum sum → IsShortSum sum → Has (Spelt body) rest
    → Has (Spelt (line_stmt XrayScript (Log sum) ∷ body)) (codes "GM_log" ++ (40 ∷ (sum_text sum ++ 41 ∷ (59 ∷ rest))))
gm_log_line sum body rest is short h =
    let f = ex.Name (codes "GM_log") in
    as_well _ _ _ (called (codes "GM_log") (ex.Call f (sum_expr sum ∷ [])) body)
    (past_gm_log _ (40 ∷ (sum_text sum ++ 41 ∷ (59 ∷ rest))) (open_is_no_name (sum_text sum ++ 41 ∷ (59 ∷ rest))) (past_call 63 f sum body rest is short h))

console_line : (sum : Sum) (body : List Stmt) (rest : Scalars) → IsSum sum → IsShortSum sum → Has (Spelt body) rest
    → Has (Spelt (line_stmt Page (Log sum) ∷ body)) (codes "console.log" ++ (40 ∷ (sum_text sum ++ 41 ∷ (59 ∷ rest))))
console_line sum body rest is short h =
    let o = ex.Name (codes "console") in
    let f = ex.Member o (codes "log") in
    let a = ex.Call f (sum_expr sum ∷ []) in
    let behind = 40 ∷ (sum_text sum ++ 41 ∷ (59 ∷ rest)) in
    let Called = Then (Goes outer 63 f a) (Rest body) in
    let named = past_log Called behind (open_is_no_name (sum_text sum ++ 41 ∷ (59 ∷ rest))) (past_call 62 f sum body rest is short h) in
    let member = as_well _ _ _ (expressions.goes_to_member outer 63 (codes "log") dot o a (Rest body)) (past_dot (Led s.Name (codes "log") Called) (codes "log" ++ behind) named) in
    as_well _ _ _ (called (codes "console") a body) (past_console (Then (Goes outer CHAIN_LIMIT o a) (Rest body)) (codes ".log" ++ behind) (dot_is_no_name (codes "log" ++ behind)) member)

-- ---- the title is set

title_target : is_target title ≡ true
unfolding is_target out-Expr denote.Hole.Carrier.out
title_target = refl

titled : (sum : Sum) (body : List Stmt) (ts : Tokens) → Led s.Name (codes "document") (Then (Goes outer CHAIN_LIMIT (ex.Name (codes "document")) title) (Led s.Assign equals (Then (outer.expr true (sum_expr sum)) (Rest body)))) ts
    → Spelt (st.Expression (ex.Assign title (sum_expr sum)) ∷ body) ts
titled sum body ts l =
    let Value = Then (outer.expr true (sum_expr sum)) (Rest body) in
    is_spelt (ex.Assign title (sum_expr sum)) body semi ts (name_first (codes "document") _ ts l)
    (expressions.is_set outer title (sum_expr sum) equals (Rest body) ts title_target (assign_ends equals Value) (expressions.begins outer s.Name (codes "document") (ex.Name (codes "document")) title (Led s.Assign equals Value) refl expressions.name_leaf ts l))

title_line : (sum : Sum) (body : List Stmt) (rest : Scalars) → IsSum sum → IsShortSum sum → Has (Spelt body) rest
    → Has (Spelt (st.Expression (ex.Assign title (sum_expr sum)) ∷ body)) (codes "document.title = " ++ (sum_text sum ++ 59 ∷ rest))
title_line sum body rest is short h =
    let Value = Then (outer.expr true (sum_expr sum)) (Rest body) in
    let behind = sum_text sum ++ 59 ∷ rest in
    let value : Has Value behind = past_last sum (Rest body) rest is short (semicolon_ends semi (Spelt body)) (past_semicolon (Spelt body) rest h) in
    let equal = past_assign Value behind (past_space Value behind value) in
    let spaced = past_space (Led s.Assign equals Value) (61 ∷ (32 ∷ behind)) equal in
    as_well _ _ _ (titled sum body)
    (past_whole_title outer (Led s.Assign equals Value) (32 ∷ (61 ∷ (32 ∷ behind))) (λ ts l. (assign_ends equals Value ts l).part.no_suffix) (space_stands (61 ∷ (32 ∷ behind))).no_name spaced)

-- ---- any line

log_text : (logs : Scalars) (sum : Sum) (rest : Scalars) → line_text logs (Log sum) ++ rest ≡ logs ++ (40 ∷ (sum_text sum ++ 41 ∷ (59 ∷ rest)))
log_text logs sum rest = append_assoc logs (40 ∷ (sum_text sum ++ codes ");")) rest ∙ ap (λ (x : Scalars). logs ++ 40 ∷ x) (append_assoc (sum_text sum) (codes ");") rest)

title_text : (logs : Scalars) (sum : Sum) (rest : Scalars) → line_text logs (SetTitle sum) ++ rest ≡ codes "document.title = " ++ (sum_text sum ++ 59 ∷ rest)
title_text logs sum rest = ap (λ (x : Scalars). codes "document.title = " ++ x) (append_assoc (sum_text sum) (codes ";") rest)

pub past_page_line : (line : Line) (body : List Stmt) (rest : Scalars) → IsSum (sum_of line) → IsShortSum (sum_of line) → Has (Spelt body) rest → Has (Spelt (line_stmt Page line ∷ body)) (line_text (codes "console.log") line ++ rest)
past_page_line (Log sum) body rest is short h = subst (Has (Spelt (line_stmt Page (Log sum) ∷ body))) (sym (log_text (codes "console.log") sum rest)) (console_line sum body rest is short h)
past_page_line (SetTitle sum) body rest is short h = subst (Has (Spelt (line_stmt Page (SetTitle sum) ∷ body))) (sym (title_text (codes "console.log") sum rest)) (title_line sum body rest is short h)

pub past_userscript_line : (line : Line) (body : List Stmt) (rest : Scalars) → IsSum (sum_of line) → IsShortSum (sum_of line) → Has (Spelt body) rest → Has (Spelt (line_stmt XrayScript line ∷ body)) (line_text (codes "GM_log") line ++ rest)
past_userscript_line (Log sum) body rest is short h = subst (Has (Spelt (line_stmt XrayScript (Log sum) ∷ body))) (sym (log_text (codes "GM_log") sum rest)) (gm_log_line sum body rest is short h)
past_userscript_line (SetTitle sum) body rest is short h = subst (Has (Spelt (line_stmt XrayScript (SetTitle sum) ∷ body))) (sym (title_text (codes "GM_log") sum rest)) (title_line sum body rest is short h)
