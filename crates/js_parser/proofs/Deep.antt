-- What stands one level deeper, at the last level and above it.
use Rattle.std.proofs.Common.{◌≡◌, ◌-◌, ◌<◌, ℕ, suc, Bool, true, false, cond, Result, Err, refl, sym, ap, subst, ◌∙◌, if◌then◌else◌}
use Rattle.js_syntax.specs.declared.token.Token.{Token}
use Rattle.js_syntax.specs.declared.parse_fault.ParseKind.TheVariants.{Unexpected, TooDeep}
use Rattle.js_syntax.specs.declared.tree.Expr.{Expr}
use Rattle.js_syntax.specs.declared.tree.Stmt.{Stmt}
use Rattle.js_syntax.specs.Symbols.{Tokens, next, sees}
use Rattle.js_combinators.specs.Readers.{Outcome, not_taken}
use Rattle.js_cursor.specs.declared.cursor.Failed.{Failed}
use Rattle.js_cursor.specs.declared.cursor.Failed.TheVariants.{Fault}
use Rattle.js_parser.specs.declared.level.Part.{Part}
use Rattle.js_parser.specs.declared.level.Part.TheVariants as part
use Rattle.js_parser.specs.declared.level.Form.{Form}
use Rattle.js_parser.specs.declared.level.Form.TheVariants as form
use Rattle.js_cursor.specs.Reads.{Reads}
use Rattle.js_parser.specs.Nests.{part_of, form_of}
use Rattle.js_parser.specs.Parts.{begins_part, begins_form}
use Rattle.js_reference_parser.specs.StatementsModel.{within}
use Rattle.js_reference_parser.proofs.Turns.{deeper}

abbrev refusal : {A : Type 0} → Tokens → Bool → Outcome A
refusal ts b = cond b (Err (TooDeep, ts)) (Err (Unexpected, ts))

-- a part past the last level is refused by what begins it
pub refused : {A : Type 0} (read : Outcome A) (q : Token → Bool) (ts : Tokens) (b : Bool) (e : Failed) → read ≡ not_taken q ts → b ≡ sees q (next ts)
    → e ≡ (if b then Fault TooDeep else Fault Unexpected) → Reads read (Err e) ts
refused {A = A} read q ts true e h k m = subst (λ (x : Failed). Reads read (Err x) ts) (sym m) (h ∙ ap (λ (b : Bool). refusal {A = A} ts b) (sym k))
refused {A = A} read q ts false e h k m = subst (λ (x : Failed). Reads read (Err x) ts) (sym m) (h ∙ ap (λ (b : Bool). refusal {A = A} ts b) (sym k))

none_part : (p : Part) (ts : Tokens) → part_of (within 64 0) p ts ≡ not_taken (begins_part p) ts
unfolding within
none_part (part.Whole in_allowed) ts = refl
none_part part.Operand ts = refl
none_part part.Target ts = refl
none_part part.Callee ts = refl
none_part part.NewTarget ts = refl

pub no_part : (levels : ℕ) (p : Part) (ts : Tokens) → levels ≡ 0 → part_of (within 64 levels) p ts ≡ not_taken (begins_part p) ts
no_part levels p ts e = ap (λ (n : ℕ). part_of (within 64 n) p ts) e ∙ none_part p ts

none_form : (x : Form) (f l : Bool) (ts : Tokens) → form_of (within 64 0) x f l ts ≡ not_taken (begins_form x f l) ts
unfolding within
none_form form.Any f l ts = refl
none_form form.Block f l ts = refl

pub no_form : (levels : ℕ) (x : Form) (f l : Bool) (ts : Tokens) → levels ≡ 0 → form_of (within 64 levels) x f l ts ≡ not_taken (begins_form x f l) ts
no_form levels x f l ts e = ap (λ (n : ℕ). form_of (within 64 n) x f l ts) e ∙ none_form x f l ts

-- what reads the part of the level below reads the part
pub reads_part : (levels : ℕ) (p q : Part) (ts : Tokens) (r : Result Expr Failed) (left : Tokens) → 0 < levels → p ≡ q → Reads (part_of (within 64 (suc (levels - 1))) q ts) r left → Reads (part_of (within 64 levels) p ts) r left
reads_part levels p q ts r left some e h =
    subst (λ (o : Outcome Expr). Reads o r left) (sym (deeper (λ (n : ℕ). part_of (within 64 n) p ts) levels some ∙ ap (λ (x : Part). part_of (within 64 (suc (levels - 1))) x ts) e)) h

pub reads_form : (levels : ℕ) (x y : Form) (f l : Bool) (ts : Tokens) (r : Result Stmt Failed) (left : Tokens) → 0 < levels → x ≡ y → Reads (form_of (within 64 (suc (levels - 1))) y f l ts) r left → Reads (form_of (within 64 levels) x f l ts) r left
reads_form levels x y f l ts r left some e h =
    subst (λ (o : Outcome Stmt). Reads o r left) (sym (deeper (λ (n : ℕ). form_of (within 64 n) x f l ts) levels some ∙ ap (λ (z : Form). form_of (within 64 (suc (levels - 1))) z f l ts) e)) h
