-- The expressions of a small form, told from their last token to their first.
use Rattle.std.proofs.Common.{◌≡◌, ℕ, ◌≤◌, zero, suc, true, false, ◌&&◌, List, [], ◌∷◌, length, refl, sym, ap, subst, ◌∙◌, arith}
use Rattle.base_text.specs.declared.operators.BinaryOp.TheVariants as operator
use Rattle.js_syntax.specs.declared.token.Token.{Token}
use Rattle.js_syntax.specs.declared.symbol.Symbol.{Symbol}
use Rattle.js_syntax.specs.declared.symbol.Symbol.TheVariants as s
use Rattle.js_syntax.specs.declared.tree.Expr.{Expr}
use Rattle.js_syntax.specs.declared.tree.Expr.TheVariants as ex
use Rattle.js_syntax.specs.Symbols.{Tokens, among, is, symbol_of}
use Rattle.js_syntax.specs.Spelling.{Links, no_more, link, single}
use Rattle.js_syntax.specs.Words.{leaves, leaf_of, member_names, suffixes, operators, operation, assignments, assignment, is_target}
use Rattle.js_syntax.specs.Grammar.{Parts, arguments, Primary, leaf, primary, Suffix, member, call, Suffixed, suffixed, plain, Operand, operand, chain, Binary, Conditional, unconditional, Assign, assigned, unassigned}
use Rattle.js_syntax.specs.declared.limits.TheConstants.{CHAIN_LIMIT}
use Rattle.js_syntax.specs.TokenScalars.{Scalars}
use Rattle.small_forms.specs.declared.script.Part.{Part}
use Rattle.small_scripts.specs.Trees.{part_expr, added}
use Rattle.small_scripts.proofs.Front.{Led, led, Then}
use Rattle.small_scripts.proofs.Ends.{tells, Lacks, EndsPart, EndsTarget, EndsWhole, no_postfix, not_assigned}

-- ---- suffixes

-- so many suffixes at most make this of that
abbrev pub Goes : Parts → ℕ → Expr → Expr → Tokens → Tokens → Type 0
Goes P n a b = Links (among suffixes) (Suffix P) n a b

pub goes_no_further : (P : Parts) (n : ℕ) (a : Expr) (Q : Tokens → Type 0) (ts : Tokens) → Lacks suffixes ts → Q ts → Then (Goes P n a a) Q ts
goes_no_further P n a Q ts h q = (ts, no_more h, q)

member_link : (P : Parts) (n : ℕ) (w : Scalars) (a b : Expr) (t u : Token) (ts rest : Tokens) → symbol_of t ≡ s.Dot → symbol_of u ≡ s.Name → u.text ≡ w → Goes P n (ex.Member a w) b ts rest → Goes P (suc n) a b (t ∷ (u ∷ ts)) rest
member_link P n w a b t u ts rest e f same more =
    link (tells suffixes t s.Dot true e refl)
    (member (tells (s.Dot ∷ []) t s.Dot true e refl) (tells member_names u s.Name true f refl))
    (subst (λ (v : Scalars). Goes P n (ex.Member a v) b ts rest) (sym same) more)

pub goes_to_member : (P : Parts) (n : ℕ) (w dot : Scalars) (a b : Expr) (Q : Tokens → Type 0) (ts : Tokens) → Led s.Dot dot (Led s.Name w (Then (Goes P n (ex.Member a w) b) Q)) ts → Then (Goes P (suc n) a b) Q ts
goes_to_member P n w dot a b Q ts (led t more e d (led u mid f same q)) = (q.0, member_link P n w a b t u mid q.0 e f same q.1, q.2)

call_link : (P : Parts) (n : ℕ) (a b c : Expr) (t u : Token) (ts mid rest : Tokens) → symbol_of t ≡ s.OpenParen → symbol_of u ≡ s.CloseParen → P.expr true c ts (u ∷ mid) → Goes P n (ex.Call a (c ∷ [])) b mid rest → Goes P (suc n) a b (t ∷ ts) rest
call_link P n a b c t u ts mid rest e f item more =
    link (tells suffixes t s.OpenParen true e refl)
    (call (tells (s.OpenParen ∷ []) t s.OpenParen true e refl) (arguments (single item (tells (s.Comma ∷ []) u s.CloseParen false f refl)) (tells (s.CloseParen ∷ []) u s.CloseParen true f refl)))
    more

closed : (P : Parts) (n : ℕ) (close : Scalars) (a b c : Expr) (Q : Tokens → Type 0) (t : Token) (ts mid : Tokens) → symbol_of t ≡ s.OpenParen → P.expr true c ts mid → Led s.CloseParen close (Then (Goes P n (ex.Call a (c ∷ [])) b) Q) mid
    → Then (Goes P (suc n) a b) Q (t ∷ ts)
closed P n close a b c Q t ts mid e item (led u more f same q) = (q.0, call_link P n a b c t u ts more q.0 e f item q.1, q.2)

pub goes_to_call : (P : Parts) (n : ℕ) (open_ close : Scalars) (a b c : Expr) (Q : Tokens → Type 0) (ts : Tokens)
    → Led s.OpenParen open_ (Then (P.expr true c) (Led s.CloseParen close (Then (Goes P n (ex.Call a (c ∷ [])) b) Q))) ts → Then (Goes P (suc n) a b) Q ts
goes_to_call P n open_ close a b c Q ts (led t more e same q) = closed P n close a b c Q t more q.0 e q.1 q.2

-- ---- an expression of one token, with its suffixes

leaf_first : (P : Parts) (x : Symbol) (w : Scalars) (a : Expr) (t : Token) (ts : Tokens) → leaf_of x w ≡ a → among leaves t ≡ true → symbol_of t ≡ x → t.text ≡ w → Primary P a (t ∷ ts) ts
leaf_first P x w a t ts is h e same =
    subst (λ (b : Expr). Primary P b (t ∷ ts) ts) (ap (λ (y : Symbol). leaf_of y t.text) e ∙ ap (leaf_of x) same ∙ is) (leaf h)

pub begins : (P : Parts) (x : Symbol) (w : Scalars) (a b : Expr) (Q : Tokens → Type 0) → leaf_of x w ≡ a → ((t : Token) → symbol_of t ≡ x → among leaves t ≡ true) → (ts : Tokens) → Led x w (Then (Goes P CHAIN_LIMIT a b) Q) ts
    → Then (Suffixed CHAIN_LIMIT P b) Q ts
begins P x w a b Q is leaf_is ts (led t more e same q) = (q.0, suffixed (primary (leaf_first P x w a t more is (leaf_is t e) e same)) q.1, q.2)

pub name_leaf : (t : Token) → symbol_of t ≡ s.Name → among leaves t ≡ true
name_leaf t e = tells leaves t s.Name true e refl

pub number_leaf : (t : Token) → symbol_of t ≡ s.Number → among leaves t ≡ true
number_leaf t e = tells leaves t s.Number true e refl

pub text_leaf : (t : Token) → symbol_of t ≡ s.Str → among leaves t ≡ true
text_leaf t e = tells leaves t s.Str true e refl

-- ---- sums

part_of : (P : Parts) (a : Expr) (ts rest : Tokens) → EndsPart rest → Suffixed CHAIN_LIMIT P a ts rest → Binary CHAIN_LIMIT P true 1 a ts rest
part_of P a ts rest ends x = chain (plain x (no_postfix a rest ends.no_update)) (no_more ends.no_product)

pub is_part : (P : Parts) (a : Expr) (Q : Tokens → Type 0) (ts : Tokens) → ((rest : Tokens) → Q rest → EndsPart rest) → Then (Suffixed CHAIN_LIMIT P a) Q ts → Then (Binary CHAIN_LIMIT P true 1 a) Q ts
is_part P a Q ts ends x = (x.0, part_of P a ts x.0 (ends x.0 x.2) x.1, x.2)

-- these parts are added to whichever value
abbrev pub Added : Parts → List Part → Tokens → Tokens → Type 0
Added P parts ts rest = (n : ℕ) (a : Expr) → length parts ≤ n → Links (among (operators true 1)) (Operand (Binary CHAIN_LIMIT P true 1)) n a (added a parts) ts rest

pub none_added : (P : Parts) (Q : Tokens → Type 0) (ts : Tokens) → Lacks (operators true 1) ts → Q ts → Then (Added P []) Q ts
none_added P Q ts h q = (ts, λ n a few. no_more h, q)

one_more : (P : Parts) (part : Part) (parts : List Part) (t : Token) (ts mid rest : Tokens) → symbol_of t ≡ s.Plus → Binary CHAIN_LIMIT P true 1 (part_expr part) ts mid → Added P parts mid rest
    → (n : ℕ) (a : Expr) → length (part ∷ parts) ≤ n → Links (among (operators true 1)) (Operand (Binary CHAIN_LIMIT P true 1)) n a (added a (part ∷ parts)) (t ∷ ts) rest
one_more P part parts t ts mid rest e item more zero a few = absurd (omega arith)
one_more P part parts t ts mid rest e item more (suc n) a few =
    link (tells (operators true 1) t s.Plus true e refl)
    (subst (λ (b : Expr). Operand (Binary CHAIN_LIMIT P true 1) t a b ts mid) (ap (λ (x : Symbol). operation x a (part_expr part)) e) (operand item))
    (more n (ex.Binary operator.Add a (part_expr part)) (omega arith))

pub one_added : (P : Parts) (part : Part) (parts : List Part) (plus : Scalars) (Q : Tokens → Type 0) (ts : Tokens)
    → Led s.Plus plus (Then (Binary CHAIN_LIMIT P true 1 (part_expr part)) (Then (Added P parts) Q)) ts → Then (Added P (part ∷ parts)) Q ts
one_added P part parts plus Q ts (led t more e same q) = (q.2.0, one_more P part parts t more q.0 q.2.0 e q.1 q.2.1, q.2.2)

-- ---- whole expressions

levels : (P : Parts) (a : Expr) (ts rest : Tokens) → EndsTarget rest → Binary CHAIN_LIMIT P true 2 a ts rest → Conditional CHAIN_LIMIT P true a ts rest
levels P a ts rest ends x =
    unconditional (chain (chain (chain (chain x (no_more ends.no_order)) (no_more ends.no_equality)) (no_more ends.no_and)) (no_more ends.no_or)) ends.no_question

whole : (P : Parts) (a : Expr) (ts rest : Tokens) → EndsWhole rest → Binary CHAIN_LIMIT P true 2 a ts rest → Assign CHAIN_LIMIT P true a ts rest
whole P a ts rest ends x = unassigned (levels P a ts rest ends.target x) (not_assigned a rest ends.no_assignment)

alone : (P : Parts) (a : Expr) (ts rest : Tokens) → EndsTarget rest → Suffixed CHAIN_LIMIT P a ts rest → Binary CHAIN_LIMIT P true 2 a ts rest
alone P a ts rest ends x = chain (part_of P a ts rest ends.part x) (no_more ends.no_sum)

pub is_whole : (P : Parts) (a : Expr) (Q : Tokens → Type 0) (ts : Tokens) → ((rest : Tokens) → Q rest → EndsWhole rest) → Then (Suffixed CHAIN_LIMIT P a) Q ts → Then (Assign CHAIN_LIMIT P true a) Q ts
is_whole P a Q ts ends x = let e = ends x.0 x.2 in (x.0, whole P a ts x.0 e (alone P a ts x.0 e.target x.1), x.2)

pub is_sum : (P : Parts) (first : Part) (more : List Part) (Q : Tokens → Type 0) (ts : Tokens) → ((rest : Tokens) → Q rest → EndsWhole rest) → length more ≤ CHAIN_LIMIT
    → Then (Binary CHAIN_LIMIT P true 1 (part_expr first)) (Then (Added P more) Q) ts → Then (Assign CHAIN_LIMIT P true (added (part_expr first) more)) Q ts
is_sum P first more Q ts ends few x =
    let added_ = x.2 in
    (added_.0, whole P (added (part_expr first) more) ts added_.0 (ends added_.0 added_.2) (chain x.1 (added_.1 CHAIN_LIMIT (part_expr first) few)), added_.2)

set : (P : Parts) (a b : Expr) (assign : Scalars) (Q : Tokens → Type 0) (ts mid : Tokens) → is_target a ≡ true → EndsTarget mid → Suffixed CHAIN_LIMIT P a ts mid → Led s.Assign assign (Then (P.expr true b) Q) mid
    → Then (Assign CHAIN_LIMIT P true (ex.Assign a b)) Q ts
set P a b assign Q ts mid target ends x (led t more e same q) = (
  q.0,
  subst (λ (c : Expr). Assign CHAIN_LIMIT P true c ts q.0) (ap (λ (y : Symbol). assignment y a b) e)
      (assigned (levels P a ts (t ∷ more) ends (alone P a ts (t ∷ more) ends x)) (ap (λ c. c && is_target a) (tells assignments t s.Assign true e refl) ∙ target) q.1),
  q.2,
)

pub is_set : (P : Parts) (a b : Expr) (assign : Scalars) (Q : Tokens → Type 0) (ts : Tokens) → is_target a ≡ true → ((mid : Tokens) → Led s.Assign assign (Then (P.expr true b) Q) mid → EndsTarget mid)
    → Then (Suffixed CHAIN_LIMIT P a) (Led s.Assign assign (Then (P.expr true b) Q)) ts → Then (Assign CHAIN_LIMIT P true (ex.Assign a b)) Q ts
is_set P a b assign Q ts target ends x = set P a b assign Q ts x.0 target (ends x.0 x.2) x.1 x.2
