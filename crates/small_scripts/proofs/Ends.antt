-- Where a form ends: what the next token doesn't go on with.
use Rattle.std.proofs.Common.{◌≡◌, Bool, true, false, ◌&&◌, ◌==◌, ◌||◌, not, List, [], ◌∷◌, refl, ap, ap₂, ◌∙◌}
use Rattle.js_syntax.specs.declared.token.Token.{Token}
use Rattle.js_syntax.specs.declared.symbol.Symbol.{Symbol}
use Rattle.js_syntax.specs.declared.symbol.Symbol.TheVariants as s
use Rattle.js_syntax.specs.declared.tree.Expr.{Expr}
use Rattle.js_syntax.specs.Symbols.{Tokens, next, among, sees, symbol_of, number}
use Rattle.js_syntax.specs.Words.{suffixes, updates, operators, assignments, is_target, is_postfix, assigns}
use Rattle.js_syntax.specs.TokenScalars.{Scalars}
use Rattle.small_scripts.proofs.Front.{Led, led}

-- whether a symbol is one of these
abbrev pub one_of : List Symbol → Symbol → Bool
one_of [] x = false
one_of (y ∷ []) x = number x == number y
one_of (y ∷ (z ∷ ys)) x = (number x == number y) || one_of (z ∷ ys) x

among_is : (xs : List Symbol) (t : Token) (x : Symbol) → symbol_of t ≡ x → among xs t ≡ one_of xs x
among_is [] t x e = refl
among_is (y ∷ []) t x e = ap (λ z. number z == number y) e
among_is (y ∷ (z ∷ ys)) t x e = ap₂ ◌||◌ (ap (λ w. number w == number y) e) (among_is (z ∷ ys) t x e)

-- what a token of this symbol is among
pub tells : (xs : List Symbol) (t : Token) (x : Symbol) (b : Bool) → symbol_of t ≡ x → one_of xs x ≡ b → among xs t ≡ b
tells xs t x b e h = among_is xs t x e ∙ h

-- the next token isn't one of these
abbrev pub Lacks : List Symbol → Tokens → Type 0
Lacks xs ts = sees (among xs) (next ts) ≡ false

pub led_lacks : (xs : List Symbol) (x : Symbol) (text : Scalars) (Q : Tokens → Type 0) (ts : Tokens) → one_of xs x ≡ false → Led x text Q ts → Lacks xs ts
led_lacks xs x text Q ts h (led t more e same q) = tells xs t x false e h

-- a part ends here: no suffix, no `++` and no stronger operator goes on with it
pub record EndsPart (ts : Tokens) : Type 0 where
  pub no_suffix : Lacks suffixes ts
  pub no_update : Lacks updates ts
  pub no_product : Lacks (operators true 0) ts

-- what is assigned to ends here
pub record EndsTarget (ts : Tokens) : Type 0 where
  pub part : EndsPart ts
  pub no_sum : Lacks (operators true 1) ts
  pub no_order : Lacks (operators true 2) ts
  pub no_equality : Lacks (operators true 3) ts
  pub no_and : Lacks (operators true 4) ts
  pub no_or : Lacks (operators true 5) ts
  pub no_question : Lacks (s.Question ∷ []) ts

-- an expression ends here
pub record EndsWhole (ts : Tokens) : Type 0 where
  pub target : EndsTarget ts
  pub no_assignment : Lacks assignments ts

pub plus_ends : (text : Scalars) (Q : Tokens → Type 0) (ts : Tokens) → Led s.Plus text Q ts → EndsPart ts
plus_ends text Q ts l = record {
  no_suffix = led_lacks suffixes s.Plus text Q ts refl l;
  no_update = led_lacks updates s.Plus text Q ts refl l;
  no_product = led_lacks (operators true 0) s.Plus text Q ts refl l;
}

-- none of these goes on with what is assigned to
record IsStop (x : Symbol) : Type 0 where
  no_suffix : one_of suffixes x ≡ false
  no_update : one_of updates x ≡ false
  no_product : one_of (operators true 0) x ≡ false
  no_sum : one_of (operators true 1) x ≡ false
  no_order : one_of (operators true 2) x ≡ false
  no_equality : one_of (operators true 3) x ≡ false
  no_and : one_of (operators true 4) x ≡ false
  no_or : one_of (operators true 5) x ≡ false
  no_question : one_of (s.Question ∷ []) x ≡ false

stop_ends : (x : Symbol) (text : Scalars) (Q : Tokens → Type 0) (ts : Tokens) → IsStop x → Led x text Q ts → EndsTarget ts
stop_ends x text Q ts k l = record {
  part = record {
    no_suffix = led_lacks suffixes x text Q ts k.no_suffix l;
    no_update = led_lacks updates x text Q ts k.no_update l;
    no_product = led_lacks (operators true 0) x text Q ts k.no_product l;
  };
  no_sum = led_lacks (operators true 1) x text Q ts k.no_sum l;
  no_order = led_lacks (operators true 2) x text Q ts k.no_order l;
  no_equality = led_lacks (operators true 3) x text Q ts k.no_equality l;
  no_and = led_lacks (operators true 4) x text Q ts k.no_and l;
  no_or = led_lacks (operators true 5) x text Q ts k.no_or l;
  no_question = led_lacks (s.Question ∷ []) x text Q ts k.no_question l;
}

pub assign_ends : (text : Scalars) (Q : Tokens → Type 0) (ts : Tokens) → Led s.Assign text Q ts → EndsTarget ts
assign_ends text Q ts =
    stop_ends s.Assign text Q ts (record { no_suffix = refl; no_update = refl; no_product = refl; no_sum = refl; no_order = refl; no_equality = refl; no_and = refl; no_or = refl; no_question = refl })

pub close_ends : (text : Scalars) (Q : Tokens → Type 0) (ts : Tokens) → Led s.CloseParen text Q ts → EndsWhole ts
close_ends text Q ts l = record {
  target = stop_ends s.CloseParen text Q ts (record { no_suffix = refl; no_update = refl; no_product = refl; no_sum = refl; no_order = refl; no_equality = refl; no_and = refl; no_or = refl; no_question = refl }) l;
  no_assignment = led_lacks assignments s.CloseParen text Q ts refl l;
}

pub semicolon_ends : (text : Scalars) (Q : Tokens → Type 0) (ts : Tokens) → Led s.Semicolon text Q ts → EndsWhole ts
semicolon_ends text Q ts l = record {
  target = stop_ends s.Semicolon text Q ts (record { no_suffix = refl; no_update = refl; no_product = refl; no_sum = refl; no_order = refl; no_equality = refl; no_and = refl; no_or = refl; no_question = refl }) l;
  no_assignment = led_lacks assignments s.Semicolon text Q ts refl l;
}

pub no_postfix : (a : Expr) (ts : Tokens) → Lacks updates ts → sees (is_postfix a) (next ts) ≡ false
no_postfix a [] h = refl
no_postfix a (t ∷ ts) h = ap (λ b. b && (not t.line_before && is_target a)) h

pub not_assigned : (a : Expr) (ts : Tokens) → Lacks assignments ts → sees (assigns a) (next ts) ≡ false
not_assigned a [] h = refl
not_assigned a (t ∷ ts) h = ap (λ b. b && is_target a) h
