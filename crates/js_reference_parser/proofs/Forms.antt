-- Expressions: the laws of each form, and that it is what the grammar says.
use Rattle.std.proofs.Common.{◌≡◌, ◌||◌, ◌&&◌, ℕ, zero, suc, ◌+◌, ◌<◌, ◌≤◌, Bool, true, false, not, cond, List, [], ◌∷◌, Option, Some, None, Ok, Err, refl, ap, ◌∙◌, arith}
use Rattle.js_syntax.specs.declared.token.Token.{Token}
use Rattle.js_syntax.specs.declared.symbol.Symbol.{Symbol}
use Rattle.js_syntax.specs.declared.symbol.Symbol.TheVariants as s
use Rattle.js_syntax.specs.declared.parse_fault.ParseKind.TheVariants.{Unexpected}
use Rattle.js_syntax.specs.declared.tree.Expr.{Expr}
use Rattle.js_syntax.specs.declared.tree.Expr.TheVariants as ex
use Rattle.js_syntax.specs.declared.tree.Property.{Property}
use Rattle.js_syntax.specs.declared.tree.Function.{Function}
use Rattle.js_syntax.specs.declared.tree.Stmt.{Stmt}
use Rattle.js_syntax.specs.Symbols.{Tokens, next, is, among, sees, stops, symbol_of}
use Rattle.js_syntax.specs.Spelling.{Spelling, Both, both, Each, Links, Listed, Separated}
use Rattle.js_syntax.specs.Spelling as sp
use Rattle.js_syntax.specs.Words.{names, member_names, keys, leaves, leaf_of, is_target, suffixes, member_suffixes, updates, update_of, is_postfix, prefixes, prefixed, operators, operation, assignments, assignment, assigns, closes_body}
use Rattle.js_syntax.specs.Grammar.{Parts, is_known, Names, Parameters, Body, Lambda, Named, Arguments, Primary, New, Base, Suffix, Suffixed, Callee, Unary, Operand, Chain, Binary, Conditional, Assign, Member, Ends, EndOfJump, Block, Declared, Condition, ElseClause, Optional, Start, Target, Handlers, Statement, LEVELS_OF_CHAINS, not_first, parts_within}
use Rattle.js_syntax.specs.Grammar as g
use Rattle.js_combinators.specs.Readers.{Reader, and_then, ◌>>=◌, pure, refuse, on, expect, repeat, chain, begin, above}
use Rattle.js_combinators.proofs.Laws.{Opens}
use Rattle.js_combinators.proofs.Sets.{Follow, May, within, past, may_past, plain, apart, subset, among_apart, among_subset, sees_apart, sees_subset, and_within, among_subset_one}
use Rattle.js_combinators.proofs.Spells.{Same, same, made, Nothing, On, took, passed, on_passes, Above, positive}
use Rattle.js_combinators.proofs.Good.{Good, Part, part_of, good_of, part_lifted, lifted, good_as, part_as, anywhere, good_pure, part_refuse, good_then, part_on, part_begin, good_option, good_begin_option, Taken, taken, good_expect, good_chain}
use Rattle.js_combinators.proofs.Loops.{denies, chain_ends}
use Rattle.js_combinators.proofs.Begin.{Begins, begins_bind}
use Rattle.js_combinators.proofs.Laws.{Any}
use Rattle.js_combinators.proofs.More.{good_under, opens_took, begin_passes, part_above}
use Rattle.js_reference_parser.specs.ExpressionsModel.{Inside, closed, separated, each, listed, body, lambda, named, expr_firsts, base_firsts, primary_firsts, arguments, primary, new, base, member_of, index_of, call_of, suffix, denied, suffixed, callee, postfix, unary, operand_of, chained, binary, conditional_branches, conditional, assign, else_branch}
use Rattle.js_reference_parser.proofs.Samples.{close, open_token, close_bracket, open_brace, close_brace, colon, dollar, is_close, is_open, is_close_bracket, is_open_brace, is_close_brace, is_colon, is_name}
use Rattle.js_reference_parser.specs.ExpressionsModel.{not_comma, next_item}
use Rattle.js_reference_parser.proofs.Lists.{closer, ender, good_others, Closed, closed_by, good_closed, good_each, good_separated, good_listed, good_parameters, close_opens}

-- what is known of the parts one level deeper: their readers i, the same at wider limits, and what they spell
pub record Inner (p : Bool) (left left' : ℕ) (P : Parts) (Applied : Spelling Expr) (i i' : Inside) : Type 0 where
  pub grows : p ≡ true → positive left' ≡ true
  pub expr : (b : Bool) → Part p true true true closer (P.expr b) (i.expr b) (i'.expr b)
  pub expr_good : (b : Bool) → Good p (positive left) (positive left') true None closer (P.expr b) (i.expr b) (i'.expr b)
  pub expr_starts : (b : Bool) (a : Expr) (ts rest : Tokens) → P.expr b a ts rest → sees (among expr_firsts) (next ts) ≡ true
  pub expr_begins : p ≡ true → (b : Bool) → Begins (among expr_firsts) (i'.expr b)
  pub operand : Good p (positive left) (positive left') true None closer P.operand i.operand i'.operand
  pub target : Good p (positive left) (positive left') true None closer (λ a ts rest. P.operand a ts rest × (is_target a ≡ true)) i.target i'.target
  pub callee : Good p (positive left) (positive left') true None closer P.callee i.callee i'.callee
  pub new_target : Good p (positive left) (positive left') true None (Some (s.OpenParen ∷ [])) Applied i.new_target i'.new_target
  pub applied_is : (a : Expr) (ts rest : Tokens) → Applied a ts rest → P.callee a ts rest
  pub is_applied : (a : Expr) (ts : Tokens) (o : Token) (rest : Tokens) → P.callee a ts (o ∷ rest) → is s.OpenParen o ≡ true → Applied a ts (o ∷ rest)
  pub callee_ends : (a : Expr) (ts rest : Tokens) → P.callee a ts rest → sees (among member_suffixes) (next rest) ≡ false
  pub member : Part p true true true closer P.member i.member i'.member
  pub member_starts : (m : Property) (ts rest : Tokens) → P.member m ts rest → sees (among keys) (next ts) ≡ true
  pub stmt : (f l : Bool) → Part p true true true ender (P.stmt f l) (i.stmt f l) (i'.stmt f l)
  pub stmt_good : (f l : Bool) → Good p (positive left) (positive left') true None ender (P.stmt f l) (i.stmt f l) (i'.stmt f l)
  pub stmt_starts : (f l : Bool) (x : Stmt) (ts rest : Tokens) → P.stmt f l x ts rest → stops closes_body (next ts) ≡ false
  pub block : (f l : Bool) → Good p (positive left) (positive left') true None None (P.block f l) (i.block f l) (i'.block f l)
  pub deeper : positive left ≡ true → P.deeper
  pub is_deeper : P.deeper → positive left ≡ true
  pub some_expr : (b : Bool) (a : Expr) (ts rest : Tokens) → P.expr b a ts rest → positive left ≡ true
  pub some_operand : (a : Expr) (ts rest : Tokens) → P.operand a ts rest → positive left ≡ true
  pub some_callee : (a : Expr) (ts rest : Tokens) → P.callee a ts rest → positive left ≡ true
  pub some_stmt : (f l : Bool) (x : Stmt) (ts rest : Tokens) → P.stmt f l x ts rest → positive left ≡ true
  pub some_block : (f l : Bool) (x : Stmt) (ts rest : Tokens) → P.block f l x ts rest → positive left ≡ true

module _ (p : Bool) (left left' : ℕ) (P : Parts) (Applied : Spelling Expr) (i i' : Inside) (inner : Inner p left left' P Applied i i') where
  -- ---- functions

  ender_stops : (rest : Tokens) → May ender rest → stops closes_body (next rest) ≡ true
  ender_stops [] m = refl
  ender_stops (t ∷ rest) m = m

  pub good_statements : {o o' : Bool} (f l : Bool) → Good p o o' false ender ender (Each closes_body (P.stmt f l)) (each closes_body (i.stmt f l)) (each closes_body (i'.stmt f l))
  good_statements f l = good_each closes_body ender_stops refl (part_lifted (inner.stmt f l)) (inner.stmt_starts f l)

  pub good_braced : {o o' : Bool} {F : Follow} (f l : Bool) → Good p o o' true None F (Closed s.CloseBrace (Each closes_body (P.stmt f l))) (closed s.CloseBrace (each closes_body (i.stmt f l))) (closed s.CloseBrace (each closes_body (i'.stmt f l)))
  good_braced f l = anywhere (good_closed s.CloseBrace close_brace is_close_brace refl refl (good_statements f l))

  body_to : (xs : List Stmt) (ts rest : Tokens) → Both (Taken s.OpenBrace) (λ u. Closed s.CloseBrace (Each closes_body (P.stmt true false))) xs ts rest → Body P xs ts rest
  body_to xs ts rest (both (taken h) (closed_by q k)) = g.body h q k

  body_from : (xs : List Stmt) (ts rest : Tokens) → Body P xs ts rest → Both (Taken s.OpenBrace) (λ u. Closed s.CloseBrace (Each closes_body (P.stmt true false))) xs ts rest
  body_from xs ts rest (g.body h q k) = both (taken h) (closed_by q k)

  pub good_body : {o o' : Bool} {F : Follow} → Good p o o' true None F (Body P) (body i) (body i')
  unfolding body
  good_body = good_as (good_then (good_expect {E = None} {F = None} s.OpenBrace open_brace is_open_brace refl refl) (λ u. good_braced true false) refl) body_to body_from

  abbrev the_function : Option (List ℕ) → List (List ℕ) → List Stmt → Function
  the_function n all xs = record { name = n; params = all; body = xs }

  lambda_to : (n : Option (List ℕ)) (f : Function) (ts rest : Tokens) → Both (Taken s.OpenParen) (λ u. Both Parameters (λ all. Both (Body P) (λ xs. Same (the_function n all xs)))) f ts rest → Lambda P n f ts rest
  lambda_to n f ts rest (both (taken h) (both q (both r same))) = g.lambda h q r

  lambda_from : (n : Option (List ℕ)) (f : Function) (ts rest : Tokens) → Lambda P n f ts rest → Both (Taken s.OpenParen) (λ u. Both Parameters (λ all. Both (Body P) (λ xs. Same (the_function n all xs)))) f ts rest
  lambda_from n f ts rest (g.lambda h q r) = both (taken h) (both q (both r same))

  pub good_lambda : {o o' : Bool} {F : Follow} (n : Option (List ℕ)) → Good p o o' true None F (Lambda P n) (lambda i n) (lambda i' n)
  unfolding lambda
  good_lambda n = good_as (good_then (good_expect {E = None} {F = None} s.OpenParen open_token is_open refl refl) (λ u. good_then (good_parameters {F = None}) (λ all. good_then (good_body {F = None}) (λ xs. good_pure {E = None} (the_function n all xs) refl) refl) refl) refl) (lambda_to n) (lambda_from n)

  named_to : (f : Function) (ts rest : Tokens) → On (among names) (λ t. Lambda P (Some t.text)) (Lambda P None) f ts rest → Named P f ts rest
  named_to f ts rest (took h q) = g.with_name h q
  named_to f ts rest (passed h q) = g.without_name h q

  named_from : (f : Function) (ts rest : Tokens) → Named P f ts rest → On (among names) (λ t. Lambda P (Some t.text)) (Lambda P None) f ts rest
  named_from f ts rest (g.with_name h q) = took h q
  named_from f ts rest (g.without_name h q) = passed h q

  dollar_is : among names dollar ≡ true
  dollar_is = among_subset_one names s.Name refl dollar is_name

  pub good_named : {o o' : Bool} {F : Follow} → Good p o o' true None F (Named P) (named i) (named i')
  unfolding named
  good_named {F = F} = good_as (good_of (part_on names (λ t h. h) refl refl (λ t h. good_lambda (Some t.text)) (part_of (good_lambda None)))
      (λ e. opens_took F (among names) (λ t. lambda i (Some t.text)) (lambda i None) dollar dollar_is ((good_lambda {o = true} {o' = true} {F = F} (Some (36 ∷ []))).laws refl).opens)
      (λ e. opens_took F (among names) (λ t. lambda i' (Some t.text)) (lambda i' None) dollar dollar_is ((good_lambda {o = true} {o' = true} {F = F} (Some (36 ∷ []))).laws_w refl).opens)) named_to named_from

  -- ---- primary expressions

  arguments_to : (all : List Expr) (ts rest : Tokens) → On (is s.CloseParen) (λ t. Same []) (Closed s.CloseParen (Separated (P.expr true))) all ts rest → Arguments P all ts rest
  arguments_to all ts rest (took h same) = g.no_arguments h
  arguments_to all ts rest (passed h (closed_by q k)) = g.arguments q k

  separated_starts : (all : List Expr) (ts rest : Tokens) → Separated (P.expr true) all ts rest → sees (among expr_firsts) (next ts) ≡ true
  separated_starts all ts rest (sp.single {a = a} q h) = inner.expr_starts true a ts rest q
  separated_starts all ts rest (sp.several {a = a} {t = t} {mid = mid} q h later) = inner.expr_starts true a ts (t ∷ mid) q

  separated_some : (all : List Expr) (ts rest : Tokens) → Separated (P.expr true) all ts rest → positive left ≡ true
  separated_some all ts rest (sp.single {a = a} q h) = inner.some_expr true a ts rest q
  separated_some all ts rest (sp.several {a = a} {t = t} {mid = mid} q h later) = inner.some_expr true a ts (t ∷ mid) q

  closed_some : (all : List Expr) (ts rest : Tokens) → Closed s.CloseParen (Separated (P.expr true)) all ts rest → positive left ≡ true
  closed_some all ts rest (closed_by {c = c} q h) = separated_some all ts (c ∷ rest) q

  arguments_from : (all : List Expr) (ts rest : Tokens) → Arguments P all ts rest → On (is s.CloseParen) (λ t. Same []) (Closed s.CloseParen (Separated (P.expr true))) all ts rest
  arguments_from all ts rest (g.no_arguments h) = took h same
  arguments_from all ts rest (g.arguments {close_paren = c} q k) = passed (sees_apart expr_firsts (s.CloseParen ∷ []) refl (next ts) (separated_starts all ts (c ∷ rest) q)) (closed_by q k)

  good_some : {F : Follow} → Good p (positive left) (positive left') true None F (Closed s.CloseParen (Separated (P.expr true))) (closed s.CloseParen (separated (i.expr true))) (closed s.CloseParen (separated (i'.expr true)))
  good_some = good_closed s.CloseParen close is_close refl refl (good_separated (inner.expr_good true))

  some_begins : p ≡ true → Begins (among expr_firsts) (closed s.CloseParen (separated (i'.expr true)))
  unfolding separated
  some_begins e = begins_bind (May None) (among expr_firsts) (separated (i'.expr true)) (λ a. expect s.CloseParen >>= λ u. pure a)
      (begins_bind (May closer) (among expr_firsts) (i'.expr true) (λ a. repeat not_comma (next_item (i'.expr true)) (a ∷ [])) (inner.expr_begins e true) (λ a. ((good_others (inner.expr_good true) (a ∷ [])).laws_w (inner.grows e)).sane))
      (λ a. ((good_last {G = None} a).laws refl).sane) where
        good_last : {G : Follow} (a : List Expr) → Good p true true true closer G (Both (Taken s.CloseParen) (λ u. Same a)) (expect s.CloseParen >>= λ u. pure a) (expect s.CloseParen >>= λ u. pure a)
        good_last {G = G} a = good_then (good_expect {E = closer} {F = None} s.CloseParen close is_close refl refl) (λ u. good_pure {E = None} {F = G} a refl) refl

  pub good_arguments : {o o' : Bool} {F : Follow} → Good p o o' true None F (Arguments P) (arguments left i) (arguments left' i')
  unfolding arguments
  good_arguments {F = F} = good_as (lifted (good_of (part_on (s.CloseParen ∷ []) (λ t h. h) refl refl (λ t h. good_pure {E = None} [] refl) (part_above left left' (among expr_firsts) inner.grows some_begins closed_some good_some))
      (λ e. close_opens F [] (above left (among expr_firsts) (closed s.CloseParen (separated (i.expr true))))) (λ e. close_opens F [] (above left' (among expr_firsts) (closed s.CloseParen (separated (i'.expr true))))))) arguments_to arguments_from

  abbrev MadeArray : Spelling Expr
  MadeArray = Both (Listed s.CloseBracket (P.expr true)) (λ all. Same (ex.Array all))

  abbrev MadeObject : Spelling Expr
  MadeObject = Both (Listed s.CloseBrace P.member) (λ all. Same (ex.Object all))

  abbrev MadeFunction : Spelling Expr
  MadeFunction = Both (Named P) (λ f. Same (ex.Function f))

  abbrev AnyPrimary : Spelling Expr
  AnyPrimary = On (among leaves) (λ t. Same (leaf_of (symbol_of t) t.text)) (On (is s.OpenParen) (Above left (λ t. Closed s.CloseParen (P.expr true))) (On (is s.OpenBracket) (λ t. MadeArray) (On (is s.OpenBrace) (λ t. MadeObject) (On (is s.Function) (Above left (λ t. MadeFunction)) Nothing))))

  primary_to : (a : Expr) (ts rest : Tokens) → AnyPrimary a ts rest → Primary P a ts rest
  primary_to a ts rest (took h q) = made (Primary P) q (g.leaf h)
  primary_to a ts rest (passed h1 (took h (e, closed_by q k))) = g.group h q k
  primary_to a ts rest (passed h1 (passed h2 (took h (both q e)))) = made (Primary P) e (g.array h q)
  primary_to a ts rest (passed h1 (passed h2 (passed h3 (took h (both q e))))) = made (Primary P) e (g.object h q)
  primary_to a ts rest (passed h1 (passed h2 (passed h3 (passed h4 (took h (u, both q e)))))) = made (Primary P) e (g.function (inner.deeper u) h q)
  primary_to a ts rest (passed h1 (passed h2 (passed h3 (passed h4 (passed h5 none))))) = absurd none

  -- a token of one kind is none of another
  pub off : (x : Symbol) (ys : List Symbol) → apart (x ∷ []) ys ≡ true → (t : Token) → is x t ≡ true → among ys t ≡ false
  off x ys h t e = among_apart (x ∷ []) ys h t e

  primary_from : (a : Expr) (ts rest : Tokens) → Primary P a ts rest → AnyPrimary a ts rest
  primary_from a ts rest (g.leaf h) = took h same
  primary_from a ts rest (g.group {open_paren = o} {close_paren = c} {inner = b} {tokens = us} h q k) = passed (off s.OpenParen leaves refl o h) (took h (inner.some_expr true b us (c ∷ rest) q, closed_by q k))
  primary_from a ts rest (g.array {open_bracket = o} h q) = passed (off s.OpenBracket leaves refl o h) (passed (off s.OpenBracket (s.OpenParen ∷ []) refl o h) (took h (both q same)))
  primary_from a ts rest (g.object {open_brace = o} h q) = passed (off s.OpenBrace leaves refl o h) (passed (off s.OpenBrace (s.OpenParen ∷ []) refl o h) (passed (off s.OpenBrace (s.OpenBracket ∷ []) refl o h) (took h (both q same))))
  primary_from a ts rest (g.function {keyword = t} d h q) = passed (off s.Function leaves refl t h) (passed (off s.Function (s.OpenParen ∷ []) refl t h) (passed (off s.Function (s.OpenBracket ∷ []) refl t h) (passed (off s.Function (s.OpenBrace ∷ []) refl t h) (took h (inner.is_deeper d, both q same)))))

  not_stop : (x : Symbol) (xs : List Symbol) → apart xs (x ∷ []) ≡ true → (o : Option Token) → sees (among xs) o ≡ true → stops (is x) o ≡ false
  not_stop x xs h None e = absurd cc
  not_stop x xs h (Some t) e = among_apart xs (x ∷ []) h t e

  pub part_primary : {F : Follow} → Part p true true true F (Primary P) (primary left i) (primary left' i')
  unfolding primary
  part_primary = part_as
      (part_on leaves (λ t h. h) refl refl (λ t h. good_pure {E = None} (leaf_of (symbol_of t) t.text) refl)
      (part_begin left left' inner.grows (s.OpenParen ∷ []) (λ t h. h) refl refl (λ t h. good_closed s.CloseParen close is_close refl refl (inner.expr_good true))
      (part_on (s.OpenBracket ∷ []) (λ t h. h) refl refl (λ t h. good_then (good_listed {G = None} s.CloseBracket close_bracket is_close_bracket refl refl refl refl refl (inner.expr true) (λ a ts rest q. not_stop s.CloseBracket expr_firsts refl (next ts) (inner.expr_starts true a ts rest q))) (λ all. good_pure {E = None} (ex.Array all) refl) refl)
      (part_on (s.OpenBrace ∷ []) (λ t h. h) refl refl (λ t h. good_then (good_listed {G = None} s.CloseBrace close_brace is_close_brace refl refl refl refl refl inner.member (λ m ts rest q. not_stop s.CloseBrace keys refl (next ts) (inner.member_starts m ts rest q))) (λ all. good_pure {E = None} (ex.Object all) refl) refl)
      (part_begin left left' inner.grows (s.Function ∷ []) (λ t h. h) refl refl (λ t h. good_then (good_named {F = None}) (λ f. good_pure {E = None} (ex.Function f) refl) refl)
      part_refuse))))) primary_to primary_from

  pub primary_starts : (a : Expr) (ts rest : Tokens) → Primary P a ts rest → sees (among primary_firsts) (next ts) ≡ true
  primary_starts a ts rest (g.leaf {token = t} h) = among_subset leaves primary_firsts refl t h
  primary_starts a ts rest (g.group {open_paren = o} h q k) = among_subset_one primary_firsts s.OpenParen refl o h
  primary_starts a ts rest (g.array {open_bracket = o} h q) = among_subset_one primary_firsts s.OpenBracket refl o h
  primary_starts a ts rest (g.object {open_brace = o} h q) = among_subset_one primary_firsts s.OpenBrace refl o h
  primary_starts a ts rest (g.function {keyword = t} d h q) = among_subset_one primary_firsts s.Function refl t h

  pub dollar_expr : Expr
  dollar_expr = leaf_of (symbol_of dollar) (36 ∷ [])

  pub dollar_primary : (left : ℕ) (i : Inside) (rest : Tokens) → primary left i (dollar ∷ rest) ≡ Ok (dollar_expr, rest)
  unfolding primary dollar_expr
  dollar_primary left i rest = ap (λ b. cond b (Ok (leaf_of (symbol_of dollar) (36 ∷ []), rest)) (others (dollar ∷ rest))) (among_subset_one leaves s.Name refl dollar is_name) where
    others : Reader Expr
    others = begin left (is s.OpenParen) (λ t. closed s.CloseParen (i.expr true))
        (on (is s.OpenBracket) (λ t. listed s.CloseBracket (i.expr true) >>= λ all. pure (ex.Array all))
        (on (is s.OpenBrace) (λ t. listed s.CloseBrace i.member >>= λ all. pure (ex.Object all))
        (begin left (is s.Function) (λ t. named i >>= λ f. pure (ex.Function f)) (refuse Unexpected))))

  -- ---- new

  new_to : (a : Expr) (ts rest : Tokens) → Both P.callee (λ a. On (is s.OpenParen) (λ t. Both (Arguments P) (λ all. Same (ex.New a all))) (Same (ex.New a []))) a ts rest → New P a ts rest
  new_to a ts rest (both q (took h (both r e))) = made (New P) e (g.with_arguments q h r)
  new_to a ts rest (both q (passed h e)) = made (New P) e (g.without_arguments q (same_seen (is s.OpenParen) e h)) where
    same_seen : {v a : Expr} {mid rest : Tokens} (q : Token → Bool) → Same v a mid rest → sees q (next mid) ≡ false → sees q (next mid) ≡ false
    same_seen q e h = h

  new_from : (a : Expr) (ts rest : Tokens) → New P a ts rest → Both P.callee (λ a. On (is s.OpenParen) (λ t. Both (Arguments P) (λ all. Same (ex.New a all))) (Same (ex.New a []))) a ts rest
  new_from a ts rest (g.with_arguments q h r) = both q (took h (both r same))
  new_from a ts rest (g.without_arguments q h) = both q (passed h same)

  pub good_new : Good p (positive left) (positive left') true None closer (New P) (new left i) (new left' i')
  unfolding new
  good_new = good_as (good_then inner.callee (λ a. good_option (s.OpenParen ∷ []) (λ t h. h) refl refl refl (λ t h. good_then (good_arguments {F = None}) (λ all. good_pure {E = None} (ex.New a all) refl) refl) (ex.New a [])) refl) new_to new_from

  new_some : (a : Expr) (ts rest : Tokens) → New P a ts rest → positive left ≡ true
  new_some a ts rest (g.with_arguments {open_paren = o} {target = b} {after_target = mid} q h r) = inner.some_callee b ts (o ∷ mid) q
  new_some a ts rest (g.without_arguments {target = b} q h) = inner.some_callee b ts rest q

  base_to : (a : Expr) (ts rest : Tokens) → On (is s.New) (Above left (λ t. New P)) (Primary P) a ts rest → Base P a ts rest
  base_to a ts rest (took h (u, q)) = g.new h q
  base_to a ts rest (passed h q) = g.primary q

  base_from : (a : Expr) (ts rest : Tokens) → Base P a ts rest → On (is s.New) (Above left (λ t. New P)) (Primary P) a ts rest
  base_from a ts rest (g.new {tokens = us} h q) = took h (new_some a us rest q, q)
  base_from a ts rest (g.primary q) = passed (sees_apart primary_firsts (s.New ∷ []) refl (next ts) (primary_starts a ts rest q)) q

  base_starts : (a : Expr) (ts rest : Tokens) → Base P a ts rest → sees (among base_firsts) (next ts) ≡ true
  base_starts a ts rest (g.new {keyword = t} h q) = among_subset_one base_firsts s.New refl t h
  base_starts a ts rest (g.primary q) = sees_subset primary_firsts base_firsts refl (next ts) (primary_starts a ts rest q)

  pub dollar_base : (left : ℕ) (i : Inside) (rest : Tokens) → base left i (dollar ∷ rest) ≡ Ok (dollar_expr, rest)
  unfolding base
  dollar_base left i rest = begin_passes left (is s.New) (λ t. new left i) (primary left i) (dollar ∷ rest) (off s.Name (s.New ∷ []) refl dollar is_name) ∙ dollar_primary left i rest

  base_opens : (left : ℕ) (i : Inside) → Opens (May None) (May closer) (base left i)
  base_opens left i = record { more = dollar ∷ []; value = dollar_expr; before = λ rest f. tt; reads = λ rest f. dollar_base left i rest }

  pub good_base : {o o' : Bool} → Good p o o' true None closer (Base P) (base left i) (base left' i')
  unfolding base
  good_base = lifted (good_as (good_of (part_begin left left' inner.grows (s.New ∷ []) (λ t h. h) refl refl (λ t h. good_new) part_primary) (λ e. base_opens left i) (λ e. base_opens left' i')) base_to base_from)

  -- ---- suffixes

  clash : (x y : Symbol) → apart (x ∷ []) (y ∷ []) ≡ true → (t : Token) → is x t ≡ true → is y t ≡ true → ⊥
  clash x y h t e k = let f = off x (y ∷ []) h t e in cc

  dot_to : (t : Token) (a : Expr) → is s.Dot t ≡ true → (b : Expr) (ts rest : Tokens) → On (among member_names) (λ n. Same (ex.Member a n.text)) Nothing b ts rest → Suffix P t a b ts rest
  dot_to t a h b ts rest (took k e) = made (Suffix P t a) e (g.member h k)
  dot_to t a h b ts rest (passed k none) = absurd none

  dot_from : (t : Token) (a : Expr) → is s.Dot t ≡ true → (b : Expr) (ts rest : Tokens) → Suffix P t a b ts rest → On (among member_names) (λ n. Same (ex.Member a n.text)) Nothing b ts rest
  dot_from t a h b ts rest (g.member e k) = took k same
  dot_from t a h b ts rest (g.index e q k) = absurd (clash s.Dot s.OpenBracket refl t h e)
  dot_from t a h b ts rest (g.call e q) = absurd (clash s.Dot s.OpenParen refl t h e)

  bracket_to : (t : Token) (a : Expr) → is s.OpenBracket t ≡ true → (b : Expr) (ts rest : Tokens) → Both (Closed s.CloseBracket (P.expr true)) (λ b. Same (ex.Index a b)) b ts rest → Suffix P t a b ts rest
  bracket_to t a h b ts rest (both (closed_by q k) e) = made (Suffix P t a) e (g.index h q k)

  bracket_from : (t : Token) (a : Expr) → is s.OpenBracket t ≡ true → (b : Expr) (ts rest : Tokens) → Suffix P t a b ts rest → Both (Closed s.CloseBracket (P.expr true)) (λ b. Same (ex.Index a b)) b ts rest
  bracket_from t a h b ts rest (g.member e k) = absurd (clash s.OpenBracket s.Dot refl t h e)
  bracket_from t a h b ts rest (g.index e q k) = both (closed_by q k) same
  bracket_from t a h b ts rest (g.call e q) = absurd (clash s.OpenBracket s.OpenParen refl t h e)

  open_to : (t : Token) (a : Expr) → is s.OpenParen t ≡ true → (b : Expr) (ts rest : Tokens) → Both (Arguments P) (λ all. Same (ex.Call a all)) b ts rest → Suffix P t a b ts rest
  open_to t a h b ts rest (both q e) = made (Suffix P t a) e (g.call h q)

  open_from : (t : Token) (a : Expr) → is s.OpenParen t ≡ true → (b : Expr) (ts rest : Tokens) → Suffix P t a b ts rest → Both (Arguments P) (λ all. Same (ex.Call a all)) b ts rest
  open_from t a h b ts rest (g.member e k) = absurd (clash s.OpenParen s.Dot refl t h e)
  open_from t a h b ts rest (g.index e q k) = absurd (clash s.OpenParen s.OpenBracket refl t h e)
  open_from t a h b ts rest (g.call e q) = both q same

  good_member_of : {o o' : Bool} {F : Follow} (a : Expr) → Good p o o' true None F (On (among member_names) (λ n. Same (ex.Member a n.text)) Nothing) (member_of a) (member_of a)
  unfolding member_of
  good_member_of {F = F} a = good_of (part_on member_names (λ t h. h) refl refl (λ t h. good_pure {E = None} (ex.Member a t.text) refl) part_refuse) (λ e. opens) (λ e. opens) where
    opens : Opens (May None) (May F) (on (among member_names) (λ n. pure (ex.Member a n.text)) (refuse Unexpected))
    opens = record { more = dollar ∷ []; value = ex.Member a (36 ∷ []); before = λ rest f. tt; reads = λ rest f. ap (λ b. cond b (Ok (ex.Member a (36 ∷ []), rest)) (Err (Unexpected, dollar ∷ rest))) (among_subset_one member_names s.Name refl dollar is_name) }

  good_index : {F : Follow} (a : Expr) → Good p (positive left) (positive left') true None F (Both (Closed s.CloseBracket (P.expr true)) (λ b. Same (ex.Index a b))) (index_of i a) (index_of i' a)
  unfolding index_of
  good_index a = good_then (good_closed s.CloseBracket close_bracket is_close_bracket refl refl (inner.expr_good true)) (λ b. good_pure {E = None} (ex.Index a b) refl) refl

  good_call : {o o' : Bool} {F : Follow} (a : Expr) → Good p o o' true None F (Both (Arguments P) (λ all. Same (ex.Call a all))) (call_of left i a) (call_of left' i' a)
  unfolding call_of
  good_call a = good_then (good_arguments {F = None}) (λ all. good_pure {E = None} (ex.Call a all) refl) refl

  undenied : (left : ℕ) (t : Token) → is s.OpenBracket t ≡ true → not (denies (denied left) t) ≡ true → positive left ≡ true
  undenied zero t h e = let f = ap not h in absurd cc
  undenied (suc left) t h e = refl

  third : (a b c : Bool) → (a || (b || c)) ≡ true → a ≡ false → b ≡ false → c ≡ true
  third true b c h e k = absurd cc
  third false true c h e k = absurd cc
  third false false c h e k = h

  good_suffix_at : {F : Follow} (a : Expr) (t : Token) (b c : Bool) → is s.Dot t ≡ b → is s.OpenBracket t ≡ c → among suffixes t ≡ true
      → Good p (not (denies (denied left) t)) (not (denies (denied left') t)) true None F (Suffix P t a) (λ ts. cond b (member_of a ts) (cond c (index_of i a ts) (call_of left i a ts))) (λ ts. cond b (member_of a ts) (cond c (index_of i' a ts) (call_of left' i' a ts)))
  good_suffix_at a t true c h k e = good_as (good_member_of a) (dot_to t a h) (dot_from t a h)
  good_suffix_at a t false true h k e = good_as (good_under (undenied left t k) (undenied left' t k) (good_index a)) (bracket_to t a k) (bracket_from t a k)
  good_suffix_at a t false false h k e = let o = third (is s.Dot t) (is s.OpenBracket t) (is s.OpenParen t) e h k in good_as (good_call a) (open_to t a o) (open_from t a o)

  pub good_suffix : {F : Follow} (a : Expr) (t : Token) → among suffixes t ≡ true → Good p (not (denies (denied left) t)) (not (denies (denied left') t)) true None F (Suffix P t a) (suffix left i a t) (suffix left' i' a t)
  unfolding suffix
  good_suffix a t e = good_suffix_at a t (is s.Dot t) (is s.OpenBracket t) refl refl e

  pub denied_none : (left : ℕ) → positive left ≡ true → denied left ≡ None
  denied_none zero h = absurd cc
  denied_none (suc left) h = refl

  pub denied_inside : (left : ℕ) (xs : List Symbol) → subset (s.OpenBracket ∷ []) xs ≡ true → (t : Token) → denies (denied left) t ≡ true → among xs t ≡ true
  denied_inside zero xs h t e = among_subset (s.OpenBracket ∷ []) xs h t e
  denied_inside (suc left) xs h t e = absurd cc

  pub suffix_kept : (t : Token) (a b : Expr) (ts rest : Tokens) → Suffix P t a b ts rest → denies (denied left) t ≡ false
  suffix_kept t a b ts rest (g.member h k) = kept left h where
    kept : (left : ℕ) → is s.Dot t ≡ true → denies (denied left) t ≡ false
    kept zero h = off s.Dot (s.OpenBracket ∷ []) refl t h
    kept (suc left) h = refl
  suffix_kept t a b ts rest (g.index {close_bracket = c} {key = x} {tokens = us} h q k) = kept left (inner.some_expr true x us (c ∷ rest) q) where
    kept : (left : ℕ) → positive left ≡ true → denies (denied left) t ≡ false
    kept zero h = absurd cc
    kept (suc left) h = refl
  suffix_kept t a b ts rest (g.call h q) = kept left h where
    kept : (left : ℕ) → is s.OpenParen t ≡ true → denies (denied left) t ≡ false
    kept zero h = off s.OpenParen (s.OpenBracket ∷ []) refl t h
    kept (suc left) h = refl

  pub good_links : {o o' : Bool} {E F : Follow} (n n' : ℕ) → (p ≡ true → n < n') → (xs : List Symbol) → subset xs suffixes ≡ true → subset (s.OpenBracket ∷ []) xs ≡ true → plain xs ≡ true → past F xs ≡ true → within F E ≡ true → (a : Expr)
      → Good p o o' false E F (Links (among xs) (Suffix P) n a) (chain n (denied left) (among xs) (suffix left i) a) (chain n' (denied left') (among xs) (suffix left' i') a)
  good_links n n' lt xs h j k l m a = good_chain n n' lt (denied left) (denied left') (λ e. denied_none left' (inner.grows e)) xs (λ t e. e) k l m (denied_inside left xs j) (denied_inside left' xs j)
      (λ a t e. good_suffix a t (among_subset xs suffixes h t e)) (λ t a b ts rest q e. suffix_kept t a b ts rest q) a

  -- ---- chains of so many links

  module _ (chains chains' : ℕ) (lt : p ≡ true → chains + 2 ≤ chains') where
    pub fewer : p ≡ true → chains < chains'
    fewer e = let le = lt e in omega arith

    suffixed_to : (b : Expr) (ts rest : Tokens) → Both (Base P) (λ a. Links (among suffixes) (Suffix P) chains a) b ts rest → Suffixed chains P b ts rest
    suffixed_to b ts rest (both q l) = g.suffixed q l

    suffixed_from : (b : Expr) (ts rest : Tokens) → Suffixed chains P b ts rest → Both (Base P) (λ a. Links (among suffixes) (Suffix P) chains a) b ts rest
    suffixed_from b ts rest (g.suffixed q l) = both q l

    pub good_suffixed : {o o' : Bool} → Good p o o' true None closer (Suffixed chains P) (suffixed chains left i) (suffixed chains' left' i')
    unfolding suffixed
    good_suffixed = good_as (good_then good_base (λ a. good_links chains chains' fewer suffixes refl refl refl refl refl a) refl) suffixed_to suffixed_from

    callee_to : (b : Expr) (ts rest : Tokens) → Both (Base P) (λ a. Links (among member_suffixes) (Suffix P) chains a) b ts rest → Callee chains P b ts rest
    callee_to b ts rest (both q l) = g.callee q l

    callee_from : (b : Expr) (ts rest : Tokens) → Callee chains P b ts rest → Both (Base P) (λ a. Links (among member_suffixes) (Suffix P) chains a) b ts rest
    callee_from b ts rest (g.callee q l) = both q l

    pub good_callee : {o o' : Bool} → Good p o o' true None closer (Callee chains P) (callee chains left i) (callee chains' left' i')
    unfolding callee
    good_callee = good_as (good_then good_base (λ a. good_links chains chains' fewer member_suffixes refl refl refl refl refl a) refl) callee_to callee_from

    suffixed_starts : (a : Expr) (ts rest : Tokens) → Suffixed chains P a ts rest → sees (among base_firsts) (next ts) ≡ true
    suffixed_starts b ts rest (g.suffixed {first = a} {after_first = mid} q l) = base_starts a ts mid q

    dollar_suffixed : (chains left : ℕ) (i : Inside) (rest : Tokens) → May closer rest → suffixed chains left i (dollar ∷ rest) ≡ Ok (dollar_expr, rest)
    unfolding suffixed
    dollar_suffixed chains left i rest m = ap (λ o. and_then o (λ a. chain chains (denied left) (among suffixes) (suffix left i) a)) (dollar_base left i rest)
        ∙ chain_ends Any chains (denied left) (among suffixes) (suffix left i) (outside left) dollar_expr rest (may_past closer (among suffixes) suffixes (λ t h. h) refl rest m) where
          outside : (left : ℕ) (o : Option Token) → sees (among suffixes) o ≡ false → sees (denies (denied left)) o ≡ false
          outside left None h = refl
          outside left (Some t) h = turned (denies (denied left) t) (among suffixes t) (denied_inside left suffixes refl t) h where
            turned : (b c : Bool) → (b ≡ true → c ≡ true) → c ≡ false → b ≡ false
            turned true c f e = let g = f refl in absurd cc
            turned false c f e = refl

    -- ---- operators before and behind an operand

    abbrev PostfixOf : Expr → Spelling Expr
    PostfixOf a = On (is_postfix a) (λ t. Same (ex.Postfix (update_of (symbol_of t)) a)) (Same a)

    abbrev AnyUnary : Spelling Expr
    AnyUnary = On (among prefixes) (Above left (λ t. Both P.operand (λ a. Same (prefixed (symbol_of t) a)))) (On (among updates) (Above left (λ t. Both (λ a ts rest. P.operand a ts rest × (is_target a ≡ true)) (λ a. Same (ex.Prefix (update_of (symbol_of t)) a)))) (Both (Suffixed chains P) PostfixOf))

    unary_to : (a : Expr) (ts rest : Tokens) → AnyUnary a ts rest → Unary chains P a ts rest
    unary_to a ts rest (took h (u, both q e)) = made (Unary chains P) e (g.operated h q)
    unary_to a ts rest (passed h1 (took h (u, both q e))) = made (Unary chains P) e (g.updated h q.0 q.1)
    unary_to a ts rest (passed h1 (passed h2 (both q (took h e)))) = made (Unary chains P) e (g.postfix q h)
    unary_to a ts rest (passed h1 (passed h2 (both q (passed h e)))) = made (Unary chains P) e (g.plain q h)

    unary_from : (a : Expr) (ts rest : Tokens) → Unary chains P a ts rest → AnyUnary a ts rest
    unary_from a ts rest (g.operated {operand = b} {tokens = us} h q) = took h (inner.some_operand b us rest q, both q same)
    unary_from a ts rest (g.updated {operator = t} {operand = b} {tokens = us} h q k) = passed (among_apart updates prefixes refl t h) (took h (inner.some_operand b us rest q, both (q, k) same))
    unary_from a ts rest (g.postfix {operator = t} {operand = b} q h) = let f = suffixed_starts b ts (t ∷ rest) q in passed (sees_apart base_firsts prefixes refl (next ts) f) (passed (sees_apart base_firsts updates refl (next ts) f) (both q (took h same)))
    unary_from a ts rest (g.plain q h) = let f = suffixed_starts a ts rest q in passed (sees_apart base_firsts prefixes refl (next ts) f) (passed (sees_apart base_firsts updates refl (next ts) f) (both q (passed h same)))

    good_postfix : {o o' : Bool} → Good p o o' true None closer (Both (Suffixed chains P) PostfixOf) (postfix chains left i) (postfix chains' left' i')
    unfolding postfix
    good_postfix = good_then good_suffixed (λ a. good_option updates (and_within updates (λ t. not t.line_before && is_target a)) refl refl refl (λ t h. good_pure {E = None} (ex.Postfix (update_of (symbol_of t)) a) refl) a) refl

    dollar_postfix : (chains left : ℕ) (i : Inside) (rest : Tokens) → May closer rest → postfix chains left i (dollar ∷ rest) ≡ Ok (dollar_expr, rest)
    unfolding postfix
    dollar_postfix chains left i rest m = ap (λ o. and_then o (λ a. on (is_postfix a) (λ t. pure (ex.Postfix (update_of (symbol_of t)) a)) (pure a))) (dollar_suffixed chains left i rest m)
        ∙ on_passes (is_postfix dollar_expr) (λ t. pure (ex.Postfix (update_of (symbol_of t)) dollar_expr)) (pure dollar_expr) rest (may_past closer (is_postfix dollar_expr) updates (and_within updates (λ t. not t.line_before && is_target dollar_expr)) refl rest m)

    dollar_unary : (chains left : ℕ) (i : Inside) (rest : Tokens) → May closer rest → unary chains left i (dollar ∷ rest) ≡ Ok (dollar_expr, rest)
    unfolding unary
    dollar_unary chains left i rest m =
        begin_passes left (among prefixes) (λ t. i.operand >>= λ a. pure (prefixed (symbol_of t) a)) (begin left (among updates) (λ t. i.target >>= λ a. pure (ex.Prefix (update_of (symbol_of t)) a)) (postfix chains left i)) (dollar ∷ rest) (off s.Name prefixes refl dollar is_name)
        ∙ begin_passes left (among updates) (λ t. i.target >>= λ a. pure (ex.Prefix (update_of (symbol_of t)) a)) (postfix chains left i) (dollar ∷ rest) (off s.Name updates refl dollar is_name)
        ∙ dollar_postfix chains left i rest m

    unary_opens : (chains left : ℕ) (i : Inside) → Opens (May None) (May closer) (unary chains left i)
    unary_opens chains left i = record { more = dollar ∷ []; value = dollar_expr; before = λ rest f. tt; reads = λ rest f. dollar_unary chains left i rest f }

    pub good_prefix : (t : Token) → Good p (positive left) (positive left') true None closer (Both P.operand (λ a. Same (prefixed (symbol_of t) a))) (i.operand >>= λ a. pure (prefixed (symbol_of t) a)) (i'.operand >>= λ a. pure (prefixed (symbol_of t) a))
    good_prefix t = good_then inner.operand (λ a. good_pure {E = closer} {F = closer} (prefixed (symbol_of t) a) refl) refl

    pub good_update : (t : Token) → Good p (positive left) (positive left') true None closer (Both (λ a ts rest. P.operand a ts rest × (is_target a ≡ true)) (λ a. Same (ex.Prefix (update_of (symbol_of t)) a))) (i.target >>= λ a. pure (ex.Prefix (update_of (symbol_of t)) a)) (i'.target >>= λ a. pure (ex.Prefix (update_of (symbol_of t)) a))
    good_update t = good_then inner.target (λ a. good_pure {E = closer} {F = closer} (ex.Prefix (update_of (symbol_of t)) a) refl) refl

    pub good_unary : {o o' : Bool} → Good p o o' true None closer (Unary chains P) (unary chains left i) (unary chains' left' i')
    unfolding unary
    good_unary = lifted (good_as (good_of (part_begin left left' inner.grows prefixes (λ t h. h) refl refl (λ t h. good_prefix t) (part_begin left left' inner.grows updates (λ t h. h) refl refl (λ t h. good_update t) (part_of good_postfix)))
        (λ e. unary_opens chains left i) (λ e. unary_opens chains' left' i')) unary_to unary_from)

    pub unary_starts : (a : Expr) (ts rest : Tokens) → Unary chains P a ts rest → sees (among expr_firsts) (next ts) ≡ true
    unary_starts a ts rest (g.operated {operator = t} h q) = among_subset prefixes expr_firsts refl t h
    unary_starts a ts rest (g.updated {operator = t} h q k) = among_subset updates expr_firsts refl t h
    unary_starts a ts rest (g.postfix {operator = t} {operand = b} q h) = sees_subset base_firsts expr_firsts refl (next ts) (suffixed_starts b ts (t ∷ rest) q)
    unary_starts a ts rest (g.plain q h) = sees_subset base_firsts expr_firsts refl (next ts) (suffixed_starts a ts rest q)

    -- ---- left chains

    pub operators_fit : (b : Bool) (n : ℕ) → (plain (operators b n) ≡ true) × (past closer (operators b n) ≡ true)
    operators_fit b zero = (refl, refl)
    operators_fit b (suc zero) = (refl, refl)
    operators_fit true (suc (suc zero)) = (refl, refl)
    operators_fit false (suc (suc zero)) = (refl, refl)
    operators_fit true (suc (suc (suc zero))) = (refl, refl)
    operators_fit false (suc (suc (suc zero))) = (refl, refl)
    operators_fit true (suc (suc (suc (suc zero)))) = (refl, refl)
    operators_fit false (suc (suc (suc (suc zero)))) = (refl, refl)
    operators_fit true (suc (suc (suc (suc (suc n))))) = (refl, refl)
    operators_fit false (suc (suc (suc (suc (suc n))))) = (refl, refl)

    operand_to : (Item : Spelling Expr) (t : Token) (a b : Expr) (ts rest : Tokens) → Both Item (λ b. Same (operation (symbol_of t) a b)) b ts rest → Operand Item t a b ts rest
    operand_to Item t a b ts rest (both q e) = made (Operand Item t a) e (g.operand q)

    operand_from : (Item : Spelling Expr) (t : Token) (a b : Expr) (ts rest : Tokens) → Operand Item t a b ts rest → Both Item (λ b. Same (operation (symbol_of t) a b)) b ts rest
    operand_from Item t a b ts rest (g.operand q) = both q same

    chain_to : (q : Token → Bool) (Item : Spelling Expr) (b : Expr) (ts rest : Tokens) → Both Item (λ a. Links q (Operand Item) chains a) b ts rest → Chain chains q Item b ts rest
    chain_to q Item b ts rest (both x l) = g.chain x l

    chain_from : (q : Token → Bool) (Item : Spelling Expr) (b : Expr) (ts rest : Tokens) → Chain chains q Item b ts rest → Both Item (λ a. Links q (Operand Item) chains a) b ts rest
    chain_from q Item b ts rest (g.chain x l) = both x l

    pub good_operands : {Item : Spelling Expr} {r w : Reader Expr} (xs : List Symbol) → plain xs ≡ true → past closer xs ≡ true → Good p true true true None closer Item r w → (a : Expr) → Good p true true false closer closer (Links (among xs) (Operand Item) chains a) (chain chains None (among xs) (operand_of r) a) (chain chains' None (among xs) (operand_of w) a)
    good_operands {Item = Item} xs h k item a = good_chain chains chains' fewer None None (λ e. refl) xs (λ t e. e) h k refl (λ t e. absurd cc) (λ t e. absurd cc)
        (λ a t e. good_as (good_then item (λ b. good_pure {E = closer} {F = closer} (operation (symbol_of t) a b) refl) refl) (operand_to Item t a) (operand_from Item t a)) (λ t a b ts rest x e. refl) a

    good_chained : {Item : Spelling Expr} {r w : Reader Expr} (xs : List Symbol) → plain xs ≡ true → past closer xs ≡ true → Good p true true true None closer Item r w → Good p true true true None closer (Chain chains (among xs) Item) (chained chains (among xs) r) (chained chains' (among xs) w)
    unfolding chained
    good_chained {Item = Item} xs h k item = good_as (good_then item (λ a. good_operands xs h k item a) refl) (chain_to (among xs) Item) (chain_from (among xs) Item)

    pub good_binary : (b : Bool) (n : ℕ) → Good p true true true None closer (Binary chains P b n) (binary chains left i b n) (binary chains' left' i' b n)
    unfolding binary
    good_binary b zero = good_unary
    good_binary b (suc n) = good_chained (operators b n) (operators_fit b n).0 (operators_fit b n).1 (good_binary b n)

    binary_starts : (b : Bool) (n : ℕ) (a : Expr) (ts rest : Tokens) → Binary chains P b n a ts rest → sees (among expr_firsts) (next ts) ≡ true
    binary_starts b zero a ts rest q = unary_starts a ts rest q
    binary_starts b (suc n) a ts rest (g.chain {first = c} {after_first = mid} x l) = binary_starts b n c ts mid x

    -- ---- the conditional operator, assignment

    conditional_to : (b : Bool) (a : Expr) (ts rest : Tokens)
        → Both (Binary chains P b LEVELS_OF_CHAINS) (λ a. On (is s.Question) (Above left (λ t. Both (Closed s.Colon (P.expr b)) (λ c. Both (P.expr b) (λ d. Same (ex.Conditional a c d))))) (Same a)) a ts rest → Conditional chains P b a ts rest
    conditional_to b a ts rest (both q (took h (u, both (closed_by r k) (both x e)))) = made (Conditional chains P b) e (g.conditional q h r k x)
    conditional_to b a ts rest (both q (passed h e)) = made (Conditional chains P b) e (g.unconditional q h)

    conditional_from : (b : Bool) (a : Expr) (ts rest : Tokens) → Conditional chains P b a ts rest
        → Both (Binary chains P b LEVELS_OF_CHAINS) (λ a. On (is s.Question) (Above left (λ t. Both (Closed s.Colon (P.expr b)) (λ c. Both (P.expr b) (λ d. Same (ex.Conditional a c d))))) (Same a)) a ts rest
    conditional_from b a ts rest (g.conditional {else_value = c} {after_then = after} q h r k x) = both q (took h (inner.some_expr b c after rest x, both (closed_by r k) (both x same)))
    conditional_from b a ts rest (g.unconditional q h) = both q (passed h same)

    good_conditional_branches : (b : Bool) (a : Expr) → Good p (positive left) (positive left') true None closer (Both (Closed s.Colon (P.expr b)) (λ c. Both (P.expr b) (λ d. Same (ex.Conditional a c d)))) (conditional_branches i b a) (conditional_branches i' b a)
    unfolding conditional_branches else_branch
    good_conditional_branches b a = good_then (good_closed {G = None} s.Colon colon is_colon refl refl (inner.expr_good b)) (λ c. good_then (inner.expr_good b) (λ d. good_pure {E = closer} {F = closer} (ex.Conditional a c d) refl) refl) refl

    pub good_decided : (b : Bool) (a : Expr) → Good p true true false closer closer (On (is s.Question) (Above left (λ t. Both (Closed s.Colon (P.expr b)) (λ c. Both (P.expr b) (λ d. Same (ex.Conditional a c d))))) (Same a)) (begin left (is s.Question) (λ t. conditional_branches i b a) (pure a)) (begin left' (is s.Question) (λ t. conditional_branches i' b a) (pure a))
    good_decided b a = good_begin_option left left' inner.grows (s.Question ∷ []) (λ t h. h) refl refl refl (λ t h. good_conditional_branches b a) a

    pub good_conditional : (b : Bool) → Good p true true true None closer (Conditional chains P b) (conditional chains left i b) (conditional chains' left' i' b)
    unfolding conditional
    good_conditional b = good_as (good_then (good_binary b LEVELS_OF_CHAINS) (λ a. good_decided b a) refl) (conditional_to b) (conditional_from b)

    assign_to : (b : Bool) (a : Expr) (ts rest : Tokens) → Both (Conditional chains P b) (λ a. On (assigns a) (Above left (λ t. Both (P.expr b) (λ c. Same (assignment (symbol_of t) a c)))) (Same a)) a ts rest → Assign chains P b a ts rest
    assign_to b a ts rest (both q (took h (u, both r e))) = made (Assign chains P b) e (g.assigned q h r)
    assign_to b a ts rest (both q (passed h e)) = made (Assign chains P b) e (g.unassigned q h)

    assign_from : (b : Bool) (a : Expr) (ts rest : Tokens) → Assign chains P b a ts rest → Both (Conditional chains P b) (λ a. On (assigns a) (Above left (λ t. Both (P.expr b) (λ c. Same (assignment (symbol_of t) a c)))) (Same a)) a ts rest
    assign_from b a ts rest (g.assigned {value = c} {after_target = mid} q h r) = both q (took h (inner.some_expr b c mid rest r, both r same))
    assign_from b a ts rest (g.unassigned q h) = both q (passed h same)

    pub good_assigned : (b : Bool) (a : Expr) → Good p true true false closer closer (On (assigns a) (Above left (λ t. Both (P.expr b) (λ c. Same (assignment (symbol_of t) a c)))) (Same a)) (begin left (assigns a) (λ t. i.expr b >>= λ c. pure (assignment (symbol_of t) a c)) (pure a)) (begin left' (assigns a) (λ t. i'.expr b >>= λ c. pure (assignment (symbol_of t) a c)) (pure a))
    good_assigned b a = good_begin_option left left' inner.grows assignments (and_within assignments (λ t. is_target a)) refl refl refl
        (λ t h. good_then (inner.expr_good b) (λ c. good_pure {E = closer} {F = closer} (assignment (symbol_of t) a c) refl) refl) a

    pub good_assign : {o o' : Bool} (b : Bool) → Good p o o' true None closer (Assign chains P b) (assign chains left i b) (assign chains' left' i' b)
    unfolding assign
    good_assign b = lifted (good_as (good_then (good_conditional b) (λ a. good_assigned b a) refl) (assign_to b) (assign_from b))

    pub assign_starts : (b : Bool) (a : Expr) (ts rest : Tokens) → Assign chains P b a ts rest → sees (among expr_firsts) (next ts) ≡ true
    assign_starts b a ts rest (g.assigned {operator = t} {target = c} {after_target = mid} q h r) = conditional_starts c ts (t ∷ mid) q where
      conditional_starts : (a : Expr) (ts rest : Tokens) → Conditional chains P b a ts rest → sees (among expr_firsts) (next ts) ≡ true
      conditional_starts a ts rest (g.conditional {question = t} {test = c} {after_test = mid} q h r k x) = binary_starts b LEVELS_OF_CHAINS c ts (t ∷ mid) q
      conditional_starts a ts rest (g.unconditional q h) = binary_starts b LEVELS_OF_CHAINS a ts rest q
    assign_starts b a ts rest (g.unassigned q h) = conditional_starts a ts rest q where
      conditional_starts : (a : Expr) (ts rest : Tokens) → Conditional chains P b a ts rest → sees (among expr_firsts) (next ts) ≡ true
      conditional_starts a ts rest (g.conditional {question = t} {test = c} {after_test = mid} q h r k x) = binary_starts b LEVELS_OF_CHAINS c ts (t ∷ mid) q
      conditional_starts a ts rest (g.unconditional q h) = binary_starts b LEVELS_OF_CHAINS a ts rest q

    -- ---- a name alone

    none_denied : (q : Token → Bool) (o : Option Token) → sees q o ≡ false → sees (denies None) o ≡ false
    none_denied q None h = refl
    none_denied q (Some t) h = refl

    dollar_binary : (n left : ℕ) (j : Inside) (b : Bool) (at : ℕ) (rest : Tokens) → May closer rest → binary n left j b at (dollar ∷ rest) ≡ Ok (dollar_expr, rest)
    unfolding binary chained
    dollar_binary n left j b zero rest m = dollar_unary n left j rest m
    dollar_binary n left j b (suc at) rest m =
        ap (λ o. and_then o (λ a. chain n None (among (operators b at)) (operand_of (binary n left j b at)) a)) (dollar_binary n left j b at rest m)
        ∙ chain_ends Any n None (among (operators b at)) (operand_of (binary n left j b at)) (none_denied (among (operators b at))) dollar_expr rest (may_past closer (among (operators b at)) (operators b at) (λ t h. h) (operators_fit b at).1 rest m)

    dollar_conditional : (n left : ℕ) (j : Inside) (b : Bool) (rest : Tokens) → May closer rest → conditional n left j b (dollar ∷ rest) ≡ Ok (dollar_expr, rest)
    unfolding conditional
    dollar_conditional n left j b rest m = ap (λ o. and_then o (λ a. begin left (is s.Question) (λ t. conditional_branches j b a) (pure a))) (dollar_binary n left j b LEVELS_OF_CHAINS rest m)
        ∙ begin_passes left (is s.Question) (λ t. conditional_branches j b dollar_expr) (pure dollar_expr) rest (may_past closer (is s.Question) (s.Question ∷ []) (λ t h. h) refl rest m)

    pub dollar_assign : (n left : ℕ) (j : Inside) (b : Bool) (rest : Tokens) → May closer rest → assign n left j b (dollar ∷ rest) ≡ Ok (dollar_expr, rest)
    unfolding assign
    dollar_assign n left j b rest m = ap (λ o. and_then o (λ a. begin left (assigns a) (λ t. j.expr b >>= λ c. pure (assignment (symbol_of t) a c)) (pure a))) (dollar_conditional n left j b rest m)
        ∙ begin_passes left (assigns dollar_expr) (λ t. j.expr b >>= λ c. pure (assignment (symbol_of t) dollar_expr c)) (pure dollar_expr) rest (may_past closer (assigns dollar_expr) assignments (and_within assignments (λ t. is_target dollar_expr)) refl rest m)
