-- A script within limits is one within wider limits.
use Rattle.std.proofs.Common.{ℕ, zero, suc, ◌≤◌, Bool, true, false, List, [], ◌∷◌, Option, Some, None, arith}
use Rattle.js_syntax.specs.declared.token.Token.{Token}
use Rattle.js_syntax.specs.declared.symbol.Symbol.{Symbol}
use Rattle.js_syntax.specs.declared.tree.Expr.{Expr}
use Rattle.js_syntax.specs.declared.tree.Catch.{Catch}
use Rattle.js_syntax.specs.declared.tree.Script.{Script}
use Rattle.js_syntax.specs.declared.tree.Stmt.{Stmt}
use Rattle.js_syntax.specs.Symbols.{Tokens, among}
use Rattle.js_syntax.specs.Spelling.{Spelling, Each, none, one, Links, no_more, link, Listed, done, last, more, Separated, single, several}
use Rattle.js_syntax.specs.Words.{suffixes, member_suffixes, operators, closes_body}
use Rattle.js_syntax.specs.Grammar.{Parts, Body, Lambda, Named, Arguments, Primary, New, Base, Suffix, Suffixed, Callee, Unary, Operand, Chain, Binary, Conditional, Assign, Member, Block, Declared, Condition, ElseClause, Optional, Start, Target, Handlers, Statement, LEVELS_OF_CHAINS, parts_within}
use Rattle.js_syntax.specs.Grammar as g
use Rattle.js_syntax.specs.Scripts.{IsScript}

abbrev Sub : {A : Type 0} → Spelling A → Spelling A → Type 0
Sub {A} R S = (a : A) (ts rest : Tokens) → R a ts rest → S a ts rest

each_sub : {A : Type 0} (stop : Token → Bool) (R S : Spelling A) → Sub R S → Sub (Each stop R) (Each stop S)
each_sub stop R S f all ts rest (none h) = none h
each_sub stop R S f all ts rest (one {a = a} {others = others} {mid = mid} p later) = one (f a ts mid p) (each_sub stop R S f others mid rest later)

links_sub : {A : Type 0} (q : Token → Bool) (R S : Token → A → Spelling A) → ((t : Token) (a : A) → Sub (R t a) (S t a)) → (n m : ℕ) → n ≤ m → (a : A) → Sub (Links q R n a) (Links q S m a)
links_sub q R S f n m le a b ts rest (no_more h) = no_more h
links_sub q R S f (suc n) zero le a c ts rest (link h p later) = absurd (omega arith)
links_sub q R S f (suc n) (suc m) le a c ts rest (link {t = t} {b = b} {ts = us} {mid = mid} h p later) = link h (f t a b us mid p) (links_sub q R S f n m (omega arith) b c mid rest later)

listed_sub : {A : Type 0} (x : Symbol) (R S : Spelling A) → Sub R S → Sub (Listed x R) (Listed x S)
listed_sub x R S f all ts rest (done h) = done h
listed_sub x R S f all ts rest (last {a = a} {c = c} p h) = last (f a ts (c ∷ rest) p) h
listed_sub x R S f all ts rest (more {a = a} {others = others} {t = t} {mid = mid} p h later) = more (f a ts (t ∷ mid) p) h (listed_sub x R S f others mid rest later)

separated_sub : {A : Type 0} (R S : Spelling A) → Sub R S → Sub (Separated R) (Separated S)
separated_sub R S f all ts rest (single {a = a} p h) = single (f a ts rest p) h
separated_sub R S f all ts rest (several {a = a} {others = others} {t = t} {mid = mid} p h later) = several (f a ts (t ∷ mid) p) h (separated_sub R S f others mid rest later)

-- the parts of one level are among those of another
record Widens (P Q : Parts) : Type 0 where
  expr : (b : Bool) → Sub (P.expr b) (Q.expr b)
  operand : Sub P.operand Q.operand
  callee : Sub P.callee Q.callee
  member : Sub P.member Q.member
  stmt : (f l : Bool) → Sub (P.stmt f l) (Q.stmt f l)
  block : (f l : Bool) → Sub (P.block f l) (Q.block f l)
  deeper : P.deeper → Q.deeper

module _ (P Q : Parts) (w : Widens P Q) (n m : ℕ) (le : n ≤ m) where
  body_sub : Sub (Body P) (Body Q)
  body_sub xs ts rest (g.body {close_brace = c} {tokens = us} h q k) = g.body h (each_sub closes_body (P.stmt true false) (Q.stmt true false) (w.stmt true false) xs us (c ∷ rest) q) k

  lambda_sub : (name : Option (List ℕ)) → Sub (Lambda P name) (Lambda Q name)
  lambda_sub name f ts rest (g.lambda {statements = xs} {after_parameters = mid} h p q) = g.lambda h p (body_sub xs mid rest q)

  named_sub : Sub (Named P) (Named Q)
  named_sub f ts rest (g.without_name h q) = g.without_name h (lambda_sub None f ts rest q)
  named_sub f ts rest (g.with_name {name = t} {tokens = us} h q) = g.with_name h (lambda_sub (Some t.text) f us rest q)

  arguments_sub : Sub (Arguments P) (Arguments Q)
  arguments_sub all ts rest (g.no_arguments h) = g.no_arguments h
  arguments_sub all ts rest (g.arguments {close_paren = c} q h) = g.arguments (separated_sub (P.expr true) (Q.expr true) (w.expr true) all ts (c ∷ rest) q) h

  primary_sub : Sub (Primary P) (Primary Q)
  primary_sub a ts rest (g.leaf h) = g.leaf h
  primary_sub a ts rest (g.group {close_paren = c} {tokens = us} h q k) = g.group h (w.expr true a us (c ∷ rest) q) k
  primary_sub a ts rest (g.array {all = all} {tokens = us} h q) = g.array h (listed_sub _ (P.expr true) (Q.expr true) (w.expr true) all us rest q)
  primary_sub a ts rest (g.object {all = all} {tokens = us} h q) = g.object h (listed_sub _ P.member Q.member w.member all us rest q)
  primary_sub a ts rest (g.function {function = f} {tokens = us} d h q) = g.function (w.deeper d) h (named_sub f us rest q)

  new_sub : Sub (New P) (New Q)
  new_sub a ts rest (g.with_arguments {open_paren = o} {target = b} {all = all} {after_target = mid} q h r) = g.with_arguments (w.callee b ts (o ∷ mid) q) h (arguments_sub all mid rest r)
  new_sub a ts rest (g.without_arguments {target = b} q h) = g.without_arguments (w.callee b ts rest q) h

  base_sub : Sub (Base P) (Base Q)
  base_sub a ts rest (g.new {tokens = us} h q) = g.new h (new_sub a us rest q)
  base_sub a ts rest (g.primary q) = g.primary (primary_sub a ts rest q)

  suffix_sub : (t : Token) (a : Expr) → Sub (Suffix P t a) (Suffix Q t a)
  suffix_sub t a b ts rest (g.member h k) = g.member h k
  suffix_sub t a b ts rest (g.index {close_bracket = c} {key = x} h q k) = g.index h (w.expr true x ts (c ∷ rest) q) k
  suffix_sub t a b ts rest (g.call {all = all} h q) = g.call h (arguments_sub all ts rest q)

  suffixed_sub : Sub (Suffixed n P) (Suffixed m Q)
  suffixed_sub b ts rest (g.suffixed {first = a} {after_first = mid} q l) = g.suffixed (base_sub a ts mid q) (links_sub (among suffixes) (Suffix P) (Suffix Q) suffix_sub n m le a b mid rest l)

  callee_sub : Sub (Callee n P) (Callee m Q)
  callee_sub b ts rest (g.callee {first = a} {after_first = mid} q l) = g.callee (base_sub a ts mid q) (links_sub (among member_suffixes) (Suffix P) (Suffix Q) suffix_sub n m le a b mid rest l)

  unary_sub : Sub (Unary n P) (Unary m Q)
  unary_sub a ts rest (g.operated {operand = b} {tokens = us} h q) = g.operated h (w.operand b us rest q)
  unary_sub a ts rest (g.updated {operand = b} {tokens = us} h q k) = g.updated h (w.operand b us rest q) k
  unary_sub a ts rest (g.postfix {operator = t} {operand = b} q h) = g.postfix (suffixed_sub b ts (t ∷ rest) q) h
  unary_sub a ts rest (g.plain q h) = g.plain (suffixed_sub a ts rest q) h

  operand_sub : (R S : Spelling Expr) → Sub R S → (t : Token) (a : Expr) → Sub (Operand R t a) (Operand S t a)
  operand_sub R S f t a c ts rest (g.operand {right = b} q) = g.operand (f b ts rest q)

  chain_sub : (q : Token → Bool) (R S : Spelling Expr) → Sub R S → Sub (Chain n q R) (Chain m q S)
  chain_sub q R S f b ts rest (g.chain {first = a} {after_first = mid} x l) = g.chain (f a ts mid x) (links_sub q (Operand R) (Operand S) (operand_sub R S f) n m le a b mid rest l)

  binary_sub : (b : Bool) (k : ℕ) → Sub (Binary n P b k) (Binary m Q b k)
  binary_sub b zero a ts rest q = unary_sub a ts rest q
  binary_sub b (suc k) a ts rest q = chain_sub (among (operators b k)) (Binary n P b k) (Binary m Q b k) (binary_sub b k) a ts rest q

  conditional_sub : (b : Bool) → Sub (Conditional n P b) (Conditional m Q b)
  conditional_sub b x ts rest (g.conditional {question = t} {colon = u} {test = a} {then_value = c} {else_value = d} {after_test = mid} {after_then = after} q h r k y) = g.conditional (binary_sub b LEVELS_OF_CHAINS a ts (t ∷ mid) q) h (w.expr b c mid (u ∷ after) r) k (w.expr b d after rest y)
  conditional_sub b a ts rest (g.unconditional q h) = g.unconditional (binary_sub b LEVELS_OF_CHAINS a ts rest q) h

  assign_sub : (b : Bool) → Sub (Assign n P b) (Assign m Q b)
  assign_sub b x ts rest (g.assigned {operator = t} {target = a} {value = c} {after_target = mid} q h r) = g.assigned (conditional_sub b a ts (t ∷ mid) q) h (w.expr b c mid rest r)
  assign_sub b a ts rest (g.unassigned q h) = g.unassigned (conditional_sub b a ts rest q) h

  member_sub : Sub (Member n P) (Member m Q)
  member_sub x ts rest (g.value {value = a} {tokens = us} h k q) = g.value h k (assign_sub true a us rest q)
  member_sub x ts rest (g.getter {statements = xs} {tokens = us} d h k o c q) = g.getter (w.deeper d) h k o c (body_sub xs us rest q)
  member_sub x ts rest (g.setter {statements = xs} {tokens = us} d h k o v c q) = g.setter (w.deeper d) h k o v c (body_sub xs us rest q)

  block_sub : (f l : Bool) → Sub (Block P f l) (Block Q f l)
  block_sub f l x ts rest (g.block {close_brace = c} {statements = xs} {tokens = us} h q k) = g.block h (each_sub closes_body (P.stmt f l) (Q.stmt f l) (w.stmt f l) xs us (c ∷ rest) q) k

  declared_sub : (b : Bool) → Sub (Declared n P b) (Declared m Q b)
  declared_sub b d ts rest (g.bare h k) = g.bare h k
  declared_sub b d ts rest (g.valued {value = a} {tokens = us} h k q) = g.valued h k (assign_sub b a us rest q)

  condition_sub : Sub (Condition n P) (Condition m Q)
  condition_sub a ts rest (g.condition {close_paren = c} {tokens = us} h q k) = g.condition h (assign_sub true a us (c ∷ rest) q) k

  otherwise_sub : (f l : Bool) → Sub (ElseClause P f l) (ElseClause Q f l)
  otherwise_sub f l y ts rest (g.without_else h) = g.without_else h
  otherwise_sub f l y ts rest (g.with_else {statement = x} {tokens = us} h q) = g.with_else h (w.stmt f l x us rest q)

  optional_sub : (x : Symbol) → Sub (Optional n P x) (Optional m Q x)
  optional_sub x a ts rest (g.nothing h) = g.nothing h
  optional_sub x a ts rest (g.something {closer = c} {value = b} q h) = g.something (assign_sub true b ts (c ∷ rest) q) h

  start_sub : Sub (Start n P) (Start m Q)
  start_sub a ts rest (g.no_start h) = g.no_start h
  start_sub a ts rest (g.variables {semicolon = c} {all = all} {tokens = us} h q k) = g.variables h (separated_sub (Declared n P false) (Declared m Q false) (declared_sub false) all us (c ∷ rest) q) k
  start_sub a ts rest (g.expression {closer = c} {value = b} q h) = g.expression (assign_sub false b ts (c ∷ rest) q) h

  target_sub : Sub (Target n P) (Target m Q)
  target_sub a ts rest (g.variable h k j) = g.variable h k j
  target_sub a ts rest (g.expression {closer = c} {value = b} q h k) = g.expression (assign_sub false b ts (c ∷ rest) q) h k

  handlers_sub : (f l : Bool) (c : Option Catch) (y : Option Stmt) (ts rest : Tokens) → Handlers P f l c y ts rest → Handlers Q f l c y ts rest
  handlers_sub f l c y ts rest (g.catch_ {handler = x} {tokens = us} h o k j q v) = g.catch_ h o k j (w.block f l x us rest q) v
  handlers_sub f l c y ts rest (g.catch_finally {finally_keyword = u} {handler = x} {last = z} {tokens = us} {after_handler = mid} h o k j q v r) = g.catch_finally h o k j (w.block f l x us (u ∷ mid) q) v (w.block f l z mid rest r)
  handlers_sub f l c y ts rest (g.finally_ {last = z} {tokens = us} h q) = g.finally_ h (w.block f l z us rest q)

  statement_sub : (f l : Bool) → Sub (Statement n P f l) (Statement m Q f l)
  statement_sub f l x ts rest (g.empty h) = g.empty h
  statement_sub f l x ts rest (g.block q) = g.block (block_sub f l x ts rest q)
  statement_sub f l x ts rest (g.variables {all = all} {tokens = us} {after_all = mid} h q d) = g.variables h (separated_sub (Declared n P true) (Declared m Q true) (declared_sub true) all us mid q) d
  statement_sub f l x ts rest (g.function {name = t} {function = h} {tokens = us} d k v q) = g.function (w.deeper d) k v (lambda_sub (Some t.text) h us rest q)
  statement_sub f l x ts rest (g.expression {value = a} {after_value = mid} h q d) = g.expression h (assign_sub true a ts mid q) d
  statement_sub f l x ts rest (g.if_statement {test = a} {then_statement = y} {else_statement = z} {tokens = us} {after_test = mid} {after_then = after} h q r v) = g.if_statement h (condition_sub a us mid q) (w.stmt f l y mid after r) (otherwise_sub f l z after rest v)
  statement_sub f l x ts rest (g.while_statement {test = a} {statement = y} {tokens = us} {after_test = mid} h q r) = g.while_statement h (condition_sub a us mid q) (w.stmt f true y mid rest r)
  statement_sub f l x ts rest (g.for_statement {first = a} {test = b} {step = c} {statement = y} {tokens = us} {after_first = mid} {after_test = after} {after_step = la} h k q r v z) = g.for_statement h k (start_sub a us mid q) (optional_sub _ b mid after r) (optional_sub _ c after la v) (w.stmt f true y la rest z)
  statement_sub f l x ts rest (g.for_in {close_paren = c} {target = a} {object = b} {statement = y} {tokens = us} {after_target = mid} {after_object = after} h k q r v z) = g.for_in h k (target_sub a us mid q) (assign_sub true b mid (c ∷ after) r) v (w.stmt f true y after rest z)
  statement_sub f l x ts rest (g.break_statement h k d) = g.break_statement h k d
  statement_sub f l x ts rest (g.continue_statement h k d) = g.continue_statement h k d
  statement_sub f l x ts rest (g.return_statement h k d) = g.return_statement h k d
  statement_sub f l x ts rest (g.return_value {value = a} {tokens = us} {after_value = mid} h k j q d) = g.return_value h k j (assign_sub true a us mid q) d
  statement_sub f l x ts rest (g.throw_statement {value = a} {tokens = us} {after_value = mid} h k q d) = g.throw_statement h k (assign_sub true a us mid q) d
  statement_sub f l x ts rest (g.try_statement {tried = y} {catch = c} {last = z} {tokens = us} {after_tried = mid} h q v) = g.try_statement h (w.block f l y us mid q) (handlers_sub f l c z mid rest v)

parts_widen : (n m k j : ℕ) → n ≤ m → k ≤ j → Widens (parts_within n k) (parts_within m j)
unfolding parts_within
parts_widen n m zero j le lt = record { expr = λ b a ts rest q. absurd q; operand = λ a ts rest q. absurd q; callee = λ a ts rest q. absurd q; member = λ a ts rest q. absurd q; stmt = λ f l a ts rest q. absurd q; block = λ f l a ts rest q. absurd q; deeper = λ d. absurd d }
parts_widen n m (suc k) zero le lt = absurd (omega arith)
parts_widen n m (suc k) (suc j) le lt =
    let w = parts_widen n m k j le (omega arith) in
    let P = parts_within n k in
    let Q = parts_within m j in
    record { expr = assign_sub P Q w n m le; operand = unary_sub P Q w n m le; callee = callee_sub P Q w n m le; member = member_sub P Q w n m le; stmt = statement_sub P Q w n m le; block = block_sub P Q w n m le; deeper = λ d. tt }

pub script_widens : (chains chains' levels levels' : ℕ) → chains ≤ chains' → levels ≤ levels' → (ts : Tokens) (c : Script) → IsScript chains levels ts c → IsScript chains' levels' ts c
unfolding IsScript
script_widens chains chains' levels levels' le lt ts c tree =
    (tree.0, tree.1, each_sub closes_body ((parts_within chains levels).stmt false false) ((parts_within chains' levels').stmt false false) ((parts_widen chains chains' levels levels' le lt).stmt false false) c.body ts (tree.0 ∷ []) tree.2)
