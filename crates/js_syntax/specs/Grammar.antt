-- Which tokens spell which tree, form by form (ECMAScript, 13 to 15, without what this language leaves out).
-- Each form is as long as it can be: what follows doesn't continue it. So an `else` belongs to the nearest `if`, and a semicolon is left out
-- before a token on a new line just where that token can't continue the statement.
use Rattle.std.specs.Prelude.{◌≡◌, ℕ, zero, suc, Bool, true, false, ◌||◌, ◌&&◌, not, List, [], ◌∷◌, ◌++◌, Option, Some, None}
use Rattle.std.specs.Str.{bytes_eq}
use Rattle.js_syntax.specs.declared.token.Token.{Token}
use Rattle.js_syntax.specs.declared.symbol.Symbol.{Symbol}
use Rattle.js_syntax.specs.declared.symbol.Symbol.TheVariants as s
use Rattle.js_syntax.specs.declared.tree.Expr.{Expr}
use Rattle.js_syntax.specs.declared.tree.Expr.TheVariants as ex
use Rattle.js_syntax.specs.declared.tree.Property.{Property}
use Rattle.js_syntax.specs.declared.tree.Property.TheVariants as property
use Rattle.js_syntax.specs.declared.tree.Function.{Function}
use Rattle.js_syntax.specs.declared.tree.Declaration.{Declaration}
use Rattle.js_syntax.specs.declared.tree.Catch.{Catch}
use Rattle.js_syntax.specs.declared.tree.ForStart.{ForStart}
use Rattle.js_syntax.specs.declared.tree.ForStart.TheVariants as start
use Rattle.js_syntax.specs.declared.tree.ForTarget.{ForTarget}
use Rattle.js_syntax.specs.declared.tree.ForTarget.TheVariants as target
use Rattle.js_syntax.specs.declared.tree.Stmt.{Stmt}
use Rattle.js_syntax.specs.declared.tree.Stmt.TheVariants as st
use Rattle.js_syntax.specs.Symbols.{Tokens, next, is, among, sees, stops, symbol_of}
use Rattle.js_syntax.specs.Spelling.{Spelling, Each, Links, Listed, Separated}
use Rattle.js_syntax.specs.Words.{names, member_names, keys, leaves, leaf_of, is_target, suffixes, member_suffixes, updates}
use Rattle.js_syntax.specs.Words.{update_of, is_postfix, prefixes, prefixed, operators, operation, assignment, assigns, closes_body, ends_line}

-- What the parts one level deeper are spelled by. `in_allowed` says whether `in` is an operator there (the standard's [In]), `in_function` whether the
-- part stands inside a function (its [Return]), `in_loop` whether inside a loop of that function.
pub record Parts : Type 1 where
  -- AssignmentExpression, the widest expression of this language
  pub expr : (in_allowed : Bool) → Spelling Expr
  -- the operand of an operator before it
  pub operand : Spelling Expr
  -- what a `new` is applied to
  pub callee : Spelling Expr
  -- a member of an object literal
  pub member : Spelling Property
  -- a statement, and a block alone
  pub stmt : (in_function in_loop : Bool) → Spelling Stmt
  pub block : (in_function in_loop : Bool) → Spelling Stmt
  -- there is a deeper level
  pub deeper : Type 0

-- ---- functions (ECMAScript, 15.1 and 15.2)

abbrev pub is_known : List ℕ → List (List ℕ) → Bool
is_known name [] = false
is_known name (known ∷ others) = bytes_eq name known || is_known name others

-- Names with commas between, each none of those before it: the first list has the names so far, and the second all of them.
pub data Names : List (List ℕ) → List (List ℕ) → Tokens → Tokens → Type 0 where
  last_name : {found : List (List ℕ)} {name : Token} {rest : Tokens}
      → among names name ≡ true → is_known name.text found ≡ false → sees (is s.Comma) (next rest) ≡ false
      → Names found (found ++ name.text ∷ []) (name ∷ rest) rest
  next_name : {found all : List (List ℕ)} {name comma : Token} {tokens rest : Tokens}
      → among names name ≡ true → is_known name.text found ≡ false → is s.Comma comma ≡ true → Names (found ++ name.text ∷ []) all tokens rest
      → Names found all (name ∷ (comma ∷ tokens)) rest

-- `FormalParameters )`
pub data Parameters : List (List ℕ) → Tokens → Tokens → Type 0 where
  no_parameters : {close_paren : Token} {rest : Tokens} → is s.CloseParen close_paren ≡ true → Parameters [] (close_paren ∷ rest) rest
  parameters : {all : List (List ℕ)} {close_paren : Token} {tokens rest : Tokens}
      → Names [] all tokens (close_paren ∷ rest) → is s.CloseParen close_paren ≡ true
      → Parameters all tokens rest

-- `{ FunctionBody }`, which is in a function and in no loop of it
pub data Body (parts : Parts) : List Stmt → Tokens → Tokens → Type 0 where
  body : {statements : List Stmt} {open_brace close_brace : Token} {tokens rest : Tokens}
      → is s.OpenBrace open_brace ≡ true → Each closes_body (parts.stmt true false) statements tokens (close_brace ∷ rest) → is s.CloseBrace close_brace ≡ true
      → Body parts statements (open_brace ∷ tokens) rest

-- `( FormalParameters ) { FunctionBody }`
pub data Lambda (parts : Parts) (name : Option (List ℕ)) : Function → Tokens → Tokens → Type 0 where
  lambda : {open_paren : Token} {all : List (List ℕ)} {statements : List Stmt} {tokens after_parameters rest : Tokens}
      → is s.OpenParen open_paren ≡ true → Parameters all tokens after_parameters → Body parts statements after_parameters rest
      → Lambda parts name (record { name = name; params = all; body = statements }) (open_paren ∷ tokens) rest

-- the same with or without a name before it
pub data Named (parts : Parts) : Function → Tokens → Tokens → Type 0 where
  without_name : {function : Function} {tokens rest : Tokens}
      → sees (among names) (next tokens) ≡ false → Lambda parts None function tokens rest
      → Named parts function tokens rest
  with_name : {name : Token} {function : Function} {tokens rest : Tokens}
      → among names name ≡ true → Lambda parts (Some name.text) function tokens rest
      → Named parts function (name ∷ tokens) rest

-- ---- expressions (ECMAScript, 13)

-- `ArgumentList )`
pub data Arguments (parts : Parts) : List Expr → Tokens → Tokens → Type 0 where
  no_arguments : {close_paren : Token} {rest : Tokens} → is s.CloseParen close_paren ≡ true → Arguments parts [] (close_paren ∷ rest) rest
  arguments : {all : List Expr} {close_paren : Token} {tokens rest : Tokens}
      → Separated (parts.expr true) all tokens (close_paren ∷ rest) → is s.CloseParen close_paren ≡ true
      → Arguments parts all tokens rest

-- 13.2 PrimaryExpression
pub data Primary (parts : Parts) : Expr → Tokens → Tokens → Type 0 where
  leaf : {token : Token} {rest : Tokens} → among leaves token ≡ true → Primary parts (leaf_of (symbol_of token) token.text) (token ∷ rest) rest
  group : {open_paren close_paren : Token} {inner : Expr} {tokens rest : Tokens}
      → is s.OpenParen open_paren ≡ true → parts.expr true inner tokens (close_paren ∷ rest) → is s.CloseParen close_paren ≡ true
      → Primary parts inner (open_paren ∷ tokens) rest
  array : {open_bracket : Token} {all : List Expr} {tokens rest : Tokens}
      → is s.OpenBracket open_bracket ≡ true → Listed s.CloseBracket (parts.expr true) all tokens rest
      → Primary parts (ex.Array all) (open_bracket ∷ tokens) rest
  object : {open_brace : Token} {all : List Property} {tokens rest : Tokens}
      → is s.OpenBrace open_brace ≡ true → Listed s.CloseBrace parts.member all tokens rest
      → Primary parts (ex.Object all) (open_brace ∷ tokens) rest
  function : {keyword : Token} {function : Function} {tokens rest : Tokens}
      → parts.deeper → is s.Function keyword ≡ true → Named parts function tokens rest
      → Primary parts (ex.Function function) (keyword ∷ tokens) rest

-- `new` behind its keyword (13.3.5): it takes the first arguments, and one without arguments has no suffix behind it
pub data New (parts : Parts) : Expr → Tokens → Tokens → Type 0 where
  with_arguments : {open_paren : Token} {target : Expr} {all : List Expr} {tokens after_target rest : Tokens}
      → parts.callee target tokens (open_paren ∷ after_target) → is s.OpenParen open_paren ≡ true → Arguments parts all after_target rest
      → New parts (ex.New target all) tokens rest
  without_arguments : {target : Expr} {tokens rest : Tokens}
      → parts.callee target tokens rest → sees (is s.OpenParen) (next rest) ≡ false
      → New parts (ex.New target []) tokens rest

pub data Base (parts : Parts) : Expr → Tokens → Tokens → Type 0 where
  new : {keyword : Token} {value : Expr} {tokens rest : Tokens}
      → is s.New keyword ≡ true → New parts value tokens rest
      → Base parts value (keyword ∷ tokens) rest
  primary : {value : Expr} {tokens rest : Tokens} → Primary parts value tokens rest → Base parts value tokens rest

-- 13.3.2 and 13.3.6: `.` IdentifierName, `[ Expression ]` or `( ArgumentList )`, behind its first token
pub data Suffix (parts : Parts) : Token → Expr → Expr → Tokens → Tokens → Type 0 where
  member : {dot name : Token} {object : Expr} {rest : Tokens}
      → is s.Dot dot ≡ true → among member_names name ≡ true
      → Suffix parts dot object (ex.Member object name.text) (name ∷ rest) rest
  index : {open_bracket close_bracket : Token} {object key : Expr} {tokens rest : Tokens}
      → is s.OpenBracket open_bracket ≡ true → parts.expr true key tokens (close_bracket ∷ rest) → is s.CloseBracket close_bracket ≡ true
      → Suffix parts open_bracket object (ex.Index object key) tokens rest
  call : {open_paren : Token} {callee : Expr} {all : List Expr} {tokens rest : Tokens}
      → is s.OpenParen open_paren ≡ true → Arguments parts all tokens rest
      → Suffix parts open_paren callee (ex.Call callee all) tokens rest

-- 13.3 LeftHandSideExpression
pub data Suffixed (chains : ℕ) (parts : Parts) : Expr → Tokens → Tokens → Type 0 where
  suffixed : {first value : Expr} {tokens after_first rest : Tokens}
      → Base parts first tokens after_first → Links (among suffixes) (Suffix parts) chains first value after_first rest
      → Suffixed chains parts value tokens rest

-- 13.3 MemberExpression
pub data Callee (chains : ℕ) (parts : Parts) : Expr → Tokens → Tokens → Type 0 where
  callee : {first value : Expr} {tokens after_first rest : Tokens}
      → Base parts first tokens after_first → Links (among member_suffixes) (Suffix parts) chains first value after_first rest
      → Callee chains parts value tokens rest

-- 13.4 UpdateExpression and 13.5 UnaryExpression
pub data Unary (chains : ℕ) (parts : Parts) : Expr → Tokens → Tokens → Type 0 where
  operated : {operator : Token} {operand : Expr} {tokens rest : Tokens}
      → among prefixes operator ≡ true → parts.operand operand tokens rest
      → Unary chains parts (prefixed (symbol_of operator) operand) (operator ∷ tokens) rest
  updated : {operator : Token} {operand : Expr} {tokens rest : Tokens}
      → among updates operator ≡ true → parts.operand operand tokens rest → is_target operand ≡ true
      → Unary chains parts (ex.Prefix (update_of (symbol_of operator)) operand) (operator ∷ tokens) rest
  postfix : {operator : Token} {operand : Expr} {tokens rest : Tokens}
      → Suffixed chains parts operand tokens (operator ∷ rest) → is_postfix operand operator ≡ true
      → Unary chains parts (ex.Postfix (update_of (symbol_of operator)) operand) tokens rest
  plain : {operand : Expr} {tokens rest : Tokens}
      → Suffixed chains parts operand tokens rest → sees (is_postfix operand) (next rest) ≡ false
      → Unary chains parts operand tokens rest

-- one more operand of a left chain
pub data Operand (Item : Spelling Expr) : Token → Expr → Expr → Tokens → Tokens → Type 0 where
  operand : {operator : Token} {left right : Expr} {tokens rest : Tokens}
      → Item right tokens rest
      → Operand Item operator left (operation (symbol_of operator) left right) tokens rest

pub data Chain (chains : ℕ) (are_operators : Token → Bool) (Item : Spelling Expr) : Expr → Tokens → Tokens → Type 0 where
  chain : {first value : Expr} {tokens after_first rest : Tokens}
      → Item first tokens after_first → Links are_operators (Operand Item) chains first value after_first rest
      → Chain chains are_operators Item value tokens rest

-- 13.6 to 13.13: the levels of left chains, one on top of another
abbrev pub Binary : ℕ → Parts → Bool → ℕ → Spelling Expr
Binary chains parts in_allowed zero = Unary chains parts
Binary chains parts in_allowed (suc level) = Chain chains (among (operators in_allowed level)) (Binary chains parts in_allowed level)

abbrev pub LEVELS_OF_CHAINS : ℕ
LEVELS_OF_CHAINS = 6

-- 13.14 ConditionalExpression
pub data Conditional (chains : ℕ) (parts : Parts) (in_allowed : Bool) : Expr → Tokens → Tokens → Type 0 where
  conditional : {question colon : Token} {test then_value else_value : Expr} {tokens after_test after_then rest : Tokens}
      → Binary chains parts in_allowed LEVELS_OF_CHAINS test tokens (question ∷ after_test) → is s.Question question ≡ true
      → parts.expr in_allowed then_value after_test (colon ∷ after_then) → is s.Colon colon ≡ true → parts.expr in_allowed else_value after_then rest
      → Conditional chains parts in_allowed (ex.Conditional test then_value else_value) tokens rest
  unconditional : {value : Expr} {tokens rest : Tokens}
      → Binary chains parts in_allowed LEVELS_OF_CHAINS value tokens rest → sees (is s.Question) (next rest) ≡ false
      → Conditional chains parts in_allowed value tokens rest

-- 13.15 AssignmentExpression. Only what ends as a suffix is a name or a member, so nothing else is assigned.
pub data Assign (chains : ℕ) (parts : Parts) (in_allowed : Bool) : Expr → Tokens → Tokens → Type 0 where
  assigned : {operator : Token} {target value : Expr} {tokens after_target rest : Tokens}
      → Conditional chains parts in_allowed target tokens (operator ∷ after_target) → assigns target operator ≡ true
      → parts.expr in_allowed value after_target rest
      → Assign chains parts in_allowed (assignment (symbol_of operator) target value) tokens rest
  unassigned : {value : Expr} {tokens rest : Tokens}
      → Conditional chains parts in_allowed value tokens rest → sees (assigns value) (next rest) ≡ false
      → Assign chains parts in_allowed value tokens rest

-- 13.2.5 PropertyDefinition: `get` and `set` begin an accessor, or are a key where a colon follows
pub data Member (chains : ℕ) (parts : Parts) : Property → Tokens → Tokens → Type 0 where
  value : {key colon : Token} {value : Expr} {tokens rest : Tokens}
      → among keys key ≡ true → is s.Colon colon ≡ true → Assign chains parts true value tokens rest
      → Member chains parts (property.Value key.text value) (key ∷ (colon ∷ tokens)) rest
  getter : {get key open_paren close_paren : Token} {statements : List Stmt} {tokens rest : Tokens}
      → parts.deeper → is s.Get get ≡ true → among keys key ≡ true → is s.OpenParen open_paren ≡ true → is s.CloseParen close_paren ≡ true
      → Body parts statements tokens rest
      → Member chains parts (property.Get key.text (record { name = None; params = []; body = statements }))
      (get ∷ (key ∷ (open_paren ∷ (close_paren ∷ tokens)))) rest
  setter : {set key open_paren name close_paren : Token} {statements : List Stmt} {tokens rest : Tokens}
      → parts.deeper → is s.Set set ≡ true → among keys key ≡ true → is s.OpenParen open_paren ≡ true → among names name ≡ true
      → is s.CloseParen close_paren ≡ true → Body parts statements tokens rest
      → Member chains parts (property.Set key.text (record { name = None; params = name.text ∷ []; body = statements }))
      (set ∷ (key ∷ (open_paren ∷ (name ∷ (close_paren ∷ tokens))))) rest

-- ---- statements (ECMAScript, 14)

-- the semicolon that ends a statement, which may be left out (12.10.1)
pub data Ends : Tokens → Tokens → Type 0 where
  semicolon : {token : Token} {rest : Tokens} → is s.Semicolon token ≡ true → Ends (token ∷ rest) rest
  omitted : {rest : Tokens} → sees (is s.Semicolon) (next rest) ≡ false → sees ends_line (next rest) ≡ true → Ends rest rest

-- the same behind `break`, `continue` and `return`, which a line end ends as well
pub data EndOfJump : Tokens → Tokens → Type 0 where
  stopped : {token : Token} {rest : Tokens} → is s.Semicolon token ≡ true → ends_line token ≡ false → EndOfJump (token ∷ rest) rest
  broken : {rest : Tokens} → sees ends_line (next rest) ≡ true → EndOfJump rest rest

-- 14.2 Block
pub data Block (parts : Parts) (in_function in_loop : Bool) : Stmt → Tokens → Tokens → Type 0 where
  block : {open_brace close_brace : Token} {statements : List Stmt} {tokens rest : Tokens}
      → is s.OpenBrace open_brace ≡ true → Each closes_body (parts.stmt in_function in_loop) statements tokens (close_brace ∷ rest)
      → is s.CloseBrace close_brace ≡ true
      → Block parts in_function in_loop (st.Block statements) (open_brace ∷ tokens) rest

-- 14.3.2 VariableDeclaration
pub data Declared (chains : ℕ) (parts : Parts) (in_allowed : Bool) : Declaration → Tokens → Tokens → Type 0 where
  bare : {name : Token} {rest : Tokens}
      → among names name ≡ true → sees (is s.Assign) (next rest) ≡ false
      → Declared chains parts in_allowed (record { name = name.text; value = None }) (name ∷ rest) rest
  valued : {name equals : Token} {value : Expr} {tokens rest : Tokens}
      → among names name ≡ true → is s.Assign equals ≡ true → Assign chains parts in_allowed value tokens rest
      → Declared chains parts in_allowed (record { name = name.text; value = Some value }) (name ∷ (equals ∷ tokens)) rest

-- `( Expression )`
pub data Condition (chains : ℕ) (parts : Parts) : Expr → Tokens → Tokens → Type 0 where
  condition : {open_paren close_paren : Token} {value : Expr} {tokens rest : Tokens}
      → is s.OpenParen open_paren ≡ true → Assign chains parts true value tokens (close_paren ∷ rest) → is s.CloseParen close_paren ≡ true
      → Condition chains parts value (open_paren ∷ tokens) rest

-- `else` belongs to the nearest `if` (14.6)
pub data ElseClause (parts : Parts) (in_function in_loop : Bool) : Option Stmt → Tokens → Tokens → Type 0 where
  without_else : {rest : Tokens} → sees (is s.Else) (next rest) ≡ false → ElseClause parts in_function in_loop None rest rest
  with_else : {keyword : Token} {statement : Stmt} {tokens rest : Tokens}
      → is s.Else keyword ≡ true → parts.stmt in_function in_loop statement tokens rest
      → ElseClause parts in_function in_loop (Some statement) (keyword ∷ tokens) rest

-- an expression and a token that closes it, or that token alone
pub data Optional (chains : ℕ) (parts : Parts) (close : Symbol) : Option Expr → Tokens → Tokens → Type 0 where
  nothing : {closer : Token} {rest : Tokens} → is close closer ≡ true → Optional chains parts close None (closer ∷ rest) rest
  something : {closer : Token} {value : Expr} {tokens rest : Tokens}
      → Assign chains parts true value tokens (closer ∷ rest) → is close closer ≡ true
      → Optional chains parts close (Some value) tokens rest

-- 14.7.4: the first part of the head of a `for` and its semicolon; `in` is no operator there
pub data Start (chains : ℕ) (parts : Parts) : ForStart → Tokens → Tokens → Type 0 where
  no_start : {semicolon : Token} {rest : Tokens} → is s.Semicolon semicolon ≡ true → Start chains parts start.Nothing (semicolon ∷ rest) rest
  variables : {keyword semicolon : Token} {all : List Declaration} {tokens rest : Tokens}
      → is s.Var keyword ≡ true → Separated (Declared chains parts false) all tokens (semicolon ∷ rest) → is s.Semicolon semicolon ≡ true
      → Start chains parts (start.Var all) (keyword ∷ tokens) rest
  expression : {closer : Token} {value : Expr} {tokens rest : Tokens}
      → Assign chains parts false value tokens (closer ∷ rest) → is s.Semicolon closer ≡ true
      → Start chains parts (start.Expression value) tokens rest

-- 14.7.5: what a `for` over keys sets, and its `in`
pub data Target (chains : ℕ) (parts : Parts) : ForTarget → Tokens → Tokens → Type 0 where
  variable : {keyword name in_keyword : Token} {rest : Tokens}
      → is s.Var keyword ≡ true → among names name ≡ true → is s.In in_keyword ≡ true
      → Target chains parts (target.Var name.text) (keyword ∷ (name ∷ (in_keyword ∷ rest))) rest
  expression : {closer : Token} {value : Expr} {tokens rest : Tokens}
      → Assign chains parts false value tokens (closer ∷ rest) → is_target value ≡ true → is s.In closer ≡ true
      → Target chains parts (target.Expression value) tokens rest

-- 14.15: `catch`, and a `finally` that may follow it; or a `finally` alone
pub data Handlers (parts : Parts) (in_function in_loop : Bool) : Option Catch → Option Stmt → Tokens → Tokens → Type 0 where
  catch_ : {keyword open_paren name close_paren : Token} {handler : Stmt} {tokens rest : Tokens}
      → is s.Catch keyword ≡ true → is s.OpenParen open_paren ≡ true → among names name ≡ true → is s.CloseParen close_paren ≡ true
      → parts.block in_function in_loop handler tokens rest → sees (is s.Finally) (next rest) ≡ false
      → Handlers parts in_function in_loop (Some (record { name = name.text; block = handler })) None
      (keyword ∷ (open_paren ∷ (name ∷ (close_paren ∷ tokens)))) rest
  catch_finally : {keyword open_paren name close_paren finally_keyword : Token} {handler last : Stmt} {tokens after_handler rest : Tokens}
      → is s.Catch keyword ≡ true → is s.OpenParen open_paren ≡ true → among names name ≡ true → is s.CloseParen close_paren ≡ true
      → parts.block in_function in_loop handler tokens (finally_keyword ∷ after_handler) → is s.Finally finally_keyword ≡ true
      → parts.block in_function in_loop last after_handler rest
      → Handlers parts in_function in_loop (Some (record { name = name.text; block = handler })) (Some last)
      (keyword ∷ (open_paren ∷ (name ∷ (close_paren ∷ tokens)))) rest
  finally_ : {keyword : Token} {last : Stmt} {tokens rest : Tokens}
      → is s.Finally keyword ≡ true → parts.block in_function in_loop last tokens rest
      → Handlers parts in_function in_loop None (Some last) (keyword ∷ tokens) rest

-- what an ExpressionStatement doesn't begin with (14.5)
abbrev pub not_first : List Symbol
not_first = s.OpenBrace ∷ s.Function ∷ []

pub data Statement (chains : ℕ) (parts : Parts) (in_function in_loop : Bool) : Stmt → Tokens → Tokens → Type 0 where
  -- 14.4
  empty : {semicolon : Token} {rest : Tokens} → is s.Semicolon semicolon ≡ true → Statement chains parts in_function in_loop st.Empty (semicolon ∷ rest) rest
  -- 14.2
  block : {statement : Stmt} {tokens rest : Tokens}
      → Block parts in_function in_loop statement tokens rest
      → Statement chains parts in_function in_loop statement tokens rest
  -- 14.3.2
  variables : {keyword : Token} {all : List Declaration} {tokens after_all rest : Tokens}
      → is s.Var keyword ≡ true → Separated (Declared chains parts true) all tokens after_all → Ends after_all rest
      → Statement chains parts in_function in_loop (st.Var all) (keyword ∷ tokens) rest
  -- 15.2
  function : {keyword name : Token} {function : Function} {tokens rest : Tokens}
      → parts.deeper → is s.Function keyword ≡ true → among names name ≡ true → Lambda parts (Some name.text) function tokens rest
      → Statement chains parts in_function in_loop (st.Function function) (keyword ∷ (name ∷ tokens)) rest
  -- 14.5
  expression : {value : Expr} {tokens after_value rest : Tokens}
      → sees (among not_first) (next tokens) ≡ false → Assign chains parts true value tokens after_value → Ends after_value rest
      → Statement chains parts in_function in_loop (st.Expression value) tokens rest
  -- 14.6
  if_statement : {keyword : Token} {test : Expr} {then_statement : Stmt} {else_statement : Option Stmt} {tokens after_test after_then rest : Tokens}
      → is s.If keyword ≡ true → Condition chains parts test tokens after_test → parts.stmt in_function in_loop then_statement after_test after_then
      → ElseClause parts in_function in_loop else_statement after_then rest
      → Statement chains parts in_function in_loop (st.If test then_statement else_statement) (keyword ∷ tokens) rest
  -- 14.7.3
  while_statement : {keyword : Token} {test : Expr} {statement : Stmt} {tokens after_test rest : Tokens}
      → is s.While keyword ≡ true → Condition chains parts test tokens after_test → parts.stmt in_function true statement after_test rest
      → Statement chains parts in_function in_loop (st.While test statement) (keyword ∷ tokens) rest
  -- 14.7.4
  for_statement : {keyword open_paren : Token} {first : ForStart} {test step : Option Expr} {statement : Stmt}
      {tokens after_first after_test after_step rest : Tokens}
      → is s.For keyword ≡ true → is s.OpenParen open_paren ≡ true → Start chains parts first tokens after_first
      → Optional chains parts s.Semicolon test after_first after_test → Optional chains parts s.CloseParen step after_test after_step
      → parts.stmt in_function true statement after_step rest
      → Statement chains parts in_function in_loop (st.For first test step statement) (keyword ∷ (open_paren ∷ tokens)) rest
  -- 14.7.5
  for_in : {keyword open_paren close_paren : Token} {target : ForTarget} {object : Expr} {statement : Stmt} {tokens after_target after_object rest : Tokens}
      → is s.For keyword ≡ true → is s.OpenParen open_paren ≡ true → Target chains parts target tokens after_target
      → Assign chains parts true object after_target (close_paren ∷ after_object) → is s.CloseParen close_paren ≡ true
      → parts.stmt in_function true statement after_object rest
      → Statement chains parts in_function in_loop (st.ForIn target object statement) (keyword ∷ (open_paren ∷ tokens)) rest
  -- 14.9 and 14.8, in a loop alone
  break_statement : {keyword : Token} {tokens rest : Tokens}
      → is s.Break keyword ≡ true → in_loop ≡ true → EndOfJump tokens rest
      → Statement chains parts in_function in_loop st.Break (keyword ∷ tokens) rest
  continue_statement : {keyword : Token} {tokens rest : Tokens}
      → is s.Continue keyword ≡ true → in_loop ≡ true → EndOfJump tokens rest
      → Statement chains parts in_function in_loop st.Continue (keyword ∷ tokens) rest
  -- 14.10, in a function alone; a value begins on the line of its `return`
  return_statement : {keyword : Token} {tokens rest : Tokens}
      → is s.Return keyword ≡ true → in_function ≡ true → EndOfJump tokens rest
      → Statement chains parts in_function in_loop (st.Return None) (keyword ∷ tokens) rest
  return_value : {keyword : Token} {value : Expr} {tokens after_value rest : Tokens}
      → is s.Return keyword ≡ true → in_function ≡ true → sees ends_line (next tokens) ≡ false → Assign chains parts true value tokens after_value
      → Ends after_value rest
      → Statement chains parts in_function in_loop (st.Return (Some value)) (keyword ∷ tokens) rest
  -- 14.14
  throw_statement : {keyword : Token} {value : Expr} {tokens after_value rest : Tokens}
      → is s.Throw keyword ≡ true → sees ends_line (next tokens) ≡ false → Assign chains parts true value tokens after_value → Ends after_value rest
      → Statement chains parts in_function in_loop (st.Throw value) (keyword ∷ tokens) rest
  -- 14.15
  try_statement : {keyword : Token} {tried : Stmt} {catch : Option Catch} {last : Option Stmt} {tokens after_tried rest : Tokens}
      → is s.Try keyword ≡ true → parts.block in_function in_loop tried tokens after_tried → Handlers parts in_function in_loop catch last after_tried rest
      → Statement chains parts in_function in_loop (st.Try tried catch last) (keyword ∷ tokens) rest

-- ---- levels

abbrev pub no_parts : Parts
no_parts = record {
  expr = λ in_allowed value tokens rest. ⊥;
  operand = λ value tokens rest. ⊥;
  callee = λ value tokens rest. ⊥;
  member = λ value tokens rest. ⊥;
  stmt = λ in_function in_loop statement tokens rest. ⊥;
  block = λ in_function in_loop statement tokens rest. ⊥;
  deeper = ⊥;
}

-- the parts that have at most this number of levels
unfoldable pub parts_within : ℕ → ℕ → Parts
parts_within chains zero = no_parts
parts_within chains (suc left) = record {
  expr = Assign chains (parts_within chains left);
  operand = Unary chains (parts_within chains left);
  callee = Callee chains (parts_within chains left);
  member = Member chains (parts_within chains left);
  stmt = Statement chains (parts_within chains left);
  block = Block (parts_within chains left);
  deeper = Unit {0};
}
