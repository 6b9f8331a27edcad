-- Model of the code of js_parser and js_cursor; no claim rests on it: `parse` is claimed against the grammar of js_syntax.
-- Reading lists, functions and expressions from left to right, up to the first token that no form takes.
use Rattle.std.specs.Prelude.{ℕ, zero, suc, Bool, true, false, not, ◌&&◌, cond, List, [], ◌∷◌, ◌++◌, Option, Some, None, Ok, Err}
use Rattle.js_syntax.specs.declared.token.Token.{Token}
use Rattle.js_syntax.specs.declared.symbol.Symbol.{Symbol}
use Rattle.js_syntax.specs.declared.symbol.Symbol.TheVariants as s
use Rattle.js_syntax.specs.declared.parse_fault.ParseKind.TheVariants.{Unexpected, TooDeep}
use Rattle.js_syntax.specs.declared.tree.Expr.{Expr}
use Rattle.js_syntax.specs.declared.tree.Expr.TheVariants as ex
use Rattle.js_syntax.specs.declared.tree.Property.{Property}
use Rattle.js_syntax.specs.declared.tree.Property.TheVariants as property
use Rattle.js_syntax.specs.declared.tree.Function.{Function}
use Rattle.js_syntax.specs.declared.tree.Stmt.{Stmt}
use Rattle.js_syntax.specs.Symbols.{is, among, sees, symbol_of}
use Rattle.js_syntax.specs.Words.{names, member_names, keys, plain_keys, leaves, leaf_of, is_target, suffixes, member_suffixes, updates}
use Rattle.js_syntax.specs.Words.{update_of, is_postfix, prefixes, prefixed, operators, operation, assignment, assigns, closes_body}
use Rattle.js_syntax.specs.Grammar.{is_known, LEVELS_OF_CHAINS}
use Rattle.js_combinators.specs.Readers.{Reader, ◌>>=◌, pure, refuse, look, on, expect, repeat, deny, chain, begin, above}

-- the readers of what stands one level deeper
pub record Inside : Type 0 where
  pub expr : Bool → Reader Expr
  pub operand : Reader Expr
  pub target : Reader Expr
  pub callee : Reader Expr
  pub new_target : Reader Expr
  pub member : Reader Property
  pub stmt : Bool → Bool → Reader Stmt
  pub block : Bool → Bool → Reader Stmt

-- ---- lists

-- a form, and then a token
abbrev pub closed : {A : Type 0} → Symbol → Reader A → Reader A
closed x r = r >>= λ a. expect x >>= λ u. pure a

abbrev pub not_comma : Token → Bool
not_comma t = not (is s.Comma t)

abbrev pub next_item : {A : Type 0} → Reader A → List A → Reader (List A)
next_item item found = on (is s.Comma) (λ t. item >>= λ a. pure (found ++ a ∷ [])) (refuse Unexpected)

unfoldable pub separated : {A : Type 0} → Reader A → Reader (List A)
separated item = item >>= λ a. repeat not_comma (next_item item) (a ∷ [])

abbrev pub one_more : {A : Type 0} → Reader A → List A → Reader (List A)
one_more item found = item >>= λ a. pure (found ++ a ∷ [])

unfoldable pub each : {A : Type 0} → (Token → Bool) → Reader A → Reader (List A)
each stop item = repeat stop (one_more item) []

-- a comma, or the token that closes the list, which isn't taken
abbrev pub parted : Symbol → Reader (Unit {0})
parted close = on (is s.Comma) (λ t. pure tt) (look (sees (is close)) (pure tt) (refuse Unexpected))

unfoldable pub entry : {A : Type 0} → Symbol → Reader A → Reader A
entry close item = item >>= λ a. parted close >>= λ u. pure a

unfoldable pub listed : {A : Type 0} → Symbol → Reader A → Reader (List A)
listed close item = closed close (each (is close) (entry close item))

-- ---- functions

unfoldable pub name : Reader (List ℕ)
name = on (among names) (λ t. pure t.text) (refuse Unexpected)

-- a name that is none of these
abbrev pub is_new : List (List ℕ) → Token → Bool
is_new found t = among names t && not (is_known t.text found)

unfoldable pub new_name : List (List ℕ) → Reader (List (List ℕ))
new_name found = on (is_new found) (λ t. pure (found ++ t.text ∷ [])) (refuse Unexpected)

abbrev pub next_name : List (List ℕ) → Reader (List (List ℕ))
next_name found = on (is s.Comma) (λ t. new_name found) (refuse Unexpected)

unfoldable pub some_names : Reader (List (List ℕ))
some_names = new_name [] >>= λ found. repeat not_comma next_name found

unfoldable pub parameters : Reader (List (List ℕ))
parameters = on (is s.CloseParen) (λ t. pure []) (closed s.CloseParen some_names)

unfoldable pub body : Inside → Reader (List Stmt)
body i = expect s.OpenBrace >>= λ u. closed s.CloseBrace (each closes_body (i.stmt true false))

unfoldable pub lambda : Inside → Option (List ℕ) → Reader Function
lambda i named = expect s.OpenParen >>= λ u. parameters >>= λ all. body i >>= λ xs. pure (record { name = named; params = all; body = xs })

unfoldable pub named : Inside → Reader Function
named i = on (among names) (λ n. lambda i (Some n.text)) (lambda i None)

-- ---- expressions

-- what begins an expression, and what a primary one
abbrev pub primary_firsts : List Symbol
primary_firsts = s.Name ∷ s.Get ∷ s.Set ∷ s.Number ∷ s.Str ∷ s.This ∷ s.True ∷ s.False ∷ s.Null ∷ s.OpenParen ∷ s.OpenBracket ∷ s.OpenBrace ∷ s.Function ∷ []

abbrev pub base_firsts : List Symbol
base_firsts = s.New ∷ primary_firsts

abbrev pub expr_firsts : List Symbol
expr_firsts = s.Delete ∷ s.TypeOf ∷ s.Not ∷ s.Plus ∷ s.Minus ∷ s.Increment ∷ s.Decrement ∷ base_firsts

-- At the last level there is room for none.
unfoldable pub arguments : ℕ → Inside → Reader (List Expr)
arguments left i = on (is s.CloseParen) (λ t. pure []) (above left (among expr_firsts) (closed s.CloseParen (separated (i.expr true))))

unfoldable pub primary : ℕ → Inside → Reader Expr
primary left i =
    on (among leaves) (λ t. pure (leaf_of (symbol_of t) t.text))
    (begin left (is s.OpenParen) (λ t. closed s.CloseParen (i.expr true))
    (on (is s.OpenBracket) (λ t. listed s.CloseBracket (i.expr true) >>= λ all. pure (ex.Array all))
    (on (is s.OpenBrace) (λ t. listed s.CloseBrace i.member >>= λ all. pure (ex.Object all))
    (begin left (is s.Function) (λ t. named i >>= λ f. pure (ex.Function f))
    (refuse Unexpected)))))

unfoldable pub new : ℕ → Inside → Reader Expr
new left i = i.callee >>= λ a. on (is s.OpenParen) (λ t. arguments left i >>= λ all. pure (ex.New a all)) (pure (ex.New a []))

unfoldable pub base : ℕ → Inside → Reader Expr
base left i = begin left (is s.New) (λ t. new left i) (primary left i)

unfoldable pub member_of : Expr → Reader Expr
member_of a = on (among member_names) (λ n. pure (ex.Member a n.text)) (refuse Unexpected)

unfoldable pub index_of : Inside → Expr → Reader Expr
index_of i a = closed s.CloseBracket (i.expr true) >>= λ b. pure (ex.Index a b)

unfoldable pub call_of : ℕ → Inside → Expr → Reader Expr
call_of left i a = arguments left i >>= λ all. pure (ex.Call a all)

unfoldable pub suffix : ℕ → Inside → Expr → Token → Reader Expr
suffix left i a t = λ ts. cond (is s.Dot t) (member_of a ts) (cond (is s.OpenBracket t) (index_of i a ts) (call_of left i a ts))

-- An element's place stands one level deeper.
abbrev pub denied : ℕ → Option (Token → Bool)
denied zero = Some (is s.OpenBracket)
denied (suc left) = None

unfoldable pub suffixed : ℕ → ℕ → Inside → Reader Expr
suffixed chains left i = base left i >>= λ a. chain chains (denied left) (among suffixes) (suffix left i) a

unfoldable pub callee : ℕ → ℕ → Inside → Reader Expr
callee chains left i = base left i >>= λ a. chain chains (denied left) (among member_suffixes) (suffix left i) a

unfoldable pub postfix : ℕ → ℕ → Inside → Reader Expr
postfix chains left i = suffixed chains left i >>= λ a. on (is_postfix a) (λ t. pure (ex.Postfix (update_of (symbol_of t)) a)) (pure a)

unfoldable pub unary : ℕ → ℕ → Inside → Reader Expr
unary chains left i =
    begin left (among prefixes) (λ t. i.operand >>= λ a. pure (prefixed (symbol_of t) a))
    (begin left (among updates) (λ t. i.target >>= λ a. pure (ex.Prefix (update_of (symbol_of t)) a))
    (postfix chains left i))

abbrev pub operand_of : Reader Expr → Expr → Token → Reader Expr
operand_of item a t = item >>= λ b. pure (operation (symbol_of t) a b)

unfoldable pub chained : ℕ → (Token → Bool) → Reader Expr → Reader Expr
chained chains q item = item >>= λ a. chain chains None q (operand_of item) a

unfoldable pub binary : ℕ → ℕ → Inside → Bool → ℕ → Reader Expr
binary chains left i in_allowed zero = unary chains left i
binary chains left i in_allowed (suc n) = chained chains (among (operators in_allowed n)) (binary chains left i in_allowed n)

unfoldable pub else_branch : Inside → Bool → Expr → Expr → Reader Expr
else_branch i in_allowed a b = i.expr in_allowed >>= λ c. pure (ex.Conditional a b c)

unfoldable pub conditional_branches : Inside → Bool → Expr → Reader Expr
conditional_branches i in_allowed a = closed s.Colon (i.expr in_allowed) >>= λ b. else_branch i in_allowed a b

unfoldable pub conditional : ℕ → ℕ → Inside → Bool → Reader Expr
conditional chains left i in_allowed =
    binary chains left i in_allowed LEVELS_OF_CHAINS >>= λ a. begin left (is s.Question) (λ t. conditional_branches i in_allowed a) (pure a)

unfoldable pub assign : ℕ → ℕ → Inside → Bool → Reader Expr
assign chains left i in_allowed =
    conditional chains left i in_allowed >>= λ a. begin left (assigns a) (λ t. i.expr in_allowed >>= λ b. pure (assignment (symbol_of t) a b)) (pure a)

-- ---- the operand of a `++` or `--` before it

-- a name or a member, and nothing else
unfoldable pub accept : Expr → Reader Expr
accept a = look (sees (is_postfix a)) (refuse Unexpected) (λ ts. cond (is_target a) (Ok (a, ts)) (Err (Unexpected, ts)))

-- One without arguments could become no member, nor can what it is applied to be one.
unfoldable pub new_with_arguments : ℕ → Inside → Reader Expr
new_with_arguments left i = i.new_target >>= λ a. expect s.OpenParen >>= λ u. arguments left i >>= λ all. pure (ex.New a all)

unfoldable pub target_base : ℕ → Inside → Reader Expr
target_base left i = begin left (is s.New) (λ t. new_with_arguments left i) (primary left i)

unfoldable pub new_target : ℕ → ℕ → Inside → Reader Expr
new_target chains left i = target_base left i >>= λ a. chain chains (denied left) (among member_suffixes) (suffix left i) a

-- In the last place stands no call.
unfoldable pub target_chain : ℕ → ℕ → Inside → Expr → Reader Expr
target_chain zero left i a = look (sees (among suffixes)) (refuse TooDeep) (accept a)
target_chain (suc zero) left i a =
    deny (denied left) (on (among member_suffixes) (λ t. suffix left i a t >>= target_chain zero left i)
    (look (sees (is s.OpenParen)) (refuse TooDeep) (accept a)))
target_chain (suc (suc n)) left i a = deny (denied left) (on (among suffixes) (λ t. suffix left i a t >>= target_chain (suc n) left i) (accept a))

unfoldable pub update_target : ℕ → ℕ → Inside → Reader Expr
update_target chains left i = target_base left i >>= λ a. target_chain chains left i a

-- ---- members of object literals

unfoldable pub valued : ℕ → ℕ → Inside → List ℕ → Reader Property
valued chains left i key = assign chains left i true >>= λ a. pure (property.Value key a)

unfoldable pub getter : Inside → List ℕ → Reader Property
getter i key =
    expect s.OpenParen >>= λ u. expect s.CloseParen >>= λ v. body i >>= λ xs. pure (property.Get key (record { name = None; params = []; body = xs }))

unfoldable pub setter : Inside → List ℕ → Reader Property
setter i key =
    expect s.OpenParen >>= λ u. name >>= λ n. expect s.CloseParen >>= λ v. body i
    >>= λ xs. pure (property.Set key (record { name = None; params = n ∷ []; body = xs }))

-- what begins a member
abbrev pub member_firsts : List Symbol
member_firsts = s.Get ∷ s.Set ∷ plain_keys

-- behind a `get`, which is a key where a colon follows
abbrev pub after_get : ℕ → ℕ → Inside → List ℕ → Reader Property
after_get chains left i word = on (is s.Colon) (λ t. valued chains left i word) (begin left (among keys) (λ k. getter i k.text) (refuse Unexpected))

abbrev pub after_set : ℕ → ℕ → Inside → List ℕ → Reader Property
after_set chains left i word = on (is s.Colon) (λ t. valued chains left i word) (begin left (among keys) (λ k. setter i k.text) (refuse Unexpected))

unfoldable pub member : ℕ → ℕ → Inside → Reader Property
member chains left i =
    on (is s.Get) (λ g. after_get chains left i g.text)
    (on (is s.Set) (λ g. after_set chains left i g.text)
    (on (among plain_keys) (λ k. expect s.Colon >>= λ u. valued chains left i k.text)
    (refuse Unexpected)))
