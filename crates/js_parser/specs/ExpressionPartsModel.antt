-- Model of the code of js_parser's `operators`, `suffixes` and `members`; no claim rests on it: `parse` is claimed against the grammar of js_syntax.
use Rattle.std.specs.Prelude.{ℕ, Bool, true, List}
use Rattle.js_syntax.specs.declared.token.Token.{Token}
use Rattle.js_syntax.specs.declared.symbol.Symbol.TheVariants as s
use Rattle.js_syntax.specs.declared.parse_fault.ParseKind.TheVariants.{Unexpected}
use Rattle.js_syntax.specs.declared.tree.Expr.{Expr}
use Rattle.js_syntax.specs.declared.tree.Expr.TheVariants as ex
use Rattle.js_syntax.specs.declared.tree.Property.{Property}
use Rattle.js_syntax.specs.Symbols.{is, among, symbol_of}
use Rattle.js_syntax.specs.Words.{assignment, assigns, prefixed, update_of, updates}
use Rattle.js_combinators.specs.Readers.{Reader, ◌>>=◌, pure, refuse, on, expect, begin}
use Rattle.js_reference_parser.specs.ExpressionsModel.{Inside, closed, separated, listed, named, valued, conditional_branches, postfix}

-- the arguments of a call, where there are some
abbrev pub some_arguments : Inside → Reader (List Expr)
some_arguments i = closed s.CloseParen (separated (i.expr true))

abbrev pub array_of : Inside → Reader Expr
array_of i = listed s.CloseBracket (i.expr true) >>= λ all. pure (ex.Array all)

abbrev pub object_of : Inside → Reader Expr
object_of i = listed s.CloseBrace i.member >>= λ all. pure (ex.Object all)

abbrev pub function_of : Inside → Reader Expr
function_of i = named i >>= λ f. pure (ex.Function f)

-- an array, an object or a function
abbrev pub literal : ℕ → Inside → Reader Expr
literal left i =
    on (is s.OpenBracket) (λ t. array_of i) (on (is s.OpenBrace) (λ t. object_of i) (begin left (is s.Function) (λ t. function_of i) (refuse Unexpected)))

-- behind the `=` or its kin
abbrev pub assigned : Inside → Bool → Expr → Token → Reader Expr
assigned i in_allowed a t = i.expr in_allowed >>= λ b. pure (assignment (symbol_of t) a b)

-- where a `?` follows, a choice
abbrev pub conditional_tail : ℕ → Inside → Bool → Expr → Reader Expr
conditional_tail left i in_allowed a = begin left (is s.Question) (λ t. conditional_branches i in_allowed a) (pure a)

-- where an `=` or its kin follows, an assignment
abbrev pub assignment_tail : ℕ → Inside → Bool → Expr → Reader Expr
assignment_tail left i in_allowed a = begin left (assigns a) (λ t. assigned i in_allowed a t) (pure a)

-- behind an operator before its operand
abbrev pub prefixed_by : Inside → Token → Reader Expr
prefixed_by i t = i.operand >>= λ a. pure (prefixed (symbol_of t) a)

-- behind a `++` or `--`
abbrev pub updated_by : Inside → Token → Reader Expr
updated_by i t = i.target >>= λ a. pure (ex.Prefix (update_of (symbol_of t)) a)

-- an operand with a `++` or `--` before it or behind it, or alone
abbrev pub updated : ℕ → ℕ → Inside → Reader Expr
updated chains left i = begin left (among updates) (λ t. updated_by i t) (postfix chains left i)

-- behind a plain key
abbrev pub keyed : ℕ → ℕ → Inside → List ℕ → Reader Property
keyed chains left i key = expect s.Colon >>= λ u. valued chains left i key
