-- Which symbols play which part in the grammar, and what a symbol makes of its operands.
use Rattle.std.specs.Prelude.{◌≡◌, ℕ, zero, suc, Bool, true, false, ◌||◌, ◌&&◌, not, cond, List, [], ◌∷◌, Option, Some, None, encode_utf8_all, pos}
use Rattle.base_text.specs.declared.operators.BinaryOp.TheVariants as binary
use Rattle.base_text.specs.declared.operators.UnaryOp.TheVariants as unary
use Rattle.js_syntax.specs.declared.token.Token.{Token}
use Rattle.js_syntax.specs.declared.symbol.Symbol.{Symbol}
use Rattle.js_syntax.specs.declared.symbol.Symbol.TheVariants as s
use Rattle.js_syntax.specs.declared.tree.UpdateOp.{UpdateOp}
use Rattle.js_syntax.specs.declared.tree.UpdateOp.TheVariants as update
use Rattle.js_syntax.specs.declared.tree.Expr.{Expr, out-Expr}
use Rattle.js_syntax.specs.declared.tree.Expr.TheVariants as ex
use Rattle.js_syntax.specs.declared.tree.Expr.TheOpen.{Expr-F}
use Rattle.js_syntax.specs.ReservedWords.{reserved_symbols}
use Rattle.js_syntax.specs.Symbols.{among, is, number_of}

-- ---- names and keys

abbrev pub names : List Symbol
names = s.Name ∷ s.Get ∷ s.Set ∷ []

-- what may stand after a `.`: a name or a reserved word (ECMAScript, 13.3)
abbrev pub member_names : List Symbol
member_names = s.Name ∷ s.Get ∷ s.Set ∷ reserved_symbols

-- a key of an object literal: these, a text or a number (ECMAScript, 13.2.5)
abbrev pub keys : List Symbol
keys = s.Number ∷ s.Str ∷ member_names

-- the keys that begin no getter and no setter
abbrev pub plain_keys : List Symbol
plain_keys = s.Number ∷ s.Str ∷ s.Name ∷ reserved_symbols

-- ---- an expression of one token

abbrev pub leaves : List Symbol
leaves = s.Name ∷ s.Get ∷ s.Set ∷ s.Number ∷ s.Str ∷ s.This ∷ s.True ∷ s.False ∷ s.Null ∷ []

abbrev pub value_of : Option ℕ → ℕ
value_of None = 0
value_of (Some n) = n

-- what a token alone is, by its symbol and its text
abbrev pub leaf_of : Symbol → List ℕ → Expr
leaf_of s.Number text = ex.Number (pos (value_of (number_of (encode_utf8_all text))))
leaf_of s.Str text = ex.Str text
leaf_of s.This text = ex.This
leaf_of s.True text = ex.Bool true
leaf_of s.False text = ex.Bool false
leaf_of s.Null text = ex.Null
leaf_of x text = ex.Name text

-- a name or a member: what can be assigned (ECMAScript, 13.15.1)
unfoldable pub is_target : Expr → Bool
is_target a = elim (out-Expr a) [ Expr-F.Name n ↦ true | Expr-F.Member o n ↦ true | Expr-F.Index o n ↦ true | _ ↦ false ]

-- ---- suffixes and operators

-- a member, an element, a call
abbrev pub suffixes : List Symbol
suffixes = s.Dot ∷ s.OpenBracket ∷ s.OpenParen ∷ []

-- the suffixes of what a `new` is applied to
abbrev pub member_suffixes : List Symbol
member_suffixes = s.Dot ∷ s.OpenBracket ∷ []

abbrev pub updates : List Symbol
updates = s.Increment ∷ s.Decrement ∷ []

abbrev pub update_of : Symbol → UpdateOp
update_of s.Decrement = update.Decrement
update_of x = update.Increment

-- `++` and `--` go on with a name or member on their own line alone (ECMAScript, 12.10.1)
abbrev pub is_postfix : Expr → Token → Bool
is_postfix a t = among updates t && (not t.line_before && is_target a)

abbrev pub prefixes : List Symbol
prefixes = s.Delete ∷ s.TypeOf ∷ s.Not ∷ s.Plus ∷ s.Minus ∷ []

abbrev pub prefixed : Symbol → Expr → Expr
prefixed s.Delete a = ex.Delete a
prefixed s.TypeOf a = ex.Unary unary.TypeOf a
prefixed s.Not a = ex.Unary unary.Not a
prefixed s.Plus a = ex.Unary unary.Plus a
prefixed x a = ex.Unary unary.Minus a

-- the levels of left chains, strongest first; `in` is an operator but in the first part of the head of a `for`
abbrev pub operators : Bool → ℕ → List Symbol
operators in_allowed zero = s.Star ∷ s.Slash ∷ s.Percent ∷ []
operators in_allowed (suc zero) = s.Plus ∷ s.Minus ∷ []
operators true (suc (suc zero)) = s.Less ∷ s.Greater ∷ s.AtMost ∷ s.AtLeast ∷ s.InstanceOf ∷ s.In ∷ []
operators false (suc (suc zero)) = s.Less ∷ s.Greater ∷ s.AtMost ∷ s.AtLeast ∷ s.InstanceOf ∷ []
operators in_allowed (suc (suc (suc zero))) = s.Same ∷ s.NotSame ∷ s.Equal ∷ s.NotEqual ∷ []
operators in_allowed (suc (suc (suc (suc zero)))) = s.And ∷ []
operators in_allowed n = s.Or ∷ []

abbrev pub operation : Symbol → Expr → Expr → Expr
operation s.Star a b = ex.Binary binary.Multiply a b
operation s.Slash a b = ex.Binary binary.Divide a b
operation s.Percent a b = ex.Binary binary.Remain a b
operation s.Plus a b = ex.Binary binary.Add a b
operation s.Minus a b = ex.Binary binary.Subtract a b
operation s.Less a b = ex.Binary binary.Less a b
operation s.Greater a b = ex.Binary binary.Greater a b
operation s.AtMost a b = ex.Binary binary.AtMost a b
operation s.AtLeast a b = ex.Binary binary.AtLeast a b
operation s.InstanceOf a b = ex.InstanceOf a b
operation s.In a b = ex.In a b
operation s.Same a b = ex.Binary binary.Same a b
operation s.NotSame a b = ex.Binary binary.NotSame a b
operation s.Equal a b = ex.Binary binary.Equal a b
operation s.NotEqual a b = ex.Binary binary.NotEqual a b
operation s.And a b = ex.And a b
operation x a b = ex.Or a b

abbrev pub assignments : List Symbol
assignments = s.Assign ∷ s.AddBy ∷ s.SubtractBy ∷ s.MultiplyBy ∷ s.DivideBy ∷ s.RemainBy ∷ []

abbrev pub assignment : Symbol → Expr → Expr → Expr
assignment s.AddBy a b = ex.AssignBy binary.Add a b
assignment s.SubtractBy a b = ex.AssignBy binary.Subtract a b
assignment s.MultiplyBy a b = ex.AssignBy binary.Multiply a b
assignment s.DivideBy a b = ex.AssignBy binary.Divide a b
assignment s.RemainBy a b = ex.AssignBy binary.Remain a b
assignment x a b = ex.Assign a b

-- `=` and its kin go on with a name or a member alone
abbrev pub assigns : Expr → Token → Bool
assigns a t = among assignments t && is_target a

-- ---- the ends of statements

-- what ends the statements of a block, a body or a script
abbrev pub closes_body : Token → Bool
closes_body t = is s.CloseBrace t || is s.End t

-- where a semicolon may be left out (ECMAScript, 12.10.1)
abbrev pub ends_line : Token → Bool
ends_line t = closes_body t || t.line_before
