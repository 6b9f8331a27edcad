-- The statements of a small form, told from the end of the script to its front.
use Rattle.std.proofs.Common.{◌≡◌, ℕ, Bool, true, List, [], ◌∷◌, refl}
use Rattle.js_syntax.specs.declared.token.Token.{Token}
use Rattle.js_syntax.specs.declared.token.TokenKind.TheVariants as kinds
use Rattle.js_syntax.specs.declared.symbol.Symbol.TheVariants as s
use Rattle.js_syntax.specs.declared.tree.Expr.{Expr}
use Rattle.js_syntax.specs.declared.tree.Stmt.{Stmt}
use Rattle.js_syntax.specs.declared.tree.Stmt.TheVariants as st
use Rattle.js_syntax.specs.Symbols.{Tokens, symbol_of}
use Rattle.js_syntax.specs.Spelling.{none, one}
use Rattle.js_syntax.specs.Grammar.{Assign, Ends, semicolon, Statement, parts_within, not_first}
use Rattle.js_syntax.specs.Grammar as grammar
use Rattle.js_syntax.specs.Scripts.{IsScript}
use Rattle.js_syntax.specs.declared.limits.TheConstants.{CHAIN_LIMIT, LEVEL_LIMIT}
use Rattle.js_syntax.specs.TokenScalars.{Scalars}
use Rattle.small_scripts.proofs.Front.{Has, Led, led, Then, token, at_end}
use Rattle.small_scripts.proofs.Ends.{tells, Lacks}

-- the tokens of these statements, and the end
abbrev pub Spelt : List Stmt → Tokens → Type 0
Spelt body ts = IsScript CHAIN_LIMIT LEVEL_LIMIT ts (record { body = body })

end_is : (from to : ℕ) (line : Bool) → Spelt [] (token kinds.End [] from to line ∷ [])
unfolding IsScript symbol_of
end_is from to line = (token kinds.End [] from to line, refl, none refl)

pub nothing_spelt : Has (Spelt []) []
nothing_spelt = at_end (Spelt []) (λ at line. end_is at _ line)

-- an expression and its semicolon are a statement
one_spelt : (a : Expr) (body : List Stmt) (t : Token) (ts rest : Tokens) → Lacks not_first ts → Assign CHAIN_LIMIT (parts_within CHAIN_LIMIT 63) true a ts (t ∷ rest) → symbol_of t ≡ s.Semicolon → Spelt body rest → Spelt (st.Expression a ∷ body) ts
unfolding IsScript parts_within
one_spelt a body t ts rest first x e later =
    (later.0, later.1, one (grammar.Statement.expression first x (semicolon (tells (s.Semicolon ∷ []) t s.Semicolon true e refl))) later.2)

ended : (a : Expr) (body : List Stmt) (semi : Scalars) (ts mid : Tokens) → Lacks not_first ts → Assign CHAIN_LIMIT (parts_within CHAIN_LIMIT 63) true a ts mid → Led s.Semicolon semi (Spelt body) mid → Spelt (st.Expression a ∷ body) ts
ended a body semi ts mid first x (led t rest e same later) = one_spelt a body t ts rest first x e later

pub is_spelt : (a : Expr) (body : List Stmt) (semi : Scalars) (ts : Tokens) → Lacks not_first ts → Then (Assign CHAIN_LIMIT (parts_within CHAIN_LIMIT 63) true a) (Led s.Semicolon semi (Spelt body)) ts → Spelt (st.Expression a ∷ body) ts
is_spelt a body semi ts first x = ended a body semi ts x.0 first x.1 x.2
