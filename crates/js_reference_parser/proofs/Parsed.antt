-- What is read of a script by its statements and its end.
use Rattle.std.proofs.Common.{◌≡◌, ◌+◌, ℕ, List, Result, Ok, ap, ◌∙◌, sym, arith}
use Rattle.js_syntax.specs.declared.parse_fault.ParseKind.{ParseKind}
use Rattle.js_syntax.specs.declared.tree.Stmt.{Stmt}
use Rattle.js_syntax.specs.declared.tree.Script.{Script}
use Rattle.js_syntax.specs.Symbols.{Tokens}
use Rattle.js_syntax.specs.Scripts.{IsScript}
use Rattle.js_reference_parser.specs.StatementsModel.{top, finish, finish_after, script}
use Rattle.js_reference_parser.proofs.Tops.{script_again}
use Rattle.js_reference_parser.proofs.Widening.{script_widens}

pub parsed : (chains levels : ℕ) (ts old rest : Tokens) (all : List Stmt) (r : Result Script (ParseKind × Tokens)) → old ≡ ts → top chains levels old ≡ Ok (all, rest) → finish all rest ≡ r → script chains levels ts ≡ r
unfolding script
parsed chains levels ts old rest all r e read end = ap (λ z. finish_after (top chains levels z)) (sym e) ∙ ap finish_after read ∙ end

pub one_script : (chains levels : ℕ) (ts : Tokens) (a b : Script) → IsScript chains levels ts a → IsScript chains levels ts b → a ≡ b
one_script chains levels ts a b x y =
    let x' = script_again (chains + 1) levels (omega arith) ts a (script_widens chains (chains + 1) levels levels (omega arith) (omega arith) ts a x) in
    let y' = script_again (chains + 1) levels (omega arith) ts b (script_widens chains (chains + 1) levels levels (omega arith) (omega arith) ts b y) in
    cc
