-- What is read of a script whose statements fail.
use Rattle.std.proofs.Common.{◌≡◌, ℕ, Err, ap, subst, ◌∙◌, sym}
use Rattle.js_syntax.specs.declared.parse_fault.ParseKind.{ParseKind}
use Rattle.js_syntax.specs.Symbols.{Tokens}
use Rattle.js_reference_parser.specs.StatementsModel.{top, finish_after, script}
use Rattle.js_cursor.specs.declared.cursor.Failed.{Failed}
use Rattle.js_cursor.specs.declared.cursor.Failed.TheVariants.{Fault}
use Rattle.js_cursor.specs.Reads.{Reads}

pub failed : (chains levels : ℕ) (ts old rest : Tokens) (kind : ParseKind) (e : Failed) → old ≡ ts → e ≡ Fault kind → Reads (top chains levels old) (Err e) rest → script chains levels ts ≡ Err (kind, rest)
unfolding script
failed chains levels ts old rest kind e h f r =
    let g : Reads (top chains levels old) (Err (Fault kind)) rest = subst (λ (x : Failed). Reads (top chains levels old) (Err x) rest) f r in
    ap (λ x. finish_after (top chains levels x)) (sym h) ∙ ap finish_after g
