-- The first fault, by what is spelled.
use Rattle.std.proofs.Common.{◌≡◌, ℕ, ◌+◌, ◌≤◌, [], ◌∷◌, ◌++◌, Ok, Err, sym, ap, subst, ◌∙◌, append_assoc, arith}
use Rattle.js_syntax.specs.declared.token.Token.{Token}
use Rattle.js_syntax.specs.declared.parse_fault.ParseKind.{ParseKind}
use Rattle.js_syntax.specs.declared.parse_fault.ParseKind.TheVariants.{Unexpected, TooDeep}
use Rattle.js_syntax.specs.declared.tree.Script.{Script}
use Rattle.js_syntax.specs.Symbols.{Tokens}
use Rattle.js_syntax.specs.Scripts.{IsScript, IsKind, IsFirstFault, EndsWell}
use Rattle.js_reference_parser.specs.StatementsModel.{script}
use Rattle.js_reference_parser.specs.Places.{place}
use Rattle.js_reference_parser.proofs.Faults.{fault_at, deeper, unexpected_stays}
use Rattle.js_reference_parser.proofs.Tops.{script_sound, script_again}
use Rattle.js_reference_parser.proofs.Widening.{script_widens}

-- what is read by some limits through a token
read_again : (chains levels : ℕ) → 1 ≤ chains → (used : Tokens) (here : Token) (more : Tokens) (c : Script) → IsScript chains levels ((used ++ here ∷ []) ++ more) c → script chains levels (used ++ here ∷ more) ≡ Ok c
read_again chains levels some used here more c tree = ap (script chains levels) (sym (append_assoc used (here ∷ []) more)) ∙ script_again chains levels some ((used ++ here ∷ []) ++ more) c tree

-- No limits let a script have the tokens through a fault that is unexpected.
never_read : (chains levels : ℕ) → 1 ≤ chains → (used : Tokens) (here : Token) → ((other : Tokens) → script chains levels (used ++ here ∷ other) ≡ Err (Unexpected, here ∷ other))
    → (chains' levels' : ℕ) (more : Tokens) (c : Script) → IsScript chains' levels' ((used ++ here ∷ []) ++ more) c → ⊥
never_read chains levels some used here again chains' levels' more c tree =
    let wide = script_widens chains' (chains + chains' + 2) levels' (levels + levels' + 2) (omega arith) (omega arith) ((used ++ here ∷ []) ++ more) c tree in
    let a = read_again (chains + chains' + 2) (levels + levels' + 2) (omega arith) used here more c wide in
    let b = unexpected_stays chains (chains + chains' + 2) levels (levels + levels' + 2) some (omega arith) (omega arith) (omega arith) (used ++ here ∷ more) (here ∷ more) (again more) in
    cc

of_kind : (chains levels : ℕ) → 1 ≤ chains → (kind : ParseKind) (used : Tokens) (here : Token) (after : Tokens) → ((other : Tokens) → script chains levels (used ++ here ∷ other) ≡ Err (kind, here ∷ other)) → IsKind kind (used ++ here ∷ [])
of_kind chains levels some Unexpected used here after again = λ f. never_read chains levels some used here again f.0 f.1 f.2.0 f.2.1 f.2.2
of_kind chains levels some TooDeep used here after again =
    let d = deeper chains levels some used here after (again after) in
    let tree = script_sound (chains + 2) (levels + 2) (omega arith) (used ++ here ∷ d.0) d.1 d.2 in
    (chains + 2, levels + 2, (d.0, d.1, subst (λ ts. IsScript (chains + 2) (levels + 2) ts d.1) (sym (append_assoc used (here ∷ []) d.0)) tree))

pub is_first : (chains levels : ℕ) → 1 ≤ chains → (ts : Tokens) → EndsWell ts → (kind : ParseKind) (rest : Tokens) → script chains levels ts ≡ Err (kind, rest) → IsFirstFault chains levels ts (record { at = place rest; kind = kind })
is_first chains levels some ts well kind rest e =
    let f = fault_at chains levels some ts well kind rest e in
    record {
      before = f.used;
      here = f.here;
      after = f.after;
      split = f.split;
      place = ap place f.is_rest;
      viable = (f.more, f.value, script_sound chains levels some (f.used ++ f.more) f.value f.completes);
      over = λ g. let a = read_again chains levels some f.used f.here g.0 g.1 g.2 in let b = f.again g.0 in cc;
      is_kind = of_kind chains levels some kind f.used f.here f.after f.again;
    }
