-- The text of a userscript determines what is read from it.
use Rattle.std.proofs.Common.{◌≡◌, ◌∙◌, ap, sym, refl, ℕ, ◌≤◌, inl, List, [], ◌∷◌, ◌++◌, IsTrue, length, arith, append_assoc, length-append, codes}
use Rattle.std.proofs.lemmas.List.{append_cancel_left}
use Rattle.std.specs.List.{flat_map}
use Rattle.small_forms.specs.Bytes.{are_in, stops, IsRun}
use Rattle.small_forms.specs.declared.bytes.Class.TheVariants.{Alphanumeric}
use Rattle.small_forms.specs.declared.script.Line.{Line}
use Rattle.small_forms.specs.Scripts.{AreLines, IsUserscript, block_end, block_start, line_text, userscript_line}
use Rattle.small_forms.proofs.Forms.{same_front}
use Rattle.small_forms.proofs.LineFronts.{line_long, same_line}

-- the name of a block is what was read, and so is what follows it
pub block_name : (bytes named inside end other rest : List ℕ) → bytes ≡ block_start ++ named → named ≡ inside ++ end → IsTrue (are_in Alphanumeric inside) → IsTrue (stops Alphanumeric end) → IsRun Alphanumeric other
    → bytes ≡ block_start ++ (other ++ (block_end ++ rest)) → (inside ≡ other) × (end ≡ block_end ++ rest)
block_name bytes named inside end other rest e w words stopped is h =
    let within : named ≡ other ++ (block_end ++ rest) = append_cancel_left block_start named (other ++ (block_end ++ rest)) (sym e ∙ h) in
    same_front Alphanumeric inside other end (block_end ++ rest) (sym w ∙ within) words is.inside stopped refl

pub block_parts : (bytes named name rest body : List ℕ) → bytes ≡ block_start ++ named → named ≡ name ++ rest → rest ≡ block_end ++ body → bytes ≡ block_start ++ (name ++ (block_end ++ body))
block_parts bytes named name rest body e n r = e ∙ ap (λ xs. block_start ++ xs) (n ∙ ap (λ xs. name ++ xs) r)

-- what follows the block is its lines
pub body_of : (bytes name body other : List ℕ) (lines : List Line) → bytes ≡ block_start ++ (name ++ (block_end ++ body)) → IsRun Alphanumeric name → IsUserscript bytes other lines → (name ≡ other) × (body ≡ flat_map userscript_line lines)
body_of bytes name body other lines e run is =
    let named = block_name bytes (name ++ (block_end ++ body)) name (block_end ++ body) other (flat_map userscript_line lines) e refl run.inside refl is.named is.whole in
    (named.0, append_cancel_left block_end body (flat_map userscript_line lines) named.1)

pub body_short : (bytes name body : List ℕ) → bytes ≡ block_start ++ (name ++ (block_end ++ body)) → length body ≤ length bytes
body_short bytes name body e =
    let whole = length-append block_start (name ++ (block_end ++ body)) in
    let named = length-append name (block_end ++ body) in
    let ended = length-append block_end body in
    omega (arith, ap length e)

empty_lines : (line : Line) (rest : List ℕ) → userscript_line line ++ rest ≡ [] → ⊥
empty_lines line rest e =
    let long = line_long (codes "GM_log") line (10 ∷ rest) in
    let same = ap length (sym (append_assoc (line_text (codes "GM_log") line) (10 ∷ []) rest) ∙ e) in
    omega (arith, same, long)

same_lines : (a b : List Line) → AreLines a → AreLines b → flat_map userscript_line a ≡ flat_map userscript_line b → a ≡ b
same_lines [] [] p q e = refl
same_lines [] (l ∷ b) p q e = absurd (empty_lines l (flat_map userscript_line b) (sym e))
same_lines (l ∷ a) [] p q e = absurd (empty_lines l (flat_map userscript_line a) e)
same_lines (l ∷ a) (k ∷ b) p q e =
    let first = same_line (codes "GM_log") l k (10 ∷ flat_map userscript_line a) (10 ∷ flat_map userscript_line b) (inl refl) p.0 q.0
    (sym (append_assoc (line_text (codes "GM_log") l) (10 ∷ []) (flat_map userscript_line a)) ∙ e ∙ append_assoc (line_text (codes "GM_log") k) (10 ∷ []) (flat_map userscript_line b)) in
    ap (λ x. x ∷ a) first.0 ∙ ap (λ xs. k ∷ xs) (same_lines a b p.1 q.1 (append_cancel_left (10 ∷ []) (flat_map userscript_line a) (flat_map userscript_line b) first.1))

-- the text of a userscript determines its name and its lines
pub read_one_way : (text name other : List ℕ) (lines more : List Line) → IsUserscript text name lines → IsUserscript text other more → (name ≡ other) × (lines ≡ more)
read_one_way text name other lines more is so =
    let parts = body_of text name (flat_map userscript_line lines) other more is.whole is.named so in
    (parts.0, same_lines lines more is.adds so.adds parts.1)

lines_long : (lines : List Line) → length lines ≤ length (flat_map userscript_line lines)
lines_long [] = omega arith
lines_long (line ∷ lines) =
    let rest = lines_long lines in
    let both = length-append (userscript_line line) (flat_map userscript_line lines) in
    let ended = length-append (line_text (codes "GM_log") line) (10 ∷ []) in
    omega (arith, rest, both, ended)

-- each line has a character at least
pub few_lines : (text name : List ℕ) (lines : List Line) → IsUserscript text name lines → length lines ≤ length text
few_lines text name lines is =
    let long = lines_long lines in
    let short = body_short text name (flat_map userscript_line lines) is.whole in
    omega (arith, long, short)
