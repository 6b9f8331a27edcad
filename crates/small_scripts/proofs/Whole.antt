-- A whole script of a small form.
use Rattle.std.proofs.Common.{◌≡◌, ℕ, ◌≤◌, Bool, true, false, IsTrue, List, [], ◌∷◌, ◌++◌, length, codes, refl, sym, subst, append_assoc, append-nil, arith}
use Rattle.std.specs.List.{flat_map}
use Rattle.std.proofs.lemmas.Bool.Decides.{nat_tests}
use Rattle.base_text.specs.declared.text.TheConstants.{TEXT_LIMIT}
use Rattle.door.specs.declared.zones.Zone.TheVariants.{Page, XrayScript}
use Rattle.js_syntax.specs.Symbols.{Tokens}
use Rattle.js_syntax.specs.TokenScalars.{Scalars, AreAll, is_in_line}
use Rattle.small_forms.specs.declared.limits.TheConstants.{SCRIPT_LIMIT}
use Rattle.small_forms.specs.Bytes.{are_in, is_in}
use Rattle.small_forms.specs.declared.bytes.Class.TheVariants.{Alphanumeric}
use Rattle.small_forms.specs.declared.script.Line.{Line}
use Rattle.small_forms.specs.Scripts.{AreLines, IsPageScript, IsUserscript, block_end, block_start, line_text, page_line, page_script_text, userscript_line, userscript_text}
use Rattle.small_scripts.specs.Trees.{body_of}
use Rattle.js_semantics.specs.Entries.{Spells}
use Rattle.small_scripts.proofs.Front.{Has}
use Rattle.small_scripts.proofs.Tests.{each_all, are_all}
use Rattle.small_scripts.proofs.Gaps.{past_line_feed, past_comment}
use Rattle.small_scripts.proofs.Statements.{Spelt, nothing_spelt}
use Rattle.small_scripts.proofs.Lines.{past_page_line, past_userscript_line}
use Rattle.small_scripts.proofs.Lengths.{Fits, left_fits, right_fits, rest_fits, line_fits}

-- ---- scripts of a page

page_lines : (lines : List Line) → AreLines lines → Fits (page_script_text lines) → Has (Spelt (body_of Page lines)) (page_script_text lines)
page_lines [] are short = nothing_spelt
page_lines (line ∷ []) are short =
    subst (Has (Spelt (body_of Page (line ∷ [])))) (append-nil (page_line line)) (past_page_line line [] [] are.0 (line_fits (codes "console.log") line are.0 short) nothing_spelt)
page_lines (line ∷ (next ∷ lines)) are short =
    let rest = page_script_text (next ∷ lines) in
    let later = page_lines (next ∷ lines) are.1 (rest_fits 10 rest (right_fits (page_line line) (10 ∷ rest) short)) in
    past_page_line line (body_of Page (next ∷ lines)) (10 ∷ rest) are.0 (line_fits (codes "console.log") line are.0 (left_fits (page_line line) (10 ∷ rest) short))
    (past_line_feed (Spelt (body_of Page (next ∷ lines))) rest later)

pub page_script_spells : (text : List ℕ) (lines : List Line) → IsPageScript text lines → Fits text → Spells text (body_of Page lines)
page_script_spells text lines is short =
    subst (λ (t : List ℕ). Spells t (body_of Page lines)) (sym is.whole) (page_lines lines is.adds (subst Fits is.whole short) 0 false)

-- ---- userscripts

userscript_lines : (lines : List Line) → AreLines lines → Fits (flat_map userscript_line lines) → Has (Spelt (body_of XrayScript lines)) (flat_map userscript_line lines)
userscript_lines [] are short = nothing_spelt
userscript_lines (line ∷ lines) are short =
    let rest = flat_map userscript_line lines in
    let written = line_text (codes "GM_log") line in
    let later = userscript_lines lines are.1 (right_fits (userscript_line line) rest short) in
    let fits = line_fits (codes "GM_log") line are.0 (left_fits written (10 ∷ []) (left_fits (userscript_line line) rest short)) in
    subst (Has (Spelt (body_of XrayScript (line ∷ lines)))) (sym (append_assoc written (10 ∷ []) rest))
    (past_userscript_line line (body_of XrayScript lines) (10 ∷ rest) are.0 fits (past_line_feed (Spelt (body_of XrayScript lines)) rest later))

letter_in_line : (c : ℕ) → is_in Alphanumeric c ≡ true → is_in_line c ≡ true
letter_in_line c h = grind (arith, nat_tests)

both_all : (q : ℕ → Bool) (xs ys : Scalars) → AreAll q xs → AreAll q ys → AreAll q (xs ++ ys)
both_all q [] ys h k = k
both_all q (x ∷ xs) ys h k = (h.0, both_all q xs ys h.1 k)

-- the metadata block is comments
block : (Q : Tokens → Type 0) (name rest : Scalars) → IsTrue (are_in Alphanumeric name) → Has Q rest → Has Q (block_start ++ (name ++ (block_end ++ rest)))
block Q name rest letters h =
    let closing = codes "// ==/UserScript==\n" ++ rest in
    let granting = codes "// @grant GM_log\n" ++ closing in
    let naming = codes "// @name " ++ (name ++ 10 ∷ granting) in
    past_comment Q (codes " ==UserScript==") naming (each_all is_in_line (codes " ==UserScript==") refl)
    (past_comment Q (codes " @name " ++ name) granting (both_all is_in_line (codes " @name ") name (each_all is_in_line (codes " @name ") refl) (are_all (is_in Alphanumeric) is_in_line letter_in_line name letters))
    (past_comment Q (codes " @grant GM_log") closing (each_all is_in_line (codes " @grant GM_log") refl)
    (past_comment Q (codes " ==/UserScript==") rest (each_all is_in_line (codes " ==/UserScript==") refl) h)))

within_limit : (n : ℕ) → n ≤ SCRIPT_LIMIT → n ≤ TEXT_LIMIT
within_limit n h = omega arith

pub userscript_spells : (text name : List ℕ) (lines : List Line) → IsUserscript text name lines → Spells text (body_of XrayScript lines)
userscript_spells text name lines is =
    let rest = flat_map userscript_line lines in
    let whole : Fits (userscript_text name lines) = subst Fits is.whole (within_limit (length text) is.short) in
    let fits = right_fits block_end rest (right_fits name (block_end ++ rest) (right_fits block_start (name ++ (block_end ++ rest)) whole)) in
    let Q = Spelt (body_of XrayScript lines) in
    subst (λ (t : List ℕ). Spells t (body_of XrayScript lines)) (sym is.whole) (block Q name rest is.named.inside (userscript_lines lines is.adds fits) 0 false)
