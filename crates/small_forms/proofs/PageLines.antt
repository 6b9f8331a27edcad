-- What is left of the text of a script element determines its lines.
use Rattle.std.proofs.Common.{◌≡◌, ◌∙◌, ap, sym, refl, ℕ, ◌<◌, inr, List, [], ◌∷◌, ◌++◌, length, arith, append_assoc, codes, ◌≤◌, length-append}
use Rattle.std.proofs.lemmas.List.{append-nil, append_cancel_left}
use Rattle.std.specs.List.{flat_map}
use Rattle.small_forms.specs.declared.script.Line.{Line}
use Rattle.small_forms.specs.Scripts.{AreLines, IsPageScript, IsSum, page_line, page_script_text, sum_of}
use Rattle.small_forms.proofs.LineFronts.{same_line, line_long}

-- a line that isn't the last
abbrev pub ended_line : Line → List ℕ
ended_line line = page_line line ++ 10 ∷ []

-- what follows a line
abbrev pub tail_text : List Line → List ℕ
tail_text [] = []
tail_text (line ∷ lines) = 10 ∷ page_script_text (line ∷ lines)

page_seam : (line : Line) (lines : List Line) → page_script_text (line ∷ lines) ≡ page_line line ++ tail_text lines
page_seam line [] = sym (append-nil (page_line line))
page_seam line (next ∷ lines) = refl

-- a line is left, and maybe more
pub record AreLeft (rest : List ℕ) : Type 0 where
  pub line : Line
  pub lines : List Line
  pub is : IsSum (sum_of line)
  pub are : AreLines lines
  pub text : rest ≡ page_line line ++ tail_text lines

pub left-begin : (bytes : List ℕ) (lines : List Line) → 0 < length bytes → IsPageScript bytes lines → AreLeft bytes
left-begin bytes lines some is = begin lines is.adds is.whole
  where
    begin : (lines : List Line) → AreLines lines → bytes ≡ page_script_text lines → AreLeft bytes
    begin [] are t = absurd (omega (arith, ap length t, some))
    begin (line ∷ lines) are t = record { line = line; lines = lines; is = are.0; are = are.1; text = t ∙ page_seam line lines }

-- no line is at the front, so none is left
pub left-none : (rest : List ℕ) → ((line : Line) (more : List ℕ) → IsSum (sum_of line) → rest ≡ page_line line ++ more → ⊥) → AreLeft rest → ⊥
left-none rest none left = none left.line (tail_text left.lines) left.is left.text

-- the line was read, and this is left
pub record IsTail (end : List ℕ) : Type 0 where
  pub lines : List Line
  pub are : AreLines lines
  pub text : end ≡ tail_text lines

pub left-tail : (rest : List ℕ) (line : Line) (end : List ℕ) → rest ≡ page_line line ++ end → IsSum (sum_of line) → AreLeft rest → IsTail end
left-tail rest line end e is left =
    record { lines = left.lines; are = left.are; text = (same_line (codes "console.log") line left.line end (tail_text left.lines) (inr refl) is left.is (sym e ∙ left.text)).1 }

-- more than nothing follows, and no LF
pub tail-none : (end : List ℕ) → 0 < length end → ((more : List ℕ) → end ≡ codes "\n" ++ more → ⊥) → IsTail end → ⊥
tail-none end some none tail = no_tail tail.lines tail.text
  where
    no_tail : (lines : List Line) → end ≡ tail_text lines → ⊥
    no_tail [] t = omega (arith, ap length t, some)
    no_tail (line ∷ lines) t = none (page_script_text (line ∷ lines)) t

-- after the LF
pub tail-more : (end more : List ℕ) → end ≡ codes "\n" ++ more → IsTail end → AreLeft more
tail-more end more e tail = of_tail tail.lines tail.are tail.text
  where
    of_tail : (lines : List Line) → AreLines lines → end ≡ tail_text lines → AreLeft more
    of_tail [] are t = let same : 10 ∷ more ≡ [] = sym e ∙ t in cc
    of_tail (line ∷ lines) are t =
        record { line = line; lines = lines; is = are.0; are = are.1; text = append_cancel_left (codes "\n") more (page_script_text (line ∷ lines)) (sym e ∙ t) ∙ page_seam line lines }

-- the lines before the last, and the last
joined : (lines : List Line) (line : Line) → page_script_text (lines ++ line ∷ []) ≡ flat_map ended_line lines ++ page_line line
joined [] line = refl
joined (l ∷ []) line = sym (append_assoc (ended_line l) [] (page_line line) ∙ append_assoc (page_line l) (10 ∷ []) (page_line line))
joined (l ∷ (m ∷ lines)) line =
    ap (λ xs. page_line l ++ (10 ∷ xs)) (joined (m ∷ lines) line)
    ∙ sym (append_assoc (page_line l) (10 ∷ []) (flat_map ended_line (m ∷ lines) ++ page_line line))
    ∙ sym (append_assoc (ended_line l) (flat_map ended_line (m ∷ lines)) (page_line line))

-- the last line was read
pub all_read : (bytes : List ℕ) (lines : List Line) (line : Line) (rest end : List ℕ) → bytes ≡ flat_map ended_line lines ++ rest → rest ≡ page_line line ++ end → length end ≡ 0 → AreLines (lines ++ line ∷ []) → IsPageScript bytes (lines ++ line ∷ [])
all_read bytes lines line rest [] e r none are = record { adds = are; whole = e ∙ ap (λ xs. flat_map ended_line lines ++ xs) (r ∙ append-nil (page_line line)) ∙ sym (joined lines line) }
all_read bytes lines line rest (b ∷ end) e r none are = absurd (omega (arith, none))

same_tails : (a b : List Line) → AreLines a → AreLines b → tail_text a ≡ tail_text b → a ≡ b
same_tails [] [] p q e = refl
same_tails [] (k ∷ b) p q e = cc
same_tails (l ∷ a) [] p q e = cc
same_tails (l ∷ a) (k ∷ b) p q e =
    let inside = append_cancel_left (10 ∷ []) (page_script_text (l ∷ a)) (page_script_text (k ∷ b)) e in
    let first = same_line (codes "console.log") l k (tail_text a) (tail_text b) (inr refl) p.0 q.0 (sym (page_seam l a) ∙ inside ∙ page_seam k b) in
    ap (λ x. x ∷ a) first.0 ∙ ap (λ xs. k ∷ xs) (same_tails a b p.1 q.1 first.1)

no_text : (line : Line) (lines : List Line) → page_script_text (line ∷ lines) ≡ [] → ⊥
no_text line lines e =
    let long = line_long (codes "console.log") line (tail_text lines) in
    omega (arith, ap length (sym (page_seam line lines) ∙ e), long)

-- the text of a script element determines its lines
pub same_lines : (a b : List Line) → AreLines a → AreLines b → page_script_text a ≡ page_script_text b → a ≡ b
same_lines [] [] p q e = refl
same_lines [] (k ∷ b) p q e = absurd (no_text k b (sym e))
same_lines (l ∷ a) [] p q e = absurd (no_text l a e)
same_lines (l ∷ a) (k ∷ b) p q e = same_tails (l ∷ a) (k ∷ b) p q (ap (λ xs. 10 ∷ xs) e)

lines_long : (lines : List Line) → length lines ≤ length (page_script_text lines)
lines_long [] = omega arith
lines_long (line ∷ []) = let long = line_long (codes "console.log") line [] in let none = ap length (append-nil (page_line line)) in omega (arith, long, none)
lines_long (line ∷ (next ∷ lines)) =
    let rest = lines_long (next ∷ lines) in
    let both = length-append (page_line line) (10 ∷ page_script_text (next ∷ lines)) in
    omega (arith, rest, both)

-- each line has a character at least
pub few_lines : (text : List ℕ) (lines : List Line) → IsPageScript text lines → length lines ≤ length text
few_lines text lines is = let long = lines_long lines in omega (arith, long, ap length is.whole)
