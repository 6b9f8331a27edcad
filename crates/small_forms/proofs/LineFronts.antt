-- What stands at a front determines the line of a script, and what follows it.
use Rattle.std.proofs.Common.{◌≡◌, ◌∙◌, ap, sym, refl, subst, ℕ, ◌<◌, inl, inr, List, [], ◌∷◌, ◌++◌, IsTrue, length, arith, append_assoc, length-append, codes}
use Rattle.std.proofs.lemmas.List.{append-nil, append_cancel_left}
use Rattle.std.specs.List.{flat_map}
use Rattle.small_forms.specs.declared.script.Line.{Line}
use Rattle.small_forms.specs.declared.script.Line.TheVariants.{Log, SetTitle}
use Rattle.small_forms.specs.declared.script.Sum.{Sum}
use Rattle.small_forms.specs.Readers.{IsLogger, ends_sum}
use Rattle.small_forms.specs.Scripts.{AreLines, IsSum, line_text, sum_of, sum_text, userscript_line}
use Rattle.small_forms.proofs.PartFronts.{heads}
use Rattle.small_forms.proofs.SumFronts.{same_sum}

pub ends_more : (end rest : List ℕ) → IsTrue (ends_sum end) → IsTrue (ends_sum (end ++ rest))
ends_more [] rest h = cc
ends_more (b ∷ end) rest h = h

-- the sum that was read isn't followed by this end
pub not_ended : (bytes end : List ℕ) (sum : Sum) (rest : List ℕ) → bytes ≡ sum_text sum ++ rest → IsSum sum → IsTrue (ends_sum rest) → IsTrue (ends_sum end) → ((left : List ℕ) → rest ≡ end ++ left → ⊥)
    → (other : Sum) (left : List ℕ) → IsSum other → bytes ≡ sum_text other ++ (end ++ left) → ⊥
not_ended bytes end sum rest e is ends end_is none other left so h = none left (same_sum sum other rest (end ++ left) is so ends (ends_more end left end_is) (sym e ∙ h)).1

pub log_seam : (logs : List ℕ) (sum : Sum) (rest : List ℕ) → line_text logs (Log sum) ++ rest ≡ logs ++ (codes "(" ++ (sum_text sum ++ (codes ");" ++ rest)))
log_seam logs sum rest = append_assoc logs (40 ∷ (sum_text sum ++ codes ");")) rest ∙ ap (λ xs. logs ++ (40 ∷ xs)) (append_assoc (sum_text sum) (codes ");") rest)

pub title_seam : (logs : List ℕ) (sum : Sum) (rest : List ℕ) → line_text logs (SetTitle sum) ++ rest ≡ codes "document.title = " ++ (sum_text sum ++ (codes ";" ++ rest))
title_seam logs sum rest = append_assoc (codes "document.title = ") (sum_text sum ++ codes ";") rest ∙ ap (λ xs. codes "document.title = " ++ xs) (append_assoc (sum_text sum) (codes ";") rest)

-- no call that logs begins as a title is set
pub title_clash : (logs x y : List ℕ) → IsLogger logs → logs ++ x ≡ codes "document.title = " ++ y → ⊥
title_clash logs x y (inl is) e =
    let same : 71 ≡ 100 = heads (codes "GM_log" ++ x) (codes "document.title = " ++ y) (ap (λ l. l ++ x) (sym is) ∙ e) in
    omega (arith, same)
title_clash logs x y (inr is) e =
    let same : 99 ≡ 100 = heads (codes "console.log" ++ x) (codes "document.title = " ++ y) (ap (λ l. l ++ x) (sym is) ∙ e) in
    omega (arith, same)

-- where no sum is set as the title
pub no_title_line : (logs bytes value : List ℕ) → IsLogger logs → bytes ≡ codes "document.title = " ++ value → ((sum : Sum) (rest : List ℕ) → IsSum sum → value ≡ sum_text sum ++ (codes ";" ++ rest) → ⊥)
    → (line : Line) (rest : List ℕ) → IsSum (sum_of line) → bytes ≡ line_text logs line ++ rest → ⊥
no_title_line logs bytes value logger e none (Log sum) rest is h = title_clash logs (codes "(" ++ (sum_text sum ++ (codes ");" ++ rest))) value logger (sym (log_seam logs sum rest) ∙ sym h ∙ e)
no_title_line logs bytes value logger e none (SetTitle sum) rest is h =
    none sum rest is (append_cancel_left (codes "document.title = ") value (sum_text sum ++ (codes ";" ++ rest)) (sym e ∙ h ∙ title_seam logs sum rest))

-- where no title is set, and no sum is logged
pub no_log_line : (logs bytes : List ℕ) → ((rest : List ℕ) → bytes ≡ codes "document.title = " ++ rest → ⊥) → ((sum : Sum) (rest : List ℕ) → IsSum sum → bytes ≡ logs ++ (codes "(" ++ (sum_text sum ++ (codes ");" ++ rest))) → ⊥)
    → (line : Line) (rest : List ℕ) → IsSum (sum_of line) → bytes ≡ line_text logs line ++ rest → ⊥
no_log_line logs bytes no_title none (Log sum) rest is h = none sum rest is (h ∙ log_seam logs sum rest)
no_log_line logs bytes no_title none (SetTitle sum) rest is h = no_title (sum_text sum ++ (codes ";" ++ rest)) (h ∙ title_seam logs sum rest)

-- what follows the call
pub call_of : (logs bytes call rest : List ℕ) → bytes ≡ logs ++ call → bytes ≡ logs ++ rest → call ≡ rest
call_of logs bytes call rest e h = append_cancel_left logs call rest (sym e ∙ h)

pub log_is : (logs bytes call argument : List ℕ) (sum : Sum) (rest : List ℕ) → bytes ≡ logs ++ call → call ≡ codes "(" ++ argument → argument ≡ sum_text sum ++ (codes ");" ++ rest) → bytes ≡ line_text logs (Log sum) ++ rest
log_is logs bytes call argument sum rest e f g = e ∙ ap (λ xs. logs ++ xs) (f ∙ ap (λ xs. codes "(" ++ xs) g) ∙ sym (log_seam logs sum rest)

pub title_is : (logs bytes value : List ℕ) (sum : Sum) (rest : List ℕ) → bytes ≡ codes "document.title = " ++ value → value ≡ sum_text sum ++ (codes ";" ++ rest) → bytes ≡ line_text logs (SetTitle sum) ++ rest
title_is logs bytes value sum rest e f = e ∙ ap (λ xs. codes "document.title = " ++ xs) f ∙ sym (title_seam logs sum rest)

-- two lines at one front are one
pub same_line : (logs : List ℕ) (a b : Line) (x y : List ℕ) → IsLogger logs → IsSum (sum_of a) → IsSum (sum_of b) → line_text logs a ++ x ≡ line_text logs b ++ y → (a ≡ b) × (x ≡ y)
same_line logs (Log a) (Log b) x y logger p q e =
    let call = append_cancel_left logs (codes "(" ++ (sum_text a ++ (codes ");" ++ x))) (codes "(" ++ (sum_text b ++ (codes ");" ++ y))) (sym (log_seam logs a x) ∙ e ∙ log_seam logs b y) in
    let sums = append_cancel_left (codes "(") (sum_text a ++ (codes ");" ++ x)) (sum_text b ++ (codes ");" ++ y)) call in
    let same = same_sum a b (codes ");" ++ x) (codes ");" ++ y) p q refl refl sums in
    (ap Log same.0, append_cancel_left (codes ");") x y same.1)
same_line logs (Log a) (SetTitle b) x y logger p q e = absurd (title_clash logs (codes "(" ++ (sum_text a ++ (codes ");" ++ x))) (sum_text b ++ (codes ";" ++ y)) logger (sym (log_seam logs a x) ∙ e ∙ title_seam logs b y))
same_line logs (SetTitle a) (Log b) x y logger p q e = absurd (title_clash logs (codes "(" ++ (sum_text b ++ (codes ");" ++ y))) (sum_text a ++ (codes ";" ++ x)) logger (sym (log_seam logs b y) ∙ sym e ∙ title_seam logs a x))
same_line logs (SetTitle a) (SetTitle b) x y logger p q e =
    let sums = append_cancel_left (codes "document.title = ") (sum_text a ++ (codes ";" ++ x)) (sum_text b ++ (codes ";" ++ y)) (sym (title_seam logs a x) ∙ e ∙ title_seam logs b y) in
    let same = same_sum a b (codes ";" ++ x) (codes ";" ++ y) p q refl refl sums in
    (ap SetTitle same.0, append_cancel_left (codes ";") x y same.1)

-- a line has a character at least
pub line_long : (logs : List ℕ) (line : Line) (rest : List ℕ) → length rest < length (line_text logs line ++ rest)
line_long logs (Log sum) rest =
    let both = length-append (line_text logs (Log sum)) rest in
    let line = length-append logs (40 ∷ (sum_text sum ++ codes ");")) in
    omega arith
line_long logs (SetTitle sum) rest =
    let both = length-append (line_text logs (SetTitle sum)) rest in
    let line = length-append (codes "document.title = ") (sum_text sum ++ codes ";") in
    omega arith

pub are-more : (lines : List Line) (line : Line) → AreLines lines → IsSum (sum_of line) → AreLines (lines ++ line ∷ [])
are-more [] line h e = (e, tt)
are-more (l ∷ lines) line h e = (h.0, are-more lines line h.1 e)

-- a text for each line, and one more
pub lines-append : (text : Line → List ℕ) (lines : List Line) (line : Line) → flat_map text (lines ++ line ∷ []) ≡ flat_map text lines ++ text line
lines-append text [] line = append-nil (text line)
lines-append text (l ∷ lines) line = ap (λ more. text l ++ more) (lines-append text lines line) ∙ sym (append_assoc (text l) (flat_map text lines) (text line))

-- a line with its LF more, with what follows it
pub lines_read : (logs bytes : List ℕ) (lines : List Line) (line : Line) (rest end left : List ℕ) → bytes ≡ flat_map (λ l. line_text logs l ++ 10 ∷ []) lines ++ rest → rest ≡ line_text logs line ++ end → end ≡ codes "\n" ++ left
    → bytes ≡ flat_map (λ l. line_text logs l ++ 10 ∷ []) (lines ++ line ∷ []) ++ left
lines_read logs bytes lines line rest end left e r n =
    let text : Line → List ℕ = λ l. line_text logs l ++ 10 ∷ [] in
    e
    ∙ ap (λ xs. flat_map text lines ++ xs) (r ∙ ap (λ xs. line_text logs line ++ xs) n ∙ sym (append_assoc (line_text logs line) (10 ∷ []) left))
    ∙ sym (append_assoc (flat_map text lines) (text line) left)
    ∙ ap (λ xs. xs ++ left) (sym (lines-append text lines line))

-- lines are all that is left of a userscript
pub record AreLeft (rest : List ℕ) : Type 0 where
  pub lines : List Line
  pub are : AreLines lines
  pub text : rest ≡ flat_map userscript_line lines

userscript_seam : (line : Line) (rest : List ℕ) → userscript_line line ++ rest ≡ line_text (codes "GM_log") line ++ (10 ∷ rest)
userscript_seam line rest = append_assoc (line_text (codes "GM_log") line) (10 ∷ []) rest

-- a line is left, and then its LF
pub record IsLine (rest : List ℕ) : Type 0 where
  pub line : Line
  pub more : List ℕ
  pub is : IsSum (sum_of line)
  pub left : AreLeft more
  pub text : rest ≡ line_text (codes "GM_log") line ++ (10 ∷ more)

pub line-left : (rest : List ℕ) → 0 < length rest → AreLeft rest → IsLine rest
line-left rest some left = of_lines left.lines left.are left.text
  where
    of_lines : (lines : List Line) → AreLines lines → rest ≡ flat_map userscript_line lines → IsLine rest
    of_lines [] are t = absurd (omega (arith, ap length t, some))
    of_lines (line ∷ lines) are t =
        record {
          line = line;
          more = flat_map userscript_line lines;
          is = are.0;
          left = record { lines = lines; are = are.1; text = refl };
          text = t ∙ userscript_seam line (flat_map userscript_line lines);
        }

-- no line is at the front, so none are left
pub line-none : (rest : List ℕ) → 0 < length rest → ((line : Line) (more : List ℕ) → IsSum (sum_of line) → rest ≡ line_text (codes "GM_log") line ++ more → ⊥) → AreLeft rest → ⊥
line-none rest some none left = let is = line-left rest some left in none is.line (10 ∷ is.more) is.is is.text

-- the line was read, and its LF and further lines are left
pub record IsEnded (end : List ℕ) : Type 0 where
  pub more : List ℕ
  pub left : AreLeft more
  pub text : end ≡ 10 ∷ more

pub line-ended : (rest : List ℕ) (line : Line) (end : List ℕ) → 0 < length rest → rest ≡ line_text (codes "GM_log") line ++ end → IsSum (sum_of line) → AreLeft rest → IsEnded end
line-ended rest line end some e is left =
    let one = line-left rest some left in
    record { more = one.more; left = one.left; text = (same_line (codes "GM_log") line one.line end (10 ∷ one.more) (inl refl) is one.is (sym e ∙ one.text)).1 }

pub left-more : (end more : List ℕ) → end ≡ codes "\n" ++ more → IsEnded end → AreLeft more
left-more end more e ended = let same = append_cancel_left (codes "\n") more ended.more (sym e ∙ ended.text) in subst AreLeft (sym same) ended.left
