-- What stands at a front determines the parts of a page, and what follows them.
use Rattle.std.proofs.Common.{◌≡◌, ◌∙◌, ap, sym, refl, ℕ, ◌+◌, ◌<◌, ◌≤◌, Bool, true, false, List, [], ◌∷◌, ◌++◌, IsTrue, length, get_or, arith, append_assoc, codes, subst}
use Rattle.std.proofs.lemmas.Bool.Decides.{nat_tests}
use Rattle.std.proofs.lemmas.List.{append-nil, append_cancel_left}
use Rattle.std.proofs.lemmas.List.Folds.{list_all-append}
use Rattle.std.specs.List.{flat_map, list_all}
use Rattle.std.specs.Char.{is_ascii}
use Rattle.small_forms.specs.Bytes.{are_in, is_in, stops, last, more}
use Rattle.small_forms.specs.declared.bytes.Class.{Class}
use Rattle.small_forms.specs.declared.bytes.Class.TheVariants.{Alphanumeric, AlphanumericOrBlank, Blank, RawText}
use Rattle.small_forms.specs.declared.limits.TheConstants.{PAGE_SCRIPT_LIMIT}
use Rattle.small_forms.specs.declared.page.Page.{Page}
use Rattle.small_forms.specs.declared.page.PageScript.{PageScript}
use Rattle.small_forms.specs.declared.script.Line.{Line}
use Rattle.small_forms.specs.Pages.{ArePageScripts, IsPage, IsTitle, blocks_text, element_text, texts_of_scripts}
use Rattle.small_forms.specs.Readers.{are_ascii}
use Rattle.small_forms.specs.Scripts.{IsPageScript}
use Rattle.small_forms.proofs.Forms.{same_front}
use Rattle.small_forms.proofs.AsciiTexts.{inside_ascii}
use Rattle.small_forms.proofs.PageLines.{same_lines}
use Rattle.small_forms.proofs.RawTexts.{page_script_ascii, page_script_raw}
use Rattle.small_forms.proofs.Runs.{both_true}

both_inside : (class : Class) (xs ys : List ℕ) → IsTrue (are_in class xs) → IsTrue (are_in class ys) → IsTrue (are_in class (xs ++ ys))
both_inside class xs ys p q = list_all-append (is_in class) xs ys ∙ rw (p, q) refl

letter_inside : (b : ℕ) → IsTrue (is_in Alphanumeric b) → IsTrue (is_in AlphanumericOrBlank b)
letter_inside b h = rw h refl

blank_inside : (b : ℕ) → IsTrue (is_in Blank b) → IsTrue (is_in AlphanumericOrBlank b)
blank_inside b h = grind (arith, nat_tests)

run_inside : (run : List ℕ) → IsTrue (are_in Alphanumeric run) → IsTrue (are_in AlphanumericOrBlank run)
run_inside [] h = refl
run_inside (b ∷ run) h = let parts = both_true (is_in Alphanumeric b) (are_in Alphanumeric run) h in rw (letter_inside b parts.0) (run_inside run parts.1)

-- a title has letters, digits and blanks
pub title_inside : (title : List ℕ) → IsTitle title → IsTrue (are_in AlphanumericOrBlank title)
title_inside title (last run is) = run_inside title is.inside
title_inside title (more run b rest is between runs) = both_inside AlphanumericOrBlank run (b ∷ rest) (run_inside run is.inside) (rw (blank_inside b between) (title_inside rest runs))

abbrev pub head_start : List ℕ
head_start = codes "<html><head><title>"

abbrev pub head_end : List ℕ
head_end = codes "</title></head><body>"

abbrev pub page_end : List ℕ
page_end = codes "</body></html>"

pub head_parts : (bytes head title end body : List ℕ) → bytes ≡ head_start ++ head → head ≡ title ++ end → end ≡ head_end ++ body → bytes ≡ head_start ++ (title ++ (head_end ++ body))
head_parts bytes head title end body e f g = e ∙ ap (λ xs. head_start ++ xs) (f ∙ ap (λ xs. title ++ xs) g)

-- the title is what was read, and so is what follows it
pub title_front : (bytes head inside end title rest : List ℕ) → bytes ≡ head_start ++ head → head ≡ inside ++ end → IsTrue (are_in AlphanumericOrBlank inside) → IsTrue (stops AlphanumericOrBlank end) → IsTitle title
    → bytes ≡ head_start ++ (title ++ (head_end ++ rest)) → (inside ≡ title) × (end ≡ head_end ++ rest)
title_front bytes head inside end title rest e w h s is t =
    same_front AlphanumericOrBlank inside title end (head_end ++ rest) (sym w ∙ append_cancel_left head_start head (title ++ (head_end ++ rest)) (sym e ∙ t)) h (title_inside title is) s refl

seconds : (xs ys : List ℕ) → xs ≡ ys → get_or xs 1 0 ≡ get_or ys 1 0
seconds xs ys e = ap (λ l. get_or l 1 0) e

-- neither a script element nor the end of a page begins as the paragraph does
no_blocks : (scripts : List PageScript) (rest : List ℕ) → blocks_text true ++ rest ≡ flat_map element_text scripts ++ page_end → ⊥
no_blocks [] rest e = let same : 112 ≡ 47 = seconds (blocks_text true ++ rest) page_end e in omega (arith, same)
no_blocks (script ∷ scripts) rest e = let same : 112 ≡ 115 = seconds (blocks_text true ++ rest) (flat_map element_text (script ∷ scripts) ++ page_end) e in omega (arith, same)

-- what was read before the script elements
pub blocks_front : (body : List ℕ) (found : Bool) (rest : List ℕ) (blocks : Bool) (scripts : List PageScript) → body ≡ blocks_text found ++ rest → (found ≡ false → (r : List ℕ) → body ≡ blocks_text true ++ r → ⊥)
    → body ≡ blocks_text blocks ++ (flat_map element_text scripts ++ page_end) → (found ≡ blocks) × (rest ≡ flat_map element_text scripts ++ page_end)
blocks_front body true rest true scripts e only h = (refl, append_cancel_left (blocks_text true) rest (flat_map element_text scripts ++ page_end) (sym e ∙ h))
blocks_front body true rest false scripts e only h = absurd (no_blocks scripts rest (sym e ∙ h))
blocks_front body false rest true scripts e only h = absurd (only refl (flat_map element_text scripts ++ page_end) h)
blocks_front body false rest false scripts e only h = (refl, sym e ∙ h)

pub element_seam : (script : PageScript) (rest : List ℕ) → element_text script ++ rest ≡ codes "<script>" ++ (script.text ++ (codes "</script>" ++ rest))
element_seam script rest = append_assoc (codes "<script>") (script.text ++ codes "</script>") rest ∙ ap (λ xs. codes "<script>" ++ xs) (append_assoc script.text (codes "</script>") rest)

elements_seam : (script : PageScript) (scripts : List PageScript) (rest : List ℕ) → flat_map element_text (script ∷ scripts) ++ rest ≡ codes "<script>" ++ (script.text ++ (codes "</script>" ++ (flat_map element_text scripts ++ rest)))
elements_seam script scripts rest = append_assoc (element_text script) (flat_map element_text scripts) rest ∙ element_seam script (flat_map element_text scripts ++ rest)

-- a page doesn't end where a script element begins
pub not_end : (inside : List ℕ) → page_end ≡ codes "<script>" ++ inside → ⊥
not_end inside e = let same : 47 ≡ 115 = seconds page_end (codes "<script>" ++ inside) e in omega (arith, same)

-- the text of a script element is what was read, and so is what follows it
pub script_front : (inside script end text rest : List ℕ) (lines : List Line) → inside ≡ script ++ end → IsTrue (are_in RawText script) → IsTrue (stops RawText end) → IsPageScript text lines → inside ≡ text ++ (codes "</script>" ++ rest)
    → (script ≡ text) × (end ≡ codes "</script>" ++ rest)
script_front inside script end text rest lines w raw s is e = same_front RawText script text end (codes "</script>" ++ rest) (sym w ∙ e) raw (page_script_raw text lines is) s refl

pub same_script : (text other x y : List ℕ) (lines others : List Line) → IsPageScript text lines → IsPageScript other others → text ++ (codes "</script>" ++ x) ≡ other ++ (codes "</script>" ++ y) → (text ≡ other) × (x ≡ y)
same_script text other x y lines others is so e =
    let same = same_front RawText text other (codes "</script>" ++ x) (codes "</script>" ++ y) e (page_script_raw text lines is) (page_script_raw other others so) refl refl in
    (same.0, append_cancel_left (codes "</script>") x y same.1)

-- script elements are left, of which so many were read, and then the page ends
pub record AreLeft (read : ℕ) (rest : List ℕ) : Type 0 where
  pub scripts : List PageScript
  pub are : ArePageScripts scripts
  pub few : length scripts + read ≤ PAGE_SCRIPT_LIMIT
  pub text : rest ≡ flat_map element_text scripts ++ page_end

pub record IsElement (read : ℕ) (inside : List ℕ) : Type 0 where
  pub text : List ℕ
  pub lines : List Line
  pub scripts : List PageScript
  pub is : IsPageScript text lines
  pub are : ArePageScripts scripts
  pub few : length scripts + read < PAGE_SCRIPT_LIMIT
  pub whole : inside ≡ text ++ (codes "</script>" ++ (flat_map element_text scripts ++ page_end))

pub left-element : (read : ℕ) (rest inside : List ℕ) → rest ≡ codes "<script>" ++ inside → AreLeft read rest → IsElement read inside
left-element read rest inside e left = of_scripts left.scripts left.are left.few left.text
  where
    of_scripts : (scripts : List PageScript) → ArePageScripts scripts → length scripts + read ≤ PAGE_SCRIPT_LIMIT → rest ≡ flat_map element_text scripts ++ page_end → IsElement read inside
    of_scripts [] are few t = absurd (not_end inside (sym t ∙ e))
    of_scripts (script ∷ scripts) are few t =
        record {
          text = script.text;
          lines = script.lines;
          scripts = scripts;
          is = are.0;
          are = are.1;
          few = omega (arith, few);
          whole = append_cancel_left (codes "<script>") inside (script.text ++ (codes "</script>" ++ (flat_map element_text scripts ++ page_end))) (sym e ∙ t ∙ elements_seam script scripts page_end);
        }

pub left-more : (read : ℕ) (inside text rest : List ℕ) (lines : List Line) → inside ≡ text ++ (codes "</script>" ++ rest) → IsPageScript text lines → IsElement read inside → AreLeft (1 + read) rest
left-more read inside text rest lines e is element =
    let same = same_script text element.text rest (flat_map element_text element.scripts ++ page_end) lines element.lines is element.is (sym e ∙ element.whole) in
    record { scripts = element.scripts; are = element.are; few = omega (arith, element.few); text = same.1 }

pub left-end : (read : ℕ) (rest : List ℕ) → ((inside : List ℕ) → rest ≡ codes "<script>" ++ inside → ⊥) → AreLeft read rest → rest ≡ page_end
left-end read rest none left = of_scripts left.scripts left.text
  where
    of_scripts : (scripts : List PageScript) → rest ≡ flat_map element_text scripts ++ page_end → rest ≡ page_end
    of_scripts [] t = t
    of_scripts (script ∷ scripts) t = absurd (none (script.text ++ (codes "</script>" ++ (flat_map element_text scripts ++ page_end))) (t ∙ elements_seam script scripts page_end))

elements-append : (scripts : List PageScript) (script : PageScript) → flat_map element_text (scripts ++ script ∷ []) ≡ flat_map element_text scripts ++ element_text script
elements-append [] script = append-nil (element_text script)
elements-append (s ∷ scripts) script = ap (λ more. element_text s ++ more) (elements-append scripts script) ∙ sym (append_assoc (element_text s) (flat_map element_text scripts) (element_text script))

-- a script element more was read
pub elements_read : (bytes : List ℕ) (scripts : List PageScript) (rest inside : List ℕ) (script : PageScript) (left : List ℕ) → bytes ≡ flat_map element_text scripts ++ rest → rest ≡ codes "<script>" ++ inside → inside ≡ script.text ++ (codes "</script>" ++ left)
    → bytes ≡ flat_map element_text (scripts ++ script ∷ []) ++ left
elements_read bytes scripts rest inside script left e f g =
    e
    ∙ ap (λ xs. flat_map element_text scripts ++ xs) (f ∙ ap (λ xs. codes "<script>" ++ xs) g ∙ sym (element_seam script left))
    ∙ sym (append_assoc (flat_map element_text scripts) (element_text script) left)
    ∙ ap (λ xs. xs ++ left) (sym (elements-append scripts script))

pub are-more : (scripts : List PageScript) (script : PageScript) → ArePageScripts scripts → IsPageScript script.text script.lines → ArePageScripts (scripts ++ script ∷ [])
are-more [] script h is = (is, tt)
are-more (s ∷ scripts) script h is = (h.0, are-more scripts script h.1 is)

pub scripts_ascii : (scripts : List PageScript) → ArePageScripts scripts → IsTrue (are_ascii (texts_of_scripts scripts))
scripts_ascii [] are = refl
scripts_ascii (script ∷ scripts) are = rw (page_script_ascii script.text script.lines are.0) (scripts_ascii scripts are.1)

scripts_equal : (s t : PageScript) → s.text ≡ t.text → s.lines ≡ t.lines → s ≡ t
scripts_equal s t e f = ap (λ (p : List ℕ × List Line). record { text = p.0; lines = p.1 }) (both e f)
  where
    both : s.text ≡ t.text → s.lines ≡ t.lines → ◌≡◌ {A = List ℕ × List Line} (s.text, s.lines) (t.text, t.lines)
    both e f = rw (e, f) refl

-- the text of a script element determines the element
same_element : (s t : PageScript) → s.text ≡ t.text → IsPageScript s.text s.lines → IsPageScript t.text t.lines → s ≡ t
same_element s t e is so = scripts_equal s t e (same_lines s.lines t.lines is.adds so.adds (sym is.whole ∙ e ∙ so.whole))

same_scripts : (a b : List PageScript) → ArePageScripts a → ArePageScripts b → flat_map element_text a ++ page_end ≡ flat_map element_text b ++ page_end → a ≡ b
same_scripts [] [] p q e = refl
same_scripts [] (t ∷ b) p q e = absurd (not_end (t.text ++ (codes "</script>" ++ (flat_map element_text b ++ page_end))) (e ∙ elements_seam t b page_end))
same_scripts (s ∷ a) [] p q e = absurd (not_end (s.text ++ (codes "</script>" ++ (flat_map element_text a ++ page_end))) (sym e ∙ elements_seam s a page_end))
same_scripts (s ∷ a) (t ∷ b) p q e =
    let inside = append_cancel_left (codes "<script>") (s.text ++ (codes "</script>" ++ (flat_map element_text a ++ page_end))) (t.text ++ (codes "</script>" ++ (flat_map element_text b ++ page_end))) (sym (elements_seam s a page_end) ∙ e ∙ elements_seam t b page_end) in
    let first = same_script s.text t.text (flat_map element_text a ++ page_end) (flat_map element_text b ++ page_end) s.lines t.lines p.0 q.0 inside in
    ap (λ x. x ∷ a) (same_element s t first.0 p.0 q.0) ∙ ap (λ xs. t ∷ xs) (same_scripts a b p.1 q.1 first.1)

same_blocks : (a b : Bool) (scripts others : List PageScript) → blocks_text a ++ (flat_map element_text scripts ++ page_end) ≡ blocks_text b ++ (flat_map element_text others ++ page_end)
    → (a ≡ b) × (flat_map element_text scripts ++ page_end ≡ flat_map element_text others ++ page_end)
same_blocks true true scripts others e = (refl, append_cancel_left (blocks_text true) (flat_map element_text scripts ++ page_end) (flat_map element_text others ++ page_end) e)
same_blocks true false scripts others e = absurd (no_blocks others (flat_map element_text scripts ++ page_end) e)
same_blocks false true scripts others e = absurd (no_blocks scripts (flat_map element_text others ++ page_end) (sym e))
same_blocks false false scripts others e = (refl, e)

pages_equal : (a b : Page) → a.title ≡ b.title → a.blocks ≡ b.blocks → a.scripts ≡ b.scripts → a ≡ b
pages_equal a b e f g = ap (λ (p : List ℕ × (Bool × List PageScript)). record { title = p.0; blocks = p.1.0; scripts = p.1.1 }) (all e f g)
  where
    all : a.title ≡ b.title → a.blocks ≡ b.blocks → a.scripts ≡ b.scripts → ◌≡◌ {A = List ℕ × (Bool × List PageScript)} (a.title, (a.blocks, a.scripts)) (b.title, (b.blocks, b.scripts))
    all e f g = rw (e, f, g) refl

-- the bytes of a page determine the page
pub read_one_way : (bytes : List ℕ) (page other : Page) → IsPage bytes page → IsPage bytes other → page ≡ other
read_one_way bytes page other is so =
    let body : List ℕ = blocks_text page.blocks ++ (flat_map element_text page.scripts ++ page_end) in
    let else : List ℕ = blocks_text other.blocks ++ (flat_map element_text other.scripts ++ page_end) in
    let titles = title_front bytes (page.title ++ (head_end ++ body)) page.title (head_end ++ body) other.title else is.whole refl (title_inside page.title is.titled) refl so.titled so.whole in
    let blocks = same_blocks page.blocks other.blocks page.scripts other.scripts (append_cancel_left head_end body else titles.1) in
    pages_equal page other titles.0 blocks.0 (same_scripts page.scripts other.scripts is.scripted so.scripted blocks.1)

pub title_ascii : (title : List ℕ) → IsTitle title → IsTrue (list_all is_ascii title)
title_ascii title is = inside_ascii AlphanumericOrBlank title (title_inside title is)

-- what follows the title and the start of the body
pub title_rest : (bytes title body : List ℕ) (page : Page) → IsTitle title → bytes ≡ head_start ++ (title ++ (head_end ++ body)) → IsPage bytes page → body ≡ blocks_text page.blocks ++ (flat_map element_text page.scripts ++ page_end)
title_rest bytes title body page titled e is =
    let rest : List ℕ = blocks_text page.blocks ++ (flat_map element_text page.scripts ++ page_end) in
    let titles = title_front bytes (title ++ (head_end ++ body)) title (head_end ++ body) page.title rest e refl (title_inside title titled) refl is.titled is.whole in
    append_cancel_left head_end body rest titles.1

both_ascii : (xs ys : List ℕ) → IsTrue (list_all is_ascii xs) → IsTrue (list_all is_ascii ys) → IsTrue (list_all is_ascii (xs ++ ys))
both_ascii xs ys p q = list_all-append is_ascii xs ys ∙ rw (p, q) refl

elements_ascii : (scripts : List PageScript) → ArePageScripts scripts → IsTrue (list_all is_ascii (flat_map element_text scripts))
elements_ascii [] are = refl
elements_ascii (script ∷ scripts) are =
    both_ascii (element_text script) (flat_map element_text scripts) (both_ascii script.text (codes "</script>") (page_script_ascii script.text script.lines are.0) refl) (elements_ascii scripts are.1)

blocks_ascii : (blocks : Bool) → IsTrue (list_all is_ascii (blocks_text blocks))
blocks_ascii true = refl
blocks_ascii false = refl

-- all bytes of a page are ASCII
pub page_ascii : (bytes : List ℕ) (page : Page) → IsPage bytes page → IsTrue (list_all is_ascii bytes)
page_ascii bytes page is =
    let P : List ℕ → Type 0 = λ xs. IsTrue (list_all is_ascii xs) in
    let elements : List ℕ = flat_map element_text page.scripts in
    let tail : List ℕ = blocks_text page.blocks ++ (elements ++ page_end) in
    subst P (sym is.whole)
    (both_ascii page.title (head_end ++ tail) (title_ascii page.title is.titled)
    (both_ascii (blocks_text page.blocks) (elements ++ page_end) (blocks_ascii page.blocks) (both_ascii elements page_end (elements_ascii page.scripts is.scripted) refl)))
