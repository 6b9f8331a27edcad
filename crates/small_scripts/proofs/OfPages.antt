-- The scripts of a page are no longer than the page.
use Rattle.std.proofs.Common.{ℕ, ◌<◌, ◌≤◌, zero, suc, List, [], ◌∷◌, ◌++◌, length, codes, get_or, Contains, subst, arith}
use Rattle.std.specs.List.{flat_map}
use Rattle.base_text.specs.declared.text.TheConstants.{TEXT_LIMIT}
use Rattle.door.specs.declared.zones.Zone.TheVariants.{Page as InPage}
use Rattle.small_forms.specs.declared.limits.TheConstants.{SMALL_PAGE_LIMIT}
use Rattle.small_forms.specs.declared.page.Page.{Page}
use Rattle.small_forms.specs.declared.page.PageScript.{PageScript}
use Rattle.small_forms.specs.declared.script.Line.{Line}
use Rattle.small_forms.specs.Pages.{IsPage, blocks_text, element_text, page_text, texts_of_scripts}
use Rattle.small_forms.specs.Scripts.{IsPageScript}
use Rattle.js_semantics.specs.Entries.{Spells}
use Rattle.small_scripts.specs.Trees.{body_of}
use Rattle.small_scripts.proofs.Lengths.{Fits, left_fits, right_fits}
use Rattle.small_scripts.proofs.Whole.{page_script_spells}

element_fits : (script : PageScript) → Fits (element_text script) → Fits script.text
element_fits script h = left_fits script.text (codes "</script>") (right_fits (codes "<script>") (script.text ++ codes "</script>") h)

script_fits : (scripts : List PageScript) (k : ℕ) (default : List ℕ) → k < length (texts_of_scripts scripts) → Fits (flat_map element_text scripts) → Fits (get_or (texts_of_scripts scripts) k default)
script_fits [] k default in_ h = absurd (omega arith)
script_fits (script ∷ scripts) zero default in_ h = element_fits script (left_fits (element_text script) (flat_map element_text scripts) h)
script_fits (script ∷ scripts) (suc k) default in_ h = script_fits scripts k default (omega arith) (right_fits (element_text script) (flat_map element_text scripts) h)

within_limit : (n : ℕ) → n ≤ SMALL_PAGE_LIMIT → n ≤ TEXT_LIMIT
within_limit n h = omega arith

scripts_fit : (bytes : List ℕ) (page : Page) → IsPage bytes page → Fits (flat_map element_text page.scripts)
scripts_fit bytes page is =
    let elements = flat_map element_text page.scripts in
    let closing = elements ++ codes "</body></html>" in
    let blocks = blocks_text page.blocks in
    let whole : Fits (page_text page) = subst Fits is.whole (within_limit (length bytes) is.short) in
    left_fits elements (codes "</body></html>")
    (right_fits blocks closing (right_fits (codes "</title></head><body>") (blocks ++ closing) (right_fits page.title (codes "</title></head><body>" ++ (blocks ++ closing)) (right_fits (codes "<html><head><title>") (page.title ++ (codes "</title></head><body>" ++ (blocks ++ closing))) whole))))

pub script_of_page_spells : (bytes : List ℕ) (page : Page) (text : List ℕ) (lines : List Line) → IsPage bytes page → Contains (texts_of_scripts page.scripts) text → IsPageScript text lines → Spells text (body_of InPage lines)
script_of_page_spells bytes page text lines is among is_script =
    page_script_spells text lines is_script (subst Fits among.2 (script_fits page.scripts among.0 text among.1 (scripts_fit bytes page is)))
