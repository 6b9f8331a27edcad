-- The form of page that is read until pages are read by the whole page grammar; this project's own.
use Rattle.std.specs.Prelude.{◌≡◌, ◌≤◌, ℕ, Bool, List, [], ◌∷◌, ◌++◌, length, map, codes, if◌then◌else◌}
use Rattle.std.specs.List.{flat_map}
use Rattle.small_forms.specs.declared.limits.TheConstants.{PAGE_SCRIPT_LIMIT, SMALL_PAGE_LIMIT}
use Rattle.small_forms.specs.declared.page.Page.{Page}
use Rattle.small_forms.specs.declared.page.PageScript.{PageScript}
use Rattle.small_forms.specs.declared.bytes.Class.TheVariants.{Alphanumeric, Blank}
use Rattle.small_forms.specs.Bytes.{AreRuns}
use Rattle.small_forms.specs.Scripts.{IsPageScript}

-- words of ASCII letters and digits with one blank between two
abbrev pub IsTitle : List ℕ → Type 0
IsTitle title = AreRuns Alphanumeric Blank title

-- the text of each of these is read as its lines
abbrev pub ArePageScripts : List PageScript → Type 0
ArePageScripts [] = Unit {0}
ArePageScripts (script ∷ scripts) = IsPageScript script.text script.lines × ArePageScripts scripts

-- the texts in these script elements
abbrev pub texts_of_scripts : List PageScript → List (List ℕ)
texts_of_scripts scripts = map (λ (script : PageScript). script.text) scripts

-- the paragraph and the division, where the page has them
abbrev pub blocks_text : Bool → List ℕ
blocks_text blocks = if blocks then codes "<p id=\"p\"></p><div id=\"d\"></div>" else []

-- a script element
abbrev pub element_text : PageScript → List ℕ
element_text script = codes "<script>" ++ (script.text ++ codes "</script>")

-- the page of this title, with these script elements
abbrev pub page_text : Page → List ℕ
page_text page =
    codes "<html><head><title>" ++ (page.title ++ (codes "</title></head><body>" ++ (blocks_text page.blocks ++ (flat_map element_text page.scripts ++ codes "</body></html>"))))

-- the bytes of a page of this form, with no more of them and of script elements than a page may have
pub record IsPage (bytes : List ℕ) (page : Page) : Type 0 where
  pub titled : IsTitle page.title
  pub scripted : ArePageScripts page.scripts
  pub few : length page.scripts ≤ PAGE_SCRIPT_LIMIT
  pub whole : bytes ≡ page_text page
  pub short : length bytes ≤ SMALL_PAGE_LIMIT
