-- The scripts of a small run are read as their lines, and they are short.
use Rattle.std.proofs.Common.{◌≡◌, ◌∙◌, inl, inr, ap, subst, ℕ, ◌+◌, ◌≤◌, Bool, true, false, List, [], ◌∷◌, arith, length, map, nat_eq, slice_get, Some, None}
use Prim.Native.Nat.{zero, suc}
use Rattle.std.proofs.lemmas.Bool.Decides.{nat_tests}
use Rattle.base_text.specs.declared.text.TheConstants.{TEXT_LIMIT}
use Rattle.door.specs.declared.values.Actor.{Actor}
use Rattle.door.specs.declared.requests.Request.{Request}
use Rattle.door.specs.declared.marks.Entry.TheVariants.{Script}
use Rattle.door.specs.declared.marks.Mark.{Mark}
use Rattle.door.specs.declared.marks.Mark.TheVariants.{Enter}
use Rattle.door.specs.declared.zones.Zone.{Zone}
use Rattle.door.specs.declared.zones.Zone.TheVariants.{Host, Page, PlainScript, XrayScript}
use Rattle.js_semantics.specs.Entries.{Spells}
use Rattle.small_eval.specs.Pieces.{after_script, pieces_from, pieces_of}
use Rattle.small_forms.specs.declared.limits.TheConstants.{SMALL_PAGE_LIMIT}
use Rattle.small_forms.specs.declared.page.Page.{Page as OnePage}
use Rattle.small_forms.specs.declared.page.PageScript.{PageScript}
use Rattle.small_forms.specs.declared.script.Line.{Line}
use Rattle.small_forms.specs.declared.userscript.Userscript.{Userscript}
use Rattle.small_forms.specs.Pages.{ArePageScripts, IsPage, texts_of_scripts}
use Rattle.small_forms.specs.Scripts.{IsPageScript, IsUserscript}
use Rattle.small_meaning.specs.Rows.{Reads}
use Rattle.small_meaning.specs.Shows.{FitsEntry}
use Rattle.small_meaning.proofs.Shown.{All, AllGiven, OfScript}
use Rattle.small_scripts.specs.Trees.{body_of}
use Rattle.solo_model.specs.Lawful.{Piece}
use Rattle.solo_model.specs.Things.{the_page, userscript}
use Rattle.solo_model.specs.View.{is_actor}
use Rattle.small_runs.proofs.Acting.{AllOf, EntersWith, IsOfPage}
use Rattle.small_runs.proofs.Paging.{AreShort, page_texts_short}
use Rattle.small_runs.proofs.Seeing.{EntersOwn}
use Rattle.small_runs.specs.SmallGiven.{AreUserscripts, input_of}

same_some : {A : Type 0} (x y : A) → Some x ≡ Some y → x ≡ y
same_some x y e = cc

no_some : {A : Type 0} (x : A) → None ≡ Some x → ⊥
no_some x e = cc

abbrev pub Readable : Zone → List ℕ → Type 0
Readable zone text = (lines : List Line) × Reads zone text lines

-- ---- scripts of the page

script_read : (script : PageScript) (piece : Piece) (text : List ℕ) → IsPageScript script.text script.lines → Some script.text ≡ piece.script → piece.script ≡ Some text → Readable Page text
script_read script piece text h e k = subst (Readable Page) (same_some script.text text (e ∙ k)) (script.lines, h)

pieces_read : (n : ℕ) (begun : List Request) (scripts : List PageScript) (k : ℕ) (piece : Piece) (text : List ℕ) → ArePageScripts scripts
    → slice_get (pieces_from n begun (texts_of_scripts scripts)) k ≡ Some piece → piece.script ≡ Some text → Readable Page text
pieces_read n begun [] zero piece text h e k = absurd (no_some text (ap (λ (p : Piece). p.script) (same_some _ piece e) ∙ k))
pieces_read n begun [] (suc j) piece text h e k = absurd cc
pieces_read n begun (script ∷ scripts) zero piece text h e k = script_read script piece text h.0 (ap (λ (p : Piece). p.script) (same_some _ piece e)) k
pieces_read n begun (script ∷ scripts) (suc j) piece text h e k = pieces_read (after_script n script.text) [] scripts j piece text h.1 e k

pub page_reads : (bytes : List ℕ) (page : OnePage) (scripts : List Userscript) (text : List ℕ) → IsPage bytes page → IsOfPage (input_of (pieces_of page) scripts) text → Readable Page text
page_reads bytes page scripts text h o = pieces_read _ _ page.scripts o.n o.piece text h.scripted o.got o.is

-- ---- userscripts

pub script_reads : (scripts : List Userscript) (m : ℕ) (text : List ℕ) → AreUserscripts scripts → slice_get (map (λ (script : Userscript). script.text) scripts) m ≡ Some text → Readable XrayScript text
script_reads [] m text h e = absurd cc
script_reads (script ∷ scripts) zero text h e = subst (Readable XrayScript) (same_some script.text text e) (script.lines, (script.name, h.0))
script_reads (script ∷ scripts) (suc m) text h e = script_reads scripts m text h.1 e

-- ---- an actor's own entries

differ : (m : ℕ) → is_actor (userscript m) the_page ≡ false
differ m = other m
  where
    other : (k : ℕ) → nat_eq (k + 2) 1 ≡ false
    other k = grind (arith, nat_tests)

unlike : (m : ℕ) → is_actor the_page (userscript m) ≡ false
unlike m = other m
  where
    other : (k : ℕ) → nat_eq 1 (k + 2) ≡ false
    other k = grind (arith, nat_tests)

contrary : (b : Bool) → b ≡ false → b ≡ true → ⊥
contrary true e h = cc
contrary false e h = cc

entry_of_page : (bytes : List ℕ) (page : OnePage) (scripts : List Userscript) (j : Actor) (text : List ℕ) → IsPage bytes page → EntersWith (input_of (pieces_of page) scripts) j text
    → is_actor j the_page ≡ true → Readable Page text
entry_of_page bytes page scripts j text h (inl (is, has)) e = page_reads bytes page scripts text h has
entry_of_page bytes page scripts j text h (inr (m, got, is)) e =
    let P : Actor → Type 0 = λ a. is_actor a the_page ≡ true in absurd (contrary (is_actor (userscript m) the_page) (differ m) (subst P is e))

pub page_enters : (bytes : List ℕ) (page : OnePage) (scripts : List Userscript) (marks : List Mark) → IsPage bytes page → AllOf (input_of (pieces_of page) scripts) marks
    → EntersOwn the_page (Readable Page) marks
page_enters bytes page scripts [] h of = tt
page_enters bytes page scripts (Enter j (Script text) ∷ marks) h of = (λ e. entry_of_page bytes page scripts j text h of.0 e, page_enters bytes page scripts marks h of.1)
page_enters bytes page scripts (mark ∷ marks) h of = page_enters bytes page scripts marks h of.1

entry_of_script : (pieces : List Piece) (scripts : List Userscript) (j : Actor) (n : ℕ) (text : List ℕ) → AreUserscripts scripts → EntersWith (input_of pieces scripts) j text
    → is_actor j (userscript n) ≡ true → Readable XrayScript text
entry_of_script pieces scripts j n text h (inl (is, has)) e =
    let P : Actor → Type 0 = λ a. is_actor a (userscript n) ≡ true in absurd (contrary (is_actor the_page (userscript n)) (unlike n) (subst P is e))
entry_of_script pieces scripts j n text h (inr (m, got, is)) e = script_reads scripts m text h got

pub script_enters : (pieces : List Piece) (scripts : List Userscript) (n : ℕ) (marks : List Mark) → AreUserscripts scripts → AllOf (input_of pieces scripts) marks
    → EntersOwn (userscript n) (Readable XrayScript) marks
script_enters pieces scripts n [] h of = tt
script_enters pieces scripts n (Enter j (Script text) ∷ marks) h of = (λ e. entry_of_script pieces scripts j n text h of.0 e, script_enters pieces scripts n marks h of.1)
script_enters pieces scripts n (mark ∷ marks) h of = script_enters pieces scripts n marks h of.1

-- ---- what is entered is short, so it spells its lines

-- what the laws of the small forms say
pub record SmallLaws : Type 0 where
  pub page : (text : List ℕ) (lines : List Line) → IsPageScript text lines → length text ≤ TEXT_LIMIT → Spells text (body_of Page lines)
  pub userscript : (text name : List ℕ) (lines : List Line) → IsUserscript text name lines → Spells text (body_of XrayScript lines)

spelled : SmallLaws → (zone : Zone) (text : List ℕ) (lines : List Line) → length text ≤ SMALL_PAGE_LIMIT → Reads zone text lines → Spells text (body_of zone lines)
spelled laws Page text lines short reads = laws.page text lines reads (omega (arith, short))
spelled laws XrayScript text lines short (name, reads) = laws.userscript text name lines reads
spelled laws Host text lines short reads = absurd reads
spelled laws PlainScript text lines short reads = absurd reads

fits : SmallLaws → (zone : Zone) (text : List ℕ) → length text ≤ SMALL_PAGE_LIMIT → FitsEntry zone (Script text)
fits laws zone text short = (short, λ lines reads. spelled laws zone text lines short reads)

pieces_fit : (laws : SmallLaws) (zone : Zone) (n : ℕ) (begun : List Request) (texts : List (List ℕ)) → AreShort texts
    → All (λ (piece : Piece). OfScript (λ text. FitsEntry zone (Script text)) piece.script) (pieces_from n begun texts)
pieces_fit laws zone n begun [] h = (tt, tt)
pieces_fit laws zone n begun (text ∷ texts) h = (fits laws zone text h.0, pieces_fit laws zone (after_script n text) [] texts h.1)

starts_fit : (laws : SmallLaws) (zone : Zone) (scripts : List Userscript) → AreUserscripts scripts → All (λ text. FitsEntry zone (Script text)) (map (λ (script : Userscript). script.text) scripts)
starts_fit laws zone [] h = tt
starts_fit laws zone (script ∷ scripts) h = (fits laws zone script.text (omega (arith, h.0.short)), starts_fit laws zone scripts h.1)

pub all_fit : (laws : SmallLaws) (zone : Zone) (bytes : List ℕ) (page : OnePage) (scripts : List Userscript) → IsPage bytes page → AreUserscripts scripts
    → AllGiven (λ text. FitsEntry zone (Script text)) (input_of (pieces_of page) scripts)
all_fit laws zone bytes page scripts h forms = record { pieces = pieces_fit laws zone _ _ (texts_of_scripts page.scripts) (page_texts_short bytes page h).scripts; starts = starts_fit laws zone scripts forms }
