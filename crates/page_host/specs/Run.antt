-- What a run of the form that is built makes; this project's own.
use Rattle.std.specs.Prelude.{◌≡◌, ◌≤◌, ◌⊎◌, ℕ, false, List, [], codes, length, Option, Some, None, IfSome}
use Rattle.outside.specs.Contents.{Files, content}
use Rattle.door.specs.declared.limits.TheConstants.{USERSCRIPT_LIMIT}
use Rattle.door.specs.declared.marks.Mark.{Mark}
use Rattle.dom_semantics.specs.declared.selectors.Compound.{Compound}
use Rattle.small_forms.specs.Pages.{IsPage}
use Rattle.small_forms.specs.declared.page.Page.{Page}
use Rattle.small_forms.specs.declared.userscript.Userscript.{Userscript}
use Rattle.small_eval.specs.Pieces.{pieces_of}
use Rattle.small_runs.specs.SmallGiven.{given_of}
use Rattle.solo_model.specs.Given as run
use Rattle.solo_model.specs.Right as journal
use Rattle.page_host.specs.Address.{IsPlainAddress}
use Rattle.page_host.specs.Names.{IsScriptNames}
use Rattle.page_host.specs.Printed.{document_of}
use Rattle.page_host.specs.Report.{report_of}
use Rattle.page_host.specs.Scripts.{AreRead}
use Rattle.page_host.specs.Words.{IsRunCommand}

-- The address, the page and the userscripts that words and files give, and how selectors are read: rightly, where what the run is given is in
-- order.
pub record Given (words : List (List ℕ)) (files : Files) : Type 0 where
  pub address : List ℕ
  pub bytes : List ℕ
  pub page : Page
  pub names : List (List ℕ)
  pub scripts : List Userscript
  pub command : IsRunCommand words address false
  pub plain : IsPlainAddress address
  pub named : IsScriptNames files names
  pub few : length names ≤ USERSCRIPT_LIMIT
  pub eventless : content files (codes "events.txt") ≡ None
  pub paged : content files (codes "page.html") ≡ Some bytes
  pub reads : IsPage bytes page
  pub scripted : AreRead files names scripts
  pub read_selector : List ℕ → Option (List (List Compound))

-- what the run is given of it; all bytes of these forms are ASCII, so they are the scalars of their texts
abbrev pub run_of : {words : List (List ℕ)} {files : Files} → Given words files → run.Given
run_of given = given_of given.address (pieces_of given.page) given.scripts given.read_selector

-- The journal of these marks and the report of these bytes are right for these words and files: what the run is given is in order, the journal
-- is lawful, all that it says is true, each actor but the host does what its own machine does while it is closed, and the report is that of the
-- journal and of the document that its marks build.
pub record IsRight (words : List (List ℕ)) (files : Files) (marks : List Mark) (bytes : List ℕ) : Type 0 where
  pub given : Given words files
  pub right : journal.IsRight (run_of given) marks
  pub reported : bytes ≡ report_of given.address given.names (document_of (run_of given) marks) marks

-- The same for the files that a folder tells, and for some files where it tells none.
pub record IsRightOver (words : List (List ℕ)) (told : Option Files) (marks : List Mark) (bytes : List ℕ) : Type 0 where
  pub files : Files
  pub known : IfSome told (λ all. all ≡ files)
  pub right : IsRight words files marks bytes

-- the journal is right so far for what these words and files give
pub record IsBegun (words : List (List ℕ)) (told : Option Files) (marks : List Mark) : Type 0 where
  pub files : Files
  pub known : IfSome told (λ all. all ≡ files)
  pub given : Given words files
  pub right : journal.IsRightSoFar (run_of given) marks

-- What holds of the journal of a run that ended early: it is empty, or it is right as far as it came, where each actor but the host did what its
-- own machine does while it is closed, but for one deed at most of the one that was running.
abbrev pub IsRightSoFar : List (List ℕ) → Option Files → List Mark → Type 0
IsRightSoFar words told marks = (marks ≡ []) ⊎ IsBegun words told marks
