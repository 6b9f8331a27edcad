use Rattle.std.proofs.Common.{◌≡◌, ◌≤◌, ◌++◌, List, length}
use Rattle.std.specs.List.{flat_map}
use Rattle.small_forms.specs.declared.limits.TheConstants.{PAGE_SCRIPT_LIMIT, SMALL_PAGE_LIMIT}
use Rattle.small_forms.specs.declared.page.PageScript.{PageScript}
use Rattle.small_forms.specs.Pages.{ArePageScripts, element_text}
use Rattle.small_forms.proofs.PageFronts.{AreLeft, page_end}
use Rattle.small_forms.proofs.page.scripts_in.Given as goal

abbrev pub invariant-loop-inside : goal.invariant-loop-inside
invariant-loop-inside l =
    record {
      front : l.bytes ≡ flat_map element_text l.scripts ++ l.rest;
      scripts : ArePageScripts l.scripts;
      few : length l.scripts ≤ PAGE_SCRIPT_LIMIT;
      only : (scripts : List PageScript) → ArePageScripts scripts → length scripts ≤ PAGE_SCRIPT_LIMIT → l.bytes ≡ flat_map element_text scripts ++ page_end → AreLeft (length l.scripts) l.rest;
      short : length l.rest ≤ SMALL_PAGE_LIMIT;
    }

abbrev pub decreases-loop-inside : goal.decreases-loop-inside
decreases-loop-inside l = length l.rest
