-- What a run that is refused answers.
use Rattle.std.specs.Prelude.{◌≡◌, ◌⊎◌, ℕ, List, [], ◌∷◌, ◌++◌, codes}
use Rattle.std.specs.Fmt.{decimal}
use Rattle.page_host.specs.declared.faults.HostFault.{HostFault}
use Rattle.page_host.specs.declared.faults.HostFault.TheVariants.{Usage, PageRefused, ReadFault, WriteFault, NoMemory, TooManyScripts, NotYet}
use Rattle.page_text.specs.declared.faults.PageKind.{PageKind}
use Rattle.page_text.specs.declared.faults.PageKind.TheVariants.{Missing, NotUtf8, TooLong, Unclosed, BadTag, WrongEnd, TooDeep}

-- the status of each fault
abbrev pub status_of : HostFault → ℕ
status_of Usage = 2
status_of (PageRefused fault) = 3
status_of (TooManyScripts count) = 12
status_of ReadFault = 6
status_of WriteFault = 8
status_of NoMemory = 11
status_of NotYet = 14

-- the name of each kind
abbrev pub kind_name : PageKind → List ℕ
kind_name Missing = codes "Missing"
kind_name NotUtf8 = codes "NotUtf8"
kind_name TooLong = codes "TooLong"
kind_name Unclosed = codes "Unclosed"
kind_name BadTag = codes "BadTag"
kind_name WrongEnd = codes "WrongEnd"
kind_name TooDeep = codes "TooDeep"

-- the line of each fault
abbrev pub line_of : HostFault → List ℕ
line_of Usage = codes "usage: pagehost run ADDRESS [--trace] or gen N"
line_of (PageRefused fault) = codes "page refused at " ++ (decimal fault.at ++ (codes ": " ++ kind_name fault.kind))
line_of (TooManyScripts count) = codes "too many userscripts: " ++ decimal count
line_of ReadFault = codes "read fault"
line_of WriteFault = codes "write fault"
line_of NoMemory = codes "no memory"
line_of NotYet = codes "not built yet"

-- `page.html` is missing
abbrev pub page_missing : HostFault
page_missing = PageRefused (record { at = 0; kind = Missing })

-- the status is one of these
abbrev pub IsOneOf : ℕ → List ℕ → Type 0
IsOneOf status [] = ⊥
IsOneOf status (s ∷ statuses) = (status ≡ s) ⊎ IsOneOf status statuses

-- the fault is a refusal of words or files
abbrev pub IsRefusal : HostFault → Type 0
IsRefusal Usage = Unit {0}
IsRefusal (PageRefused fault) = Unit {0}
IsRefusal (TooManyScripts count) = Unit {0}
IsRefusal NotYet = Unit {0}
IsRefusal ReadFault = ⊥
IsRefusal WriteFault = ⊥
IsRefusal NoMemory = ⊥

-- the statuses of refusals
abbrev pub IsRefusalStatus : ℕ → Type 0
IsRefusalStatus status = IsOneOf status (2 ∷ (3 ∷ (12 ∷ (14 ∷ []))))
