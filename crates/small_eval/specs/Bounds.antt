-- How many marks and nodes the parts of a run make at most, computed from the limits of a run and of the small forms; this project's own.
use Rattle.std.specs.Prelude.{◌+◌, ◌*◌, ℕ}
use Rattle.door.specs.declared.limits.TheConstants.{FUEL_LIMIT, USERSCRIPT_LIMIT}
use Rattle.small_forms.specs.declared.limits.TheConstants.{PAGE_SCRIPT_LIMIT}

-- the marks of an entry: its begin and its end, and a request for each unit of fuel
abbrev pub ENTRY_MARKS : ℕ
ENTRY_MARKS = FUEL_LIMIT + 2

-- those of a script: its entry, its turn and its element
abbrev pub SCRIPT_MARKS : ℕ
SCRIPT_MARKS = ENTRY_MARKS + 8

-- the marks of a page: its head and blocks, and its scripts
abbrev pub PAGE_MARKS : ℕ
PAGE_MARKS = 50 + SCRIPT_MARKS * PAGE_SCRIPT_LIMIT

-- the marks until the userscripts start: those of the page, and DOMContentLoaded
abbrev pub START_MARKS : ℕ
START_MARKS = PAGE_MARKS + 4

-- the marks until the load event
abbrev pub LOAD_MARKS : ℕ
LOAD_MARKS = START_MARKS + SCRIPT_MARKS * USERSCRIPT_LIMIT

-- the nodes of a page: those of its head and blocks, and two for each script
abbrev pub PAGE_NODES : ℕ
PAGE_NODES = 8 + 2 * PAGE_SCRIPT_LIMIT
