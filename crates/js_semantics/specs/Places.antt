-- The places of the prototypes that rules name, and the bounds that rules share; this project's own. The table of the built-ins says which
-- cell stands at each place.
use Rattle.std.specs.Prelude.{ℕ}

abbrev pub OBJECT_PROTOTYPE : ℕ
OBJECT_PROTOTYPE = 1

abbrev pub FUNCTION_PROTOTYPE : ℕ
FUNCTION_PROTOTYPE = 10

abbrev pub ARRAY_PROTOTYPE : ℕ
ARRAY_PROTOTYPE = 14

abbrev pub STRING_PROTOTYPE : ℕ
STRING_PROTOTYPE = 22

abbrev pub NUMBER_PROTOTYPE : ℕ
NUMBER_PROTOTYPE = 24

abbrev pub BOOLEAN_PROTOTYPE : ℕ
BOOLEAN_PROTOTYPE = 26

abbrev pub ERROR_PROTOTYPE : ℕ
ERROR_PROTOTYPE = 47

abbrev pub EVENT_TARGET_PROTOTYPE : ℕ
EVENT_TARGET_PROTOTYPE = 79

abbrev pub NODE_PROTOTYPE : ℕ
NODE_PROTOTYPE = 81

abbrev pub DOCUMENT_PROTOTYPE : ℕ
DOCUMENT_PROTOTYPE = 83

abbrev pub ELEMENT_PROTOTYPE : ℕ
ELEMENT_PROTOTYPE = 85

abbrev pub CHARACTER_DATA_PROTOTYPE : ℕ
CHARACTER_DATA_PROTOTYPE = 87

abbrev pub WINDOW_PROTOTYPE : ℕ
WINDOW_PROTOTYPE = 89

abbrev pub EVENT_PROTOTYPE : ℕ
EVENT_PROTOTYPE = 91
