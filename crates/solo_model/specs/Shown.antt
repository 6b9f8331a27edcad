-- What others see of an object without running any code (MDN, Xray vision, Object and Array; the hidden keys are this project's own).
use Rattle.std.specs.Prelude.{ℕ, Bool, true, List, [], ◌∷◌, ◌++◌, codes, filter, if◌then◌else◌, Option, Some, None, is_some}
use Rattle.std.specs.List.{list_any}
use Rattle.std.specs.Option.{option_map_or}
use Rattle.std.specs.Str.{bytes_eq}
use Rattle.door.specs.declared.values.Shape.{Shape}
use Rattle.door.specs.declared.values.Shape.TheVariants as shape
use Rattle.door.specs.declared.requests.Answer.{Answer}
use Rattle.door.specs.declared.requests.Answer.TheVariants as answer
use Rattle.js_semantics.specs.Machine.{Machine, Own, Value, Property, Datum, cell_at}
use Rattle.js_semantics.specs.DoorValues.{shape_at, door_value}
use Rattle.js_semantics.specs.Members.{own_property}
use Rattle.js_semantics.specs.Operations.{is_function}
use Rattle.js_semantics.specs.Properties.{own_keys}

-- ---- hidden keys

-- the keys of Object.prototype, and of Array.prototype, as far as they are built (ECMAScript, 20.1.3 and 23.1.3)
abbrev pub object_keys : List (List ℕ)
object_keys = codes "constructor" ∷ codes "hasOwnProperty" ∷ codes "toString" ∷ []

abbrev pub array_keys : List (List ℕ)
array_keys =
    object_keys
    ++ (codes "push" ∷ codes "pop" ∷ codes "shift" ∷ codes "unshift" ∷ codes "reverse" ∷ codes "forEach" ∷ codes "map" ∷ codes "filter" ∷ codes "some"
    ∷ codes "every" ∷ codes "indexOf" ∷ codes "slice" ∷ codes "join" ∷ codes "concat" ∷ [])

abbrev pub is_among_keys : List ℕ → List (List ℕ) → Bool
is_among_keys key keys = list_any (bytes_eq key) keys

-- objects that aren't plain and no arrays are opaque
abbrev pub is_hidden : Shape → List ℕ → Bool
is_hidden shape.Plain key = is_among_keys key object_keys
is_hidden shape.Array key = is_among_keys key array_keys
is_hidden other key = true

-- ---- shown properties

-- a data property whose value is no function
abbrev pub shown_property : Machine → Option Property → Option Value
shown_property m (Some (Datum value writable enumerable)) = if is_function m value then None else Some value
shown_property m property = None

abbrev pub shown_of : Machine → ℕ → List ℕ → Option Value
shown_of m place key = if is_hidden (shape_at m place) key then None else shown_property m (own_property m (Own place) key)

abbrev pub keys_at : Machine → ℕ → List (List ℕ)
keys_at m place = option_map_or own_keys (cell_at m place) []

-- the keys of enumerable properties that are shown, in order
abbrev pub shown_keys : Machine → ℕ → List (List ℕ)
shown_keys m place = filter (λ key. is_some (shown_of m place key)) (keys_at m place)

-- ---- what a look is answered, in the owner's numbering

abbrev pub peeked_answer : Machine → ℕ → List ℕ → Answer
peeked_answer m place key = option_map_or (λ value. answer.Value (door_value m value)) (shown_of m place key) answer.Absent

abbrev pub peeked_keys_answer : Machine → ℕ → Answer
peeked_keys_answer m place = answer.Keys (shown_keys m place)
