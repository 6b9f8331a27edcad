-- Lists of properties in order of insertion, and what a cell has of its own (ECMAScript, 10.1.5 to 10.1.11 and 10.4.2). An array's
-- places are dense and its keys come before the others.
use Rattle.std.specs.Prelude.{ℕ, zero, suc, Bool, true, false, ◌&&◌, ◌+◌, ◌-◌, ◌*◌, ◌==◌, List, [], ◌∷◌, ◌++◌, Option, Some, None, length, take, slice_get, slice_set, nat_le, nat_lt, pos, negsuc, ℤ, if◌then◌else◌, codes, unsigned_abs}
use Rattle.std.specs.Fmt.{decimal}
use Rattle.std.specs.Str.{bytes_eq}
use Rattle.std.specs.declared.result.Result.{Result}
use Rattle.std.specs.declared.result.Result.TheVariants.{Ok, Err}
use Rattle.base_text.specs.declared.number.TheConstants.{MAX_SAFE_INTEGER}
use Rattle.door.specs.declared.requests.ErrorKind.{ErrorKind}
use Rattle.door.specs.declared.requests.ErrorKind.TheVariants.{Range, Kind}
use Rattle.js_semantics.specs.Primitives.{NumberPrim}
use Rattle.js_semantics.specs.Machine.{Value, Primitive, Property, Datum, Accessor, Slot, Form, Array, Cell, count}

-- ---- lists of properties

-- the property under a key
abbrev pub property_in : List Slot → List ℕ → Option Property
property_in [] key = None
property_in (slot ∷ slots) key = if bytes_eq slot.key key then Some slot.property else property_in slots key

-- a property is defined: under a key that stands it takes the place, and a new key goes last
abbrev pub defined_in : List Slot → List ℕ → Property → List Slot
defined_in [] key property = record { key = key; property = property } ∷ []
defined_in (slot ∷ slots) key property =
    if bytes_eq slot.key key then record { key = key; property = property } ∷ slots else slot ∷ defined_in slots key property

-- a property is removed
abbrev pub removed_in : List Slot → List ℕ → List Slot
removed_in [] key = []
removed_in (slot ∷ slots) key = if bytes_eq slot.key key then slots else slot ∷ removed_in slots key

abbrev pub is_enumerable : Property → Bool
is_enumerable (Datum value writable enumerable) = enumerable
is_enumerable (Accessor get set enumerable) = enumerable

-- the enumerable keys in order
abbrev pub keys_in : List Slot → List (List ℕ)
keys_in [] = []
keys_in (slot ∷ slots) = if is_enumerable slot.property then slot.key ∷ keys_in slots else keys_in slots

-- ---- places of an array

-- the greatest whole number (ECMAScript, 21.1.2.6)
abbrev pub MAX_NUMBER : ℕ
MAX_NUMBER = unsigned_abs MAX_SAFE_INTEGER

-- the number that digits spell
abbrev pub number_spelled : ℕ → List ℕ → ℕ
number_spelled front [] = front
number_spelled front (digit ∷ digits) = number_spelled (front * 10 + (digit - 48)) digits

-- the place that a key spells: the digits of a number, without a zero in front
abbrev pub place_spelled : List ℕ → Option ℕ
place_spelled key =
    let n = number_spelled 0 key in if bytes_eq (decimal n) key && nat_le n MAX_NUMBER then Some n else None

abbrev pub length_key : List ℕ
length_key = codes "length"

-- the digits of the numbers from n on, so many
abbrev pub places_from : ℕ → ℕ → List (List ℕ)
places_from n zero = []
places_from n (suc left) = decimal n ∷ places_from (suc n) left

-- ---- what a cell has of its own

-- an element is writable and enumerable
abbrev pub element : Option Value → Option Property
element None = None
element (Some value) = Some (Datum value true true)

-- a place of an array, its length, or one of its other properties
abbrev pub array_own : List Value → List Slot → List ℕ → Option ℕ → Option Property
array_own elements slots key (Some place) = element (slice_get elements place)
array_own elements slots key None = if bytes_eq key length_key then Some (Datum (count (length elements)) true false) else property_in slots key

abbrev pub form_own : Form → List Slot → List ℕ → Option Property
form_own (Array elements) slots key = array_own elements slots key (place_spelled key)
form_own form slots key = property_in slots key

-- the own property under a key
abbrev pub own_of : Cell → List ℕ → Option Property
own_of cell key = form_own cell.form cell.slots key

abbrev pub form_keys : Form → List Slot → List (List ℕ)
form_keys (Array elements) slots = places_from 0 (length elements) ++ keys_in slots
form_keys form slots = keys_in slots

-- the own enumerable keys: an array's places, and then the others by insertion
abbrev pub own_keys : Cell → List (List ℕ)
own_keys cell = form_keys cell.form cell.slots

-- ---- a property is defined

abbrev pub with_elements : Cell → List Value → Cell
with_elements cell elements = record cell { form = Array elements }

-- an element is written, or appended at the end; there is none past it
abbrev pub element_written : Cell → List Value → ℕ → Value → Result Cell ErrorKind
element_written cell elements place value =
    if nat_lt place (length elements) then Ok (with_elements cell (slice_set elements place value))
    else (if place == length elements then Ok (with_elements cell (elements ++ value ∷ [])) else Err Range)

-- an element has no other form than writable and enumerable; the place is looked at first
abbrev pub element_defined : Cell → List Value → ℕ → Property → Result Cell ErrorKind
element_defined cell elements place (Datum value true true) = element_written cell elements place value
element_defined cell elements place property = if nat_le place (length elements) then Err Kind else Err Range

-- a smaller length cuts; there is none greater, and none below 0
abbrev pub length_written : Cell → List Value → ℤ → Result Cell ErrorKind
length_written cell elements (pos n) = if nat_le n (length elements) then Ok (with_elements cell (take n elements)) else Err Range
length_written cell elements (negsuc n) = Err Range

-- another change of the length than a write: the number is looked at first
abbrev pub length_kept : Result Cell ErrorKind → Result Cell ErrorKind
length_kept (Ok cut) = Err Kind
length_kept (Err kind) = Err kind

-- the length is written by a number, and changed in no other way
abbrev pub length_defined : Cell → List Value → Property → Result Cell ErrorKind
length_defined cell elements (Datum (Primitive (NumberPrim z)) true false) = length_written cell elements z
length_defined cell elements (Datum (Primitive (NumberPrim z)) writable enumerable) = length_kept (length_written cell elements z)
length_defined cell elements property = Err Kind

abbrev pub slot_defined : Cell → List ℕ → Property → Cell
slot_defined cell key property = record cell { slots = defined_in cell.slots key property }

abbrev pub array_defined : Cell → List Value → List ℕ → Property → Option ℕ → Result Cell ErrorKind
array_defined cell elements key property (Some place) = element_defined cell elements place property
array_defined cell elements key property None =
    if bytes_eq key length_key then length_defined cell elements property else Ok (slot_defined cell key property)

abbrev pub form_defined : Form → Cell → List ℕ → Property → Result Cell ErrorKind
form_defined (Array elements) cell key property = array_defined cell elements key property (place_spelled key)
form_defined form cell key property = Ok (slot_defined cell key property)

-- the cell with the property, or why it can't have it
abbrev pub defined_of : Cell → List ℕ → Property → Result Cell ErrorKind
defined_of cell key property = form_defined cell.form cell key property

-- ---- a property is removed

abbrev pub slot_removed : Cell → List ℕ → Cell
slot_removed cell key = record cell { slots = removed_in cell.slots key }

-- an array keeps its places and its length
abbrev pub array_removed : Cell → List Value → List ℕ → Option ℕ → Result Cell ErrorKind
array_removed cell elements key (Some place) = if nat_lt place (length elements) then Err Kind else Ok cell
array_removed cell elements key None = if bytes_eq key length_key then Err Kind else Ok (slot_removed cell key)

abbrev pub form_removed : Form → Cell → List ℕ → Result Cell ErrorKind
form_removed (Array elements) cell key = array_removed cell elements key (place_spelled key)
form_removed form cell key = Ok (slot_removed cell key)

-- the cell without the property, or why it can't lose it
abbrev pub removed_of : Cell → List ℕ → Result Cell ErrorKind
removed_of cell key = form_removed cell.form cell key
