-- Get, Set, Has, Delete, Keys and Define of own cells and things (ECMAScript, 10.1 and 7.3), and of another's objects by an Xray (MDN, Xray
-- vision). A chain that comes to an object of another goes on by that object's rule. What its owner would have to do isn't built yet.
use Rattle.std.specs.Prelude.{ℕ, zero, suc, ◌+◌, Bool, true, false, List, [], ◌∷◌, ◌++◌, Option, Some, None, length, slice_get, is_some}
use Rattle.std.specs.Str.{bytes_eq}
use Rattle.std.specs.declared.result.Result.{Result}
use Rattle.std.specs.declared.result.Result.TheVariants.{Ok, Err}
use Rattle.door.specs.declared.values.Kind.{Kind as ThingKind}
use Rattle.door.specs.declared.values.Kind.TheVariants.{Window, Document, Element, Str as StrThing, Comment, Event}
use Rattle.door.specs.declared.requests.ErrorKind.{ErrorKind}
use Rattle.js_semantics.specs.Primitives.{Undefined, Null, BoolPrim, NumberPrim, StrPrim, key_of}
use Rattle.js_semantics.specs.Machine.{Machine, Cell, MetThing, MetObject, Reference, Own, Thing, Foreign, Value, Primitive, Refers, Property, Datum, Accessor, cell_at, with_cell, thing_at, with_thing, object_at, with_object, undefined, text, count}
use Rattle.js_semantics.specs.Places.{STRING_PROTOTYPE, NUMBER_PROTOTYPE, BOOLEAN_PROTOTYPE, WINDOW_PROTOTYPE, DOCUMENT_PROTOTYPE, ELEMENT_PROTOTYPE, CHARACTER_DATA_PROTOTYPE, EVENT_PROTOTYPE}
use Rattle.js_semantics.specs.Properties.{own_of, own_keys, defined_of, removed_of, property_in, defined_in, removed_in, keys_in, place_spelled, length_key}
use Rattle.js_semantics.specs.Solo.{Stuck}
use Rattle.js_semantics.specs.Faults.{wrong_kind, no_properties, permission_denied, refusal_fault}
use Rattle.js_semantics.specs.Evaluator.{Gives, Ends, Rest, With, Cont, Meaning, Evaluator, unvalued, fails_by}
use Rattle.js_semantics.specs.Meetings.{misfit}
use Rattle.js_semantics.specs.Xrays.{Use, Shows, Opaque, Refused, ByOwner, use_of, is_by_xray, with_expandos, expandos_of, look_row, look_keys_row}

-- ---- along a chain of prototypes

abbrev pub own_of_cell : Option Cell → List ℕ → Option Property
own_of_cell None key = None
own_of_cell (Some cell) key = own_of cell key

abbrev pub own_of_thing : Option MetThing → List ℕ → Option Property
own_of_thing None key = None
own_of_thing (Some thing) key = property_in thing.slots key

-- the own property of what a reference names, on another's object the actor's own (ECMAScript, 10.1.5)
abbrev pub own_property : Machine → Reference → List ℕ → Option Property
own_property m (Own place) key = own_of_cell (cell_at m place) key
own_property m (Thing k) key = own_of_thing (thing_at m k) key
own_property m (Foreign k) key = property_in (expandos_of (object_at m k)) key
own_property m r key = None

-- the prototype of the interface that a thing has (Web IDL, interface prototype object)
abbrev pub interface_prototype : ThingKind → ℕ
interface_prototype Window = WINDOW_PROTOTYPE
interface_prototype Document = DOCUMENT_PROTOTYPE
interface_prototype Element = ELEMENT_PROTOTYPE
interface_prototype StrThing = CHARACTER_DATA_PROTOTYPE
interface_prototype Comment = CHARACTER_DATA_PROTOTYPE
interface_prototype Event = EVENT_PROTOTYPE

abbrev pub prototype_of_cell : Option Cell → Option Reference
prototype_of_cell None = None
prototype_of_cell (Some cell) = cell.prototype

abbrev pub prototype_of_thing : Option MetThing → Option Reference
prototype_of_thing None = None
prototype_of_thing (Some thing) = Some (Own (interface_prototype thing.kind))

abbrev pub prototype_by_use : Use → Option Reference
prototype_by_use (Shows above) = Some (Own above)
prototype_by_use way = None

-- the prototype, of another's object as far as an Xray shows one (ECMAScript, 10.1.1)
abbrev pub prototype_of : Machine → Reference → Option Reference
prototype_of m (Own place) = prototype_of_cell (cell_at m place)
prototype_of m (Thing k) = prototype_of_thing (thing_at m k)
prototype_of m r = prototype_by_use (use_of m r)

-- goes on with the prototype, where the actor may read it
abbrev pub others_prototype_row : Use → With (Option Reference) → Cont → Rest
others_prototype_row Refused k c = fails_by permission_denied c
others_prototype_row ByOwner k c = misfit
others_prototype_row way k c = k (prototype_by_use way)

abbrev pub prototype_row : Reference → With (Option Reference) → Cont → Rest
prototype_row (Own place) k c m f = k (prototype_of m (Own place)) m f
prototype_row (Thing j) k c m f = k (prototype_of m (Thing j)) m f
prototype_row r k c m f = others_prototype_row (use_of m r) k c m f

-- what is found along a chain: nothing, a property, or something of another that the chain comes to
pub data Found : Type 0 where
  Missing : Found
  Stands : Property → Found
  Beyond : Reference → Found

abbrev pub along : Option Property → Option Reference → (Reference → Found) → Found
along (Some property) next rest = Stands property
along None None rest = Missing
along None (Some next) rest = rest next

-- a property, from what a reference names along its prototypes, of which so many are looked at (ECMAScript, 10.1.8.1)
unfoldable pub found_within : ℕ → Machine → Reference → List ℕ → Found
found_within zero m r key = Missing
found_within (suc n) m (Own place) key = along (own_property m (Own place) key) (prototype_of m (Own place)) (λ next. found_within n m next key)
found_within (suc n) m (Thing k) key = along (own_property m (Thing k) key) (prototype_of m (Thing k)) (λ next. found_within n m next key)
found_within (suc n) m r key = Beyond r

-- no chain is longer than there are cells, things and objects of others
abbrev pub chain_bound : Machine → ℕ
chain_bound m = length m.cells + length m.things + length m.objects + 1

abbrev pub found : Machine → Reference → List ℕ → Found
found m r key = found_within (chain_bound m) m r key

-- ---- behind another's object

-- what becomes of a chain at another's object: of the object, what goes on with what is found, and what goes on at a next prototype
abbrev pub Passing : Type 0
Passing = Reference → With Found → (Reference → Rest) → Cont → Rest

abbrev pub on_found : (Reference → Rest) → With Found → Found → Rest
on_found beyond k Missing = k Missing
on_found beyond k (Stands property) = k (Stands property)
on_found beyond k (Beyond r) = beyond r

-- from another's object on, along a chain of which so many are looked at
unfoldable pub beyond_within : ℕ → Passing → List ℕ → With Found → Cont → Reference → Rest
beyond_within zero passing key k c r m f = k Missing m f
beyond_within (suc n) passing key k c r m f =
    passing r k (λ next m f. on_found (beyond_within n passing key k c) k (found_within n m next key) m f) c m f

-- goes on with what is found along the whole chain
abbrev pub find_by : Passing → Reference → List ℕ → With Found → Cont → Rest
find_by passing r key k c m f = on_found (beyond_within (chain_bound m) passing key k c) k (found m r key) m f

abbrev pub property_or : Option Property → With Found → Rest → Rest
property_or (Some property) k other = k (Stands property)
property_or None k other = other

-- what is shown is found as a property
abbrev pub shown_or : With Found → Rest → With (Option Value)
shown_or k other (Some value) = k (Stands (Datum value false true))
shown_or k other None = other

-- a chain that is read: the actor's own property on the object, what the object shows, and then the standard prototype
abbrev pub read_through : List ℕ → Use → Passing
read_through key (Shows above) r k rest c m f = property_or (own_property m r key) k (look_row r key (shown_or k (rest (Own above))) c) m f
read_through key Opaque r k rest c m f = property_or (own_property m r key) k (k Missing) m f
read_through key Refused r k rest c m f = fails_by permission_denied c m f
read_through key ByOwner r k rest c m f = Stuck

abbrev pub reading : List ℕ → Passing
reading key r k rest c m f = read_through key (use_of m r) r k rest c m f

-- a chain that is written to passes over what an Xray shows
abbrev pub write_through : Use → With Found → (Reference → Rest) → Cont → Rest
write_through (Shows above) k rest c = rest (Own above)
write_through Opaque k rest c = k Missing
write_through Refused k rest c = fails_by permission_denied c
write_through ByOwner k rest c = misfit

abbrev pub writing : Passing
writing r k rest c m f = write_through (use_of m r) k rest c m f

-- what is found by reading
abbrev pub find : Reference → List ℕ → With Found → Cont → Rest
find r key k c = find_by (reading key) r key k c

-- ---- Get

-- what is found is read: a getter is called on the receiver, and a missing one gives undefined (ECMAScript, 10.1.8.1)
abbrev pub read_row : Evaluator → Value → Found → Meaning
read_row ev this Missing m f c = c (Gives undefined) m f
read_row ev this (Stands (Datum value writable enumerable)) m f c = c (Gives value) m f
read_row ev this (Stands (Accessor None set enumerable)) m f c = c (Gives undefined) m f
read_row ev this (Stands (Accessor (Some get) set enumerable)) m f c = ev.call (Refers (Own get)) this [] m f c
read_row ev this (Beyond r) m f c = Stuck

-- a text has its length and its scalars by place (ECMAScript, 10.4.3)
abbrev pub scalar_text : Option ℕ → Option Value
scalar_text None = None
scalar_text (Some scalar) = Some (text (scalar ∷ []))

abbrev pub length_of_text : List ℕ → Bool → Option Value
length_of_text t true = Some (count (length t))
length_of_text t false = None

abbrev pub own_of_text : List ℕ → List ℕ → Option ℕ → Option Value
own_of_text t key (Some place) = scalar_text (slice_get t place)
own_of_text t key None = length_of_text t (bytes_eq key length_key)

abbrev pub text_row : Evaluator → Value → List ℕ → Option Value → Meaning
text_row ev this key (Some value) m f c = c (Gives value) m f
text_row ev this key None m f c = find (Own STRING_PROTOTYPE) key (λ x m f. read_row ev this x m f c) c m f

-- Get (ECMAScript, 7.3.2 and 7.3.3)
abbrev pub get_row : Evaluator → Value → List ℕ → Meaning
get_row ev (Primitive Undefined) key m f c = fails_by no_properties c m f
get_row ev (Primitive Null) key m f c = fails_by no_properties c m f
get_row ev (Primitive (BoolPrim b)) key m f c =
    find (Own BOOLEAN_PROTOTYPE) key (λ x m f. read_row ev (Primitive (BoolPrim b)) x m f c) c m f
get_row ev (Primitive (NumberPrim z)) key m f c =
    find (Own NUMBER_PROTOTYPE) key (λ x m f. read_row ev (Primitive (NumberPrim z)) x m f c) c m f
get_row ev (Primitive (StrPrim t)) key m f c = text_row ev (Primitive (StrPrim t)) key (own_of_text t key (place_spelled key)) m f c
get_row ev (Refers r) key m f c = find r key (λ x m f. read_row ev (Refers r) x m f c) c m f

-- ---- Define

-- the cell as it was made, or the throw of why it can't be
abbrev pub changed_row : ℕ → Result Cell ErrorKind → Meaning
changed_row place (Ok cell) m f c = c Ends (with_cell m place cell) f
changed_row place (Err kind) m f c = fails_by (refusal_fault kind) c m f

abbrev pub define_in_cell : ℕ → List ℕ → Property → Option Cell → Meaning
define_in_cell place key property None m f c = Stuck
define_in_cell place key property (Some cell) m f c = changed_row place (defined_of cell key property) m f c

abbrev pub define_in_thing : ℕ → List ℕ → Property → Option MetThing → Meaning
define_in_thing k key property None m f c = Stuck
define_in_thing k key property (Some thing) m f c = c Ends (with_thing m k (record thing { slots = defined_in thing.slots key property })) f

abbrev pub define_in_object : ℕ → List ℕ → Property → Option MetObject → Meaning
define_in_object k key property None m f c = Stuck
define_in_object k key property (Some object) m f c = c Ends (with_object m k (record object { slots = defined_in object.slots key property })) f

-- an own property is defined (ECMAScript, 10.1.6); a whole property takes the place of one that stands
abbrev pub define_row : Reference → List ℕ → Property → Meaning
define_row (Own place) key property m f c = define_in_cell place key property (cell_at m place) m f c
define_row (Thing k) key property m f c = define_in_thing k key property (thing_at m k) m f c
define_row (Foreign j) key property m f c =
    with_expandos (use_of m (Foreign j)) (λ m f. define_in_object j key property (object_at m j) m f c) c m f
define_row r key property m f c = Stuck

-- ---- Set

-- a setter is called on the receiver, and a missing one throws
abbrev pub setter_row : Evaluator → Reference → Value → Option ℕ → Meaning
setter_row ev r value None m f c = fails_by wrong_kind c m f
setter_row ev r value (Some set) m f c = ev.call (Refers (Own set)) (Refers r) (value ∷ []) m f (unvalued c)

-- what stands along the chain is no own property: one is added, unless what is found can't be written
abbrev pub added_row : Evaluator → Reference → List ℕ → Value → Found → Meaning
added_row ev r key value Missing m f c = define_row r key (Datum value true true) m f c
added_row ev r key value (Stands (Datum old true enumerable)) m f c = define_row r key (Datum value true true) m f c
added_row ev r key value (Stands (Datum old false enumerable)) m f c = fails_by wrong_kind c m f
added_row ev r key value (Stands (Accessor get set enumerable)) m f c = setter_row ev r value set m f c
added_row ev r key value (Beyond s) m f c = Stuck

-- on another's object the actor's own is added without a search
abbrev pub searched_row : Evaluator → Reference → List ℕ → Value → Bool → Meaning
searched_row ev r key value true m f c = define_row r key (Datum value true true) m f c
searched_row ev r key value false m f c = find_by writing r key (λ x m f. added_row ev r key value x m f c) c m f

-- an own property is written, and else the chain is searched (ECMAScript, 10.1.9.2)
abbrev pub written_row : Evaluator → Reference → List ℕ → Value → Option Property → Meaning
written_row ev r key value (Some (Datum old true enumerable)) m f c = define_row r key (Datum value true enumerable) m f c
written_row ev r key value (Some (Datum old false enumerable)) m f c = fails_by wrong_kind c m f
written_row ev r key value (Some (Accessor get set enumerable)) m f c = setter_row ev r value set m f c
written_row ev r key value None m f c = searched_row ev r key value (is_by_xray (use_of m r)) m f c

-- Set (ECMAScript, 7.3.4)
abbrev pub set_row : Evaluator → Value → List ℕ → Value → Meaning
set_row ev (Primitive prim) key value m f c = fails_by wrong_kind c m f
set_row ev (Refers r) key value m f c = written_row ev r key value (own_property m r key) m f c

-- ---- Has, Delete, Keys

abbrev pub has_found : Found → With Bool → Rest
has_found Missing k m f = k false m f
has_found (Stands property) k m f = k true m f
has_found (Beyond r) k m f = Stuck

-- Has (ECMAScript, 7.3.12)
abbrev pub has_row : Reference → List ℕ → With Bool → Cont → Rest
has_row r key k c = find r key (λ x. has_found x k) c

-- whether it has the property of its own; another's object has what is shown of it, too (ECMAScript, 7.3.13)
abbrev pub has_own_row : Reference → List ℕ → With Bool → Cont → Rest
has_own_row (Own place) key k c m f = k (is_some (own_property m (Own place) key)) m f
has_own_row (Thing j) key k c m f = k (is_some (own_property m (Thing j) key)) m f
has_own_row r key k c m f = reading key r (λ x. has_found x k) (λ next. k false) c m f

abbrev pub delete_in_cell : ℕ → List ℕ → Option Cell → Meaning
delete_in_cell place key None m f c = Stuck
delete_in_cell place key (Some cell) m f c = changed_row place (removed_of cell key) m f c

abbrev pub delete_in_thing : ℕ → List ℕ → Option MetThing → Meaning
delete_in_thing k key None m f c = Stuck
delete_in_thing k key (Some thing) m f c = c Ends (with_thing m k (record thing { slots = removed_in thing.slots key })) f

abbrev pub delete_in_object : ℕ → List ℕ → Option MetObject → Meaning
delete_in_object k key None m f c = Stuck
delete_in_object k key (Some object) m f c = c Ends (with_object m k (record object { slots = removed_in object.slots key })) f

-- a text keeps its places and its length
abbrev pub delete_of_text : Option Value → Meaning
delete_of_text (Some value) m f c = fails_by wrong_kind c m f
delete_of_text None m f c = c Ends m f

-- Delete (ECMAScript, 10.1.10); a number and a boolean have nothing of their own
abbrev pub delete_row : Value → List ℕ → Meaning
delete_row (Primitive (BoolPrim b)) key m f c = c Ends m f
delete_row (Primitive (NumberPrim z)) key m f c = c Ends m f
delete_row (Primitive (StrPrim t)) key m f c = delete_of_text (own_of_text t key (place_spelled key)) m f c
delete_row (Primitive prim) key m f c = fails_by wrong_kind c m f
delete_row (Refers (Own place)) key m f c = delete_in_cell place key (cell_at m place) m f c
delete_row (Refers (Thing k)) key m f c = delete_in_thing k key (thing_at m k) m f c
delete_row (Refers (Foreign j)) key m f c =
    with_expandos (use_of m (Foreign j)) (λ m f. delete_in_object j key (object_at m j) m f c) c m f
delete_row (Refers r) key m f c = Stuck

abbrev pub keys_of_cell : Option Cell → With (List (List ℕ)) → Rest
keys_of_cell None k m f = Stuck
keys_of_cell (Some cell) k m f = k (own_keys cell) m f

abbrev pub keys_of_thing : Option MetThing → With (List (List ℕ)) → Rest
keys_of_thing None k m f = Stuck
keys_of_thing (Some thing) k m f = k (keys_in thing.slots) m f

-- the keys that an Xray shows, and then those of the actor's own
abbrev pub others_keys_row : Use → ℕ → With (List (List ℕ)) → Cont → Rest
others_keys_row (Shows above) j k c m f =
    look_keys_row (object_at m j) j (λ keys m f. k (keys ++ keys_in (expandos_of (object_at m j))) m f) c m f
others_keys_row Opaque j k c m f = k (keys_in (expandos_of (object_at m j))) m f
others_keys_row Refused j k c m f = fails_by permission_denied c m f
others_keys_row ByOwner j k c m f = Stuck

-- the own enumerable keys (ECMAScript, 7.3.24)
abbrev pub keys_row : Value → With (List (List ℕ)) → Cont → Rest
keys_row (Primitive prim) k c m f = fails_by wrong_kind c m f
keys_row (Refers (Own place)) k c m f = keys_of_cell (cell_at m place) k m f
keys_row (Refers (Thing j)) k c m f = keys_of_thing (thing_at m j) k m f
keys_row (Refers (Foreign j)) k c m f = others_keys_row (use_of m (Foreign j)) j k c m f
keys_row (Refers r) k c m f = Stuck

-- a value as a key; a reference is none (ECMAScript, 7.1.19)
abbrev pub key_row : Value → With (List ℕ) → Cont → Rest
key_row (Primitive prim) k c m f = k (key_of prim) m f
key_row (Refers r) k c m f = fails_by wrong_kind c m f
