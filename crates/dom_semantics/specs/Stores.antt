-- What userscripts keep: a finite map for each namespace and name, in the byte order of its keys (Greasemonkey manual, GM_setValue).
use Rattle.std.specs.Prelude.{◌||◌, ◌&&◌, ℕ, Bool, true, not, List, [], ◌∷◌, map, length, filter, nat_le, nat_lt, is_some, if◌then◌else◌, Option, Some, None}
use Rattle.std.specs.List.{list_all}
use Rattle.std.specs.Str.{bytes_eq}
use Rattle.std.specs.Ordering.{is_lt}
use Rattle.base_text.specs.Scalars.{text_cmp}
use Rattle.door.specs.declared.values.Value.{Value}
use Rattle.door.specs.declared.values.Value.TheVariants as value
use Rattle.door.specs.declared.requests.ErrorKind.{ErrorKind}
use Rattle.door.specs.declared.requests.ErrorKind.TheVariants.{Limit}
use Rattle.dom_semantics.specs.Bounds.{is_short, is_safe}
use Rattle.dom_semantics.specs.declared.kept.Kept.{Kept}
use Rattle.dom_semantics.specs.declared.kept.Kept.TheVariants.{Str, Bool as KeptBool, Number}
use Rattle.dom_semantics.specs.declared.kept.Owner.{Owner}
use Rattle.dom_semantics.specs.declared.kept.TheConstants.{VALUE_LIMIT}

-- one script's values by their keys, and the values of all scripts by their owners; both are in the order of bytes
abbrev pub Values : Type 0
Values = List (List ℕ × Kept)

abbrev pub Stores : Type 0
Stores = List (Owner × Values)

-- the value under a key
abbrev pub value_in : List ℕ → Values → Option Kept
value_in key [] = None
value_in key (v ∷ vs) = if bytes_eq v.0 key then Some v.1 else value_in key vs

-- a value under a key, in its place by the order of bytes
abbrev pub with_value : List ℕ → Kept → Values → Values
with_value key kept [] = (key, kept) ∷ []
with_value key kept (v ∷ vs) =
    if bytes_eq v.0 key then (v.0, kept) ∷ vs
    else (if is_lt (text_cmp key v.0) then (key, kept) ∷ (v ∷ vs) else v ∷ with_value key kept vs)

-- the values but that of a key
abbrev pub without_value : List ℕ → Values → Values
without_value key vs = filter (λ (v : List ℕ × Kept). not (bytes_eq v.0 key)) vs

-- the keys in their order
abbrev pub keys_in : Values → List (List ℕ)
keys_in vs = map (λ (v : List ℕ × Kept). v.0) vs

-- the same namespace and name
abbrev pub is_owner : Owner → Owner → Bool
is_owner a b = bytes_eq a.namespace b.namespace && bytes_eq a.name b.name

-- by namespace and then by name
abbrev pub is_before : Owner → Owner → Bool
is_before a b = is_lt (text_cmp a.namespace b.namespace) || bytes_eq a.namespace b.namespace && is_lt (text_cmp a.name b.name)

-- an owner's values; none where nothing of it is kept
abbrev pub values_of : Stores → Owner → Values
values_of [] owner = []
values_of (s ∷ ss) owner = if is_owner s.0 owner then s.1 else values_of ss owner

-- an owner's values, in their place by the order of bytes
abbrev pub with_values : Stores → Owner → Values → Stores
with_values [] owner vs = (owner, vs) ∷ []
with_values (s ∷ ss) owner vs =
    if is_owner s.0 owner then (s.0, vs) ∷ ss
    else (if is_before owner s.0 then (owner, vs) ∷ (s ∷ ss) else s ∷ with_values ss owner vs)

-- a new key is refused where the script has as many as the limit; what was loaded counts
abbrev pub value_refusal : Values → List ℕ → Option ErrorKind
value_refusal vs key = if is_some (value_in key vs) || nat_lt (length vs) VALUE_LIMIT then None else Some Limit

-- a kept value as a script holds it
abbrev pub held : Kept → Value
held (Str text) = value.Str text
held (KeptBool flag) = value.Bool flag
held (Number n) = value.Number n

-- a value that can be kept
abbrev pub kept_of : Value → Option Kept
kept_of (value.Str text) = Some (Str text)
kept_of (value.Bool flag) = Some (KeptBool flag)
kept_of (value.Number n) = Some (Number n)
kept_of v = None

-- ---- order and limits, which loading establishes

-- each of these is followed by one that may come after it
abbrev pub are_ascending : {X : Type 0} → (X → X → Bool) → List X → Bool
are_ascending less [] = true
are_ascending less (x ∷ []) = true
are_ascending less (x ∷ (y ∷ ys)) = less x y && are_ascending less (y ∷ ys)

-- a value within the limits of texts and numbers, and under a key that is
abbrev pub is_kept : Kept → Bool
is_kept (Str text) = is_short text
is_kept (KeptBool flag) = true
is_kept (Number n) = is_safe n

abbrev pub is_entry : List ℕ × Kept → Bool
is_entry v = is_short v.0 && is_kept v.1

-- each key once, in the order of bytes, and no more than the limit
abbrev pub is_key_before : List ℕ → List ℕ → Bool
is_key_before a b = is_lt (text_cmp a b)

abbrev pub are_values : Values → Bool
are_values vs = are_ascending is_key_before (keys_in vs) && list_all is_entry vs && nat_le (length vs) VALUE_LIMIT

-- a namespace and a name within the limit of texts
abbrev pub is_short_owner : Owner → Bool
is_short_owner owner = is_short owner.namespace && is_short owner.name

-- each owner once, by namespace and then by name, and its values so
abbrev pub is_store : Stores → Bool
is_store stores =
    are_ascending is_before (map (λ (s : Owner × Values). s.0) stores)
    && list_all (λ (s : Owner × Values). is_short_owner s.0 && are_values s.1) stores
