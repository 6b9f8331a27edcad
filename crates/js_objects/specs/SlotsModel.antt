-- Lists of properties and of names as the code has them, which its proofs need; no claim rests on them.
use Rattle.std.specs.Prelude.{ℕ, suc, Bool, true, false, List, [], ◌∷◌, Option, Some, None, if◌then◌else◌}
use Rattle.std.specs.Str.{bytes_eq}
use Rattle.js_objects.specs.declared.values.Slot.{Slot}
use Rattle.js_objects.specs.declared.values.Prop.{Prop}
use Rattle.js_objects.specs.declared.values.Prop.TheVariants.{Slot as SlotProp, Accessor as AccessorProp}
use Rattle.js_objects.specs.declared.slots.KeyedProp.{KeyedProp}
use Rattle.js_objects.specs.declared.bindings.Binding.{Binding}

abbrev pub index_of : List ℕ → List KeyedProp → ℕ
index_of key [] = 0
index_of key (x ∷ xs) = if bytes_eq x.key key then 0 else suc (index_of key xs)

abbrev pub prop_in : List ℕ → List KeyedProp → Option Prop
prop_in key [] = None
prop_in key (x ∷ xs) = if bytes_eq x.key key then Some x.prop else prop_in key xs

abbrev pub put_in : List ℕ → Prop → List KeyedProp → List KeyedProp
put_in key prop [] = record { key = key; prop = prop } ∷ []
put_in key prop (x ∷ xs) = if bytes_eq x.key key then record { key = x.key; prop = prop } ∷ xs else x ∷ put_in key prop xs

abbrev pub taken_from : List ℕ → List KeyedProp → List KeyedProp
taken_from key [] = []
taken_from key (x ∷ xs) = if bytes_eq x.key key then xs else x ∷ taken_from key xs

abbrev pub prop_enumerable : Prop → Bool
prop_enumerable (SlotProp value writable enumerable) = enumerable
prop_enumerable (AccessorProp get set enumerable) = enumerable

abbrev pub enumerable_in : List KeyedProp → List (List ℕ)
enumerable_in [] = []
enumerable_in (x ∷ xs) = if prop_enumerable x.prop then x.key ∷ enumerable_in xs else enumerable_in xs

abbrev pub name_index : List ℕ → List Binding → ℕ
name_index name [] = 0
name_index name (x ∷ xs) = if bytes_eq x.name name then 0 else suc (name_index name xs)

abbrev pub name_in : List ℕ → List Binding → Option Slot
name_in name [] = None
name_in name (x ∷ xs) = if bytes_eq x.name name then Some x.value else name_in name xs

abbrev pub name_put : List ℕ → Slot → List Binding → List Binding
name_put name value [] = record { name = name; value = value } ∷ []
name_put name value (x ∷ xs) = if bytes_eq x.name name then record { name = x.name; value = value } ∷ xs else x ∷ name_put name value xs
