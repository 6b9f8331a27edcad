-- What the calls of one cell give, in the machine's tables.
use Rattle.std.proofs.Common.{◌≡◌, ◌≢◌, ℕ, zero, suc, ◌<◌, ◌≤◌, List, [], ◌∷◌, ◌++◌, ◌+◌, ◌-◌, refl, sym, ap, subst, ◌∙◌, length, map, arith, Option, Some, None, Result, Ok, Err}
use Rattle.std.specs.Prelude.{slice_get, option_map, is_some, if◌then◌else◌, true, false, Bool, nat_lt, OnOk}
use Rattle.std.specs.Cmp.Lexicographic.{bytes_decides}
use Rattle.std.specs.Str.{bytes_eq}
use Rattle.std.proofs.lemmas.Option.{slice_get-map, slice_get_past}
use Rattle.std.proofs.lemmas.List.{length-map, append_assoc}
use Rattle.std.specs.Fmt.{decimal}
use Rattle.std.proofs.lemmas.Bool.{ltb-false}
use Rattle.js_semantics.specs.Machine as m
use Rattle.js_semantics.specs.Properties.{is_enumerable, property_in, defined_in, removed_in, keys_in, form_own, form_keys, form_defined, form_removed, own_of, own_keys, defined_of, removed_of, array_own, array_removed, slot_defined, slot_removed, length_key, place_spelled, places_from, element, with_elements, element_defined, length_defined}
use Rattle.door.specs.declared.requests.ErrorKind.{ErrorKind}
use Rattle.door.specs.declared.values.Actor.{Actor}
use Rattle.door.specs.declared.requests.ErrorKind.TheVariants as kind
use Rattle.js_objects.specs.Defines.{RemovesAs}
use Rattle.js_objects.specs.declared.values.Slot.{Slot}
use Rattle.js_objects.specs.declared.values.Prop.{Prop}
use Rattle.js_objects.specs.declared.values.Prop.TheVariants.{Slot as SlotProp, Accessor as AccessorProp}
use Rattle.js_objects.specs.declared.values.Form.{Form}
use Rattle.js_objects.specs.declared.values.Form.TheVariants as f
use Rattle.js_objects.specs.declared.slots.KeyedProp.{KeyedProp}
use Rattle.js_objects.specs.declared.cell.Cell.{Cell}
use Rattle.js_objects.specs.SlotsModel.{prop_in, put_in, taken_from, prop_enumerable, enumerable_in}
use Rattle.js_objects.specs.Elements.{element_prop, length_prop}
use Rattle.js_objects.specs.Naming.{Names, value_of, values_of, property_of, slots_of, form_of, holder_of}

-- ---- lists of properties under a naming

find_keyed : (names : Names) (key : List ℕ) (xs : List KeyedProp) → property_in (slots_of names xs) key ≡ option_map (property_of names) (prop_in key xs)
find_keyed names key [] = refl
find_keyed names key (x ∷ xs) = elim (bytes_eq x.key key) as (λ b. (if b then Some (property_of names x.prop) else property_in (slots_of names xs) key) ≡ option_map (property_of names) (if b then Some x.prop else prop_in key xs)) [ true ↦ refl | false ↦ find_keyed names key xs ]

put_keyed : (names : Names) (key : List ℕ) (p : Prop) (xs : List KeyedProp) → slots_of names (put_in key p xs) ≡ defined_in (slots_of names xs) key (property_of names p)
put_keyed names key p [] = refl
put_keyed names key p (x ∷ xs) =
    elim (bytes_eq x.key key) as (λ b. bytes_eq x.key key ≡ b → slots_of names (if b then record { key = x.key; prop = p } ∷ xs else x ∷ put_in key p xs) ≡ (if b then record { key = key; property = property_of names p } ∷ slots_of names xs else record { key = x.key; property = property_of names x.prop } ∷ defined_in (slots_of names xs) key (property_of names p))) [
      | true ↦ λ e. let k : x.key ≡ key = (bytes_decides x.key key).0 e in cc
      | false ↦ λ e. let r : slots_of names (put_in key p xs) ≡ defined_in (slots_of names xs) key (property_of names p) = put_keyed names key p xs in cc
    ] refl

taken_keyed : (names : Names) (key : List ℕ) (xs : List KeyedProp) → slots_of names (taken_from key xs) ≡ removed_in (slots_of names xs) key
taken_keyed names key [] = refl
taken_keyed names key (x ∷ xs) =
    elim (bytes_eq x.key key) as (λ b. slots_of names (if b then xs else x ∷ taken_from key xs) ≡ (if b then slots_of names xs else record { key = x.key; property = property_of names x.prop } ∷ removed_in (slots_of names xs) key)) [
      | true ↦ refl
      | false ↦ ap (λ (r : List m.Slot). record { key = x.key; property = property_of names x.prop } ∷ r) (taken_keyed names key xs)
    ]

-- ---- a cell that is no array

own_form : (names : Names) (r : Actor) (els : List Slot) (form : Form) (slots : List m.Slot) (key : List ℕ) → form ≢ f.Array → form_own (form_of names r els form) slots key ≡ property_in slots key
own_form names r els f.Array slots key d = absurd (d refl)
own_form names r els f.Plain slots key d = refl
own_form names r els (f.Function code scope) slots key d = refl
own_form names r els (f.Native n) slots key d = refl
own_form names r els (f.Error a b) slots key d = refl
own_form names r els (f.Thing t) slots key d = refl
own_form names r els (f.Link a c l) slots key d = refl
own_form names r els (f.Forward a c) slots key d = refl
own_form names r els f.Scope slots key d = refl

defined_form : (names : Names) (r : Actor) (els : List Slot) (form : Form) (cell : m.Cell) (key : List ℕ) (p : m.Property) → form ≢ f.Array → form_defined (form_of names r els form) cell key p ≡ Ok (slot_defined cell key p)
defined_form names r els f.Array cell key p d = absurd (d refl)
defined_form names r els f.Plain cell key p d = refl
defined_form names r els (f.Function code scope) cell key p d = refl
defined_form names r els (f.Native n) cell key p d = refl
defined_form names r els (f.Error a b) cell key p d = refl
defined_form names r els (f.Thing t) cell key p d = refl
defined_form names r els (f.Link a c l) cell key p d = refl
defined_form names r els (f.Forward a c) cell key p d = refl
defined_form names r els f.Scope cell key p d = refl

removed_form : (names : Names) (r : Actor) (els : List Slot) (form : Form) (cell : m.Cell) (key : List ℕ) → form ≢ f.Array → form_removed (form_of names r els form) cell key ≡ Ok (slot_removed cell key)
removed_form names r els f.Array cell key d = absurd (d refl)
removed_form names r els f.Plain cell key d = refl
removed_form names r els (f.Function code scope) cell key d = refl
removed_form names r els (f.Native n) cell key d = refl
removed_form names r els (f.Error a b) cell key d = refl
removed_form names r els (f.Thing t) cell key d = refl
removed_form names r els (f.Link a c l) cell key d = refl
removed_form names r els (f.Forward a c) cell key d = refl
removed_form names r els f.Scope cell key d = refl

pub own_other : (names : Names) (x : Cell) (key : List ℕ) (o : Option Prop) → x.form ≢ f.Array → o ≡ prop_in key x.slots → own_of (holder_of names x) key ≡ option_map (property_of names) o
own_other names x key o d e = own_form names x.owner x.elements x.form (slots_of names x.slots) key d ∙ (find_keyed names key x.slots ∙ ap (option_map (property_of names)) (sym e))

defined_slots : (names : Names) (x : Cell) (key : List ℕ) (p : Prop) → slot_defined (holder_of names x) key (property_of names p) ≡ holder_of names (record x { slots = put_in key p x.slots })
defined_slots names x key p = let s : slots_of names (put_in key p x.slots) ≡ defined_in (slots_of names x.slots) key (property_of names p) = put_keyed names key p x.slots in rw s refl

pub defined_other : (names : Names) (x y : Cell) (key : List ℕ) (p : Prop) → x.form ≢ f.Array → y ≡ record x { slots = put_in key p x.slots } → defined_of (holder_of names x) key (property_of names p) ≡ Ok (holder_of names y)
defined_other names x y key p d e = defined_form names x.owner x.elements x.form (holder_of names x) key (property_of names p) d ∙ ap (λ c. Ok c) (defined_slots names x key p ∙ ap (holder_of names) (sym e))

removed_slots : (names : Names) (x : Cell) (key : List ℕ) → slot_removed (holder_of names x) key ≡ holder_of names (record x { slots = taken_from key x.slots })
removed_slots names x key = let s : slots_of names (taken_from key x.slots) ≡ removed_in (slots_of names x.slots) key = taken_keyed names key x.slots in rw s refl

some_map : (names : Names) (o : Option Prop) → is_some (option_map (property_of names) o) ≡ is_some o
some_map names None = refl
some_map names (Some p) = refl

pub removed_other : (names : Names) (x y : Cell) (key : List ℕ) (b : Bool) → x.form ≢ f.Array → y ≡ record x { slots = taken_from key x.slots } → b ≡ is_some (prop_in key x.slots) → RemovesAs names x y key b (removed_of (holder_of names x) key)
removed_other names x y key b d e h =
    let r : removed_of (holder_of names x) key ≡ Ok (slot_removed (holder_of names x) key) = removed_form names x.owner x.elements x.form (holder_of names x) key d in
    let there : b ≡ is_some (own_of (holder_of names x) key) = h ∙ (sym (some_map names (prop_in key x.slots)) ∙ ap (λ o. is_some o) (sym (own_other names x key (prop_in key x.slots) d refl))) in
    subst (λ row. RemovesAs names x y key b row) (sym r) (ap (holder_of names) e ∙ sym (removed_slots names x key), there)

-- ---- an array

pub own_array : (names : Names) (x : Cell) (key : List ℕ) (o : Option Prop) → x.form ≡ f.Array → array_own (values_of names x.elements) (slots_of names x.slots) key (place_spelled key) ≡ option_map (property_of names) o → own_of (holder_of names x) key ≡ option_map (property_of names) o
own_array names x key o a e = rw a e

element_named : (names : Names) (o : Option Slot) → element (option_map (value_of names) o) ≡ option_map (property_of names) (option_map element_prop o)
element_named names None = refl
element_named names (Some v) = refl

pub own_place : (names : Names) (els : List Slot) (slots : List m.Slot) (key : List ℕ) (spelled : Option ℕ) (place : ℕ) (o : Option Prop) → spelled ≡ Some place → o ≡ option_map element_prop (slice_get els place) → array_own (values_of names els) slots key spelled ≡ option_map (property_of names) o
own_place names els slots key spelled place o e q = rw (e, q, slice_get-map (value_of names) els place) (element_named names (slice_get els place))

pub own_length : (names : Names) (els : List Slot) (slots : List m.Slot) (key : List ℕ) (p : Prop) → bytes_eq key length_key ≡ true → p ≡ length_prop (length els) → array_own (values_of names els) slots key None ≡ Some (property_of names p)
own_length names els slots key p t e = rw (t, e, length-map els (value_of names)) refl

pub own_slot : (names : Names) (els : List Slot) (xs : List KeyedProp) (key : List ℕ) (o : Option Prop) → bytes_eq key length_key ≡ false → o ≡ prop_in key xs → array_own (values_of names els) (slots_of names xs) key None ≡ option_map (property_of names) o
own_slot names els xs key o t e = rw t (find_keyed names key xs ∙ ap (option_map (property_of names)) (sym e))

-- an array's table is that of the key
defined_array : (names : Names) (x : Cell) (key : List ℕ) (p : m.Property) → x.form ≡ f.Array → defined_of (holder_of names x) key p ≡ form_defined (m.Array (values_of names x.elements)) (holder_of names x) key p
defined_array names x key p a = ap (λ (g : Form). form_defined (form_of names x.owner x.elements g) (holder_of names x) key p) a

elements_array : (names : Names) (x : Cell) (els : List Slot) → x.form ≡ f.Array → with_elements (holder_of names x) (values_of names els) ≡ holder_of names (record x { elements = els })
elements_array names x els a = rw a refl

pub defined_place : (names : Names) (x y : Cell) (key : List ℕ) (p : Prop) (place : ℕ) (P : m.Cell → Result m.Cell ErrorKind → Type 0) → x.form ≡ f.Array → place_spelled key ≡ Some place → y ≡ record x { elements = y.elements }
    → P (with_elements (holder_of names x) (values_of names y.elements)) (element_defined (holder_of names x) (values_of names x.elements) place (property_of names p)) → P (holder_of names y) (defined_of (holder_of names x) key (property_of names p))
defined_place names x y key p place P a s e h =
    let c : with_elements (holder_of names x) (values_of names y.elements) ≡ holder_of names y = elements_array names x y.elements a ∙ ap (holder_of names) (sym e) in
    let d : defined_of (holder_of names x) key (property_of names p) ≡ element_defined (holder_of names x) (values_of names x.elements) place (property_of names p) = defined_array names x key (property_of names p) a ∙ rw s refl in
    subst (λ r. P (holder_of names y) r) (sym d) (subst (λ k. P k (element_defined (holder_of names x) (values_of names x.elements) place (property_of names p))) c h)

pub defined_length : (names : Names) (x y : Cell) (key : List ℕ) (p : Prop) (P : m.Cell → Result m.Cell ErrorKind → Type 0) → x.form ≡ f.Array → place_spelled key ≡ None → bytes_eq key length_key ≡ true → y ≡ record x { elements = y.elements }
    → P (with_elements (holder_of names x) (values_of names y.elements)) (length_defined (holder_of names x) (values_of names x.elements) (property_of names p)) → P (holder_of names y) (defined_of (holder_of names x) key (property_of names p))
defined_length names x y key p P a s t e h =
    let c : with_elements (holder_of names x) (values_of names y.elements) ≡ holder_of names y = elements_array names x y.elements a ∙ ap (holder_of names) (sym e) in
    let d : defined_of (holder_of names x) key (property_of names p) ≡ length_defined (holder_of names x) (values_of names x.elements) (property_of names p) = defined_array names x key (property_of names p) a ∙ rw (s, t) refl in
    subst (λ r. P (holder_of names y) r) (sym d) (subst (λ k. P k (length_defined (holder_of names x) (values_of names x.elements) (property_of names p))) c h)

pub defined_slot_of_array : (names : Names) (x y : Cell) (key : List ℕ) (p : Prop) → x.form ≡ f.Array → place_spelled key ≡ None → bytes_eq key length_key ≡ false → y ≡ record x { slots = put_in key p x.slots } → defined_of (holder_of names x) key (property_of names p) ≡ Ok (holder_of names y)
defined_slot_of_array names x y key p a s t e =
    let d : defined_of (holder_of names x) key (property_of names p) ≡ Ok (slot_defined (holder_of names x) key (property_of names p)) = defined_array names x key (property_of names p) a ∙ rw (s, t) refl in
    d ∙ ap (λ c. Ok c) (defined_slots names x key p ∙ ap (holder_of names) (sym e))

removed_array : (names : Names) (x : Cell) (key : List ℕ) → x.form ≡ f.Array → removed_of (holder_of names x) key ≡ array_removed (holder_of names x) (values_of names x.elements) key (place_spelled key)
removed_array names x key a = ap (λ (g : Form). form_removed (form_of names x.owner x.elements g) (holder_of names x) key) a

-- ---- keys

enumerable_same : (names : Names) (p : Prop) → is_enumerable (property_of names p) ≡ prop_enumerable p
enumerable_same names (SlotProp v w e) = refl
enumerable_same names (AccessorProp g s e) = refl

keys_keyed : (names : Names) (xs : List KeyedProp) → keys_in (slots_of names xs) ≡ enumerable_in xs
keys_keyed names [] = refl
keys_keyed names (x ∷ xs) = rw (enumerable_same names x.prop, keys_keyed names xs) refl

keys_form : (names : Names) (r : Actor) (els : List Slot) (form : Form) (slots : List m.Slot) → form ≢ f.Array → form_keys (form_of names r els form) slots ≡ keys_in slots
keys_form names r els f.Array slots d = absurd (d refl)
keys_form names r els f.Plain slots d = refl
keys_form names r els (f.Function code scope) slots d = refl
keys_form names r els (f.Native n) slots d = refl
keys_form names r els (f.Error a b) slots d = refl
keys_form names r els (f.Thing t) slots d = refl
keys_form names r els (f.Link a c l) slots d = refl
keys_form names r els (f.Forward a c) slots d = refl
keys_form names r els f.Scope slots d = refl

pub keys_other : (names : Names) (x : Cell) → x.form ≢ f.Array → own_keys (holder_of names x) ≡ enumerable_in x.slots
keys_other names x d = keys_form names x.owner x.elements x.form (slots_of names x.slots) d ∙ keys_keyed names x.slots

pub keys_array : (names : Names) (x : Cell) (n : ℕ) → x.form ≡ f.Array → n ≡ length x.elements → own_keys (holder_of names x) ≡ places_from 0 n ++ enumerable_in x.slots
keys_array names x n a e = rw (a, e, length-map x.elements (value_of names), keys_keyed names x.slots) refl

pub keys_pushed : (names : Names) (x : Cell) (n : ℕ) (old new : List (List ℕ)) → x.form ≡ f.Array → new ≡ old ++ places_from 0 n → n ≡ length x.elements → new ++ enumerable_in x.slots ≡ old ++ own_keys (holder_of names x)
keys_pushed names x n old new a w e = rw w (append_assoc old (places_from 0 n) (enumerable_in x.slots) ∙ ap (λ r. old ++ r) (sym (keys_array names x n a e)))

pub places_step : (xs new base : List (List ℕ)) (place count : ℕ) (t : List ℕ) → place < count → t ≡ decimal place → new ≡ xs ++ t ∷ [] → xs ++ places_from place (count - place) ≡ base → new ++ places_from (place + 1) (count - (place + 1)) ≡ base
places_step xs new base place count t h d w i =
    let e : count - place ≡ suc (count - (place + 1)) = omega arith in
    let q : suc place ≡ place + 1 = omega arith in
    let a : xs ++ (decimal place ∷ places_from (suc place) (count - (place + 1))) ≡ base = rw e at i in
    let b : xs ++ (decimal place ∷ places_from (place + 1) (count - (place + 1))) ≡ base = rw q at a in
    rw (w, d) (append_assoc xs (decimal place ∷ []) (places_from (place + 1) (count - (place + 1))) ∙ b)

pub on_ok : {A E : Type 0} (r : Result A E) {P Q : Type 0} → (P → Q) → OnOk r P → OnOk r Q
on_ok (Ok a) g h = g h
on_ok (Err e) g h = tt

-- ---- a key is removed from an array

none_at_place : (names : Names) (x : Cell) (key : List ℕ) (place : ℕ) → x.form ≡ f.Array → place_spelled key ≡ Some place → length (values_of names x.elements) ≤ place → false ≡ is_some (own_of (holder_of names x) key)
none_at_place names x key place a s l = rw (a, s, slice_get_past (values_of names x.elements) place l) refl

pub removed_place : (names : Names) (x : Cell) (key : List ℕ) (place : ℕ) → x.form ≡ f.Array → place_spelled key ≡ Some place → RemovesAs names x x key false (removed_of (holder_of names x) key)
removed_place names x key place a s =
    let r : removed_of (holder_of names x) key ≡ array_removed (holder_of names x) (values_of names x.elements) key (Some place) =
    removed_array names x key a ∙ ap (λ (o : Option ℕ). array_removed (holder_of names x) (values_of names x.elements) key o) s in
    subst (λ row. RemovesAs names x x key false row) (sym r)
    (elim (nat_lt place (length (values_of names x.elements))) as (λ b. nat_lt place (length (values_of names x.elements)) ≡ b → RemovesAs names x x key false (if b then Err kind.Kind else Ok (holder_of names x))) [
      | true ↦ λ e. (refl, refl)
      | false ↦ λ e. (refl, none_at_place names x key place a s (ltb-false place (length (values_of names x.elements)) e))
    ] refl)

pub removed_length : (names : Names) (x : Cell) (key : List ℕ) → x.form ≡ f.Array → place_spelled key ≡ None → bytes_eq key length_key ≡ true → RemovesAs names x x key false (removed_of (holder_of names x) key)
removed_length names x key a s t =
    let r : removed_of (holder_of names x) key ≡ Err kind.Kind =
    removed_array names x key a ∙ (ap (λ (o : Option ℕ). array_removed (holder_of names x) (values_of names x.elements) key o) s ∙ rw t refl) in
    subst (λ row. RemovesAs names x x key false row) (sym r) (refl, refl)

pub removed_slot : (names : Names) (x y : Cell) (key : List ℕ) (b : Bool) → x.form ≡ f.Array → place_spelled key ≡ None → bytes_eq key length_key ≡ false → y ≡ record x { slots = taken_from key x.slots } → b ≡ is_some (prop_in key x.slots) → RemovesAs names x y key b (removed_of (holder_of names x) key)
removed_slot names x y key b a s t e h =
    let r : removed_of (holder_of names x) key ≡ Ok (slot_removed (holder_of names x) key) =
    removed_array names x key a ∙ (ap (λ (o : Option ℕ). array_removed (holder_of names x) (values_of names x.elements) key o) s ∙ rw t refl) in
    let there : b ≡ is_some (own_of (holder_of names x) key) = rw (a, s, t, find_keyed names key x.slots) (h ∙ sym (some_map names (prop_in key x.slots))) in
    subst (λ row. RemovesAs names x y key b row) (sym r) (ap (holder_of names) e ∙ sym (removed_slots names x key), there)
