-- What a cell names is of the heap after each change, since each table of the machine gives nothing but what it is given. A naming by the
-- numbers of cells shows which these are.
use Rattle.std.proofs.Common.{◌≡◌, ◌≢◌, ℕ, zero, suc, ◌<◌, ◌≤◌, List, [], ◌∷◌, ◌++◌, refl, sym, ap, subst, ◌∙◌, length, map, take, arith, Option, Some, None, Result, Ok, Err}
use Rattle.std.specs.Prelude.{slice_get, slice_set, slice_index_or, option_map, if◌then◌else◌, true, false, Bool, nat_lt, nat_le, ◌==◌, IfSome, IfOk, OnErr, OnOk, ℤ, pos, negsuc}
use Rattle.std.specs.List.{All}
use Rattle.std.specs.Str.{bytes_eq}
use Rattle.std.proofs.lemmas.List.Elements.{All-take, All-append, All-nil}
use Rattle.door.specs.declared.requests.ErrorKind.{ErrorKind}
use Rattle.door.specs.declared.requests.ErrorKind.TheVariants as kind
use Rattle.door.specs.declared.values.Actor.{Actor}
use Rattle.js_semantics.specs.Primitives.{PrimitiveValue, Undefined, Null, BoolPrim, NumberPrim, StrPrim}
use Rattle.js_semantics.specs.Builtin.{ObjectFunction}
use Rattle.js_semantics.specs.Machine as m
use Rattle.js_semantics.specs.Names.{value_in}
use Rattle.js_semantics.specs.Properties.{property_in, defined_in, removed_in, with_elements, element, array_own, form_own, own_of, element_written, element_defined, length_written, length_kept, length_defined, slot_defined, slot_removed, array_defined, form_defined, defined_of, array_removed, form_removed, removed_of, length_key, place_spelled}
use Rattle.js_objects.specs.declared.values.CellId.{CellId}
use Rattle.js_objects.specs.declared.values.Slot.{Slot}
use Rattle.js_objects.specs.declared.values.Slot.TheVariants.{Prim, Cell as Object}
use Rattle.js_objects.specs.declared.values.Prop.{Prop}
use Rattle.js_objects.specs.declared.values.Prop.TheVariants.{Slot as SlotProp, Accessor as AccessorProp}
use Rattle.js_objects.specs.declared.values.Form.{Form}
use Rattle.js_objects.specs.declared.values.Form.TheVariants as f
use Rattle.js_objects.specs.declared.values.HeapFault.{HeapFault}
use Rattle.js_objects.specs.declared.slots.KeyedProp.{KeyedProp}
use Rattle.js_objects.specs.declared.bindings.Binding.{Binding}
use Rattle.js_objects.specs.declared.cell.Cell.{Cell}
use Rattle.js_objects.specs.SlotsModel.{name_in, name_put}
use Rattle.js_objects.specs.Naming.{Names, value_of, values_of, place_of, property_of, slots_of, form_of, holder_of, MayHavePlace}
use Rattle.js_objects.specs.Heaps.{fresh_cell}
use Rattle.js_objects.specs.Defines.{Conforms, Defines, Removes, RemovesAs, ReadsAs}
use Rattle.js_objects.specs.Within.{IdWithin, SlotWithin, PropWithin, FormWithin, CellSound}

-- ---- lists

pub all_first : {X : Type 0} (P : X → Type 0) (x : X) (xs : List X) → All P (x ∷ xs) → P x
all_first P x xs h = h 0 x (omega arith)

pub all_rest : {X : Type 0} (P : X → Type 0) (x : X) (xs : List X) → All P (x ∷ xs) → All P xs
all_rest P x xs h = λ k d l. h (suc k) d (omega arith)

pub all_both : {X : Type 0} (P : X → Type 0) (x : X) (xs : List X) → P x → All P xs → All P (x ∷ xs)
all_both P x xs a h zero d l = a
all_both P x xs a h (suc k) d l = h k d (omega arith)

pub all_written : {X : Type 0} (P : X → Type 0) (xs : List X) (n : ℕ) (x : X) → P x → All P xs → All P (slice_set xs n x)
all_written P [] n x a h = h
all_written P (y ∷ ys) zero x a h = all_both P x ys a (all_rest P y ys h)
all_written P (y ∷ ys) (suc n) x a h = all_both P y (slice_set ys n x) (all_first P y ys h) (all_written P ys n x a (all_rest P y ys h))

pub all_last : {X : Type 0} (P : X → Type 0) (xs : List X) (x : X) → P x → All P xs → All P (xs ++ x ∷ [])
all_last P [] x a h = all_both P x [] a h
all_last P (y ∷ ys) x a h = all_both P y (ys ++ x ∷ []) (all_first P y ys h) (all_last P ys x a (all_rest P y ys h))

pub all_weaker : {X : Type 0} (P Q : X → Type 0) (xs : List X) → ((x : X) → P x → Q x) → All P xs → All Q xs
all_weaker P Q [] f h = All-nil Q
all_weaker P Q (x ∷ xs) f h = all_both Q x xs (f x (all_first P x xs h)) (all_weaker P Q xs f (all_rest P x xs h))

pub all_at : {X : Type 0} (P : X → Type 0) (xs : List X) (n : ℕ) → All P xs → IfSome (slice_get xs n) P
all_at P [] n h = tt
all_at P (x ∷ xs) zero h = all_first P x xs h
all_at P (x ∷ xs) (suc n) h = all_at P xs n (all_rest P x xs h)

-- ---- what a machine's cell names, where a cell is named by its number

abbrev ValueWithin : ℕ → m.Value → Type 0
ValueWithin n (m.Primitive prim) = Unit {0}
ValueWithin n (m.Refers (m.Own k)) = k < n
ValueWithin n (m.Refers r) = ⊥

abbrev PropertyWithin : ℕ → m.Property → Type 0
PropertyWithin n (m.Datum value writable enumerable) = ValueWithin n value
PropertyWithin n (m.Accessor get set enumerable) = IfSome get (λ k. k < n) × IfSome set (λ k. k < n)

abbrev MachineSlotWithin : ℕ → m.Slot → Type 0
MachineSlotWithin n s = PropertyWithin n s.property

abbrev MachineFormWithin : ℕ → m.Form → Type 0
MachineFormWithin n (m.Array elements) = All (ValueWithin n) elements
MachineFormWithin n form = Unit {0}

abbrev MachineCellWithin : ℕ → m.Cell → Type 0
MachineCellWithin n cell = MachineFormWithin n cell.form × All (MachineSlotWithin n) cell.slots

abbrev GivesWithin : ℕ → Result m.Cell ErrorKind → Type 0
GivesWithin n result = IfOk result (MachineCellWithin n)

-- ---- the tables

read_within : (n : ℕ) (slots : List m.Slot) (key : List ℕ) → All (MachineSlotWithin n) slots → IfSome (property_in slots key) (PropertyWithin n)
read_within n [] key h = tt
read_within n (s ∷ slots) key h = elim (bytes_eq s.key key) as (λ b. IfSome (if b then Some s.property else property_in slots key) (PropertyWithin n)) [
  | true ↦ all_first (MachineSlotWithin n) s slots h
  | false ↦ read_within n slots key (all_rest (MachineSlotWithin n) s slots h)
]

put_within : (n : ℕ) (slots : List m.Slot) (key : List ℕ) (p : m.Property) → PropertyWithin n p → All (MachineSlotWithin n) slots → All (MachineSlotWithin n) (defined_in slots key p)
put_within n [] key p a h = all_both (MachineSlotWithin n) (record { key = key; property = p }) [] a h
put_within n (s ∷ slots) key p a h = elim (bytes_eq s.key key) as (λ b. All (MachineSlotWithin n) (if b then record { key = key; property = p } ∷ slots else s ∷ defined_in slots key p)) [
  | true ↦ all_both (MachineSlotWithin n) (record { key = key; property = p }) slots a (all_rest (MachineSlotWithin n) s slots h)
  | false ↦ all_both (MachineSlotWithin n) s (defined_in slots key p) (all_first (MachineSlotWithin n) s slots h) (put_within n slots key p a (all_rest (MachineSlotWithin n) s slots h))
]

left_within : (n : ℕ) (slots : List m.Slot) (key : List ℕ) → All (MachineSlotWithin n) slots → All (MachineSlotWithin n) (removed_in slots key)
left_within n [] key h = h
left_within n (s ∷ slots) key h = elim (bytes_eq s.key key) as (λ b. All (MachineSlotWithin n) (if b then slots else s ∷ removed_in slots key)) [
  | true ↦ all_rest (MachineSlotWithin n) s slots h
  | false ↦ all_both (MachineSlotWithin n) s (removed_in slots key) (all_first (MachineSlotWithin n) s slots h) (left_within n slots key (all_rest (MachineSlotWithin n) s slots h))
]

element_within : (n : ℕ) (o : Option m.Value) → IfSome o (ValueWithin n) → IfSome (element o) (PropertyWithin n)
element_within n None h = tt
element_within n (Some value) h = h

array_own_within : (n : ℕ) (els : List m.Value) (slots : List m.Slot) (key : List ℕ) (spelled : Option ℕ) → All (ValueWithin n) els → All (MachineSlotWithin n) slots → IfSome (array_own els slots key spelled) (PropertyWithin n)
array_own_within n els slots key (Some place) e s = element_within n (slice_get els place) (all_at (ValueWithin n) els place e)
array_own_within n els slots key None e s = elim (bytes_eq key length_key) as (λ b. IfSome (if b then Some (m.Datum (m.count (length els)) true false) else property_in slots key) (PropertyWithin n)) [ true ↦ tt | false ↦ read_within n slots key s ]

own_within : (n : ℕ) (form : m.Form) (slots : List m.Slot) (key : List ℕ) → MachineFormWithin n form → All (MachineSlotWithin n) slots → IfSome (form_own form slots key) (PropertyWithin n)
own_within n (m.Array els) slots key e s = array_own_within n els slots key (place_spelled key) e s
own_within n m.Plain slots key e s = read_within n slots key s
own_within n (m.Closure code scope) slots key e s = read_within n slots key s
own_within n (m.Native b) slots key e s = read_within n slots key s
own_within n (m.Error name message) slots key e s = read_within n slots key s
own_within n (m.Forward owner callee) slots key e s = read_within n slots key s
own_within n (m.Link r) slots key e s = read_within n slots key s

written_within : (n : ℕ) (cell : m.Cell) (els : List m.Value) (place : ℕ) (v : m.Value) → ValueWithin n v → All (ValueWithin n) els → MachineCellWithin n cell → GivesWithin n (element_written cell els place v)
written_within n cell els place v a e s = elim (nat_lt place (length els)) as (λ b. GivesWithin n (if b then Ok (with_elements cell (slice_set els place v)) else (if place == length els then Ok (with_elements cell (els ++ v ∷ [])) else Err kind.Range))) [
  | true ↦ (all_written (ValueWithin n) els place v a e, s.1)
  | false ↦ elim (place == length els) as (λ b. GivesWithin n (if b then Ok (with_elements cell (els ++ v ∷ [])) else Err kind.Range)) [ true ↦ (all_last (ValueWithin n) els v a e, s.1) | false ↦ tt ]
]

refused_within : (n : ℕ) (b : Bool) → GivesWithin n (if b then Err kind.Kind else Err kind.Range)
refused_within n true = tt
refused_within n false = tt

element_defined_within : (n : ℕ) (cell : m.Cell) (els : List m.Value) (place : ℕ) (p : m.Property) → PropertyWithin n p → All (ValueWithin n) els → MachineCellWithin n cell → GivesWithin n (element_defined cell els place p)
element_defined_within n cell els place (m.Datum v true true) a e s = written_within n cell els place v a e s
element_defined_within n cell els place (m.Datum v true false) a e s = refused_within n (nat_le place (length els))
element_defined_within n cell els place (m.Datum v false true) a e s = refused_within n (nat_le place (length els))
element_defined_within n cell els place (m.Datum v false false) a e s = refused_within n (nat_le place (length els))
element_defined_within n cell els place (m.Accessor get set enumerable) a e s = refused_within n (nat_le place (length els))

cut_within : (n : ℕ) (cell : m.Cell) (els : List m.Value) (z : ℤ) → All (ValueWithin n) els → MachineCellWithin n cell → GivesWithin n (length_written cell els z)
cut_within n cell els (pos k) e s = elim (nat_le k (length els)) as (λ b. GivesWithin n (if b then Ok (with_elements cell (take k els)) else Err kind.Range)) [ true ↦ (All-take (ValueWithin n) k els e, s.1) | false ↦ tt ]
cut_within n cell els (negsuc k) e s = tt

kept_within : (n : ℕ) (r : Result m.Cell ErrorKind) → GivesWithin n (length_kept r)
kept_within n (Ok cell) = tt
kept_within n (Err why) = tt

length_within : (n : ℕ) (cell : m.Cell) (els : List m.Value) (p : m.Property) → All (ValueWithin n) els → MachineCellWithin n cell → GivesWithin n (length_defined cell els p)
length_within n cell els (m.Datum (m.Primitive (NumberPrim z)) true false) e s = cut_within n cell els z e s
length_within n cell els (m.Datum (m.Primitive (NumberPrim z)) true true) e s = kept_within n (length_written cell els z)
length_within n cell els (m.Datum (m.Primitive (NumberPrim z)) false true) e s = kept_within n (length_written cell els z)
length_within n cell els (m.Datum (m.Primitive (NumberPrim z)) false false) e s = kept_within n (length_written cell els z)
length_within n cell els (m.Datum (m.Primitive Undefined) w t) e s = tt
length_within n cell els (m.Datum (m.Primitive Null) w t) e s = tt
length_within n cell els (m.Datum (m.Primitive (BoolPrim b)) w t) e s = tt
length_within n cell els (m.Datum (m.Primitive (StrPrim b)) w t) e s = tt
length_within n cell els (m.Datum (m.Refers r) w t) e s = tt
length_within n cell els (m.Accessor get set t) e s = tt

slot_within : (n : ℕ) (cell : m.Cell) (key : List ℕ) (p : m.Property) → PropertyWithin n p → MachineCellWithin n cell → GivesWithin n (Ok (slot_defined cell key p))
slot_within n cell key p a s = (s.0, put_within n cell.slots key p a s.1)

array_defined_within : (n : ℕ) (cell : m.Cell) (els : List m.Value) (key : List ℕ) (p : m.Property) (spelled : Option ℕ) → PropertyWithin n p → All (ValueWithin n) els → MachineCellWithin n cell → GivesWithin n (array_defined cell els key p spelled)
array_defined_within n cell els key p (Some place) a e s = element_defined_within n cell els place p a e s
array_defined_within n cell els key p None a e s = elim (bytes_eq key length_key) as (λ b. GivesWithin n (if b then length_defined cell els p else Ok (slot_defined cell key p))) [ true ↦ length_within n cell els p e s | false ↦ slot_within n cell key p a s ]

defined_within : (n : ℕ) (form : m.Form) (cell : m.Cell) (key : List ℕ) (p : m.Property) → PropertyWithin n p → MachineFormWithin n form → MachineCellWithin n cell → GivesWithin n (form_defined form cell key p)
defined_within n (m.Array els) cell key p a e s = array_defined_within n cell els key p (place_spelled key) a e s
defined_within n m.Plain cell key p a e s = slot_within n cell key p a s
defined_within n (m.Closure code scope) cell key p a e s = slot_within n cell key p a s
defined_within n (m.Native b) cell key p a e s = slot_within n cell key p a s
defined_within n (m.Error name message) cell key p a e s = slot_within n cell key p a s
defined_within n (m.Forward owner callee) cell key p a e s = slot_within n cell key p a s
defined_within n (m.Link r) cell key p a e s = slot_within n cell key p a s

gone_within : (n : ℕ) (cell : m.Cell) (key : List ℕ) → MachineCellWithin n cell → GivesWithin n (Ok (slot_removed cell key))
gone_within n cell key s = (s.0, left_within n cell.slots key s.1)

array_removed_within : (n : ℕ) (cell : m.Cell) (els : List m.Value) (key : List ℕ) (spelled : Option ℕ) → MachineCellWithin n cell → GivesWithin n (array_removed cell els key spelled)
array_removed_within n cell els key (Some place) s = elim (nat_lt place (length els)) as (λ b. GivesWithin n (if b then Err kind.Kind else Ok cell)) [ true ↦ tt | false ↦ s ]
array_removed_within n cell els key None s = elim (bytes_eq key length_key) as (λ b. GivesWithin n (if b then Err kind.Kind else Ok (slot_removed cell key))) [ true ↦ tt | false ↦ gone_within n cell key s ]

removed_within : (n : ℕ) (form : m.Form) (cell : m.Cell) (key : List ℕ) → MachineCellWithin n cell → GivesWithin n (form_removed form cell key)
removed_within n (m.Array els) cell key s = array_removed_within n cell els key (place_spelled key) s
removed_within n m.Plain cell key s = gone_within n cell key s
removed_within n (m.Closure code scope) cell key s = gone_within n cell key s
removed_within n (m.Native b) cell key s = gone_within n cell key s
removed_within n (m.Error name message) cell key s = gone_within n cell key s
removed_within n (m.Forward owner callee) cell key s = gone_within n cell key s
removed_within n (m.Link r) cell key s = gone_within n cell key s

-- ---- the heap's cells are so named

abbrev by_number : Names
by_number = record {
  reference = λ k. m.Own k;
  place = λ k. k;
  scope = λ k. k;
  builtin = λ k. ObjectFunction;
  link = λ reader owner k look. m.Own k;
}

value_there : (n : ℕ) (v : Slot) → SlotWithin n v → ValueWithin n (value_of by_number v)
value_there n (Prim p) h = tt
value_there n (Object c) h = h

value_back : (n : ℕ) (v : Slot) → ValueWithin n (value_of by_number v) → SlotWithin n v
value_back n (Prim p) h = tt
value_back n (Object c) h = h

place_there : (n : ℕ) (o : Option CellId) → IdWithin n o → IfSome (place_of by_number o) (λ k. k < n)
place_there n None h = tt
place_there n (Some c) h = h

place_back : (n : ℕ) (o : Option CellId) → IfSome (place_of by_number o) (λ k. k < n) → IdWithin n o
place_back n None h = tt
place_back n (Some c) h = h

prop_there : (n : ℕ) (p : Prop) → PropWithin n p → PropertyWithin n (property_of by_number p)
prop_there n (SlotProp v w e) h = value_there n v h
prop_there n (AccessorProp get set e) h = (place_there n get h.0, place_there n set h.1)

prop_back : (n : ℕ) (p : Prop) → PropertyWithin n (property_of by_number p) → PropWithin n p
prop_back n (SlotProp v w e) h = value_back n v h
prop_back n (AccessorProp get set e) h = (place_back n get h.0, place_back n set h.1)

abbrev KeyedWithin : ℕ → KeyedProp → Type 0
KeyedWithin n keyed = PropWithin n keyed.prop

values_there : (n : ℕ) (xs : List Slot) → All (SlotWithin n) xs → All (ValueWithin n) (values_of by_number xs)
values_there n [] h = All-nil (ValueWithin n)
values_there n (x ∷ xs) h = all_both (ValueWithin n) (value_of by_number x) (values_of by_number xs) (value_there n x (all_first (SlotWithin n) x xs h)) (values_there n xs (all_rest (SlotWithin n) x xs h))

values_back : (n : ℕ) (xs : List Slot) → All (ValueWithin n) (values_of by_number xs) → All (SlotWithin n) xs
values_back n [] h = All-nil (SlotWithin n)
values_back n (x ∷ xs) h = all_both (SlotWithin n) x xs (value_back n x (all_first (ValueWithin n) (value_of by_number x) (values_of by_number xs) h)) (values_back n xs (all_rest (ValueWithin n) (value_of by_number x) (values_of by_number xs) h))

slots_there : (n : ℕ) (xs : List KeyedProp) → All (KeyedWithin n) xs → All (MachineSlotWithin n) (slots_of by_number xs)
slots_there n [] h = All-nil (MachineSlotWithin n)
slots_there n (x ∷ xs) h = all_both (MachineSlotWithin n) (record { key = x.key; property = property_of by_number x.prop }) (slots_of by_number xs) (prop_there n x.prop (all_first (KeyedWithin n) x xs h)) (slots_there n xs (all_rest (KeyedWithin n) x xs h))

slots_back : (n : ℕ) (xs : List KeyedProp) → All (MachineSlotWithin n) (slots_of by_number xs) → All (KeyedWithin n) xs
slots_back n [] h = All-nil (KeyedWithin n)
slots_back n (x ∷ xs) h =
    let s : m.Slot = record { key = x.key; property = property_of by_number x.prop } in
    all_both (KeyedWithin n) x xs (prop_back n x.prop (all_first (MachineSlotWithin n) s (slots_of by_number xs) h)) (slots_back n xs (all_rest (MachineSlotWithin n) s (slots_of by_number xs) h))

form_there : (n : ℕ) (r : Actor) (els : List Slot) (form : Form) → All (SlotWithin n) els → MachineFormWithin n (form_of by_number r els form)
form_there n r els f.Plain h = tt
form_there n r els f.Array h = values_there n els h
form_there n r els (f.Function code scope) h = tt
form_there n r els (f.Native k) h = tt
form_there n r els (f.Error name message) h = tt
form_there n r els (f.Thing t) h = tt
form_there n r els (f.Link a c l) h = tt
form_there n r els (f.Forward a c) h = tt
form_there n r els f.Scope h = tt

-- of what is no array the elements are told apart
form_back : (n : ℕ) (r : Actor) (els : List Slot) (form : Form) → MachineFormWithin n (form_of by_number r els form) → (form ≢ f.Array → els ≡ []) → All (SlotWithin n) els
form_back n r els f.Array h d = values_back n els h
form_back n r els f.Plain h d = rw (d (λ e. cc)) (All-nil (SlotWithin n))
form_back n r els (f.Function code scope) h d = rw (d (λ e. cc)) (All-nil (SlotWithin n))
form_back n r els (f.Native k) h d = rw (d (λ e. cc)) (All-nil (SlotWithin n))
form_back n r els (f.Error name message) h d = rw (d (λ e. cc)) (All-nil (SlotWithin n))
form_back n r els (f.Thing t) h d = rw (d (λ e. cc)) (All-nil (SlotWithin n))
form_back n r els (f.Link a c l) h d = rw (d (λ e. cc)) (All-nil (SlotWithin n))
form_back n r els (f.Forward a c) h d = rw (d (λ e. cc)) (All-nil (SlotWithin n))
form_back n r els f.Scope h d = rw (d (λ e. cc)) (All-nil (SlotWithin n))

holder_there : (n : ℕ) (x : Cell) → CellSound n x → MachineCellWithin n (holder_of by_number x)
holder_there n x s = (form_there n x.owner x.elements x.form s.elements, slots_there n x.slots s.slots)

-- ---- what is read

property_back : (n : ℕ) (o : Option Prop) → IfSome (option_map (property_of by_number) o) (PropertyWithin n) → IfSome o (PropWithin n)
property_back n None h = tt
property_back n (Some p) h = prop_back n p h

pub read_sound : (n : ℕ) (x : Cell) (key : List ℕ) (o : Option Prop) → CellSound n x → ReadsAs (λ names. own_of (holder_of names x) key) o → IfSome o (PropWithin n)
read_sound n x key o s r = property_back n o (subst (λ (p : Option m.Property). IfSome p (PropertyWithin n)) (r by_number) (own_within n (holder_of by_number x).form (holder_of by_number x).slots key (holder_there n x s).0 (holder_there n x s).1))

pub name_sound : (n : ℕ) (name : List ℕ) (xs : List Binding) → All (λ (b : Binding). SlotWithin n b.value) xs → IfSome (name_in name xs) (SlotWithin n)
name_sound n name [] h = tt
name_sound n name (x ∷ xs) h = elim (bytes_eq x.name name) as (λ b. IfSome (if b then Some x.value else name_in name xs) (SlotWithin n)) [
  | true ↦ all_first (λ (b : Binding). SlotWithin n b.value) x xs h
  | false ↦ name_sound n name xs (all_rest (λ (b : Binding). SlotWithin n b.value) x xs h)
]

-- ---- what is written

-- elements and properties are those of this cell, and nothing else changes
rewritten : (n : ℕ) (x y : Cell) → CellSound n x → y ≡ record x { elements = y.elements; slots = y.slots } → (x.form ≢ f.Array → y.elements ≡ x.elements) → MachineCellWithin n (holder_of by_number y) → CellSound n y
rewritten n x y s e d h =
    let form : y.form ≡ x.form = ap (λ (c : Cell). c.form) e in
    let dense : y.form ≢ f.Array → y.elements ≡ [] = λ a. d (λ b. a (form ∙ b)) ∙ s.dense (λ b. a (form ∙ b)) in
    record {
      form = rw form s.form;
      proto = rw (ap (λ (c : Cell). c.proto) e) s.proto;
      outer = rw (ap (λ (c : Cell). c.outer) e) s.outer;
      elements = form_back n y.owner y.elements y.form h.0 dense;
      slots = slots_back n y.slots h.1;
      bindings = rw (ap (λ (c : Cell). c.bindings) e) s.bindings;
      dense = dense;
      may_have_place = λ p w. rw form (s.may_have_place p (sym (ap (λ (c : Cell). c.place) e) ∙ w));
    }

pub define_sound : (n : ℕ) (x y : Cell) (key : List ℕ) (p : Prop) (r : Result (Unit {0}) HeapFault) → CellSound n x → PropWithin n p → y ≡ record x { elements = y.elements; slots = y.slots } → (x.form ≢ f.Array → y.elements ≡ x.elements) → Defines x y key p r → OnErr r (y ≡ x) → CellSound n y
define_sound n x y key p (Ok u) s a e d t w =
    rewritten n x y s e d (subst (λ (g : Result m.Cell ErrorKind). GivesWithin n g) (t by_number)
    (defined_within n (holder_of by_number x).form (holder_of by_number x) key (property_of by_number p) (prop_there n p a) (holder_there n x s).0 (holder_there n x s)))
define_sound n x y key p (Err why) s a e d t w = rw w s

removed_holder : (n : ℕ) (x y : Cell) (key : List ℕ) (b : Bool) (r : Result m.Cell ErrorKind) → MachineCellWithin n (holder_of by_number x) → GivesWithin n r → RemovesAs by_number x y key b r → MachineCellWithin n (holder_of by_number y)
removed_holder n x y key b (Ok left) s g w = subst (λ (c : m.Cell). MachineCellWithin n c) (sym w.0) g
removed_holder n x y key b (Err why) s g w = subst (λ (z : Cell). MachineCellWithin n (holder_of by_number z)) (sym w.0) s

pub remove_sound : (n : ℕ) (x y : Cell) (key : List ℕ) (b : Bool) → CellSound n x → y ≡ record x { slots = y.slots } → Removes x y key b → CellSound n y
remove_sound n x y key b s e t =
    let els : y.elements ≡ x.elements = ap (λ (c : Cell). c.elements) e in
    let g : y ≡ record x { elements = y.elements; slots = y.slots } = e ∙ ap (λ (items : List Slot). record x { elements = items; slots = y.slots }) (sym els) in
    rewritten n x y s g (λ d. els)
    (removed_holder n x y key b (removed_of (holder_of by_number x) key) (holder_there n x s) (removed_within n (holder_of by_number x).form (holder_of by_number x) key (holder_there n x s)) (t by_number))

put_name_sound : (n : ℕ) (name : List ℕ) (v : Slot) (xs : List Binding) → SlotWithin n v → All (λ (b : Binding). SlotWithin n b.value) xs → All (λ (b : Binding). SlotWithin n b.value) (name_put name v xs)
put_name_sound n name v [] a h = all_both (λ (b : Binding). SlotWithin n b.value) (record { name = name; value = v }) [] a h
put_name_sound n name v (x ∷ xs) a h = elim (bytes_eq x.name name) as (λ t. All (λ (b : Binding). SlotWithin n b.value) (if t then record { name = x.name; value = v } ∷ xs else x ∷ name_put name v xs)) [
  | true ↦ all_both (λ (b : Binding). SlotWithin n b.value) (record { name = x.name; value = v }) xs a (all_rest (λ (b : Binding). SlotWithin n b.value) x xs h)
  | false ↦ all_both (λ (b : Binding). SlotWithin n b.value) x (name_put name v xs) (all_first (λ (b : Binding). SlotWithin n b.value) x xs h) (put_name_sound n name v xs a (all_rest (λ (b : Binding). SlotWithin n b.value) x xs h))
]

bindings_sound : (n : ℕ) (x : Cell) (bs : List Binding) → CellSound n x → All (λ (b : Binding). SlotWithin n b.value) bs → CellSound n (record x { bindings = bs })
bindings_sound n x bs s h = record {
  form = s.form;
  proto = s.proto;
  outer = s.outer;
  elements = s.elements;
  slots = s.slots;
  bindings = h;
  dense = s.dense;
  may_have_place = s.may_have_place;
}

pub bind_sound : {A E : Type 0} (n : ℕ) (x : Cell) (bs : List Binding) (name : List ℕ) (v : Slot) (r : Result A E) → CellSound n x → SlotWithin n v → OnOk r (bs ≡ name_put name v x.bindings) → OnErr r (bs ≡ x.bindings) → CellSound n (record x { bindings = bs })
bind_sound n x bs name v (Ok a) s w o e = bindings_sound n x bs s (rw o (put_name_sound n name v x.bindings w s.bindings))
bind_sound n x bs name v (Err a) s w o e = bindings_sound n x bs s (rw e s.bindings)

pub proto_sound : (n : ℕ) (x : Cell) (p : Option CellId) → CellSound n x → IdWithin n p → CellSound n (record x { proto = p })
proto_sound n x p s h = record {
  form = s.form;
  proto = h;
  outer = s.outer;
  elements = s.elements;
  slots = s.slots;
  bindings = s.bindings;
  dense = s.dense;
  may_have_place = s.may_have_place;
}

-- ---- a cell is added

id_more : (n : ℕ) (o : Option CellId) → IdWithin n o → IdWithin (suc n) o
id_more n None h = tt
id_more n (Some c) h = omega (arith, h)

slot_more : (n : ℕ) (v : Slot) → SlotWithin n v → SlotWithin (suc n) v
slot_more n (Prim p) h = tt
slot_more n (Object c) h = omega (arith, h)

prop_more : (n : ℕ) (p : Prop) → PropWithin n p → PropWithin (suc n) p
prop_more n (SlotProp v w e) h = slot_more n v h
prop_more n (AccessorProp get set e) h = (id_more n get h.0, id_more n set h.1)

form_more : (n : ℕ) (form : Form) → FormWithin n form → FormWithin (suc n) form
form_more n f.Plain h = tt
form_more n f.Array h = tt
form_more n (f.Function code scope) h = id_more n scope h
form_more n (f.Native k) h = tt
form_more n (f.Error name message) h = tt
form_more n (f.Thing t) h = tt
form_more n (f.Link a c l) h = omega (arith, h)
form_more n (f.Forward a c) h = omega (arith, h)
form_more n f.Scope h = tt

pub sound_more : (n : ℕ) (x : Cell) → CellSound n x → CellSound (suc n) x
sound_more n x s = record {
  form = form_more n x.form s.form;
  proto = id_more n x.proto s.proto;
  outer = id_more n x.outer s.outer;
  elements = all_weaker (SlotWithin n) (SlotWithin (suc n)) x.elements (slot_more n) s.elements;
  slots = all_weaker (KeyedWithin n) (KeyedWithin (suc n)) x.slots (λ keyed. prop_more n keyed.prop) s.slots;
  bindings = all_weaker (λ (b : Binding). SlotWithin n b.value) (λ (b : Binding). SlotWithin (suc n) b.value) x.bindings (λ b. slot_more n b.value) s.bindings;
  dense = s.dense;
  may_have_place = s.may_have_place;
}

pub fresh_sound : (n : ℕ) (owner : Actor) (form : Form) (outer : Option CellId) → FormWithin n form → IdWithin n outer → CellSound n (fresh_cell owner form outer)
fresh_sound n owner form outer a b = record {
  form = a;
  proto = tt;
  outer = b;
  elements = All-nil (SlotWithin n);
  slots = All-nil (KeyedWithin n);
  bindings = All-nil (λ (b : Binding). SlotWithin n b.value);
  dense = λ d. refl;
  may_have_place = λ p w. absurd (cc);
}

-- ---- a cell is given a place

pub place_sound : (n p : ℕ) (x : Cell) → CellSound n x → MayHavePlace x.form → CellSound n (record x { place = Some p })
place_sound n p x s h = record {
  form = s.form;
  proto = s.proto;
  outer = s.outer;
  elements = s.elements;
  slots = s.slots;
  bindings = s.bindings;
  dense = s.dense;
  may_have_place = λ q w. h;
}
