-- Lists of properties and of names: where a key stands, and what calls do there.
use Rattle.std.proofs.Common.{◌≡◌, ℕ, zero, suc, ◌<◌, ◌≤◌, List, [], ◌∷◌, ◌++◌, refl, sym, ap, ◌∙◌, length, arith, Option, Some, None, take, drop}
use Rattle.std.specs.Prelude.{slice_set, slice_index_or, is_some, if◌then◌else◌, true, false}
use Rattle.std.specs.List.{remove}
use Rattle.std.specs.Str.{bytes_eq}
use Rattle.js_objects.specs.declared.values.Slot.{Slot}
use Rattle.js_objects.specs.declared.values.Prop.{Prop}
use Rattle.js_objects.specs.declared.slots.KeyedProp.{KeyedProp}
use Rattle.js_objects.specs.declared.bindings.Binding.{Binding}
use Rattle.js_objects.specs.SlotsModel.{index_of, prop_in, put_in, taken_from, name_index, name_in, name_put}

-- ---- properties

prop_at : (key : List ℕ) (xs : List KeyedProp) (d : KeyedProp) → index_of key xs < length xs → prop_in key xs ≡ Some (slice_index_or xs (index_of key xs) d).prop
prop_at key [] d l = absurd (omega arith)
prop_at key (x ∷ xs) d l = elim (bytes_eq x.key key) as (λ b. (if b then 0 else suc (index_of key xs)) < length (x ∷ xs) → (if b then Some x.prop else prop_in key xs) ≡ Some (slice_index_or (x ∷ xs) (if b then 0 else suc (index_of key xs)) d).prop) [
  | true ↦ λ k. refl
  | false ↦ λ k. let n : index_of key xs < length xs = omega arith in prop_at key xs d n
] l

prop_none : (key : List ℕ) (xs : List KeyedProp) → length xs ≤ index_of key xs → prop_in key xs ≡ None
prop_none key [] l = refl
prop_none key (x ∷ xs) l = elim (bytes_eq x.key key) as (λ b. length (x ∷ xs) ≤ (if b then 0 else suc (index_of key xs)) → (if b then Some x.prop else prop_in key xs) ≡ None) [
  | true ↦ λ k. absurd (omega arith)
  | false ↦ λ k. let n : length xs ≤ index_of key xs = omega arith in prop_none key xs n
] l

put_index : (key : List ℕ) (p : Prop) (xs : List KeyedProp) (d : KeyedProp) → index_of key xs < length xs → slice_set xs (index_of key xs) (record { key = (slice_index_or xs (index_of key xs) d).key; prop = p }) ≡ put_in key p xs
put_index key p [] d h = absurd (omega arith)
put_index key p (q ∷ ps) d h =
    elim (bytes_eq q.key key) as (λ b. (if b then 0 else suc (index_of key ps)) < length (q ∷ ps) → slice_set (q ∷ ps) (if b then 0 else suc (index_of key ps)) (record { key = (slice_index_or (q ∷ ps) (if b then 0 else suc (index_of key ps)) d).key; prop = p }) ≡ (if b then record { key = q.key; prop = p } ∷ ps else q ∷ put_in key p ps)) [
      | true ↦ λ l. refl
      | false ↦ λ l. let m : index_of key ps < length ps = omega arith in ap (λ r. q ∷ r) (put_index key p ps d m)
    ] h

put_none : (key : List ℕ) (p : Prop) (xs : List KeyedProp) → length xs ≤ index_of key xs → xs ++ record { key = key; prop = p } ∷ [] ≡ put_in key p xs
put_none key p [] h = refl
put_none key p (q ∷ ps) h =
    elim (bytes_eq q.key key) as (λ b. length (q ∷ ps) ≤ (if b then 0 else suc (index_of key ps)) → q ∷ (ps ++ record { key = key; prop = p } ∷ []) ≡ (if b then record { key = q.key; prop = p } ∷ ps else q ∷ put_in key p ps)) [
      | true ↦ λ l. absurd (omega arith)
      | false ↦ λ l. let m : length ps ≤ index_of key ps = omega arith in ap (λ r. q ∷ r) (put_none key p ps m)
    ] h

pub put_here : (at : ℕ) (key : List ℕ) (n : ℕ) (p : Prop) (now read items : List KeyedProp) (x : KeyedProp) → items ≡ now → at ≡ index_of key read → read ≡ items → x ≡ slice_index_or items at x → at < n → n ≡ length items → slice_set items at (record { key = x.key; prop = p }) ≡ put_in key p now
put_here at key n p now read items x v s e a l m =
    let s2 : at ≡ index_of key items = s ∙ ap (λ ps. index_of key ps) e in
    let w : index_of key items < length items = omega arith in
    ap (λ (q : KeyedProp). slice_set items at (record { key = q.key; prop = p })) a ∙ (ap (λ k. slice_set items k (record { key = (slice_index_or items k x).key; prop = p })) s2 ∙ put_index key p items x w) ∙ ap (put_in key p) v

pub put_new : (at : ℕ) (key : List ℕ) (n : ℕ) (p : Prop) (now read items new : List KeyedProp) → items ≡ now → at ≡ index_of key read → read ≡ items → n ≤ at → n ≡ length items → new ≡ items ++ record { key = key; prop = p } ∷ [] → new ≡ put_in key p now
put_new at key n p now read items new v s e l m w =
    let s2 : at ≡ index_of key items = s ∙ ap (λ ps. index_of key ps) e in
    let q : length items ≤ index_of key items = omega arith in w ∙ put_none key p items q ∙ ap (put_in key p) v

pub find_here : (at : ℕ) (key : List ℕ) (n : ℕ) (now read items : List KeyedProp) (x : KeyedProp) → items ≡ now → at ≡ index_of key read → read ≡ items → x ≡ slice_index_or items at x → at < n → n ≡ length items → Some x.prop ≡ prop_in key now
find_here at key n now read items x v s e a l m =
    let s2 : at ≡ index_of key items = s ∙ ap (λ ps. index_of key ps) e in
    let w : index_of key items < length items = omega arith in
    ap (λ (q : KeyedProp). Some q.prop) (a ∙ ap (λ k. slice_index_or items k x) s2) ∙ (sym (prop_at key items x w) ∙ ap (prop_in key) v)

pub find_none : (at : ℕ) (key : List ℕ) (n : ℕ) (now read items : List KeyedProp) → items ≡ now → at ≡ index_of key read → read ≡ items → n ≤ at → n ≡ length items → None ≡ prop_in key now
find_none at key n now read items v s e l m =
    let s2 : at ≡ index_of key items = s ∙ ap (λ ps. index_of key ps) e in
    let q : length items ≤ index_of key items = omega arith in
    sym (prop_none key items q) ∙ ap (prop_in key) v

take_index : (key : List ℕ) (xs : List KeyedProp) → index_of key xs < length xs → remove xs (index_of key xs) ≡ taken_from key xs
take_index key [] h = absurd (omega arith)
take_index key (x ∷ xs) h =
    elim (bytes_eq x.key key) as (λ b. (if b then 0 else suc (index_of key xs)) < length (x ∷ xs) → remove (x ∷ xs) (if b then 0 else suc (index_of key xs)) ≡ (if b then xs else x ∷ taken_from key xs)) [
      | true ↦ λ l. refl
      | false ↦ λ l. let m : index_of key xs < length xs = omega arith in ap (λ r. x ∷ r) (take_index key xs m)
    ] h

take_none : (key : List ℕ) (xs : List KeyedProp) → length xs ≤ index_of key xs → xs ≡ taken_from key xs
take_none key [] h = refl
take_none key (x ∷ xs) h =
    elim (bytes_eq x.key key) as (λ b. length (x ∷ xs) ≤ (if b then 0 else suc (index_of key xs)) → x ∷ xs ≡ (if b then xs else x ∷ taken_from key xs)) [
      | true ↦ λ l. absurd (omega arith)
      | false ↦ λ l. let m : length xs ≤ index_of key xs = omega arith in ap (λ r. x ∷ r) (take_none key xs m)
    ] h

pub take_here : (at : ℕ) (key : List ℕ) (n : ℕ) (now read items new : List KeyedProp) → items ≡ now → at ≡ index_of key read → read ≡ items → at < n → n ≡ length items → new ≡ remove items at → new ≡ taken_from key now
take_here at key n now read items new v s e l m w =
    let s2 : at ≡ index_of key items = s ∙ ap (λ ps. index_of key ps) e in
    let q : index_of key items < length items = omega arith in
    w ∙ (ap (λ k. remove items k) s2 ∙ (take_index key items q ∙ ap (taken_from key) v))

there : (key : List ℕ) (xs : List KeyedProp) → index_of key xs < length xs → true ≡ is_some (prop_in key xs)
there key [] h = absurd (omega arith)
there key (x ∷ xs) h =
    elim (bytes_eq x.key key) as (λ b. (if b then 0 else suc (index_of key xs)) < length (x ∷ xs) → true ≡ is_some (if b then Some x.prop else prop_in key xs)) [
      | true ↦ λ l. refl
      | false ↦ λ l. let m : index_of key xs < length xs = omega arith in there key xs m
    ] h

pub take_there : (at : ℕ) (key : List ℕ) (n : ℕ) (now read items : List KeyedProp) → items ≡ now → at ≡ index_of key read → read ≡ items → at < n → n ≡ length items → true ≡ is_some (prop_in key now)
take_there at key n now read items v s e l m =
    let s2 : at ≡ index_of key items = s ∙ ap (λ ps. index_of key ps) e in
    let q : index_of key items < length items = omega arith in
    rw (← v) (there key items q)

pub take_not : (at : ℕ) (key : List ℕ) (n : ℕ) (now read items : List KeyedProp) → items ≡ now → at ≡ index_of key read → read ≡ items → n ≤ at → n ≡ length items → (false ≡ is_some (prop_in key now)) × (now ≡ taken_from key now)
take_not at key n now read items v s e l m =
    let s2 : at ≡ index_of key items = s ∙ ap (λ ps. index_of key ps) e in
    let q : length items ≤ index_of key items = omega arith in
    (rw (← v, prop_none key items q) refl, sym v ∙ (take_none key items q ∙ ap (taken_from key) v))

-- ---- names

name_at : (key : List ℕ) (xs : List Binding) (d : Binding) → name_index key xs < length xs → name_in key xs ≡ Some (slice_index_or xs (name_index key xs) d).value
name_at key [] d l = absurd (omega arith)
name_at key (x ∷ xs) d l = elim (bytes_eq x.name key) as (λ b. (if b then 0 else suc (name_index key xs)) < length (x ∷ xs) → (if b then Some x.value else name_in key xs) ≡ Some (slice_index_or (x ∷ xs) (if b then 0 else suc (name_index key xs)) d).value) [
  | true ↦ λ k. refl
  | false ↦ λ k. let n : name_index key xs < length xs = omega arith in name_at key xs d n
] l

name_none : (key : List ℕ) (xs : List Binding) → length xs ≤ name_index key xs → name_in key xs ≡ None
name_none key [] l = refl
name_none key (x ∷ xs) l = elim (bytes_eq x.name key) as (λ b. length (x ∷ xs) ≤ (if b then 0 else suc (name_index key xs)) → (if b then Some x.value else name_in key xs) ≡ None) [
  | true ↦ λ k. absurd (omega arith)
  | false ↦ λ k. let n : length xs ≤ name_index key xs = omega arith in name_none key xs n
] l

name_put_index : (key : List ℕ) (p : Slot) (xs : List Binding) (d : Binding) → name_index key xs < length xs → slice_set xs (name_index key xs) (record { name = (slice_index_or xs (name_index key xs) d).name; value = p }) ≡ name_put key p xs
name_put_index key p [] d h = absurd (omega arith)
name_put_index key p (q ∷ ps) d h =
    elim (bytes_eq q.name key) as (λ b. (if b then 0 else suc (name_index key ps)) < length (q ∷ ps) → slice_set (q ∷ ps) (if b then 0 else suc (name_index key ps)) (record { name = (slice_index_or (q ∷ ps) (if b then 0 else suc (name_index key ps)) d).name; value = p }) ≡ (if b then record { name = q.name; value = p } ∷ ps else q ∷ name_put key p ps)) [
      | true ↦ λ l. refl
      | false ↦ λ l. let m : name_index key ps < length ps = omega arith in ap (λ r. q ∷ r) (name_put_index key p ps d m)
    ] h

name_put_none : (key : List ℕ) (p : Slot) (xs : List Binding) → length xs ≤ name_index key xs → xs ++ record { name = key; value = p } ∷ [] ≡ name_put key p xs
name_put_none key p [] h = refl
name_put_none key p (q ∷ ps) h =
    elim (bytes_eq q.name key) as (λ b. length (q ∷ ps) ≤ (if b then 0 else suc (name_index key ps)) → q ∷ (ps ++ record { name = key; value = p } ∷ []) ≡ (if b then record { name = q.name; value = p } ∷ ps else q ∷ name_put key p ps)) [
      | true ↦ λ l. absurd (omega arith)
      | false ↦ λ l. let m : length ps ≤ name_index key ps = omega arith in ap (λ r. q ∷ r) (name_put_none key p ps m)
    ] h

pub name_put_here : (at : ℕ) (key : List ℕ) (n : ℕ) (p : Slot) (now read items : List Binding) (x : Binding) → items ≡ now → at ≡ name_index key read → read ≡ items → x ≡ slice_index_or items at x → at < n → n ≡ length items → slice_set items at (record { name = x.name; value = p }) ≡ name_put key p now
name_put_here at key n p now read items x v s e a l m =
    let s2 : at ≡ name_index key items = s ∙ ap (λ ps. name_index key ps) e in
    let w : name_index key items < length items = omega arith in
    ap (λ (q : Binding). slice_set items at (record { name = q.name; value = p })) a ∙ (ap (λ k. slice_set items k (record { name = (slice_index_or items k x).name; value = p })) s2 ∙ name_put_index key p items x w) ∙ ap (name_put key p) v

pub name_put_new : (at : ℕ) (key : List ℕ) (n : ℕ) (p : Slot) (now read items new : List Binding) → items ≡ now → at ≡ name_index key read → read ≡ items → n ≤ at → n ≡ length items → new ≡ items ++ record { name = key; value = p } ∷ [] → new ≡ name_put key p now
name_put_new at key n p now read items new v s e l m w =
    let s2 : at ≡ name_index key items = s ∙ ap (λ ps. name_index key ps) e in
    let q : length items ≤ name_index key items = omega arith in w ∙ name_put_none key p items q ∙ ap (name_put key p) v

pub name_here : (at : ℕ) (key : List ℕ) (n : ℕ) (now read items : List Binding) (x : Binding) → items ≡ now → at ≡ name_index key read → read ≡ items → x ≡ slice_index_or items at x → at < n → n ≡ length items → Some x.value ≡ name_in key now
name_here at key n now read items x v s e a l m =
    let s2 : at ≡ name_index key items = s ∙ ap (λ ps. name_index key ps) e in
    let w : name_index key items < length items = omega arith in
    ap (λ (q : Binding). Some q.value) (a ∙ ap (λ k. slice_index_or items k x) s2) ∙ (sym (name_at key items x w) ∙ ap (name_in key) v)

pub name_not : (at : ℕ) (key : List ℕ) (n : ℕ) (now read items : List Binding) → items ≡ now → at ≡ name_index key read → read ≡ items → n ≤ at → n ≡ length items → None ≡ name_in key now
name_not at key n now read items v s e l m =
    let s2 : at ≡ name_index key items = s ∙ ap (λ ps. name_index key ps) e in
    let q : length items ≤ name_index key items = omega arith in
    sym (name_none key items q) ∙ ap (name_in key) v
