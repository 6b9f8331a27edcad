-- Maps stay within the limits.
use Rattle.std.specs.Prelude.{Result, Ok, Err, OnOk, OnErr, IsErrOf, ◌↔◌, ◌≡◌, ◌≤◌, ◌+◌, ◌-◌, ℕ, List, [], ◌∷◌, length, Option, Some, None, Bool, true, false, cond, unwrap_or, is_some, refl}
use Rattle.std.specs.Ordering.{eq_by_cmp}
use Rattle.std.specs.declared.cmp.Ordering.TheVariants.{Less, Equal, Greater}
use Rattle.std.specs.FinMap.{FinMap, empty, get, insert, remove, entries, len, contains_key, find, is_sorted, put as place, entries_sorted, get-entries, get-empty, get-remove, entries-insert, len-insert, len-remove, len-entries, len-empty}
use Rattle.std.specs.FinMap.Entries.{by_order}
use Rattle.std.proofs.Common.{ap, sym, ◌∙◌, subst, arith, true≢false}
use Rattle.std.proofs.lemmas.Map.Views.{tells_apart}
use Rattle.base_text.specs.Scalars.{text_cmp}
use Rattle.serde_json.specs.Data.{Data, Members, no_members, member, Items, no_items, item}
use Rattle.serde_json.specs.Events.{members_len}
use Rattle.dom_semantics.specs.declared.kept.Kept.{Kept}
use Rattle.dom_semantics.specs.declared.kept.Kept.TheVariants.{Str, Bool as Truth, Number}
use Rattle.dom_semantics.specs.declared.kept.TheConstants.{VALUE_LIMIT}
use Rattle.gm_store.specs.Maps.{Values, Names, Maps, names_in, values_in, value_at, with_values, with_value, without_value}
use Rattle.gm_store.specs.Limits.{IsShort, KeptFits, ValuesFit, NamesFit, MapsFit}
use Rattle.gm_store.specs.Stored.{IsKept, PutsMembers, AddsScript, AddsScripts, IsStored}
use Rattle.gm_store.specs.WrittenModel.{stored_model}
use Rattle.gm_store.proofs.TextMaps.{texts_total, exact_texts}
use Rattle.gm_store.specs.declared.stores.SetFault.{SetFault}
use Rattle.gm_store.specs.declared.stores.SetFault.TheVariants.{ValueLimit}
use Rattle.gm_store.proofs.MapLemmas.{put_back, set_in, no_names, names_are, no_values_1}
use Rattle.gm_store.proofs.RoundTrip.{round_trip, parts, holds, same_key, none_there}

-- ---- putting

fit_put : (k : List ℕ) (v : Kept) (es : List (List ℕ × Kept)) → IsShort k → KeptFits v → ValuesFit es → ValuesFit (place text_cmp k v es)
fit_put k v [] short fits h = (short, fits, tt)
fit_put k v (e ∷ es) short fits h =
    elim (text_cmp k e.0) as (λ o. ValuesFit (by_order o ((k, v) ∷ e ∷ es) ((e.0, v) ∷ es) (e ∷ place text_cmp k v es))) [
      | Less ↦ (short, fits, h)
      | Equal ↦ (h.0, fits, h.2)
      | Greater ↦ (h.0, h.1, fit_put k v es short fits h.2)
    ]

names_put : (k : List ℕ) (vs : Values) (es : List (List ℕ × Values)) → IsShort k → ValuesFit (entries vs) → len vs ≤ VALUE_LIMIT → NamesFit es → NamesFit (place text_cmp k vs es)
names_put k vs [] short fits few h = (short, fits, few, tt)
names_put k vs (e ∷ es) short fits few h =
    elim (text_cmp k e.0) as (λ o. NamesFit (by_order o ((k, vs) ∷ e ∷ es) ((e.0, vs) ∷ es) (e ∷ place text_cmp k vs es))) [
      | Less ↦ (short, fits, few, h)
      | Equal ↦ (h.0, fits, few, h.3)
      | Greater ↦ (h.0, h.1, h.2, names_put k vs es short fits few h.3)
    ]

maps_put : (k : List ℕ) (ns : Names) (es : List (List ℕ × Names)) → IsShort k → NamesFit (entries ns) → MapsFit es → MapsFit (place text_cmp k ns es)
maps_put k ns [] short fits h = (short, fits, tt)
maps_put k ns (e ∷ es) short fits h =
    elim (text_cmp k e.0) as (λ o. MapsFit (by_order o ((k, ns) ∷ e ∷ es) ((e.0, ns) ∷ es) (e ∷ place text_cmp k ns es))) [
      | Less ↦ (short, fits, h)
      | Equal ↦ (h.0, fits, h.2)
      | Greater ↦ (h.0, h.1, maps_put k ns es short fits h.2)
    ]

fit_insert : (vs : Values) (k : List ℕ) (v : Kept) → IsShort k → KeptFits v → ValuesFit (entries vs) → ValuesFit (entries (insert vs k v))
fit_insert vs k v short fits h = subst ValuesFit (sym (entries-insert texts_total vs k v)) (fit_put k v (entries vs) short fits h)

none_in : {X : Type 0} → entries (empty {X = X} {R = text_cmp}) ≡ []
none_in {X = X} = nothing (entries (empty {X = X} {R = text_cmp})) (sym (len-entries empty) ∙ len-empty text_cmp X)
  where
    nothing : {A : Type 0} (es : List A) → length es ≡ 0 → es ≡ []
    nothing [] e = refl
    nothing (x ∷ xs) e = absurd (omega arith)

-- ---- the value at a key

fit_values : (q : List ℕ) (es : List (List ℕ × Values)) → NamesFit es → ValuesFit (entries (unwrap_or (find text_cmp q es) empty)) × (len (unwrap_or (find text_cmp q es) empty) ≤ VALUE_LIMIT)
fit_values q [] h = (subst ValuesFit (sym none_in) tt, omega (arith, len-empty text_cmp Kept))
fit_values q (e ∷ es) h =
    elim (eq_by_cmp text_cmp q e.0) as (λ b. ValuesFit (entries (unwrap_or (cond b (Some e.1) (find text_cmp q es)) empty)) × (len (unwrap_or (cond b (Some e.1) (find text_cmp q es)) empty) ≤ VALUE_LIMIT)) [
      | true ↦ (h.1, h.2)
      | false ↦ fit_values q es h.3
    ]

fit_names : (q : List ℕ) (es : List (List ℕ × Names)) → MapsFit es → NamesFit (entries (unwrap_or (find text_cmp q es) empty))
fit_names q [] h = subst NamesFit (sym none_in) tt
fit_names q (e ∷ es) h =
    elim (eq_by_cmp text_cmp q e.0) as (λ b. NamesFit (entries (unwrap_or (cond b (Some e.1) (find text_cmp q es)) empty))) [
      | true ↦ h.1
      | false ↦ fit_names q es h.2
    ]

names_fit : (m : Maps) (namespace : List ℕ) → MapsFit (entries m) → NamesFit (entries (names_in m namespace))
names_fit m namespace h = subst (λ (o : Option Names). NamesFit (entries (unwrap_or o empty))) (sym (get-entries m namespace)) (fit_names namespace (entries m) h)

values_fit : (m : Maps) (namespace name : List ℕ) → MapsFit (entries m) → ValuesFit (entries (values_in m namespace name)) × (len (values_in m namespace name) ≤ VALUE_LIMIT)
values_fit m namespace name h =
    subst (λ (o : Option Values). ValuesFit (entries (unwrap_or o empty)) × (len (unwrap_or o empty) ≤ VALUE_LIMIT)) (sym (get-entries (names_in m namespace) name))
    (fit_values name (entries (names_in m namespace)) (names_fit m namespace h))

with_fit : (m : Maps) (namespace name : List ℕ) (vs : Values) → IsShort namespace → IsShort name → ValuesFit (entries vs) → len vs ≤ VALUE_LIMIT → MapsFit (entries m) → MapsFit (entries (with_values m namespace name vs))
with_fit m namespace name vs short shorter fits few h =
    subst MapsFit (sym (entries-insert texts_total m namespace (insert (names_in m namespace) name vs)))
    (maps_put namespace (insert (names_in m namespace) name vs) (entries m) short
    (subst NamesFit (sym (entries-insert texts_total (names_in m namespace) name vs)) (names_put name vs (entries (names_in m namespace)) shorter fits few (names_fit m namespace h))) h)

-- ---- loaded maps

kept_fits : (d : Data) (v : Kept) → IsKept d v → KeptFits v
kept_fits d (Str t) h = h.1
kept_fits d (Truth b) h = tt
kept_fits d (Number z) h = h.3

len_one_more : (vs : Values) (k : List ℕ) (v : Kept) → len (insert vs k v) ≤ len vs + 1
len_one_more vs k v =
    let grown = len-insert texts_total vs k v in
    elim (contains_key vs k) as (λ b. len (insert vs k v) ≡ cond b (len vs) (len vs + 1) → len (insert vs k v) ≤ len vs + 1) [
      | true ↦ λ e. omega (arith, e)
      | false ↦ λ e. omega (arith, e)
    ] grown

puts_fit : (ms : Members) (old new : Values) → PutsMembers ms old new → ValuesFit (entries old) → ValuesFit (entries new)
puts_fit no_members old new p h = subst (λ (vs : Values). ValuesFit (entries vs)) (sym p) h
puts_fit (member k d ms) old new p h = puts_fit ms (insert old p.0 p.1) new p.5 (fit_insert old p.0 p.1 p.3 (kept_fits d p.1 p.4) h)

puts_few : (ms : Members) (old new : Values) → PutsMembers ms old new → len new ≤ len old + members_len ms
puts_few no_members old new p = let e = ap len p in omega (arith, e)
puts_few (member k d ms) old new p =
    let rest = puts_few ms (insert old p.0 p.1) new p.5 in
    let one = len_one_more old p.0 p.1 in
    omega (arith, rest, one)

script_fit : (d : Data) (old new : Maps) → AddsScript d old new → MapsFit (entries old) → MapsFit (entries new)
script_fit d old new a h =
    let has = a.script.values_are in
    let few = puts_few has.0 empty a.values has.2.1 in
    let none = len-empty text_cmp Kept in
    let most = has.2.0 in
    subst (λ (m : Maps). MapsFit (entries m)) (sym a.new_is)
    (with_fit old a.namespace a.name a.values a.script.namespace_short a.script.name_short (puts_fit has.0 empty a.values has.2.1 (subst ValuesFit (sym none_in) tt)) (omega (arith, few, none, most)) h)

scripts_fit : (ds : Items) (old new : Maps) → AddsScripts ds old new → MapsFit (entries old) → MapsFit (entries new)
scripts_fit no_items old new p h = subst (λ (m : Maps). MapsFit (entries m)) (sym p) h
scripts_fit (item d ds) old new p h = scripts_fit ds p.0 new p.2 (script_fit d old p.0 p.1 h)

pub empty_fit : MapsFit (entries (empty {X = Names} {R = text_cmp}))
empty_fit = subst MapsFit (sym none_in) tt

pub loaded_fit : (d : Data) (m : Maps) → IsStored d m → MapsFit (entries m)
loaded_fit d m s = scripts_fit s.stores empty m s.scripts empty_fit

-- the text of loaded maps gives the same values back
pub loaded_back : (d : Data) (m : Maps) → IsStored d m → (n : Maps) × IsStored (stored_model m) n × ((namespace name : List ℕ) → values_in n namespace name ≡ values_in m namespace name)
loaded_back d m s = round_trip m (loaded_fit d m s)

-- ---- setting

pub set_fit : (m : Maps) (namespace name key : List ℕ) (v : Kept) → IsShort namespace → IsShort name → IsShort key → KeptFits v
    → ((value_at m namespace name key ≡ None) × (VALUE_LIMIT ≤ len (values_in m namespace name)) → ⊥) → MapsFit (entries m) → MapsFit (entries (with_value m namespace name key v))
set_fit m namespace name key v short shorter shortest fits below h =
    let old = values_in m namespace name in
    let fit = values_fit m namespace name h in
    let grown = len-insert texts_total old key v in
    let most = fit.1 in
    let few : len (insert old key v) ≤ VALUE_LIMIT =
    elim (get old key) as (λ o. (((o ≡ None) × (VALUE_LIMIT ≤ len old)) → ⊥) → len (insert old key v) ≡ cond (is_some o) (len old) (len old + 1) → len (insert old key v) ≤ VALUE_LIMIT) [
      | Some w ↦ λ _ e. omega (arith, e, most)
      | None ↦ λ room e. let short_of : VALUE_LIMIT ≤ len old → ⊥ = λ l. room (refl, l) in omega (arith, e, short_of)
    ] below grown in
    with_fit m namespace name (insert old key v) short shorter (fit_insert old key v shortest fits fit.0) few h

-- ---- deleting

fit_points : (q : List ℕ) (v : Kept) (es : List (List ℕ × Kept)) → ValuesFit es → find text_cmp q es ≡ Some v → IsShort q × KeptFits v
fit_points q v [] h is = cc is
fit_points q v (e ∷ es) h is =
    elim (eq_by_cmp text_cmp q e.0) as (λ b. eq_by_cmp text_cmp q e.0 ≡ b → cond b (Some e.1) (find text_cmp q es) ≡ Some v → IsShort q × KeptFits v) [
      | true ↦ λ same s. (subst IsShort (sym (tells_apart exact_texts q e.0 same)) h.0, subst KeptFits (ap (λ (o : Option Kept). unwrap_or o v) s) h.1)
      | false ↦ λ _ s. fit_points q v es h.2 s
    ] refl is

from_points : (es : List (List ℕ × Kept)) → is_sorted text_cmp es ≡ true → ((q : List ℕ) (v : Kept) → find text_cmp q es ≡ Some v → IsShort q × KeptFits v) → ValuesFit es
from_points [] sorted all = tt
from_points (e ∷ es) sorted all =
    let both = parts _ _ sorted in
    let here = all e.0 e.1 (ap (λ (b : Bool). cond b (Some e.1) (find text_cmp e.0 es)) (same_key e.0)) in (
      here.0,
      here.1,
      from_points es both.1 (λ q v s. all q v (
          elim (eq_by_cmp text_cmp q e.0) as (λ b. eq_by_cmp text_cmp q e.0 ≡ b → cond b (Some e.1) (find text_cmp q es) ≡ Some v) [
            | true ↦ λ same. let none = none_there q e es both.0 same in cc (none, s)
            | false ↦ λ _. s
          ] refl)),
    )

removed_fit : (vs : Values) (key : List ℕ) → ValuesFit (entries vs) → ValuesFit (entries (remove vs key))
removed_fit vs key h = from_points (entries (remove vs key)) (holds _ (entries_sorted (remove vs key))) (λ q v s.
    let left : cond (eq_by_cmp text_cmp q key) None (get vs q) ≡ Some v = sym (get-remove texts_total vs key q) ∙ get-entries (remove vs key) q ∙ s in
    fit_points q v (entries vs) h (sym (get-entries vs q) ∙
    elim (eq_by_cmp text_cmp q key) as (λ b. cond b None (get vs q) ≡ Some v → get vs q ≡ Some v) [
      | true ↦ λ e. cc e
      | false ↦ λ e. e
    ] left))

removed_few : (vs : Values) (key : List ℕ) → len (remove vs key) ≤ len vs
removed_few vs key =
    elim (contains_key vs key) as (λ b. len (remove vs key) ≡ cond b (len vs - 1) (len vs) → len (remove vs key) ≤ len vs) [
      | true ↦ λ e. omega (arith, e)
      | false ↦ λ e. omega (arith, e)
    ] (len-remove texts_total vs key)

short_name : (q : List ℕ) (es : List (List ℕ × Values)) → NamesFit es → is_some (find text_cmp q es) ≡ true → IsShort q
short_name q [] h s = cc s
short_name q (e ∷ es) h s =
    elim (eq_by_cmp text_cmp q e.0) as (λ b. eq_by_cmp text_cmp q e.0 ≡ b → is_some (cond b (Some e.1) (find text_cmp q es)) ≡ true → IsShort q) [
      | true ↦ λ same _. subst IsShort (sym (tells_apart exact_texts q e.0 same)) h.0
      | false ↦ λ _ r. short_name q es h.3 r
    ] refl s

short_namespace : (q : List ℕ) (es : List (List ℕ × Names)) → MapsFit es → is_some (find text_cmp q es) ≡ true → IsShort q
short_namespace q [] h s = cc s
short_namespace q (e ∷ es) h s =
    elim (eq_by_cmp text_cmp q e.0) as (λ b. eq_by_cmp text_cmp q e.0 ≡ b → is_some (cond b (Some e.1) (find text_cmp q es)) ≡ true → IsShort q) [
      | true ↦ λ same _. subst IsShort (sym (tells_apart exact_texts q e.0 same)) h.0
      | false ↦ λ _ r. short_namespace q es h.2 r
    ] refl s

-- where a value is in what a key has, the key has something
stands : {Y : Type 0} (m : FinMap text_cmp (FinMap text_cmp Y)) (k q : List ℕ) → is_some (get (unwrap_or (get m k) empty) q) ≡ true → is_some (get m k) ≡ true
stands {Y = Y} m k q =
    elim (get m k) as (λ o. is_some (get (unwrap_or o empty) q) ≡ true → is_some o ≡ true) [
      | Some w ↦ λ _. refl
      | None ↦ λ h. let none : get (empty {X = Y} {R = text_cmp}) q ≡ None = get-empty text_cmp q in absurd (true≢false (sym h ∙ ap is_some none))
    ]

pub delete_fit : (m : Maps) (namespace name key : List ℕ) → MapsFit (entries m) → MapsFit (entries (without_value m namespace name key))
delete_fit m namespace name key h =
    let vs = values_in m namespace name in
    elim (contains_key vs key) as (λ b. contains_key vs key ≡ b → MapsFit (entries (cond b (with_values m namespace name (remove vs key)) m))) [
      | true ↦ λ there.
          let fit = values_fit m namespace name h in
          let in_names = stands (names_in m namespace) name key there in
          let in_maps = stands m namespace name in_names in
          let less = removed_few vs key in
          let most = fit.1 in
          with_fit m namespace name (remove vs key)
          (short_namespace namespace (entries m) h (ap is_some (sym (get-entries m namespace)) ∙ in_maps))
          (short_name name (entries (names_in m namespace)) (names_fit m namespace h) (ap is_some (sym (get-entries (names_in m namespace) name)) ∙ in_names))
          (removed_fit vs key fit.0) (omega (arith, less, most)) h
      | false ↦ λ _. h
    ] refl

-- ---- for the functions of stores

pub same_fit : (m n : Maps) → n ≡ m → MapsFit (entries m) → MapsFit (entries n)
same_fit m n same h = subst (λ (k : Maps). MapsFit (entries k)) (sym same) h

-- the scripts of a namespace, put back as they were
pub back_fit : (m : Maps) (namespace : List ℕ) (names : Names) → get m namespace ≡ Some names → MapsFit (entries m) → MapsFit (entries (insert m namespace names))
back_fit m namespace names here h = same_fit m _ (put_back m namespace names here) h

-- the first value of a namespace
pub first_fit : (m n : Maps) (namespace name key : List ℕ) (v : Kept) → IsShort namespace → IsShort name → IsShort key → KeptFits v → get m namespace ≡ None
    → n ≡ insert m namespace (insert empty name (insert empty key v)) → MapsFit (entries m) → MapsFit (entries n)
first_fit m n namespace name key v short shorter shortest fits none is h =
    let nothing = no_values_1 m namespace name none in
    let zero_len : len (values_in m namespace name) ≡ 0 = ap len nothing ∙ len-empty text_cmp Kept in
    same_fit (with_value m namespace name key v) n (is ∙ set_in m namespace name key v empty empty (no_names m namespace none) nothing)
    (set_fit m namespace name key v short shorter shortest fits (λ both. let many = both.1 in omega (arith, many, zero_len)) h)

-- a value of a namespace that has scripts, set or not
pub next_fit : {U : Type 0} (r : Result U SetFault) (m : Maps) (namespace name key : List ℕ) (v : Kept) (names new : Names) → IsShort namespace → IsShort name → IsShort key → KeptFits v → get m namespace ≡ Some names
    → OnOk r (new ≡ insert names name (insert (unwrap_or (get names name) empty) key v))
    → (IsErrOf r ValueLimit ↔ ((get (unwrap_or (get names name) empty) key ≡ None) × (VALUE_LIMIT ≤ len (unwrap_or (get names name) empty))))
    → OnErr r (new ≡ names) → MapsFit (entries m) → MapsFit (entries (insert m namespace new))
next_fit (Ok u) m namespace name key v names new short shorter shortest fits here ok limit err h =
    let there : names_in m namespace ≡ names = names_are m namespace names here in
    let values : values_in m namespace name ≡ unwrap_or (get names name) empty = ap (λ (ns : Names). unwrap_or (get ns name) empty) there in
    same_fit (with_value m namespace name key v) (insert m namespace new)
    (ap (insert m namespace) ok ∙ set_in m namespace name key v names (unwrap_or (get names name) empty) there values)
    (set_fit m namespace name key v short shorter shortest fits
    (λ both. let reached = limit.1 (subst (λ (vs : Values). (get vs key ≡ None) × (VALUE_LIMIT ≤ len vs)) values both) in cc reached) h)
next_fit (Err e) m namespace name key v names new short shorter shortest fits here ok limit err h =
    same_fit m (insert m namespace new) (ap (insert m namespace) err ∙ put_back m namespace names here) h
