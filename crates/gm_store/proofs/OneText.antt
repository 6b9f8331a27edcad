-- What the code writes is the one text of the maps.
use Rattle.std.specs.Prelude.{◌≡◌, ◌==◌, ℕ, List, [], ◌∷◌, ◌++◌, map, Bool, true, false, cond, refl, encode_utf8_all, codes}
use Rattle.std.specs.List.{flat_map, filter, AllByRecursion}
use Rattle.std.specs.List.Sorted.{IsStrictlySortedBy}
use Rattle.std.specs.Map.{keys_of}
use Rattle.std.specs.declared.cmp.Ordering.TheVariants.{Less}
use Rattle.std.specs.FinMap.{entries, keys, len, is_sorted, entries_sorted}
use Rattle.std.specs.FinMap.Entries.{below_all}
use Rattle.std.proofs.Common.{ap, sym, ◌∙◌, subst}
use Rattle.std.proofs.lemmas.List.{map-append}
use Rattle.std.proofs.lemmas.List.Elements.{filter-append}
use Rattle.base_text.specs.Scalars.{text_cmp}
use Rattle.serde_json.specs.Data.{Data, number, string, array, object, unsigned, Members, no_members, member, put}
use Rattle.serde_json.specs.View.{items_of}
use Rattle.dom_semantics.specs.declared.kept.Kept.{Kept}
use Rattle.gm_store.specs.Maps.{Values, Names, Maps}
use Rattle.gm_store.specs.Written.{kept_data, members_of, Script, scripts_of, keeps_some, script_data, stored_data}
use Rattle.gm_store.specs.WrittenModel.{values_members, script_model, names_model, scripts_model, stored_model}
use Rattle.gm_store.proofs.RoundTrip.{parts, holds, is_less, Below, put_greater, AreReady, ready_next, ready_first}

-- the keys of a map strictly rise
keys_above : {X : Type 0} (k : List ℕ) (es : List (List ℕ × X)) → below_all text_cmp k es ≡ true → AllByRecursion (λ y. text_cmp k y ≡ Less) (keys_of es)
keys_above k [] h = tt
keys_above k (e ∷ es) h = let both = parts _ _ h in (is_less _ both.0, keys_above k es both.1)

pub keys_rise : {X : Type 0} (es : List (List ℕ × X)) → is_sorted text_cmp es ≡ true → IsStrictlySortedBy text_cmp (keys_of es)
unfolding IsStrictlySortedBy
keys_rise [] h = tt
keys_rise (e ∷ es) h = let both = parts _ _ h in (keys_above e.0 es both.0, keys_rise es both.1)

pub keys_sorted : (vs : Values) → IsStrictlySortedBy text_cmp (keys vs)
keys_sorted vs = keys_rise (entries vs) (holds _ (entries_sorted vs))

-- keys that are those of a map
pub sorted_as : (ks : List (List ℕ)) (vs : Values) → ks ≡ keys vs → IsStrictlySortedBy text_cmp ks
sorted_as ks vs same = subst (IsStrictlySortedBy text_cmp) (sym same) (keys_sorted vs)

-- the members, and then others
abbrev pub join : Members → Members → Members
join no_members ns = ns
join (member k d ms) ns = member k d (join ms ns)

join_more : (ms ns os : Members) → join (join ms ns) os ≡ join ms (join ns os)
join_more no_members ns os = refl
join_more (member k d ms) ns os = ap (member k d) (join_more ms ns os)

-- a key above all others goes last
put_end : (key : List ℕ) (d : Data) (ms : Members) → Below key ms → put (encode_utf8_all key) d ms ≡ join ms (member (encode_utf8_all key) d no_members)
put_end key d no_members b = refl
put_end key d (member l e ms) b = put_greater (encode_utf8_all key) d l e ms b.0 ∙ ap (member l e) (put_end key d ms b.1)

values_in_order : (es done : List (List ℕ × Kept)) (ms : Members) → is_sorted text_cmp es ≡ true → AreReady es done ms → values_members es ms ≡ join ms (members_of es)
values_in_order [] done ms sorted ready = sym (join_none ms)
  where
    join_none : (ms : Members) → join ms no_members ≡ ms
    join_none no_members = refl
    join_none (member k d ms) = ap (member k d) (join_none ms)
values_in_order (e ∷ es) done ms sorted ready =
    let both = parts _ _ sorted in
    let k = encode_utf8_all e.0 in let d = kept_data e.1 in
    values_in_order es (done ++ e ∷ []) (put k d ms) both.1 (ready_next es done e d ms both.0 ready.1 ready.2)
    ∙ ap (λ (ns : Members). join ns (members_of es)) (put_end e.0 d ms ready.1)
    ∙ join_more ms (member k d no_members) (members_of es)

values_are_members : (vs : Values) → values_members (entries vs) no_members ≡ members_of (entries vs)
values_are_members vs = values_in_order (entries vs) [] no_members (holds _ (entries_sorted vs)) (ready_first (entries vs))

script_is : (namespace name : List ℕ) (vs : Values) → script_model namespace name vs ≡ script_data (namespace, name, vs)
script_is namespace name vs =
    ap (λ (ms : Members). object (member (codes "name") (string (encode_utf8_all name)) (member (codes "namespace") (string (encode_utf8_all namespace)) (member (codes "values") (object ms) no_members)))) (values_are_members vs)

abbrev pub scripts_in : List ℕ → List (List ℕ × Values) → List Script
scripts_in namespace es = map (λ (f : List ℕ × Values). (namespace, f.0, f.1)) es

names_are_scripts : (namespace : List ℕ) (es : List (List ℕ × Values)) → names_model namespace es ≡ map script_data (filter keeps_some (scripts_in namespace es))
names_are_scripts namespace [] = refl
names_are_scripts namespace (e ∷ es) =
    elim (len e.1 == 0) as (λ b. cond b (names_model namespace es) (script_model namespace e.0 e.1 ∷ names_model namespace es) ≡ map script_data (cond (cond b false true) ((namespace, e.0, e.1) ∷ filter keeps_some (scripts_in namespace es)) (filter keeps_some (scripts_in namespace es)))) [
      | true ↦ names_are_scripts namespace es
      | false ↦ λ i. script_is namespace e.0 e.1 i ∷ names_are_scripts namespace es i
    ]

abbrev pub all_scripts : List (List ℕ × Names) → List Script
all_scripts es = flat_map (λ (e : List ℕ × Names). map (λ (f : List ℕ × Values). (e.0, f.0, f.1)) (entries e.1)) es

all_are_scripts : (es : List (List ℕ × Names)) → scripts_model es ≡ map script_data (filter keeps_some (all_scripts es))
all_are_scripts [] = refl
all_are_scripts (e ∷ es) =
    (λ i. names_are_scripts e.0 (entries e.1) i ++ all_are_scripts es i)
    ∙ sym (map-append script_data (filter keeps_some (scripts_in e.0 (entries e.1))) (filter keeps_some (all_scripts es)))
    ∙ ap (map script_data) (sym (filter-append keeps_some (scripts_in e.0 (entries e.1)) (all_scripts es)))

-- the scaffolding is the definition
pub stored_same : (m : Maps) → stored_model m ≡ stored_data m
stored_same m =
    ap (λ (ds : List Data). object (member (codes "form") (number (unsigned 1)) (member (codes "stores") (array (items_of ds)) no_members))) (all_are_scripts (entries m))
