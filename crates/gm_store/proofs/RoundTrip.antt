-- What the written text of maps stands for.
use lib.Dec.{T}
use Rattle.std.specs.Prelude.{◌≡◌, ◌≤◌, ◌+◌, ◌==◌, ℕ, pos, negsuc, List, [], ◌∷◌, ◌++◌, length, Option, Some, None, Bool, true, false, ◌&&◌, ⊤, cond, unwrap_or, is_some, option_map, if◌then◌else◌, refl, encode_utf8_all}
use Rattle.std.specs.Ordering.{nat_cmp, match_ordering, eq_by_cmp, is_lt, ordering_reverse, is_eq}
use Rattle.std.specs.declared.cmp.Ordering.{Ordering}
use Rattle.std.specs.declared.cmp.Ordering.TheVariants.{Less, Equal, Greater}
use Rattle.std.specs.Cmp.Lexicographic.{slice_cmp}
use Rattle.std.specs.FinMap.{FinMap, empty, get, insert, entries, len, contains_key, from_entries, find, is_sorted, entries_sorted, empty_of_len, get-entries, get-from_entries, get-insert, get-empty, len-entries, same_map, from_entries_push}
use Rattle.std.specs.FinMap.Entries.{below_all}
use Rattle.std.proofs.Common.{ap, sym, ◌∙◌, subst, arith, append_assoc}
use Rattle.base_text.specs.Scalars.{text_cmp}
use Rattle.serde_json.specs.Data.{Data, Members, no_members, member, put}
use Rattle.serde_json.specs.Find.{of_integer}
use Rattle.serde_json.specs.Events.{members_len}
use Rattle.serde_json.specs.View.{items_of}
use Rattle.dom_semantics.specs.declared.kept.Kept.{Kept}
use Rattle.dom_semantics.specs.declared.kept.Kept.TheVariants.{Str, Bool as Truth, Number}
use Rattle.dom_semantics.specs.declared.kept.TheConstants.{VALUE_LIMIT}
use Rattle.gm_store.specs.Maps.{Values, Names, Maps, names_in, values_in, with_values}
use Rattle.gm_store.specs.Limits.{IsShort, KeptFits, ValuesFit, NamesFit, MapsFit}
use Rattle.gm_store.specs.Stored.{IsKept, PutsMembers, AreValues, IsScript, AddsScripts, IsStored}
use Rattle.gm_store.specs.Written.{kept_data}
use Rattle.gm_store.specs.WrittenModel.{values_members, script_model, names_model, scripts_model, stored_model}
use Rattle.std.proofs.lemmas.Bool.{eqb-true}
use Rattle.std.specs.Cmp.{eq_by_cmp_equiv}
use Rattle.std.proofs.lemmas.Map.Views.{tells_apart}
use Rattle.gm_store.proofs.TextMaps.{texts_total, exact_texts}
use Rattle.gm_store.proofs.MapLemmas.{no_names}

-- ---- keys in order

pub parts : (a b : Bool) → a && b ≡ true → (a ≡ true) × (b ≡ true)
parts true b h = (refl, h)
parts false b h = (h, cc h)

pub holds : (b : Bool) → T b → b ≡ true
holds true h = refl
holds false h = absurd h

pub is_less : (o : Ordering) → is_lt o ≡ true → o ≡ Less
is_less Less h = refl
is_less Equal h = cc h
is_less Greater h = cc h

-- a later key is above an earlier one
later : (x y : List ℕ) → text_cmp x y ≡ Less → text_cmp y x ≡ Greater
later x y h = texts_total.antisymm y x ∙ ap ordering_reverse h

-- the key is above those of all entries
abbrev pub Above : {X : Type 0} → List ℕ → List (List ℕ × X) → Type 0
Above k [] = ⊤
Above k (e ∷ es) = (text_cmp k e.0 ≡ Greater) × Above k es

above_none : {X : Type 0} (k : List ℕ) (es : List (List ℕ × X)) → Above k es → find text_cmp k es ≡ None
above_none k [] h = refl
above_none k (e ∷ es) h = ap (λ (o : Ordering). cond (is_eq o) (Some e.1) (find text_cmp k es)) h.0 ∙ above_none k es h.1

above_push : {X : Type 0} (k : List ℕ) (es : List (List ℕ × X)) (e : List ℕ × X) → Above k es → text_cmp k e.0 ≡ Greater → Above k (es ++ e ∷ [])
above_push k [] e h g = (g, tt)
above_push k (f ∷ fs) e h g = (h.0, above_push k fs e h.1 g)

whole : {A : Type 0} (xs : List A) → xs ++ [] ≡ xs
whole [] = refl
whole {A = A} (x ∷ xs) = ap (λ (ys : List A). x ∷ ys) (whole xs)

-- the entries make the map that they are of
pub made_of : {X : Type 0} (m : FinMap text_cmp X) → from_entries {R = text_cmp} (entries m) ≡ m
made_of m = same_map texts_total exact_texts _ _ (λ q. get-from_entries texts_total (entries m) q ∙ sym (get-entries m q))

-- ---- the values of a script

abbrev pub Below : List ℕ → Members → Type 0
Below k no_members = ⊤
Below k (member l d ms) = (slice_cmp nat_cmp (encode_utf8_all k) l ≡ Greater) × Below k ms

pub put_greater : (k : List ℕ) (d : Data) (l : List ℕ) (e : Data) (ms : Members) → slice_cmp nat_cmp k l ≡ Greater → put k d (member l e ms) ≡ member l e (put k d ms)
put_greater k d l e ms h = ap (λ (o : Ordering). match_ordering o (member k d (member l e ms)) (member l d ms) (member l e (put k d ms))) h

below_put : (k key : List ℕ) (d : Data) (ms : Members) → Below k ms → Below key ms → text_cmp k key ≡ Greater → Below k (put (encode_utf8_all key) d ms)
below_put k key d no_members b c g = (g, tt)
below_put k key d (member l e ms) b c g = subst (Below k) (sym (put_greater (encode_utf8_all key) d l e ms c.0)) (b.0, below_put k key d ms b.1 c.1 g)

len_put : (key : List ℕ) (d : Data) (ms : Members) → Below key ms → members_len (put (encode_utf8_all key) d ms) ≡ members_len ms + 1
len_put key d no_members b = refl
len_put key d (member l e ms) b =
    let here = ap members_len (put_greater (encode_utf8_all key) d l e ms b.0) in
    let rest = len_put key d ms b.1 in
    omega (arith, here, rest)

put_last : (key : List ℕ) (v : Kept) (d : Data) (ms : Members) (old a : Values) → Below key ms → IsShort key → IsKept d v → PutsMembers ms old a → PutsMembers (put (encode_utf8_all key) d ms) old (insert a key v)
put_last key v d no_members old a b short kept p = (key, v, refl, short, kept, ap (λ (m : Values). insert m key v) p)
put_last key v d (member l e ms) old a b short kept p =
    subst (λ (xs : Members). PutsMembers xs old (insert a key v)) (sym (put_greater (encode_utf8_all key) d l e ms b.0))
    (p.0, p.1, p.2, p.3, p.4, put_last key v d ms (insert old p.0 p.1) a b.1 short kept p.5)

kept_is : (v : Kept) → KeptFits v → IsKept (kept_data v) v
kept_is (Str t) h = (refl, h)
kept_is (Truth b) h = refl
kept_is (Number (pos n)) h = (of_integer (pos n), refl, refl, h)
kept_is (Number (negsuc n)) h = (of_integer (negsuc n), refl, refl, h)

abbrev pub AreReady : List (List ℕ × Kept) → List (List ℕ × Kept) → Members → Type 0
AreReady [] done ms = ⊤
AreReady (e ∷ es) done ms = Above e.0 done × Below e.0 ms × AreReady es done ms

pub ready_next : (es done : List (List ℕ × Kept)) (e : List ℕ × Kept) (d : Data) (ms : Members) → below_all text_cmp e.0 es ≡ true → Below e.0 ms → AreReady es done ms → AreReady es (done ++ e ∷ []) (put (encode_utf8_all e.0) d ms)
ready_next [] done e d ms below b ready = tt
ready_next (f ∷ fs) done e d ms below b ready =
    let both = parts _ _ below in
    let g = later e.0 f.0 (is_less _ both.0) in
    (above_push f.0 done e ready.0 g, below_put f.0 e.0 d ms ready.1 b g, ready_next fs done e d ms both.1 b ready.2)

values_put : (es done : List (List ℕ × Kept)) (ms : Members) → is_sorted text_cmp es ≡ true → ValuesFit es → AreReady es done ms → PutsMembers ms empty (from_entries done) → PutsMembers (values_members es ms) empty (from_entries (done ++ es))
values_put [] done ms sorted fit ready p = subst (λ (xs : List (List ℕ × Kept)). PutsMembers ms empty (from_entries xs)) (sym (whole done)) p
values_put (e ∷ es) done ms sorted fit ready p =
    let both = parts _ _ sorted in
    let next = put (encode_utf8_all e.0) (kept_data e.1) ms in
    let one : PutsMembers next empty (from_entries (done ++ e ∷ [])) =
    subst (PutsMembers next empty) (sym (from_entries_push texts_total exact_texts done e.0 e.1 (above_none e.0 done ready.0)))
    (put_last e.0 e.1 (kept_data e.1) ms empty (from_entries done) ready.1 fit.0 (kept_is e.1 fit.1) p) in
    subst (λ (xs : List (List ℕ × Kept)). PutsMembers (values_members es next) empty (from_entries xs)) (append_assoc done (e ∷ []) es)
    (values_put es (done ++ e ∷ []) next both.1 fit.2 (ready_next es done e (kept_data e.1) ms both.0 ready.1 ready.2) one)

values_count : (es done : List (List ℕ × Kept)) (ms : Members) → is_sorted text_cmp es ≡ true → AreReady es done ms → members_len (values_members es ms) ≡ members_len ms + length es
values_count [] done ms sorted ready = omega arith
values_count (e ∷ es) done ms sorted ready =
    let both = parts _ _ sorted in
    let rest = values_count es (done ++ e ∷ []) _ both.1 (ready_next es done e (kept_data e.1) ms both.0 ready.1 ready.2) in
    let one = len_put e.0 (kept_data e.1) ms ready.1 in
    omega (arith, rest, one)

pub ready_first : (es : List (List ℕ × Kept)) → AreReady es [] no_members
ready_first [] = tt
ready_first (e ∷ es) = (tt, tt, ready_first es)

-- the object of a script's values stands for them
pub values_back : (vs : Values) → ValuesFit (entries vs) → len vs ≤ VALUE_LIMIT → AreValues (values_members (entries vs) no_members) vs
values_back vs fit few =
    let sorted = holds _ (entries_sorted vs) in
    let ready = ready_first (entries vs) in
    let count = values_count (entries vs) [] no_members sorted ready in
    (omega (arith, count, len-entries vs, few), subst (PutsMembers (values_members (entries vs) no_members) empty) (made_of vs) (values_put (entries vs) [] no_members sorted fit ready refl))

-- and so the object of the script
pub script_back : (namespace name : List ℕ) (vs : Values) → IsShort namespace → IsShort name → ValuesFit (entries vs) → len vs ≤ VALUE_LIMIT → IsScript (script_model namespace name vs) namespace name vs
script_back namespace name vs short shorter fit few = record {
  count = refl;
  namespace_is = refl;
  namespace_short = short;
  name_is = refl;
  name_short = shorter;
  values_are = (values_members (entries vs) no_members, refl, values_back vs fit few);
}

-- ---- the scripts of a namespace

pub same_key : (k : List ℕ) → eq_by_cmp text_cmp k k ≡ true
same_key k = (eq_by_cmp_equiv texts_total).refl k

get_same : {X : Type 0} (m : FinMap text_cmp X) (k : List ℕ) (v : X) → get (insert m k v) k ≡ Some v
get_same m k v = get-insert texts_total m k v k ∙ ap (λ (b : Bool). cond b (Some v) (get m k)) (same_key k)

pub get_other : {X : Type 0} (m : FinMap text_cmp X) (k : List ℕ) (v : X) (q : List ℕ) → eq_by_cmp text_cmp q k ≡ false → get (insert m k v) q ≡ get m q
get_other m k v q apart = get-insert texts_total m k v q ∙ ap (λ (b : Bool). cond b (Some v) (get m q)) apart

apart_later : (x y : List ℕ) → text_cmp x y ≡ Less → eq_by_cmp text_cmp y x ≡ false
apart_later x y h = ap is_eq (later x y h)

below_none : {X : Type 0} (k : List ℕ) (es : List (List ℕ × X)) → below_all text_cmp k es ≡ true → find text_cmp k es ≡ None
below_none k [] h = refl
below_none k (e ∷ es) h =
    let both = parts _ _ h in
    ap (λ (o : Ordering). cond (is_eq o) (Some e.1) (find text_cmp k es)) (is_less _ both.0) ∙ below_none k es both.1

names_with : (m : Maps) (namespace name : List ℕ) (vs : Values) → names_in (with_values m namespace name vs) namespace ≡ insert (names_in m namespace) name vs
names_with m namespace name vs = ap (λ (o : Option Names). unwrap_or o empty) (get_same m namespace (insert (names_in m namespace) name vs))

-- with the scripts that keep a value
abbrev pub added : List ℕ → List (List ℕ × Values) → Maps → Maps
added namespace [] old = old
added namespace (e ∷ es) old = if len e.1 == 0 then added namespace es old else added namespace es (with_values old namespace e.0 e.1)

-- none of them stands
abbrev pub AreFree : Maps → List ℕ → List (List ℕ × Values) → Type 0
AreFree old namespace [] = ⊤
AreFree old namespace (e ∷ es) = (contains_key (names_in old namespace) e.0 ≡ false) × AreFree old namespace es

free_next : (old : Maps) (namespace : List ℕ) (e : List ℕ × Values) (es : List (List ℕ × Values)) → below_all text_cmp e.0 es ≡ true → AreFree old namespace es → AreFree (with_values old namespace e.0 e.1) namespace es
free_next old namespace e [] below free = tt
free_next old namespace e (f ∷ fs) below free =
    let both = parts _ _ below in
    (ap (λ (ns : Names). contains_key ns f.0) (names_with old namespace e.0 e.1) ∙ ap is_some (get_other (names_in old namespace) e.0 e.1 f.0 (apart_later e.0 f.0 (is_less _ both.0))) ∙ free.0, free_next old namespace e fs both.1 free.1)

names_add : (namespace : List ℕ) (es : List (List ℕ × Values)) (old new : Maps) (rest : List Data) → IsShort namespace → is_sorted text_cmp es ≡ true → NamesFit es → AreFree old namespace es
    → AddsScripts (items_of rest) (added namespace es old) new → AddsScripts (items_of (names_model namespace es ++ rest)) old new
names_add namespace [] old new rest short sorted fit free p = p
names_add namespace (e ∷ es) old new rest short sorted fit free p =
    let both = parts _ _ sorted in
    elim (len e.1 == 0) as (λ b. AddsScripts (items_of rest) (cond b (added namespace es old) (added namespace es (with_values old namespace e.0 e.1))) new
    → AddsScripts (items_of (cond b (names_model namespace es) (script_model namespace e.0 e.1 ∷ names_model namespace es) ++ rest)) old new) [
      | true ↦ names_add namespace es old new rest short both.1 fit.3 free.1
      | false ↦ λ after. (
        with_values old namespace e.0 e.1,
        record { namespace = namespace; name = e.0; values = e.1; script = script_back namespace e.0 e.1 short fit.0 fit.1 fit.2; apart = free.0; new_is = refl },
        names_add namespace es (with_values old namespace e.0 e.1) new rest short both.1 fit.3 (free_next old namespace e es both.0 free.1) after,
      )
    ] p

get_added : (namespace : List ℕ) (es : List (List ℕ × Values)) (old : Maps) (q : List ℕ) → eq_by_cmp text_cmp q namespace ≡ false → get (added namespace es old) q ≡ get old q
get_added namespace [] old q apart = refl
get_added namespace (e ∷ es) old q apart =
    elim (len e.1 == 0) as (λ b. get (cond b (added namespace es old) (added namespace es (with_values old namespace e.0 e.1))) q ≡ get old q) [
      | true ↦ get_added namespace es old q apart
      | false ↦ get_added namespace es (with_values old namespace e.0 e.1) q apart ∙ get_other old namespace (insert (names_in old namespace) e.0 e.1) q apart
    ]

no_values_there : (old : Maps) (namespace name : List ℕ) → contains_key (names_in old namespace) name ≡ false → values_in old namespace name ≡ empty
no_values_there old namespace name =
    elim (get (names_in old namespace) name) as (λ o. is_some o ≡ false → unwrap_or o empty ≡ empty) [
      | Some v ↦ λ h. cc h
      | None ↦ λ h. refl
    ]

pub value_with : (old : Maps) (namespace name : List ℕ) (vs : Values) (q : List ℕ) → values_in (with_values old namespace name vs) namespace q ≡ cond (eq_by_cmp text_cmp q name) vs (values_in old namespace q)
value_with old namespace name vs q =
    ap (λ (ns : Names). unwrap_or (get ns q) empty) (names_with old namespace name vs)
    ∙ ap (λ (o : Option Values). unwrap_or o empty) (get-insert texts_total (names_in old namespace) name vs q)
    ∙ elim (eq_by_cmp text_cmp q name) as (λ b. unwrap_or (cond b (Some vs) (get (names_in old namespace) q)) empty ≡ cond b vs (unwrap_or (get (names_in old namespace) q) empty)) [ true ↦ refl | false ↦ refl ]

free_there : (old : Maps) (namespace q : List ℕ) (e : List ℕ × Values) → contains_key (names_in old namespace) e.0 ≡ false → eq_by_cmp text_cmp q e.0 ≡ true → values_in old namespace q ≡ empty
free_there old namespace q e free same =
    no_values_there old namespace q (subst (λ (k : List ℕ). contains_key (names_in old namespace) k ≡ false) (sym (tells_apart exact_texts q e.0 same)) free)

pub none_there : {X : Type 0} (q : List ℕ) (e : List ℕ × X) (es : List (List ℕ × X)) → below_all text_cmp e.0 es ≡ true → eq_by_cmp text_cmp q e.0 ≡ true → find text_cmp q es ≡ None
none_there q e es below same = subst (λ (k : List ℕ). find text_cmp k es ≡ None) (sym (tells_apart exact_texts q e.0 same)) (below_none e.0 es below)

-- what is kept for a script of the namespace then
value_added : (namespace : List ℕ) (es : List (List ℕ × Values)) (old : Maps) (q : List ℕ) → is_sorted text_cmp es ≡ true → AreFree old namespace es
    → values_in (added namespace es old) namespace q ≡ unwrap_or (find text_cmp q es) (values_in old namespace q)
value_added namespace [] old q sorted free = refl
value_added namespace (e ∷ es) old q sorted free =
    let both = parts _ _ sorted in
    elim (len e.1 == 0) as (λ b. len e.1 == 0 ≡ b → values_in (cond b (added namespace es old) (added namespace es (with_values old namespace e.0 e.1))) namespace q ≡ unwrap_or (cond (eq_by_cmp text_cmp q e.0) (Some e.1) (find text_cmp q es)) (values_in old namespace q)) [
      | true ↦ λ none.
          let nothing : len e.1 ≡ 0 = eqb-true (len e.1) 0 none in
          value_added namespace es old q both.1 free.1
          ∙ elim (eq_by_cmp text_cmp q e.0) as (λ b. eq_by_cmp text_cmp q e.0 ≡ b → unwrap_or (find text_cmp q es) (values_in old namespace q) ≡ unwrap_or (cond b (Some e.1) (find text_cmp q es)) (values_in old namespace q)) [
            | true ↦ λ same. ap (λ (o : Option Values). unwrap_or o (values_in old namespace q)) (none_there q e es both.0 same) ∙ free_there old namespace q e free.0 same ∙ sym (empty_of_len e.1 nothing)
            | false ↦ λ _. refl
          ] refl
      | false ↦ λ some.
          value_added namespace es (with_values old namespace e.0 e.1) q both.1 (free_next old namespace e es both.0 free.1)
          ∙ ap (unwrap_or (find text_cmp q es)) (value_with old namespace e.0 e.1 q)
          ∙ elim (eq_by_cmp text_cmp q e.0) as (λ b. eq_by_cmp text_cmp q e.0 ≡ b → unwrap_or (find text_cmp q es) (cond b e.1 (values_in old namespace q)) ≡ unwrap_or (cond b (Some e.1) (find text_cmp q es)) (values_in old namespace q)) [
            | true ↦ λ same. ap (λ (o : Option Values). unwrap_or o e.1) (none_there q e es both.0 same)
            | false ↦ λ _. refl
          ] refl
    ] refl

-- ---- all scripts

abbrev pub added_all : List (List ℕ × Names) → Maps → Maps
added_all [] old = old
added_all (e ∷ es) old = added_all es (added e.0 (entries e.1) old)

abbrev pub AreNew : Maps → List (List ℕ × Names) → Type 0
AreNew old [] = ⊤
AreNew old (e ∷ es) = (get old e.0 ≡ None) × AreNew old es

all_free : (old : Maps) (namespace : List ℕ) (es : List (List ℕ × Values)) → names_in old namespace ≡ empty → AreFree old namespace es
all_free old namespace [] none = tt
all_free old namespace (e ∷ es) none = (ap (λ (ns : Names). contains_key ns e.0) none ∙ ap is_some (get-empty text_cmp e.0), all_free old namespace es none)

new_next : (old : Maps) (e : List ℕ × Names) (es : List (List ℕ × Names)) → below_all text_cmp e.0 es ≡ true → AreNew old es → AreNew (added e.0 (entries e.1) old) es
new_next old e [] below new = tt
new_next old e (f ∷ fs) below new =
    let both = parts _ _ below in
    (get_added e.0 (entries e.1) old f.0 (apart_later e.0 f.0 (is_less _ both.0)) ∙ new.0, new_next old e fs both.1 new.1)

scripts_add : (es : List (List ℕ × Names)) (old : Maps) → is_sorted text_cmp es ≡ true → MapsFit es → AreNew old es → AddsScripts (items_of (scripts_model es)) old (added_all es old)
scripts_add [] old sorted fit new = refl
scripts_add (e ∷ es) old sorted fit new =
    let both = parts _ _ sorted in
    names_add e.0 (entries e.1) old (added_all (e ∷ es) old) (scripts_model es) fit.0 (holds _ (entries_sorted e.1)) fit.1 (all_free old e.0 (entries e.1) (no_names old e.0 new.0))
    (scripts_add es (added e.0 (entries e.1) old) both.1 fit.2 (new_next old e es both.0 new.1))

value_all : (es : List (List ℕ × Names)) (old : Maps) (namespace q : List ℕ) → is_sorted text_cmp es ≡ true → AreNew old es
    → values_in (added_all es old) namespace q ≡ unwrap_or (option_map (λ (ns : Names). unwrap_or (get ns q) empty) (find text_cmp namespace es)) (values_in old namespace q)
value_all [] old namespace q sorted new = refl
value_all (e ∷ es) old namespace q sorted new =
    let both = parts _ _ sorted in
    let mid = added e.0 (entries e.1) old in
    let f : Names → Values = λ (ns : Names). unwrap_or (get ns q) empty in
    value_all es mid namespace q both.1 (new_next old e es both.0 new.1)
    ∙ elim (eq_by_cmp text_cmp namespace e.0) as (λ b. eq_by_cmp text_cmp namespace e.0 ≡ b → unwrap_or (option_map f (find text_cmp namespace es)) (values_in mid namespace q) ≡ unwrap_or (option_map f (cond b (Some e.1) (find text_cmp namespace es))) (values_in old namespace q)) [
      | true ↦ λ same.
          let none = no_names old e.0 new.0 in
          ap (λ (o : Option Names). unwrap_or (option_map f o) (values_in mid namespace q)) (none_there namespace e es both.0 same)
          ∙ ap (λ (k : List ℕ). values_in mid k q) (tells_apart exact_texts namespace e.0 same)
          ∙ value_added e.0 (entries e.1) old q (holds _ (entries_sorted e.1)) (all_free old e.0 (entries e.1) none)
          ∙ ap (unwrap_or (find text_cmp q (entries e.1))) (ap f none ∙ ap (λ (o : Option Values). unwrap_or o empty) (get-empty text_cmp q))
          ∙ ap (λ (o : Option Values). unwrap_or o empty) (sym (get-entries e.1 q))
      | false ↦ λ apart.
          ap (λ (o : Option Names). unwrap_or (option_map f (find text_cmp namespace es)) (f (unwrap_or o empty))) (get_added e.0 (entries e.1) old namespace apart)
    ] refl

all_new : (es : List (List ℕ × Names)) → AreNew empty es
all_new [] = tt
all_new (e ∷ es) = (get-empty text_cmp e.0, all_new es)

-- the JSON value of the text of fit maps stands for maps with the same values
pub round_trip : (m : Maps) → MapsFit (entries m) → (n : Maps) × IsStored (stored_model m) n × ((namespace name : List ℕ) → values_in n namespace name ≡ values_in m namespace name)
round_trip m fit =
    let sorted = holds _ (entries_sorted m) in
    let n = added_all (entries m) empty in (
      n,
      record { count = refl; form = refl; stores = items_of (scripts_model (entries m)); stores_is = refl; scripts = scripts_add (entries m) empty sorted fit (all_new (entries m)) },
      λ namespace name.
          value_all (entries m) empty namespace name sorted (all_new (entries m))
          ∙ ap (λ (o : Option Names). unwrap_or (option_map (λ (ns : Names). unwrap_or (get ns name) empty) o) (values_in empty namespace name)) (sym (get-entries m namespace))
          ∙ elim (get m namespace) as (λ o. unwrap_or (option_map (λ (ns : Names). unwrap_or (get ns name) empty) o) (values_in empty namespace name) ≡ unwrap_or (get (unwrap_or o empty) name) empty) [
            | Some names ↦ refl
            | None ↦ ap (λ (o : Option Names). unwrap_or (get (unwrap_or o empty) name) empty) (get-empty text_cmp namespace)
          ],
    )
