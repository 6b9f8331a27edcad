-- Maps that keep the same are written as one text.
use Rattle.std.specs.Prelude.{◌≡◌, ◌==◌, ◌&&◌, ◌++◌, ℕ, List, [], ◌∷◌, map, Option, Some, None, Bool, true, false, cond, unwrap_or, option_and_then, refl, codes}
use Rattle.std.specs.List.{flat_map, filter}
use Rattle.std.specs.Ordering.{eq_by_cmp, is_lt}
use Rattle.std.specs.FinMap.{empty, get, entries, len, is_sorted, entries_sorted, find, from_entries, get-from_entries, get-entries, same_map, len-empty, len-entries}
use Rattle.std.specs.FinMap.Entries.{below_all}
use Rattle.std.proofs.Common.{ap, sym, ◌∙◌}
use Rattle.std.proofs.lemmas.List.Elements.{filter-append}
use Rattle.base_text.specs.Scalars.{text_cmp}
use Rattle.serde_json.specs.Data.{number, array, object, unsigned, no_members, member}
use Rattle.serde_json.specs.View.{items_of}
use Rattle.serde_json.specs.Written.{compact_text}
use Rattle.dom_semantics.specs.declared.kept.Kept.{Kept}
use Rattle.gm_store.specs.Maps.{Values, Names, Maps, names_in, values_in, KeepTheSame}
use Rattle.gm_store.specs.Written.{Script, scripts_of, keeps_some, script_data, stored_data, stored_text}
use Rattle.gm_store.proofs.OneText.{keys_rise, scripts_in, all_scripts}
use Rattle.gm_store.proofs.RoundTrip.{parts, holds, none_there}
use Rattle.gm_store.proofs.TextMaps.{texts_total, exact_texts, entries_made, no_entries}

-- ---- entries in order

-- lists in order that have the same at each key are one
same_entries : {X : Type 0} (es fs : List (List ℕ × X)) → is_sorted text_cmp es ≡ true → is_sorted text_cmp fs ≡ true → ((q : List ℕ) → find text_cmp q es ≡ find text_cmp q fs) → es ≡ fs
same_entries es fs s t h =
    sym (entries_made es (keys_rise es s))
    ∙ ap entries (same_map texts_total exact_texts (from_entries {R = text_cmp} es) (from_entries fs) (λ q. get-from_entries texts_total es q ∙ h q ∙ sym (get-from_entries texts_total fs q)))
    ∙ entries_made fs (keys_rise fs t)

abbrev pub add : {Y : Type 0} → List ℕ → Option Y → List (List ℕ × Y) → List (List ℕ × Y)
add k None es = es
add k (Some y) es = (k, y) ∷ es

-- what f gives of the values, without the entries where it gives nothing
abbrev pub pick : {X Y : Type 0} → (X → Option Y) → List (List ℕ × X) → List (List ℕ × Y)
pick f [] = []
pick f (e ∷ es) = add e.0 (f e.1) (pick f es)

together : (a b : Bool) → a ≡ true → b ≡ true → a && b ≡ true
together true b p q = q
together false b p q = p

pick_below : {X Y : Type 0} (f : X → Option Y) (k : List ℕ) (es : List (List ℕ × X)) → below_all text_cmp k es ≡ true → below_all text_cmp k (pick f es) ≡ true
pick_below f k [] h = refl
pick_below f k (e ∷ es) h =
    let both = parts _ _ h in
    elim (f e.1) as (λ o. below_all text_cmp k (add e.0 o (pick f es)) ≡ true) [
      | Some y ↦ together _ _ both.0 (pick_below f k es both.1)
      | None ↦ pick_below f k es both.1
    ]

pick_sorted : {X Y : Type 0} (f : X → Option Y) (es : List (List ℕ × X)) → is_sorted text_cmp es ≡ true → is_sorted text_cmp (pick f es) ≡ true
pick_sorted f [] h = refl
pick_sorted f (e ∷ es) h =
    let both = parts _ _ h in
    elim (f e.1) as (λ o. is_sorted text_cmp (add e.0 o (pick f es)) ≡ true) [
      | Some y ↦ together _ _ (pick_below f e.0 es both.0) (pick_sorted f es both.1)
      | None ↦ pick_sorted f es both.1
    ]

find_pick : {X Y : Type 0} (f : X → Option Y) (q : List ℕ) (es : List (List ℕ × X)) → is_sorted text_cmp es ≡ true → find text_cmp q (pick f es) ≡ option_and_then f (find text_cmp q es)
find_pick f q [] h = refl
find_pick {X = X} {Y = Y} f q (e ∷ es) h =
    let both = parts _ _ h in
    let rest = find_pick f q es both.1 in
    elim (f e.1) as (λ o. f e.1 ≡ o → find text_cmp q (add e.0 o (pick f es)) ≡ option_and_then f (cond (eq_by_cmp text_cmp q e.0) (Some e.1) (find text_cmp q es))) [
      | Some y ↦ λ is. elim (eq_by_cmp text_cmp q e.0) as (λ b. cond b (Some y) (find text_cmp q (pick f es)) ≡ option_and_then f (cond b (Some e.1) (find text_cmp q es))) [
        | true ↦ sym is
        | false ↦ rest
      ]
      | None ↦ λ is. elim (eq_by_cmp text_cmp q e.0) as (λ b. eq_by_cmp text_cmp q e.0 ≡ b → find text_cmp q (pick f es) ≡ option_and_then f (cond b (Some e.1) (find text_cmp q es))) [
        | true ↦ λ same. rest ∙ ap (option_and_then f) (none_there q e es both.0 same) ∙ sym is
        | false ↦ λ _. rest
      ] refl
    ] refl

-- ---- the scripts of a namespace that keep a value

abbrev pub some_values : Values → Option Values
some_values vs = cond (len vs == 0) None (Some vs)

abbrev pub kept_in : Names → List (List ℕ × Values)
kept_in ns = pick some_values (entries ns)

values_or_none : (o : Option Values) → option_and_then some_values o ≡ some_values (unwrap_or o empty)
values_or_none None = sym (ap (λ (n : ℕ). cond (n == 0) None (Some (empty {X = Kept} {R = text_cmp}))) (len-empty text_cmp Kept))
values_or_none (Some vs) = refl

kept_at : (ns : Names) (q : List ℕ) → find text_cmp q (kept_in ns) ≡ some_values (unwrap_or (get ns q) empty)
kept_at ns q =
    find_pick some_values q (entries ns) (holds _ (entries_sorted ns))
    ∙ ap (option_and_then some_values) (sym (get-entries ns q))
    ∙ values_or_none (get ns q)

same_kept_in : (a b : Names) → ((q : List ℕ) → unwrap_or (get a q) empty ≡ unwrap_or (get b q) empty) → kept_in a ≡ kept_in b
same_kept_in a b h =
    same_entries (kept_in a) (kept_in b) (pick_sorted some_values (entries a) (holds _ (entries_sorted a))) (pick_sorted some_values (entries b) (holds _ (entries_sorted b)))
    (λ q. kept_at a q ∙ ap some_values (h q) ∙ sym (kept_at b q))

-- ---- all of them

abbrev pub some_of : {A : Type 0} → List A → Option (List A)
some_of [] = None
some_of (x ∷ xs) = Some (x ∷ xs)

abbrev pub some_scripts : Names → Option (List (List ℕ × Values))
some_scripts ns = some_of (kept_in ns)

no_scripts : some_scripts empty ≡ None
no_scripts = ap (λ (es : List (List ℕ × Values)). some_of (pick some_values es)) (no_entries (entries (empty {X = Values} {R = text_cmp})) (sym (len-entries empty) ∙ len-empty text_cmp Values))

scripts_or_none : (o : Option Names) → option_and_then some_scripts o ≡ some_scripts (unwrap_or o empty)
scripts_or_none None = sym no_scripts
scripts_or_none (Some ns) = refl

abbrev pub kept_all : Maps → List (List ℕ × List (List ℕ × Values))
kept_all m = pick some_scripts (entries m)

all_at : (m : Maps) (q : List ℕ) → find text_cmp q (kept_all m) ≡ some_scripts (names_in m q)
all_at m q =
    find_pick some_scripts q (entries m) (holds _ (entries_sorted m))
    ∙ ap (option_and_then some_scripts) (sym (get-entries m q))
    ∙ scripts_or_none (get m q)

same_kept_all : (m n : Maps) → KeepTheSame m n → kept_all m ≡ kept_all n
same_kept_all m n h =
    same_entries (kept_all m) (kept_all n) (pick_sorted some_scripts (entries m) (holds _ (entries_sorted m))) (pick_sorted some_scripts (entries n) (holds _ (entries_sorted n)))
    (λ q. all_at m q ∙ ap some_of (same_kept_in (names_in m q) (names_in n q) (h q)) ∙ sym (all_at n q))

-- ---- the written scripts are those

keeping : (k : List ℕ) (es : List (List ℕ × Values)) → filter keeps_some (scripts_in k es) ≡ scripts_in k (pick some_values es)
keeping k [] = refl
keeping k (e ∷ es) =
    elim (len e.1 == 0) as (λ b. cond (cond b false true) ((k, e.0, e.1) ∷ filter keeps_some (scripts_in k es)) (filter keeps_some (scripts_in k es)) ≡ scripts_in k (add e.0 (cond b None (Some e.1)) (pick some_values es))) [
      | true ↦ keeping k es
      | false ↦ ap (λ (ss : List Script). (k, e.0, e.1) ∷ ss) (keeping k es)
    ]

abbrev pub tagged : List (List ℕ × List (List ℕ × Values)) → List Script
tagged es = flat_map (λ (e : List ℕ × List (List ℕ × Values)). scripts_in e.0 e.1) es

tag_some : (k : List ℕ) (fs : List (List ℕ × Values)) (es : List (List ℕ × List (List ℕ × Values))) → scripts_in k fs ++ tagged es ≡ tagged (add k (some_of fs) es)
tag_some k [] es = refl
tag_some k (f ∷ fs) es = refl

keeping_all : (es : List (List ℕ × Names)) → filter keeps_some (all_scripts es) ≡ tagged (pick some_scripts es)
keeping_all [] = refl
keeping_all (e ∷ es) =
    filter-append keeps_some (scripts_in e.0 (entries e.1)) (all_scripts es)
    ∙ (λ i. keeping e.0 (entries e.1) i ++ keeping_all es i)
    ∙ tag_some e.0 (kept_in e.1) (pick some_scripts es)

pub one_text : (m n : Maps) → KeepTheSame m n → stored_text m ≡ stored_text n
one_text m n h =
    ap (λ (ss : List Script). compact_text (object (member (codes "form") (number (unsigned 1)) (member (codes "stores") (array (items_of (map script_data ss))) no_members))))
    (keeping_all (entries m) ∙ ap tagged (same_kept_all m n h) ∙ sym (keeping_all (entries n)))
