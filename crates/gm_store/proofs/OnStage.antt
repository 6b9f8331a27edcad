-- The stage's lists of values and the maps are read and changed alike.
use Rattle.std.specs.Prelude.{◌≡◌, ◌≤◌, ◌<◌, ◌↔◌, ◌&&◌, ◌||◌, ℕ, List, [], ◌∷◌, length, filter, not, bytes_eq, nat_lt, Bool, true, false, cond, is_some, unwrap_or, Option, Some, None, refl}
use Rattle.std.specs.Ordering.{eq_by_cmp, is_lt, is_eq}
use Rattle.std.specs.declared.cmp.Ordering.{Ordering}
use Rattle.std.specs.declared.cmp.Ordering.TheVariants.{Less, Equal, Greater}
use Rattle.std.specs.Cmp.{eq_by_cmp_equiv}
use Rattle.std.specs.FinMap.{empty, get, insert, remove, entries, len, find, put, keys, entries_sorted, get-entries, get-empty, get-remove, entries-insert, len-entries, len-empty}
use Rattle.std.specs.FinMap.Entries.{by_order, same_entries, is_sorted-where_key, find-where_key}
use Rattle.std.proofs.Common.{ap, sym, ◌∙◌, subst, arith, true≢false}
use Rattle.std.proofs.lemmas.Bool.{ltb-true, ltb-false}
use Rattle.std.proofs.lemmas.Map.Views.{tells_apart}
use Rattle.std.proofs.lemmas.Slice.Eq.{bytes_eq-Decides}
use Rattle.base_text.specs.Scalars.{text_cmp, text_ties}
use Rattle.door.specs.declared.requests.ErrorKind.{ErrorKind}
use Rattle.door.specs.declared.requests.ErrorKind.TheVariants.{Limit}
use Rattle.dom_semantics.specs.declared.kept.Kept.{Kept}
use Rattle.dom_semantics.specs.declared.kept.Owner.{Owner}
use Rattle.dom_semantics.specs.declared.kept.TheConstants.{VALUE_LIMIT}
use Rattle.dom_semantics.specs.Stores as stage
use Rattle.gm_store.specs.Maps.{Values, Names, Maps, names_in, values_in, value_at, with_values, with_value, without_value}
use Rattle.gm_store.specs.OnStage.{KeepsOnStage, kept_for, deleted}
use Rattle.gm_store.proofs.MapLemmas.{no_values_1}
use Rattle.gm_store.proofs.RoundTrip.{parts, same_key, get_other, value_with}
use Rattle.gm_store.proofs.TextMaps.{texts_total, exact_texts, no_entries}

abbrev Listed : Type 0
Listed = List (List ℕ × Kept)

-- ---- the values of one script

-- the stage looks for equal texts, a map for keys that tie
same_test : (e q : List ℕ) → bytes_eq e q ≡ eq_by_cmp text_cmp q e
same_test e q = text_ties e q ∙ (eq_by_cmp_equiv texts_total).symm e q

found : (key : List ℕ) (es : Listed) → stage.value_in key es ≡ find text_cmp key es
found key [] = refl
found key (e ∷ es) = ap (λ (b : Bool). cond b (Some e.1) (stage.value_in key es)) (same_test e.0 key) ∙ ap (cond (eq_by_cmp text_cmp key e.0) (Some e.1)) (found key es)

placed_in : (key : List ℕ) (v : Kept) (es : Listed) → stage.with_value key v es ≡ put text_cmp key v es
placed_in key v [] = refl
placed_in key v (e ∷ es) =
    ap (λ (b : Bool). cond b ((e.0, v) ∷ es) (cond (is_lt (text_cmp key e.0)) ((key, v) ∷ e ∷ es) (e ∷ stage.with_value key v es))) (same_test e.0 key)
    ∙ elim (text_cmp key e.0) as (λ (o : Ordering). cond (is_eq o) ((e.0, v) ∷ es) (cond (is_lt o) ((key, v) ∷ e ∷ es) (e ∷ stage.with_value key v es)) ≡ by_order o ((key, v) ∷ e ∷ es) ((e.0, v) ∷ es) (e ∷ put text_cmp key v es)) [
      | Less ↦ refl
      | Equal ↦ refl
      | Greater ↦ ap (λ (xs : Listed). e ∷ xs) (placed_in key v es)
    ]

abbrev others : List ℕ → Listed → Listed
others key es = filter (λ (e : List ℕ × Kept). not (eq_by_cmp text_cmp key e.0)) es

left_in : (key : List ℕ) (es : Listed) → stage.without_value key es ≡ others key es
left_in key [] = refl
left_in key (e ∷ es) =
    ap (λ (b : Bool). cond (not b) (e ∷ stage.without_value key es) (stage.without_value key es)) (same_test e.0 key)
    ∙ ap (λ (xs : Listed). cond (not (eq_by_cmp text_cmp key e.0)) (e ∷ xs) xs) (left_in key es)

turned : (b : Bool) (o : Option Kept) → cond b None o ≡ cond (not b) o None
turned true o = refl
turned false o = refl

removed : (m : Values) (key : List ℕ) → entries (remove m key) ≡ others key (entries m)
removed m key =
    let stays : List ℕ → Bool = λ (k : List ℕ). not (eq_by_cmp text_cmp key k) in
    same_entries text_cmp texts_total exact_texts (entries (remove m key)) (others key (entries m)) (entries_sorted (remove m key)) (is_sorted-where_key text_cmp stays (entries m) (entries_sorted m))
    (λ q. sym (get-entries (remove m key) q) ∙ get-remove texts_total m key q ∙ ap (cond (eq_by_cmp text_cmp q key) None) (get-entries m q)
    ∙ ap (λ (b : Bool). cond b None (find text_cmp q (entries m))) ((eq_by_cmp_equiv texts_total).symm q key)
    ∙ turned (eq_by_cmp text_cmp key q) (find text_cmp q (entries m)) ∙ sym (find-where_key text_cmp stays q (λ x same. ap stays (sym (exact_texts q x same))) (entries m)))

-- ---- the limit

refuses : (o : Option Kept) (n : ℕ) → (cond (is_some o || nat_lt n VALUE_LIMIT) None (Some Limit) ≡ Some Limit) ↔ ((o ≡ None) × (VALUE_LIMIT ≤ n))
refuses (Some w) n = (λ h. absurd (true≢false (ap is_some (sym h))), λ h. absurd (true≢false (ap is_some h.0)))
refuses None n =
    elim (nat_lt n VALUE_LIMIT) as (λ b. nat_lt n VALUE_LIMIT ≡ b → (cond b None (Some Limit) ≡ Some Limit) ↔ ((◌≡◌ {A = Option Kept} None None) × (VALUE_LIMIT ≤ n))) [
      | true ↦ λ below. let less : n < VALUE_LIMIT = ltb-true n VALUE_LIMIT below in (λ h. absurd (true≢false (ap is_some (sym h))), λ h. let more = h.1 in absurd (omega (arith, less, more)))
      | false ↦ λ above. (λ h. (refl, ltb-false n VALUE_LIMIT above), λ h. refl)
    ] refl

-- ---- the stage's list of stores

same_text : (t : List ℕ) → bytes_eq t t ≡ true
same_text t = (bytes_eq-Decides t t).1 refl

together : (a b : Bool) → a ≡ true → b ≡ true → a && b ≡ true
together true b p q = q
together false b p q = p

own : (owner : Owner) → stage.is_owner owner owner ≡ true
own owner = together (bytes_eq owner.namespace owner.namespace) (bytes_eq owner.name owner.name) (same_text owner.namespace) (same_text owner.name)

one_owner : (a b : Owner) → stage.is_owner a b ≡ true → a ≡ b
one_owner a b e =
    let both = parts (bytes_eq a.namespace b.namespace) (bytes_eq a.name b.name) e in
    let namespaces : a.namespace ≡ b.namespace = (bytes_eq-Decides a.namespace b.namespace).0 both.0 in
    let names : a.name ≡ b.name = (bytes_eq-Decides a.name b.name).0 both.1 in
    λ i. record { namespace = namespaces i; name = names i }

values_there : (stores : stage.Stores) (owner : Owner) (vs : Listed) → stage.values_of (stage.with_values stores owner vs) owner ≡ vs
values_there [] owner vs = ap (λ (b : Bool). cond b vs []) (own owner)
values_there (s ∷ ss) owner vs =
    elim (stage.is_owner s.0 owner) as (λ b. stage.is_owner s.0 owner ≡ b → stage.values_of (cond b ((s.0, vs) ∷ ss) (cond (stage.is_before owner s.0) ((owner, vs) ∷ s ∷ ss) (s ∷ stage.with_values ss owner vs))) owner ≡ vs) [
      | true ↦ λ same. ap (λ (b : Bool). cond b vs (stage.values_of ss owner)) same
      | false ↦ λ apart. elim (stage.is_before owner s.0) as (λ b. stage.values_of (cond b ((owner, vs) ∷ s ∷ ss) (s ∷ stage.with_values ss owner vs)) owner ≡ vs) [
        | true ↦ ap (λ (b : Bool). cond b vs (stage.values_of (s ∷ ss) owner)) (own owner)
        | false ↦ ap (λ (b : Bool). cond b s.1 (stage.values_of (stage.with_values ss owner vs) owner)) apart ∙ values_there ss owner vs
      ]
    ] refl

values_beside : (stores : stage.Stores) (owner other : Owner) (vs : Listed) → stage.is_owner owner other ≡ false → stage.values_of (stage.with_values stores owner vs) other ≡ stage.values_of stores other
values_beside [] owner other vs apart = ap (λ (b : Bool). cond b vs []) apart
values_beside (s ∷ ss) owner other vs apart =
    elim (stage.is_owner s.0 owner) as (λ b. stage.is_owner s.0 owner ≡ b → stage.values_of (cond b ((s.0, vs) ∷ ss) (cond (stage.is_before owner s.0) ((owner, vs) ∷ s ∷ ss) (s ∷ stage.with_values ss owner vs))) other ≡ stage.values_of (s ∷ ss) other) [
      | true ↦ λ same.
          let not_it : stage.is_owner s.0 other ≡ false = ap (λ (o : Owner). stage.is_owner o other) (one_owner s.0 owner same) ∙ apart in
          ap (λ (b : Bool). cond b vs (stage.values_of ss other)) not_it ∙ sym (ap (λ (b : Bool). cond b s.1 (stage.values_of ss other)) not_it)
      | false ↦ λ _. elim (stage.is_before owner s.0) as (λ b. stage.values_of (cond b ((owner, vs) ∷ s ∷ ss) (s ∷ stage.with_values ss owner vs)) other ≡ stage.values_of (s ∷ ss) other) [
        | true ↦ ap (λ (b : Bool). cond b vs (stage.values_of (s ∷ ss) other)) apart
        | false ↦ ap (cond (stage.is_owner s.0 other) s.1) (values_beside ss owner other vs apart)
      ]
    ] refl

-- ---- the maps

map_there : (m : Maps) (namespace name : List ℕ) (vs : Values) → values_in (with_values m namespace name vs) namespace name ≡ vs
map_there m namespace name vs = value_with m namespace name vs name ∙ ap (λ (b : Bool). cond b vs (values_in m namespace name)) (same_key name)

map_beside : (m : Maps) (namespace name : List ℕ) (vs : Values) (space script : List ℕ) → (eq_by_cmp text_cmp space namespace && eq_by_cmp text_cmp script name) ≡ false → values_in (with_values m namespace name vs) space script ≡ values_in m space script
map_beside m namespace name vs space script apart =
    elim (eq_by_cmp text_cmp space namespace) as (λ b. eq_by_cmp text_cmp space namespace ≡ b → (b && eq_by_cmp text_cmp script name) ≡ false → values_in (with_values m namespace name vs) space script ≡ values_in m space script) [
      | true ↦ λ same other. subst (λ (q : List ℕ). values_in (with_values m namespace name vs) q script ≡ values_in m q script) (sym (tells_apart exact_texts space namespace same))
          (value_with m namespace name vs script ∙ ap (λ (b : Bool). cond b vs (values_in m namespace script)) other)
      | false ↦ λ other _. ap (λ (o : Option Names). unwrap_or (get (unwrap_or o empty) script) empty) (get_other m namespace (insert (names_in m namespace) name vs) space other)
    ] refl apart

-- ---- both

-- other values for one script on both sides
both_with : (m : Maps) (stores : stage.Stores) (owner : Owner) (vs : Values) (es : Listed) → KeepsOnStage m stores → es ≡ entries vs
    → KeepsOnStage (with_values m owner.namespace owner.name vs) (stage.with_values stores owner es)
both_with m stores owner vs es keeps is = λ other.
    elim (stage.is_owner owner other) as (λ b. stage.is_owner owner other ≡ b
    → stage.values_of (stage.with_values stores owner es) other ≡ entries (kept_for (with_values m owner.namespace owner.name vs) other)) [
      | true ↦ λ same. subst (λ (o : Owner). stage.values_of (stage.with_values stores owner es) o ≡ entries (kept_for (with_values m owner.namespace owner.name vs) o)) (one_owner owner other same)
          (values_there stores owner es ∙ is ∙ sym (ap entries (map_there m owner.namespace owner.name vs)))
      | false ↦ λ apart.
          let tests : stage.is_owner owner other ≡ (eq_by_cmp text_cmp other.namespace owner.namespace && eq_by_cmp text_cmp other.name owner.name) =
          λ i. same_test owner.namespace other.namespace i && same_test owner.name other.name i in
          values_beside stores owner other es apart ∙ keeps other ∙ sym (ap entries (map_beside m owner.namespace owner.name vs other.namespace other.name (sym tests ∙ apart)))
    ] refl

pub nothing_kept : KeepsOnStage empty []
nothing_kept = λ owner. sym (ap entries (no_values_1 empty owner.namespace owner.name (get-empty text_cmp owner.namespace)) ∙ no_entries (entries (empty {X = Kept} {R = text_cmp})) (sym (len-entries empty) ∙ len-empty text_cmp Kept))

pub got : (m : Maps) (stores : stage.Stores) (owner : Owner) (key : List ℕ) → KeepsOnStage m stores → stage.value_in key (stage.values_of stores owner) ≡ value_at m owner.namespace owner.name key
got m stores owner key keeps = ap (stage.value_in key) (keeps owner) ∙ found key (entries (kept_for m owner)) ∙ sym (get-entries (kept_for m owner) key)

pub named : (m : Maps) (stores : stage.Stores) (owner : Owner) → KeepsOnStage m stores → stage.keys_in (stage.values_of stores owner) ≡ keys (kept_for m owner)
named m stores owner keeps = ap stage.keys_in (keeps owner)

pub refused : (m : Maps) (stores : stage.Stores) (owner : Owner) (key : List ℕ) → KeepsOnStage m stores
    → (stage.value_refusal (stage.values_of stores owner) key ≡ Some Limit) ↔ ((value_at m owner.namespace owner.name key ≡ None) × (VALUE_LIMIT ≤ len (kept_for m owner)))
refused m stores owner key keeps =
    let count : length (stage.values_of stores owner) ≡ len (kept_for m owner) = ap length (keeps owner) ∙ sym (len-entries (kept_for m owner)) in
    subst (λ (o : Option Kept). (cond (is_some o || nat_lt (length (stage.values_of stores owner)) VALUE_LIMIT) None (Some Limit) ≡ Some Limit) ↔ ((value_at m owner.namespace owner.name key ≡ None) × (VALUE_LIMIT ≤ len (kept_for m owner))))
    (sym (got m stores owner key keeps))
    (subst (λ (n : ℕ). (cond (is_some (value_at m owner.namespace owner.name key) || nat_lt n VALUE_LIMIT) None (Some Limit) ≡ Some Limit) ↔ ((value_at m owner.namespace owner.name key ≡ None) × (VALUE_LIMIT ≤ len (kept_for m owner))))
    (sym count) (refuses (value_at m owner.namespace owner.name key) (len (kept_for m owner))))

pub set_alike : (m : Maps) (stores : stage.Stores) (owner : Owner) (key : List ℕ) (v : Kept) → KeepsOnStage m stores
    → KeepsOnStage (with_value m owner.namespace owner.name key v) (stage.with_values stores owner (stage.with_value key v (stage.values_of stores owner)))
set_alike m stores owner key v keeps =
    both_with m stores owner (insert (kept_for m owner) key v) (stage.with_value key v (stage.values_of stores owner)) keeps
    (ap (stage.with_value key v) (keeps owner) ∙ placed_in key v (entries (kept_for m owner)) ∙ sym (entries-insert texts_total (kept_for m owner) key v))

pub deleted_alike : (m : Maps) (stores : stage.Stores) (owner : Owner) (key : List ℕ) → KeepsOnStage m stores → KeepsOnStage (without_value m owner.namespace owner.name key) (deleted stores owner key)
deleted_alike m stores owner key keeps =
    let left = both_with m stores owner (remove (kept_for m owner) key) (stage.without_value key (stage.values_of stores owner)) keeps
    (ap (stage.without_value key) (keeps owner) ∙ left_in key (entries (kept_for m owner)) ∙ sym (removed (kept_for m owner) key)) in
    subst (λ (o : Option Kept). KeepsOnStage (without_value m owner.namespace owner.name key) (cond (is_some o) (stage.with_values stores owner (stage.without_value key (stage.values_of stores owner))) stores))
    (sym (got m stores owner key keeps))
    (elim (is_some (value_at m owner.namespace owner.name key)) as (λ b. KeepsOnStage (cond b (with_values m owner.namespace owner.name (remove (kept_for m owner) key)) m) (cond b (stage.with_values stores owner (stage.without_value key (stage.values_of stores owner))) stores)) [
      | true ↦ left
      | false ↦ keeps
    ])
