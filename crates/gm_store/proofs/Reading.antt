-- What the stored form says of each part, and that it is one thing.
use Rattle.std.specs.Prelude.{◌≡◌, ◌≤◌, ◌<◌, ℕ, List, Option, Some, None, true, false, is_some, length, drop, encode_utf8_all, codes}
use Rattle.std.specs.FinMap.{empty, get, insert, contains_key, get-empty}
use Rattle.std.proofs.Common.{ap, sym, ◌∙◌, subst, true≢false, String, Global, ◌+◌, get_or}
use Rattle.std.proofs.lemmas.List.{at_drop_more, at_drop_all}
use Rattle.std.specs.Prelude.{option_and_then, Result, Ok, Err, IsErrOf, IsErrAnd}
use Rattle.std.proofs.lemmas.Str.{encodes_same}
use Rattle.base_text.specs.Scalars.{text_cmp}
use Rattle.serde_json.specs.Data.{unsigned, negative, float, Data, null, boolean, number, string, array, object, Items, no_items, item, Members, no_members, member}
use Rattle.serde_json.specs.Find.{get as find_in, as_object, as_array, as_number, as_u64}
use Rattle.serde_json.specs.Events.{members_len}
use Rattle.serde_json.specs.View.{view, items_view, members_view}
use Rattle.serde_json.specs.declared.value.Value.{Value}
use Rattle.serde_json.proofs.Views.{members_len-members_view}
use Rattle.dom_semantics.specs.declared.kept.Kept.{Kept}
use Rattle.dom_semantics.specs.declared.kept.Kept.TheVariants.{Str, Bool as Truth, Number}
use Rattle.gm_store.specs.Maps.{Values, Names, Maps, names_in, with_values}
use Rattle.gm_store.specs.Limits.{IsShort}
use Rattle.gm_store.specs.Stored.{IsKept, PutsMembers, HasValues, member_count, AddsScript, AddsScripts}
use Rattle.gm_store.proofs.MapLemmas.{no_names}

pub same_kept : (d : Data) (v w : Kept) → IsKept d v → IsKept d w → v ≡ w
same_kept d (Str t) (Str u) p q = let e : encode_utf8_all t ≡ encode_utf8_all u = cc (p.0, q.0) in ap Str (encodes_same t u e)
same_kept d (Str t) (Truth b) p q = cc (p.0, q)
same_kept d (Str t) (Number z) p q = cc (p.0, q.1)
same_kept d (Truth b) (Str u) p q = cc (p, q.0)
same_kept d (Truth b) (Truth c) p q = cc (p, q)
same_kept d (Truth b) (Number z) p q = cc (p, q.1)
same_kept d (Number y) (Str u) p q = cc (p.1, q.0)
same_kept d (Number y) (Truth b) p q = cc (p.1, q)
same_kept d (Number y) (Number z) p q = cc (p.1, p.2, q.1, q.2)

pub puts_more : (k : List ℕ) (d : Data) (ms : Members) (old new : Values) (key : List ℕ) (v : Kept) → k ≡ encode_utf8_all key → IsShort key → IsKept d v → PutsMembers ms (insert old key v) new → PutsMembers (member k d ms) old new
puts_more k d ms old new key v same short kept rest = (key, v, same, short, kept, rest)

pub puts_rest : (k : List ℕ) (d : Data) (ms : Members) (old new : Values) (key : List ℕ) (v : Kept) → k ≡ encode_utf8_all key → IsKept d v → PutsMembers (member k d ms) old new → PutsMembers ms (insert old key v) new
puts_rest k d ms old new key v same kept h =
    let same_key : h.0 ≡ key = encodes_same h.0 key (sym h.2 ∙ same) in
    let same_value : h.1 ≡ v = same_kept d h.1 v h.4 kept in
    subst (λ (w : Kept). PutsMembers ms (insert old key w) new) same_value (subst (λ (q : List ℕ). PutsMembers ms (insert old q h.1) new) same_key h.5)

pub puts_same : (ms : Members) (old a b : Values) → PutsMembers ms old a → PutsMembers ms old b → a ≡ b
puts_same no_members old a b p q = p ∙ sym q
puts_same (member k d ms) old a b p q = puts_same ms (insert old p.0 p.1) a b p.5 (puts_rest k d ms old b p.0 p.1 p.2 p.4 q)

pub new_script : (m : Maps) (namespace name : List ℕ) (values : Values) → get m namespace ≡ None
    → (contains_key (names_in m namespace) name ≡ false) × (insert m namespace (insert empty name values) ≡ with_values m namespace name values)
new_script m namespace name values none = (
  ap (λ (ns : Names). is_some (get ns name)) (no_names m namespace none) ∙ ap is_some (get-empty text_cmp name),
  ap (λ (ns : Names). insert m namespace (insert ns name values)) (sym (no_names m namespace none)),
)

same_string : (o : Option Data) (t u : List ℕ) → o ≡ Some (string (encode_utf8_all t)) → o ≡ Some (string (encode_utf8_all u)) → t ≡ u
same_string o t u p q = let e : encode_utf8_all t ≡ encode_utf8_all u = cc (p, q) in encodes_same t u e

same_values : (d : Data) (v w : Values) → HasValues d v → HasValues d w → v ≡ w
same_values d v w p q =
    let same : q.0 ≡ p.0 = cc (p.1, q.1) in
    puts_same p.0 empty v w p.2.1 (subst (λ (ms : Members). PutsMembers ms empty w) same q.2.1)

-- a member that is an object holds one thing
pub count_of : (d : Data) (es : List (String Global × Value)) → as_object d ≡ Some (members_view es) → member_count d ≡ Some (length es)
count_of null es e = cc e
count_of (boolean b) es e = cc e
count_of (number n) es e = cc e
count_of (string s) es e = cc e
count_of (array ds) es e = cc e
count_of (object ms) es e = let same : ms ≡ members_view es = cc e in ap Some (ap members_len same ∙ members_len-members_view es)

pub wrong_count : (d : Data) (es : List (String Global × Value)) (n m : ℕ) → as_object d ≡ Some (members_view es) → n ≡ length es → (n ≡ m → ⊥) → member_count d ≡ Some m → ⊥
wrong_count d es n m e is other count = let c = count_of d es e in let same : length es ≡ m = cc (c, count) in other (is ∙ same)

pub right_count : (d : Data) (es : List (String Global × Value)) (n m : ℕ) → as_object d ≡ Some (members_view es) → n ≡ length es → n ≡ m → member_count d ≡ Some m
right_count d es n m e is same = count_of d es e ∙ ap Some (sym is ∙ same)

pub same_adds : (d : Data) (old a b : Maps) → AddsScript d old a → AddsScript d old b → a ≡ b
same_adds d old a b p q =
    let ns = same_string _ p.namespace q.namespace p.script.namespace_is q.script.namespace_is in
    let n = same_string _ p.name q.name p.script.name_is q.script.name_is in
    let vs = same_values d p.values q.values p.script.values_are q.script.values_are in
    p.new_is ∙ (λ i. with_values old (ns i) (n i) (vs i)) ∙ sym q.new_is

-- a script that is there isn't added
pub not_apart : (d : Data) (old m : Maps) (namespace name : List ℕ) → find_in (codes "namespace") d ≡ Some (string (encode_utf8_all namespace)) → find_in (codes "name") d ≡ Some (string (encode_utf8_all name))
    → contains_key (names_in old namespace) name ≡ true → AddsScript d old m → ⊥
not_apart d old m namespace name p q stands h =
    let ns = same_string _ h.namespace namespace h.script.namespace_is p in
    let n = same_string _ h.name name h.script.name_is q in
    true≢false (sym stands ∙ sym (λ i. contains_key (names_in old (ns i)) (n i)) ∙ h.apart)

pub adds_rest : (d : Data) (ds : Items) (old mid m : Maps) → AddsScript d old mid → AddsScripts (item d ds) old m → AddsScripts ds mid m
adds_rest d ds old mid m p h = subst (λ (t : Maps). AddsScripts ds t m) (same_adds d old h.0 mid h.1 p) h.2

pub items_more : (vs : List Value) (i : ℕ) (v : Value) → i < length vs → v ≡ get_or vs i v → items_view (drop i vs) ≡ item (view v) (items_view (drop (i + 1) vs))
items_more vs i v within is = at_drop_more items_view vs i v within ∙ ap (λ (w : Value). item (view w) (items_view (drop (i + 1) vs))) (sym is)

pub items_none : (vs : List Value) (i : ℕ) → length vs ≤ i → items_view (drop i vs) ≡ no_items
items_none vs i past = at_drop_all items_view vs i past

-- a fault that is handed on is the same fault
pub same_error : {T U E : Type 0} (r : Result T E) (f x : E) → IsErrAnd r (λ e. e ≡ f) → IsErrOf r x → IsErrOf {T = U} (Err f) x
same_error (Ok t) f x p q = absurd p
same_error {U = U} {E = E} (Err e) f x p q = let same : f ≡ x = cc (p, q) in ap (λ (w : E). let r : Result U E = Err w in r) same

-- the number 1 as JSON
pub one_form : (d : Data) → option_and_then as_u64 (as_number d) ≡ Some 1 → d ≡ number (unsigned 1)
one_form null e = cc e
one_form (boolean b) e = cc e
one_form (number (unsigned n)) e = cc e
one_form (number (negative z)) e = cc e
one_form (number (float x)) e = cc e
one_form (string s) e = cc e
one_form (array ds) e = cc e
one_form (object ms) e = cc e

-- a member that is an array
pub is_array : (d : Data) (ds : Items) → as_array d ≡ Some ds → d ≡ array ds
is_array null ds e = cc e
is_array (boolean b) ds e = cc e
is_array (number n) ds e = cc e
is_array (string s) ds e = cc e
is_array (array ds) es e = cc e
is_array (object ms) ds e = cc e
