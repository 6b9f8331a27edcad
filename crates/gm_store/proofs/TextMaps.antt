-- A tree of texts as a finite map.
use Rattle.std.specs.Prelude.{◌≡◌, ℕ, List, [], ◌∷◌, Some, None, cond, refl, length}
use Rattle.std.specs.Cmp.{IsTotalOrder, on_total, eq_by_cmp_equiv}
use Rattle.std.specs.Cmp.Lexicographic.{nat_list_cmp_total}
use Rattle.std.specs.BTreeMap.{is_at}
use Rattle.std.specs.Map.{lookup, keys_of}
use Rattle.std.specs.declared.cmp.Ordering.TheVariants.{Less}
use Rattle.std.specs.List.{AllByRecursion}
use Rattle.std.specs.FinMap.Entries.{by_order}
use Rattle.std.proofs.lemmas.Map.Keys.{sorted_head, sorted_tail}
use Rattle.std.specs.FinMap.{put, find, from_entries, get, insert, remove, entries, get-from_entries, get-insert, get-remove, same_map, IsAntisymmetric, entries-insert, len-entries, len, len-empty, empty}
use Rattle.std.specs.List.Sorted.{IsStrictlySortedBy}
use Rattle.std.proofs.Common.{ap, sym, ◌∙◌, arith}
use Rattle.std.proofs.lemmas.Map.Lookups.{exact_bytes}
use Rattle.std.proofs.lemmas.Str.{encodes_same}
use Rattle.std.proofs.Common.{encode_utf8_all}
use Rattle.base_text.specs.Scalars.{text_cmp}

pub texts_total : IsTotalOrder text_cmp
texts_total = on_total encode_utf8_all nat_list_cmp_total

-- texts that compare alike are one
pub exact_texts : IsAntisymmetric text_cmp
exact_texts x y h = encodes_same x y (exact_bytes (encode_utf8_all x) (encode_utf8_all y) h)

find_lookup : {X : Type 0} (es : List (List ℕ × X)) (q : List ℕ) → find text_cmp q es ≡ lookup (is_at (text_cmp q)) es
find_lookup [] q = refl
find_lookup (e ∷ es) q = ap (cond (is_at (text_cmp q) e.0) (Some e.1)) (find_lookup es q)

-- what the map that the entries make has at a text
pub get_text : {X : Type 0} (es : List (List ℕ × X)) (q : List ℕ) → get (from_entries {R = text_cmp} es) q ≡ lookup (is_at (text_cmp q)) es
get_text es q = get-from_entries texts_total es q ∙ find_lookup es q

-- entries that differ at one text make maps that differ there
pub one_put : {X : Type 0} (es fs : List (List ℕ × X)) (k : List ℕ) (v : X) → ((q : List ℕ) → lookup (is_at (text_cmp q)) fs ≡ cond (is_at (text_cmp k) q) (Some v) (lookup (is_at (text_cmp q)) es)) → from_entries {R = text_cmp} fs ≡ insert (from_entries es) k v
one_put es fs k v h = same_map texts_total exact_texts _ _ (λ q.
    get_text fs q ∙ h q ∙ ap (λ b. cond b (Some v) (lookup (is_at (text_cmp q)) es)) ((eq_by_cmp_equiv texts_total).symm k q)
    ∙ sym (get-insert texts_total (from_entries es) k v q ∙ ap (cond (is_at (text_cmp q) k) (Some v)) (get_text es q)))

pub one_taken : {X : Type 0} (es fs : List (List ℕ × X)) (k : List ℕ) → ((q : List ℕ) → lookup (is_at (text_cmp q)) fs ≡ cond (is_at (text_cmp k) q) None (lookup (is_at (text_cmp q)) es)) → from_entries {R = text_cmp} fs ≡ remove (from_entries es) k
one_taken es fs k h = same_map texts_total exact_texts _ _ (λ q.
    get_text fs q ∙ h q ∙ ap (λ b. cond b None (lookup (is_at (text_cmp q)) es)) ((eq_by_cmp_equiv texts_total).symm k q)
    ∙ sym (get-remove texts_total (from_entries es) k q ∙ ap (cond (is_at (text_cmp q) k) None) (get_text es q)))

-- a key below all keys of a list in order goes before them
put_first : {X : Type 0} (e : List ℕ × X) (es : List (List ℕ × X)) → AllByRecursion (λ y. text_cmp e.0 y ≡ Less) (keys_of es) → put text_cmp e.0 e.1 es ≡ e ∷ es
put_first e [] below = refl
put_first e (f ∷ fs) below = ap (λ o. by_order o ((e.0, e.1) ∷ f ∷ fs) ((f.0, e.1) ∷ fs) (f ∷ put text_cmp e.0 e.1 fs)) below.0

pub no_entries : {A : Type 0} (es : List A) → length es ≡ 0 → es ≡ []
no_entries [] e = refl
no_entries (x ∷ es) e = absurd (omega arith)

-- entries in order are those of the map that they make
pub entries_made : {X : Type 0} (es : List (List ℕ × X)) → IsStrictlySortedBy text_cmp (keys_of es) → entries (from_entries {R = text_cmp} es) ≡ es
entries_made [] sorted = no_entries _ (sym (len-entries empty) ∙ len-empty text_cmp _)
entries_made (e ∷ es) sorted =
    entries-insert texts_total (from_entries es) e.0 e.1 ∙ ap (put text_cmp e.0 e.1) (entries_made es (sorted_tail text_cmp e.0 (keys_of es) sorted)) ∙ put_first e es (sorted_head text_cmp e.0 (keys_of es) sorted)

pub len_made : {X : Type 0} (es : List (List ℕ × X)) → IsStrictlySortedBy text_cmp (keys_of es) → len (from_entries {R = text_cmp} es) ≡ length es
len_made es sorted = len-entries _ ∙ ap length (entries_made es sorted)
