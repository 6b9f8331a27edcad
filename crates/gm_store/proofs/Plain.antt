-- The stored form has no floats and nests at most four deep.
use Rattle.std.specs.Prelude.{◌≡◌, ◌≤◌, ℕ, pos, negsuc, List, [], ◌∷◌, ◌++◌, Bool, true, false, ◌||◌, cond, ◌==◌, refl}
use Rattle.std.specs.Ordering.{nat_cmp, match_ordering}
use Rattle.std.specs.declared.cmp.Ordering.TheVariants.{Less, Equal, Greater}
use Rattle.std.specs.Cmp.Lexicographic.{slice_cmp}
use Rattle.std.specs.FinMap.{entries, len}
use Rattle.std.proofs.Common.{arith, encode_utf8_all}
use Rattle.serde_json.specs.Data.{Data, Members, no_members, member, put, depth, items_depth, members_depth}
use Rattle.serde_json.specs.View.{items_of}
use Rattle.serde_json.specs.Written.{has_float, items_have_float, members_have_float}
use Rattle.dom_semantics.specs.declared.kept.Kept.{Kept}
use Rattle.dom_semantics.specs.declared.kept.Kept.TheVariants.{Str, Bool as Truth, Number}
use Rattle.gm_store.specs.Maps.{Values, Names, Maps}
use Rattle.gm_store.specs.Written.{kept_data}
use Rattle.gm_store.specs.WrittenModel.{values_members, script_model, names_model, scripts_model, stored_model}

either_false : (a b : Bool) → a || b ≡ false → (a ≡ false) × (b ≡ false)
either_false true b h = (h, cc h)
either_false false b h = (refl, h)

both_false : (a b : Bool) → a ≡ false → b ≡ false → a || b ≡ false
both_false true b p q = p
both_false false b p q = q

kept_plain : (v : Kept) → has_float (kept_data v) ≡ false
kept_plain (Str t) = refl
kept_plain (Truth b) = refl
kept_plain (Number (pos n)) = refl
kept_plain (Number (negsuc n)) = refl

kept_flat : (v : Kept) → depth (kept_data v) ≡ 0
kept_flat (Str t) = refl
kept_flat (Truth b) = refl
kept_flat (Number z) = refl

put_plain : (k : List ℕ) (d : Data) (ms : Members) → has_float d ≡ false → members_have_float ms ≡ false → members_have_float (put k d ms) ≡ false
put_plain k d no_members p q = both_false (has_float d) false p refl
put_plain k d (member l e ms) p q =
    let parts = either_false (has_float e) (members_have_float ms) q in
    elim (slice_cmp nat_cmp k l) as (λ o. members_have_float (match_ordering o (member k d (member l e ms)) (member l d ms) (member l e (put k d ms))) ≡ false) [
      | Less ↦ both_false _ _ p q
      | Equal ↦ both_false _ _ p parts.1
      | Greater ↦ both_false _ _ parts.0 (put_plain k d ms p parts.1)
    ]

values_plain : (es : List (List ℕ × Kept)) (ms : Members) → members_have_float ms ≡ false → members_have_float (values_members es ms) ≡ false
values_plain [] ms h = h
values_plain (e ∷ es) ms h = values_plain es _ (put_plain (encode_utf8_all e.0) (kept_data e.1) ms (kept_plain e.1) h)

script_plain : (namespace name : List ℕ) (values : Values) → has_float (script_model namespace name values) ≡ false
script_plain namespace name values = both_false _ _ (values_plain (entries values) no_members refl) refl

names_plain : (namespace : List ℕ) (es : List (List ℕ × Values)) (more : List Data) → items_have_float (items_of more) ≡ false → items_have_float (items_of (names_model namespace es ++ more)) ≡ false
names_plain namespace [] more h = h
names_plain namespace (e ∷ es) more h =
    elim (len e.1 == 0) as (λ b. items_have_float (items_of (cond b (names_model namespace es) (script_model namespace e.0 e.1 ∷ names_model namespace es) ++ more)) ≡ false) [
      | true ↦ names_plain namespace es more h
      | false ↦ both_false _ _ (script_plain namespace e.0 e.1) (names_plain namespace es more h)
    ]

scripts_plain : (es : List (List ℕ × Names)) → items_have_float (items_of (scripts_model es)) ≡ false
scripts_plain [] = refl
scripts_plain (e ∷ es) = names_plain e.0 (entries e.1) (scripts_model es) (scripts_plain es)

pub stored_plain : (m : Maps) → has_float (stored_model m) ≡ false
stored_plain m = both_false _ _ (scripts_plain (entries m)) refl

put_depth : (n : ℕ) (k : List ℕ) (d : Data) (ms : Members) → depth d ≤ n → members_depth ms ≤ n → members_depth (put k d ms) ≤ n
put_depth n k d no_members p q = omega arith
put_depth n k d (member l e ms) p q =
    elim (slice_cmp nat_cmp k l) as (λ o. members_depth (match_ordering o (member k d (member l e ms)) (member l d ms) (member l e (put k d ms))) ≤ n) [
      | Less ↦ omega arith
      | Equal ↦ omega arith
      | Greater ↦ let rest = put_depth n k d ms p (omega arith) in omega arith
    ]

values_depth : (es : List (List ℕ × Kept)) (ms : Members) → members_depth ms ≤ 0 → members_depth (values_members es ms) ≤ 0
values_depth [] ms h = h
values_depth (e ∷ es) ms h = values_depth es _ (put_depth 0 (encode_utf8_all e.0) (kept_data e.1) ms (omega (arith, kept_flat e.1)) h)

script_depth : (namespace name : List ℕ) (values : Values) → depth (script_model namespace name values) ≤ 2
script_depth namespace name values = let inner = values_depth (entries values) no_members (omega arith) in omega arith

names_depth : (namespace : List ℕ) (es : List (List ℕ × Values)) (more : List Data) → items_depth (items_of more) ≤ 2 → items_depth (items_of (names_model namespace es ++ more)) ≤ 2
names_depth namespace [] more h = h
names_depth namespace (e ∷ es) more h =
    let rest = names_depth namespace es more h in
    let here = script_depth namespace e.0 e.1 in
    elim (len e.1 == 0) as (λ b. items_depth (items_of (cond b (names_model namespace es) (script_model namespace e.0 e.1 ∷ names_model namespace es) ++ more)) ≤ 2) [
      | true ↦ rest
      | false ↦ omega arith
    ]

scripts_depth : (es : List (List ℕ × Names)) → items_depth (items_of (scripts_model es)) ≤ 2
scripts_depth [] = omega arith
scripts_depth (e ∷ es) = names_depth e.0 (entries e.1) (scripts_model es) (scripts_depth es)

pub stored_depth : (m : Maps) → depth (stored_model m) ≤ 127
stored_depth m = let inner = scripts_depth (entries m) in omega arith
