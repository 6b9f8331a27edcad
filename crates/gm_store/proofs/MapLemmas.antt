-- Looking up and changing values in maps of maps.
use Rattle.std.specs.Prelude.{◌≡◌, ℕ, List, Option, Some, None, true, false, is_some, cond, unwrap_or, refl}
use Rattle.std.specs.Ordering.{eq_by_cmp}
use Rattle.std.proofs.lemmas.Result.{on_err_weaker}
use Rattle.std.specs.Prelude.{Result, Ok, Err, OnErr, IsErrOf, IsErrAnd, ◌↔◌, ◌≤◌}
use Rattle.dom_semantics.specs.declared.kept.Kept.{Kept}
use Rattle.dom_semantics.specs.declared.kept.TheConstants.{VALUE_LIMIT}
use Rattle.gm_store.specs.declared.stores.SetFault.{SetFault}
use Rattle.gm_store.specs.declared.stores.SetFault.TheVariants.{ValueLimit, NoMemory}
use Rattle.std.specs.Prelude.{length, [], ◌∷◌}
use Rattle.std.specs.Map.{keys_of}
use Rattle.std.specs.FinMap.{keys, entries, len-entries, len, len-empty, FinMap, empty, get, insert, remove, get-empty, get-insert, get-remove, same_map}
use Rattle.std.proofs.Common.{ap, sym, ◌∙◌, arith}
use Rattle.std.proofs.lemmas.Map.Views.{tells_apart}
use Rattle.base_text.specs.Scalars.{text_cmp}
use Rattle.gm_store.specs.Maps.{Values, Names, Maps, names_in, values_in, value_at, with_values, with_value, without_value}
use Rattle.gm_store.proofs.TextMaps.{texts_total, exact_texts}

at_one : {X : Type 0} (m : FinMap text_cmp X) (k q : List ℕ) (o : Option X) → get m k ≡ o → cond (eq_by_cmp text_cmp q k) o (get m q) ≡ get m q
at_one {X} m k q o h =
    elim (eq_by_cmp text_cmp q k) as (λ b. eq_by_cmp text_cmp q k ≡ b → cond b o (get m q) ≡ get m q) [
      | true ↦ λ e. sym h ∙ ap (get m) (sym (tells_apart exact_texts q k e))
      | false ↦ λ e. refl
    ] refl

-- to put a value where it is changes nothing
pub put_back : {X : Type 0} (m : FinMap text_cmp X) (k : List ℕ) (v : X) → get m k ≡ Some v → insert m k v ≡ m
put_back m k v h = same_map texts_total exact_texts _ _ (λ q. get-insert texts_total m k v q ∙ at_one m k q (Some v) h)

-- to take away what isn't there changes nothing
pub take_none : {X : Type 0} (m : FinMap text_cmp X) (k : List ℕ) → get m k ≡ None → remove m k ≡ m
take_none m k h = same_map texts_total exact_texts _ _ (λ q. get-remove texts_total m k q ∙ at_one m k q None h)

pub no_names : (m : Maps) (namespace : List ℕ) → get m namespace ≡ None → names_in m namespace ≡ empty
no_names m namespace h = ap (λ o. unwrap_or o empty) h

pub names_are : (m : Maps) (namespace : List ℕ) (names : Names) → get m namespace ≡ Some names → names_in m namespace ≡ names
names_are m namespace names h = ap (λ o. unwrap_or o empty) h

pub no_values_1 : (m : Maps) (namespace name : List ℕ) → get m namespace ≡ None → values_in m namespace name ≡ empty
no_values_1 m namespace name h = ap (λ ns. unwrap_or (get ns name) empty) (no_names m namespace h) ∙ ap (λ o. unwrap_or o empty) (get-empty text_cmp name)

pub no_values_2 : (m : Maps) (namespace name : List ℕ) (names : Names) → get m namespace ≡ Some names → get names name ≡ None → values_in m namespace name ≡ empty
no_values_2 m namespace name names h e = ap (λ ns. unwrap_or (get ns name) empty) (names_are m namespace names h) ∙ ap (λ o. unwrap_or o empty) e

pub values_are : (m : Maps) (namespace name : List ℕ) (names : Names) (values : Values) → get m namespace ≡ Some names → get names name ≡ Some values → values_in m namespace name ≡ values
values_are m namespace name names values h e = ap (λ ns. unwrap_or (get ns name) empty) (names_are m namespace names h) ∙ ap (λ o. unwrap_or o empty) e

pub no_value : (m : Maps) (namespace name key : List ℕ) → values_in m namespace name ≡ empty → value_at m namespace name key ≡ None
no_value m namespace name key h = ap (λ vs. get vs key) h ∙ get-empty text_cmp key

-- to take away a value that isn't there
pub without_none : (m : Maps) (namespace name key : List ℕ) → value_at m namespace name key ≡ None → without_value m namespace name key ≡ m
without_none m namespace name key h = ap (λ o. cond (is_some o) (with_values m namespace name (remove (values_in m namespace name) key)) m) h

-- to take away a value of a script that keeps some
pub without_of : (m : Maps) (namespace name key : List ℕ) (names : Names) (values : Values) → get m namespace ≡ Some names → get names name ≡ Some values
    → insert m namespace (insert names name (remove values key)) ≡ without_value m namespace name key
without_of m namespace name key names values h e =
    let vs = values_are m namespace name names values h e in
    let there : with_values m namespace name (remove (values_in m namespace name) key) ≡ insert m namespace (insert names name (remove values key)) =
    ap (λ (w : Values). with_values m namespace name (remove w key)) vs ∙ ap (λ (ns : Names). insert m namespace (insert ns name (remove values key))) (names_are m namespace names h) in
    elim (value_at m namespace name key) as (λ o. value_at m namespace name key ≡ o → insert m namespace (insert names name (remove values key)) ≡ cond (is_some o) (with_values m namespace name (remove (values_in m namespace name) key)) m) [
      | Some v ↦ λ _. sym there
      | None ↦ λ none.
          ap (λ (w : Values). insert m namespace (insert names name w)) (take_none values key (ap (λ (w : Values). get w key) (sym vs) ∙ none))
          ∙ ap (insert m namespace) (put_back names name values e) ∙ put_back m namespace names h
    ] refl

-- to set a value, by what is there
pub set_in : (m : Maps) (namespace name key : List ℕ) (v : Kept) (names : Names) (values : Values) → names_in m namespace ≡ names → values_in m namespace name ≡ values
    → insert m namespace (insert names name (insert values key v)) ≡ with_value m namespace name key v
set_in m namespace name key v names values h e =
    ap (λ (ns : Names). insert m namespace (insert ns name (insert values key v))) (sym h) ∙ ap (λ (w : Values). with_values m namespace name (insert w key v)) (sym e)

-- the limit isn't reached where nothing is kept
pub no_limit : {T : Type 0} (r : Result T SetFault) (values : Values) (key : List ℕ) → values ≡ empty → (IsErrOf r ValueLimit → ⊥) → IsErrOf r ValueLimit ↔ ((get values key ≡ None) × (VALUE_LIMIT ≤ len values))
no_limit r values key e none = (λ h. absurd (none h), λ h. let n : len values ≡ 0 = ap len e ∙ len-empty text_cmp Kept in absurd (omega arith))

-- want of memory isn't the limit
pub not_limit : {T : Type 0} (r : Result T SetFault) → IsErrAnd r (λ e. e ≡ NoMemory) → IsErrOf r ValueLimit → ⊥
not_limit (Ok x) h e = absurd h
not_limit (Err x) h e = cc (h, e)

-- where a write put back what was there, all is as before
pub kept_err : {X E T : Type 0} (r : Result T E) (m : FinMap text_cmp X) (k : List ℕ) (new old : X) → get m k ≡ Some old → OnErr r (new ≡ old) → OnErr r (insert m k new ≡ m)
kept_err r m k new old here same = on_err_weaker r (λ e. ap (insert m k) e ∙ put_back m k old here) same

no_entries : {A : Type 0} (es : List A) → length es ≡ 0 → es ≡ []
no_entries [] e = refl
no_entries (x ∷ es) e = absurd (omega arith)

-- nothing kept has no keys
pub no_keys : (values : Values) → values ≡ empty → keys values ≡ []
no_keys values h = ap keys h ∙ ap keys_of (no_entries (entries (empty {X = Kept} {R = text_cmp})) (sym (len-entries empty) ∙ len-empty text_cmp Kept))
