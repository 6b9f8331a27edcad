-- A text has one reading as stored maps, and a written text is read as the maps that it was written from.
use Rattle.std.specs.Prelude.{◌≡◌, ◌≤◌, ℕ, List, Some, refl}
use Rattle.std.specs.FinMap.{empty, entries}
use Rattle.std.proofs.Common.{ap, sym, ◌∙◌, subst}
use Rattle.serde_json.specs.Data.{Data, depth, Items, no_items, item}
use Rattle.gm_store.specs.Limits.{MapsFit}
use Rattle.gm_store.specs.Maps.{Maps, KeepTheSame}
use Rattle.gm_store.specs.Stored.{AddsScripts, IsStored, IsTextOf, Loads, IsRefused}
use Rattle.gm_store.specs.Written.{stored_data, LoadsBack}
use Rattle.gm_store.specs.declared.stores.StoreKind.{StoreKind}
use Rattle.gm_store.specs.declared.stores.StoreKind.TheVariants.{NotJson, BadShape}
use Rattle.gm_store.proofs.OneText.{stored_same}
use Rattle.gm_store.proofs.Reading.{same_adds, adds_rest}
use Rattle.gm_store.proofs.RoundTrip.{round_trip}

scripts_same : (ds : Items) (old m n : Maps) → AddsScripts ds old m → AddsScripts ds old n → m ≡ n
scripts_same no_items old m n p q = p ∙ sym q
scripts_same (item d ds) old m n p q = scripts_same ds p.0 m n p.2 (adds_rest d ds old p.0 n p.1 q)

-- a JSON value is the stored form of one family of maps
pub stored_once : (d : Data) (m n : Maps) → IsStored d m → IsStored d n → m ≡ n
stored_once d m n p q =
    let same : q.stores ≡ p.stores = cc (p.stores_is, q.stores_is) in
    scripts_same p.stores empty m n p.scripts (subst (λ (ds : Items). AddsScripts ds empty n) same q.scripts)

read_once : (bytes : List ℕ) (d e : Data) → IsTextOf bytes d → IsTextOf bytes e → d ≡ e
read_once bytes d e p q = cc (p.1, q.1)

pub loads_once : (bytes : List ℕ) (m n : Maps) → Loads bytes m → Loads bytes n → m ≡ n
loads_once bytes m n p q = stored_once p.0 m n p.2 (subst (λ (d : Data). IsStored d n) (read_once bytes q.0 p.0 q.1 p.1) q.2)

-- the JSON value of maps is the stored form of maps that keep the same, and of no others
pub stored_back : (m : Maps) → MapsFit (entries m) → (n : Maps) × IsStored (stored_data m) n × KeepTheSame n m
stored_back m fit = let back = round_trip m fit in (back.0, subst (λ (d : Data). IsStored d back.0) (stored_same m) back.1, back.2)

pub stored_the_same : (m n : Maps) → MapsFit (entries m) → IsStored (stored_data m) n → KeepTheSame n m
stored_the_same m n fit p = let back = stored_back m fit in subst (λ (k : Maps). KeepTheSame k m) (stored_once (stored_data m) back.0 n back.1 p) back.2

pub loads_back : (bytes : List ℕ) (m : Maps) → MapsFit (entries m) → IsTextOf bytes (stored_data m) → LoadsBack bytes m
loads_back bytes m fit text =
    let back = stored_back m fit in
    record {
      some = (back.0, (stored_data m, text, back.1));
      same = λ n p. stored_the_same m n fit (subst (λ (d : Data). IsStored d n) (read_once bytes p.0 (stored_data m) p.1 text) p.2);
    }

-- ---- refused bytes

pub refused_once : (bytes : List ℕ) (f g : StoreKind) → IsRefused bytes f → IsRefused bytes g → f ≡ g
refused_once bytes NotJson NotJson p q = refl
refused_once bytes NotJson BadShape p q = absurd (p (q.0, q.1))
refused_once bytes BadShape NotJson p q = absurd (q (p.0, p.1))
refused_once bytes BadShape BadShape p q = refl

pub not_refused : (bytes : List ℕ) (m : Maps) (f : StoreKind) → Loads bytes m → IsRefused bytes f → ⊥
not_refused bytes m NotJson l p = p (l.0, l.1)
not_refused bytes m BadShape l p = p.2 (m, subst (λ (d : Data). IsStored d m) (read_once bytes l.0 p.0 l.1 p.1) l.2)
