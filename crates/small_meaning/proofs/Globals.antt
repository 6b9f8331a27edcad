-- What a name of the built-ins comes to at a place, whatever is granted.
use Rattle.std.proofs.Common.{◌≡◌, ◌∙◌, refl, ap, ℕ, suc, Bool, true, false, ◌&&◌, ◌==◌, List, [], ◌∷◌, Option, Some, None, if◌then◌else◌}
use Rattle.std.proofs.lemmas.Slice.Eq.{bytes_eq-Decides}
use Rattle.std.specs.Str.{bytes_eq}
use Rattle.js_semantics.specs.Intrinsics.{Intrinsic, Named, Under, Getter, Setter, Granted, named_in, slots_from, with_set}
use Rattle.js_semantics.specs.Machine.{Own, Refers, Property, Datum, Accessor, Slot}
use Rattle.js_semantics.specs.Properties.{property_in, defined_in}

-- the property under a key at a place, after one intrinsic more is named
abbrev named_as : ℕ → ℕ → Named → List ℕ → Option Property → Option Property
named_as place i (Under holder own) key p = if bytes_eq own key then (if holder == place then Some (Datum (Refers (Own i)) true false) else p) else p
named_as place i (Getter holder own) key p = if bytes_eq own key then (if holder == place then Some (Accessor (Some i) None false) else p) else p
named_as place i (Setter holder own) key p = if bytes_eq own key then (if holder == place then Some (with_set i p) else p) else p
named_as place i (Granted is_granted holder own) key p =
    if bytes_eq own key then (if (holder == place) && is_granted then Some (Datum (Refers (Own i)) true false) else p) else p

-- and after all of them, the first of which has place i
abbrev pub named_from : ℕ → ℕ → List Intrinsic → List ℕ → Option Property → Option Property
named_from place i [] key p = p
named_from place i (x ∷ xs) key p = named_from place (suc i) xs key (named_as place i x.named key p)

same : (a b : List ℕ) → bytes_eq a b ≡ true → a ≡ b
same a b e = (bytes_eq-Decides a b).0 e

clash : (x : Bool) → x ≡ true → x ≡ false → ⊥
clash x e f = cc

found_defined : (slots : List Slot) (own key : List ℕ) (p : Property) → property_in (defined_in slots own p) key ≡ (if bytes_eq own key then Some p else property_in slots key)
found_defined [] own key p = refl
found_defined (slot ∷ slots) own key p = by (bytes_eq slot.key own) refl (found_defined slots own key p)
  where
    hit : (x y : Bool) → y ≡ x → (if x then Some p else property_in slots key) ≡ (if x then Some p else (if y then Some slot.property else property_in slots key))
    hit true y e = refl
    hit false true e = absurd cc
    hit false false e = refl

    pass : (x y : Bool) (rest : Option Property) → bytes_eq slot.key own ≡ false → bytes_eq own key ≡ x → bytes_eq slot.key key ≡ y → rest ≡ (if x then Some p else property_in slots key)
        → (if y then Some slot.property else rest) ≡ (if x then Some p else (if y then Some slot.property else property_in slots key))
    pass true true rest other a b e = absurd (clash (bytes_eq slot.key own) (ap (λ x. bytes_eq slot.key x) (same own key a) ∙ b) other)
    pass true false rest other a b e = e
    pass false true rest other a b e = refl
    pass false false rest other a b e = e

    by : (there : Bool) → bytes_eq slot.key own ≡ there → property_in (defined_in slots own p) key ≡ (if bytes_eq own key then Some p else property_in slots key)
        → property_in (if there then record { key = own; property = p } ∷ slots else slot ∷ defined_in slots own p) key
        ≡ (if bytes_eq own key then Some p else (if bytes_eq slot.key key then Some slot.property else property_in slots key))
    by true e rest = hit (bytes_eq own key) (bytes_eq slot.key key) (ap (λ x. bytes_eq x key) (same slot.key own e))
    by false e rest = pass (bytes_eq own key) (bytes_eq slot.key key) (property_in (defined_in slots own p) key) e refl refl rest

either : (x : Bool) (p : Option Property) → p ≡ (if x then p else p)
either true p = refl
either false p = refl

-- where it's named there
found_chosen : (b : Bool) (slots : List Slot) (own key : List ℕ) (q : Property)
    → property_in (if b then defined_in slots own q else slots) key ≡ (if bytes_eq own key then (if b then Some q else property_in slots key) else property_in slots key)
found_chosen true slots own key q = found_defined slots own key q
found_chosen false slots own key q = either (bytes_eq own key) (property_in slots key)

-- a setter keeps the getter that stands under its own key
found_set : (b : Bool) (i : ℕ) (slots : List Slot) (own key : List ℕ) (x : Bool) → bytes_eq own key ≡ x
    → (if x then (if b then Some (with_set i (property_in slots own)) else property_in slots key) else property_in slots key)
    ≡ (if x then (if b then Some (with_set i (property_in slots key)) else property_in slots key) else property_in slots key)
found_set true i slots own key true e = ap (λ (k : List ℕ). Some (with_set i (property_in slots k))) (same own key e)
found_set false i slots own key true e = refl
found_set b i slots own key false e = refl

found_one : (place i : ℕ) (named : Named) (slots : List Slot) (key : List ℕ) → property_in (named_in place i named slots) key ≡ named_as place i named key (property_in slots key)
found_one place i (Under holder own) slots key = found_chosen (holder == place) slots own key (Datum (Refers (Own i)) true false)
found_one place i (Getter holder own) slots key = found_chosen (holder == place) slots own key (Accessor (Some i) None false)
found_one place i (Setter holder own) slots key =
    found_chosen (holder == place) slots own key (with_set i (property_in slots own)) ∙ found_set (holder == place) i slots own key (bytes_eq own key) refl
found_one place i (Granted is_granted holder own) slots key = found_chosen ((holder == place) && is_granted) slots own key (Datum (Refers (Own i)) true false)

pub found_named : (place i : ℕ) (xs : List Intrinsic) (slots : List Slot) (key : List ℕ) → property_in (slots_from place i xs slots) key ≡ named_from place i xs key (property_in slots key)
found_named place i [] slots key = refl
found_named place i (x ∷ xs) slots key =
    found_named place (suc i) xs (named_in place i x.named slots) key ∙ ap (λ p. named_from place (suc i) xs key p) (found_one place i x.named slots key)
