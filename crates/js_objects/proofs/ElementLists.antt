-- Elements of an array as properties, and the machine's tables over them.
use Rattle.std.proofs.Common.{◌≡◌, ◌≢◌, ℕ, zero, suc, ◌+◌, ◌<◌, ◌≤◌, List, [], ◌∷◌, ◌++◌, refl, sym, ap, subst, ◌∙◌, length, map, arith, Option, Some, None, take, Result, Ok, Err}
use Rattle.std.specs.Prelude.{slice_get, slice_set, slice_index_or, option_map, if◌then◌else◌, true, false, Bool, ◌&&◌, not, ◌==◌, nat_lt, nat_le, ℤ, pos, negsuc}
use Rattle.std.proofs.lemmas.Option.{slice_get-map, same_Some, slice_get_read, slice_get_past}
use Rattle.std.proofs.lemmas.List.{length-map}
use Rattle.std.proofs.lemmas.Bool.{lt-ltb, le-ltb, le-leb, lt-leb, eq-eqb, ne_eqb, ltb-true, true≢false}
use Rattle.std.specs.Int.Signed.{lt_z}
use lib.IntN.{nat_abs}
use Rattle.door.specs.declared.requests.ErrorKind.TheVariants as kind
use Rattle.js_semantics.specs.Primitives.{PrimitiveValue, Undefined, Null, BoolPrim, NumberPrim, StrPrim}
use Rattle.js_semantics.specs.Machine as m
use Rattle.js_semantics.specs.Properties.{with_elements, element_defined, element_written, length_defined, length_written, MAX_NUMBER}
use Rattle.js_objects.specs.declared.values.CellId.{CellId}
use Rattle.js_objects.specs.declared.values.Slot.{Slot}
use Rattle.js_objects.specs.declared.values.Slot.TheVariants.{Prim, Cell as Object}
use Rattle.js_objects.specs.declared.values.Prop.{Prop}
use Rattle.js_objects.specs.declared.values.Prop.TheVariants.{Slot as SlotProp, Accessor as AccessorProp}
use Rattle.js_objects.specs.Elements.{element_prop, length_prop, value_in, AreElements, length_by, length_from, element_by}
use Rattle.js_objects.specs.Naming.{Names, value_of, values_of, property_of}

-- ---- elements

are_at : (props : List Prop) (p : ℕ) (x : Prop) → AreElements props → slice_get props p ≡ Some x → x ≡ element_prop (value_in x)
are_at [] p x a e = absurd (cc)
are_at (y ∷ ys) zero x a e = subst (λ (q : Prop). q ≡ element_prop (value_in q)) (same_Some y x e) a.0
are_at (y ∷ ys) (suc p) x a e = are_at ys p x a.1 e

pub element_here : (props : List Prop) (now : List Slot) (n p : ℕ) (x : Prop) → map value_in props ≡ now → AreElements props → n ≡ length props → p < n → x ≡ slice_index_or props p x → Some x ≡ option_map element_prop (slice_get now p)
element_here props now n p x v a m l e =
    let here : slice_get props p ≡ Some x = slice_get_read props n p x m l e in
    let k : slice_get now p ≡ Some (value_in x) = rw (← v, slice_get-map value_in props p, here) refl in
    rw k (ap (λ (q : Prop). Some q) (are_at props p x a here))

pub element_past : (props : List Prop) (now : List Slot) (n p : ℕ) → map value_in props ≡ now → n ≡ length props → n ≤ p → None ≡ option_map element_prop (slice_get now p)
element_past props now n p v m l =
    let past : slice_get props p ≡ None = slice_get_past props p (rw m at l) in
    let k : slice_get now p ≡ None = rw (← v, slice_get-map value_in props p, past) refl in
    rw k refl

pub are_set : (props : List Prop) (p : ℕ) (v : Slot) → AreElements props → AreElements (slice_set props p (element_prop v))
are_set [] p v a = tt
are_set (y ∷ ys) zero v a = (refl, a.1)
are_set (y ∷ ys) (suc p) v a = (a.0, are_set ys p v a.1)

pub are_pushed : (props : List Prop) (v : Slot) → AreElements props → AreElements (props ++ element_prop v ∷ [])
are_pushed [] v a = (refl, tt)
are_pushed (y ∷ ys) v a = (a.0, are_pushed ys v a.1)

pub are_taken : (n : ℕ) (props : List Prop) → AreElements props → AreElements (take n props)
are_taken zero props a = tt
are_taken (suc n) [] a = tt
are_taken (suc n) (y ∷ ys) a = (a.0, are_taken n ys a.1)

pub values_set : (props : List Prop) (p : ℕ) (v : Slot) → map value_in (slice_set props p (element_prop v)) ≡ slice_set (map value_in props) p v
values_set [] p v = refl
values_set (y ∷ ys) zero v = refl
values_set (y ∷ ys) (suc p) v = ap (λ r. value_in y ∷ r) (values_set ys p v)

pub values_pushed : (props : List Prop) (v : Slot) → map value_in (props ++ element_prop v ∷ []) ≡ map value_in props ++ v ∷ []
values_pushed [] v = refl
values_pushed (y ∷ ys) v = ap (λ r. value_in y ∷ r) (values_pushed ys v)

pub values_taken : (n : ℕ) (props : List Prop) → map value_in (take n props) ≡ take n (map value_in props)
values_taken zero props = refl
values_taken (suc n) [] = refl
values_taken (suc n) (y ∷ ys) = ap (λ r. value_in y ∷ r) (values_taken n ys)

length_set : {A : Type 0} (xs : List A) (p : ℕ) (y : A) → length (slice_set xs p y) ≡ length xs
length_set [] p y = refl
length_set (x ∷ xs) zero y = refl
length_set (x ∷ xs) (suc p) y = ap (λ n. suc n) (length_set xs p y)

length_snoc : {A : Type 0} (xs : List A) (y : A) → length (xs ++ y ∷ []) ≡ suc (length xs)
length_snoc [] y = refl
length_snoc (x ∷ xs) y = ap (λ n. suc n) (length_snoc xs y)

length_taken : {A : Type 0} (n : ℕ) (xs : List A) → n ≤ length xs → length (take n xs) ≡ n
length_taken zero xs h = refl
length_taken (suc n) [] h = absurd (omega arith)
length_taken (suc n) (x ∷ xs) h = ap (λ k. suc k) (length_taken n xs (omega arith))

-- what holds of the fields of the elements
abbrev pub Fields : List Prop → Prop → Type 0
Fields props l = AreElements props × (l ≡ length_prop (length props)) × (length props ≤ MAX_NUMBER)

pub set_fields : (props : List Prop) (p : ℕ) (v : Slot) (x l : Prop) → x ≡ element_prop v → Fields props l → Fields (slice_set props p x) l
set_fields props p v x l e a = rw e (are_set props p v a.0, rw (length_set props p (element_prop v)) a.1, rw (length_set props p (element_prop v)) a.2)

pub pushed_fields : (props new : List Prop) (n : ℕ) (v : Slot) (x l k : Prop) → x ≡ element_prop v → new ≡ props ++ x ∷ [] → Fields props l → n ≡ length props → n < MAX_NUMBER → k ≡ length_prop (n + 1) → Fields new k
pushed_fields props new n v x l k e w a m h q =
    let s : n + 1 ≡ suc (length props) = omega arith in
    rw (w, e) (are_pushed props v a.0, rw (length_snoc props (element_prop v)) (q ∙ ap (λ i. length_prop i) s), rw (length_snoc props (element_prop v)) (omega arith))

pub fields_none : (props : List Prop) (l : Prop) → props ≡ [] → l ≡ length_prop 0 → Fields props l
fields_none props l e q = rw e (tt, q, omega arith)

pub seen_length : (props : List Prop) (now : List Slot) (n : ℕ) → map value_in props ≡ now → n ≡ length props → n ≡ length now
seen_length props now n s m = m ∙ (sym (length-map props value_in) ∙ ap (λ xs. length xs) s)

pub cut_fields : (props new : List Prop) (now : List Slot) (n : ℕ) (l k : Prop) → new ≡ take n props → Fields props l → map value_in props ≡ now → n ≤ length now → k ≡ length_prop n → Fields new k
cut_fields props new now n l k w a v r q =
    let e : length props ≡ length now = seen_length props now (length props) v refl in
    let h : n ≤ length props = omega arith in
    let b : length props ≤ MAX_NUMBER = a.2 in
    rw w (are_taken n props a.0, rw (length_taken n props h) q, rw (length_taken n props h) (omega arith))

pub seen_set : (props : List Prop) (now : List Slot) (p : ℕ) (v : Slot) (x : Prop) → x ≡ element_prop v → map value_in props ≡ now → map value_in (slice_set props p x) ≡ slice_set now p v
seen_set props now p v x e s = rw e (values_set props p v ∙ ap (λ xs. slice_set xs p v) s)

pub seen_pushed : (props new : List Prop) (now : List Slot) (v : Slot) (x : Prop) → x ≡ element_prop v → new ≡ props ++ x ∷ [] → map value_in props ≡ now → map value_in new ≡ now ++ v ∷ []
seen_pushed props new now v x e w s = rw (w, e) (values_pushed props v ∙ ap (λ xs. xs ++ v ∷ []) s)

pub seen_cut : (props new : List Prop) (now : List Slot) (n : ℕ) → new ≡ take n props → map value_in props ≡ now → map value_in new ≡ take n now
seen_cut props new now n w s = rw w (values_taken n props ∙ ap (λ xs. take n xs) s)

-- ---- under a naming

named_set : (names : Names) (xs : List Slot) (p : ℕ) (v : Slot) → values_of names (slice_set xs p v) ≡ slice_set (values_of names xs) p (value_of names v)
named_set names [] p v = refl
named_set names (y ∷ ys) zero v = refl
named_set names (y ∷ ys) (suc p) v = ap (λ r. value_of names y ∷ r) (named_set names ys p v)

named_pushed : (names : Names) (xs : List Slot) (v : Slot) → values_of names (xs ++ v ∷ []) ≡ values_of names xs ++ value_of names v ∷ []
named_pushed names [] v = refl
named_pushed names (y ∷ ys) v = ap (λ r. value_of names y ∷ r) (named_pushed names ys v)

named_taken : (names : Names) (n : ℕ) (xs : List Slot) → values_of names (take n xs) ≡ take n (values_of names xs)
named_taken names zero xs = refl
named_taken names (suc n) [] = refl
named_taken names (suc n) (y ∷ ys) = ap (λ r. value_of names y ∷ r) (named_taken names n ys)

pub written_here : (names : Names) (cell : m.Cell) (old new : List Slot) (p : ℕ) (v : Slot) → new ≡ slice_set old p v → p < length old → element_written cell (values_of names old) p (value_of names v) ≡ Ok (with_elements cell (values_of names new))
written_here names cell old new p v e h =
    let l : length (values_of names old) ≡ length old = length-map old (value_of names) in
    let t : nat_lt p (length (values_of names old)) ≡ true = rw l (lt-ltb p (length old) h) in
    rw (t, e, named_set names old p v) refl

pub written_last : (names : Names) (cell : m.Cell) (old new : List Slot) (p : ℕ) (v : Slot) → new ≡ old ++ v ∷ [] → p ≤ length old → length old ≤ p → element_written cell (values_of names old) p (value_of names v) ≡ Ok (with_elements cell (values_of names new))
written_last names cell old new p v e h g =
    let l : length (values_of names old) ≡ length old = length-map old (value_of names) in
    let s : p ≡ length old = omega arith in
    let t : nat_lt p (length (values_of names old)) ≡ false = rw l (le-ltb p (length old) g) in
    let q : (p == length (values_of names old)) ≡ true = rw l (eq-eqb p (length old) s) in
    rw (t, q, e, named_pushed names old v) refl

-- a place past the end
past_written : (cell : m.Cell) (els : List m.Value) (p : ℕ) (v : m.Value) → length els < p → element_written cell els p v ≡ Err kind.Range
past_written cell els p v h =
    let t : nat_lt p (length els) ≡ false = le-ltb p (length els) (omega arith) in
    let q : (p == length els) ≡ false = ne_eqb p (length els) (λ e. absurd (omega arith)) in
    rw (t, q) refl

past_defined : (cell : m.Cell) (els : List m.Value) (p : ℕ) (property : m.Property) → length els < p → element_defined cell els p property ≡ Err kind.Range
past_defined cell els p (m.Datum v true true) h = past_written cell els p v h
past_defined cell els p (m.Datum v true false) h = rw (lt-leb p (length els) h) refl
past_defined cell els p (m.Datum v false true) h = rw (lt-leb p (length els) h) refl
past_defined cell els p (m.Datum v false false) h = rw (lt-leb p (length els) h) refl
past_defined cell els p (m.Accessor g s e) h = rw (lt-leb p (length els) h) refl

pub defined_sparse : (names : Names) (cell : m.Cell) (old : List Slot) (n p : ℕ) (prop : Prop) → n ≡ length old → n < p → element_defined cell (values_of names old) p (property_of names prop) ≡ Err kind.Range
defined_sparse names cell old n p prop e h =
    let l : length (values_of names old) ≡ length old = length-map old (value_of names) in
    past_defined cell (values_of names old) p (property_of names prop) (omega arith)

-- a place that there is, or the one at the end
slot_defined_by : (cell : m.Cell) (els : List m.Value) (p : ℕ) (v : m.Value) (w e : Bool) → p ≤ length els → element_defined cell els p (m.Datum v w e) ≡ element_by (w && e) (element_written cell els p v)
slot_defined_by cell els p v true true h = refl
slot_defined_by cell els p v true false h = rw (le-leb p (length els) h) refl
slot_defined_by cell els p v false true h = rw (le-leb p (length els) h) refl
slot_defined_by cell els p v false false h = rw (le-leb p (length els) h) refl

pub defined_slot : (names : Names) (cell : m.Cell) (old : List Slot) (p : ℕ) (v : m.Value) (w e : Bool) → p ≤ length old → element_defined cell (values_of names old) p (m.Datum v w e) ≡ element_by (w && e) (element_written cell (values_of names old) p v)
defined_slot names cell old p v w e h =
    let l : length (values_of names old) ≡ length old = length-map old (value_of names) in
    slot_defined_by cell (values_of names old) p v w e (omega arith)

pub defined_accessor : (names : Names) (cell : m.Cell) (old : List Slot) (p : ℕ) (g s : Option ℕ) (e : Bool) → p ≤ length old → element_defined cell (values_of names old) p (m.Accessor g s e) ≡ Err kind.Kind
defined_accessor names cell old p g s e h =
    let l : length (values_of names old) ≡ length old = length-map old (value_of names) in
    rw (le-leb p (length (values_of names old)) (omega arith)) refl

-- ---- lengths

pub length_slot : (cell : m.Cell) (els : List m.Value) (v : m.Value) (w e : Bool) → length_defined cell els (m.Datum v w e) ≡ length_from (w && not e) cell els v
length_slot cell els (m.Primitive (NumberPrim z)) true true = refl
length_slot cell els (m.Primitive (NumberPrim z)) true false = refl
length_slot cell els (m.Primitive (NumberPrim z)) false true = refl
length_slot cell els (m.Primitive (NumberPrim z)) false false = refl
length_slot cell els (m.Primitive Undefined) w e = refl
length_slot cell els (m.Primitive Null) w e = refl
length_slot cell els (m.Primitive (BoolPrim b)) w e = refl
length_slot cell els (m.Primitive (StrPrim t)) w e = refl
length_slot cell els (m.Refers r) w e = refl

pub not_number : (cell : m.Cell) (els : List m.Value) (b : Bool) (p : PrimitiveValue) → ((z : ℤ) → p ≢ NumberPrim z) → length_from b cell els (m.Primitive p) ≡ Err kind.Kind
not_number cell els b (NumberPrim z) d = absurd (d z refl)
not_number cell els b Undefined d = refl
not_number cell els b Null d = refl
not_number cell els b (BoolPrim x) d = refl
not_number cell els b (StrPrim t) d = refl

pub cut_below : (b : Bool) (cell : m.Cell) (els : List m.Value) (n : ℕ) → length_by b (length_written cell els (negsuc n)) ≡ Err kind.Range
cut_below true cell els n = refl
cut_below false cell els n = refl

pub cut_past : (names : Names) (b : Bool) (cell : m.Cell) (old : List Slot) (n : ℕ) → length old < n → length_by b (length_written cell (values_of names old) (pos n)) ≡ Err kind.Range
cut_past names true cell old n h =
    let l : length (values_of names old) ≡ length old = length-map old (value_of names) in
    rw (lt-leb n (length (values_of names old)) (omega arith)) refl
cut_past names false cell old n h =
    let l : length (values_of names old) ≡ length old = length-map old (value_of names) in
    rw (lt-leb n (length (values_of names old)) (omega arith)) refl

pub cut_kept : (names : Names) (cell : m.Cell) (old : List Slot) (n : ℕ) → n ≤ length old → length_by false (length_written cell (values_of names old) (pos n)) ≡ Err kind.Kind
cut_kept names cell old n h =
    let l : length (values_of names old) ≡ length old = length-map old (value_of names) in
    rw (le-leb n (length (values_of names old)) (omega arith)) refl

pub cut_here : (names : Names) (cell : m.Cell) (old new : List Slot) (n : ℕ) → new ≡ take n old → n ≤ length old → length_by true (length_written cell (values_of names old) (pos n)) ≡ Ok (with_elements cell (values_of names new))
cut_here names cell old new n e h =
    let l : length (values_of names old) ≡ length old = length-map old (value_of names) in
    rw (le-leb n (length (values_of names old)) (omega arith), e, named_taken names n old) refl

pub cut_negative : (b : Bool) (cell : m.Cell) (els : List m.Value) (z : ℤ) → lt_z z (pos 0) ≡ true → length_by b (length_written cell els z) ≡ Err kind.Range
cut_negative b cell els (pos n) h = absurd (omega (arith, ltb-true n 0 h))
cut_negative b cell els (negsuc n) h = cut_below b cell els n

pub cut_over : (names : Names) (b : Bool) (cell : m.Cell) (old : List Slot) (z : ℤ) (n : ℕ) → lt_z z (pos 0) ≡ false → n ≡ length old → n < nat_abs z → length_by b (length_written cell (values_of names old) z) ≡ Err kind.Range
cut_over names b cell old (pos k) n h e g = cut_past names b cell old k (omega arith)
cut_over names b cell old (negsuc k) n h e g = absurd (true≢false h)

pub cut_refused : (names : Names) (b : Bool) (cell : m.Cell) (old : List Slot) (z : ℤ) (n : ℕ) → b ≡ false → lt_z z (pos 0) ≡ false → n ≡ length old → nat_abs z ≤ n → length_by b (length_written cell (values_of names old) z) ≡ Err kind.Kind
cut_refused names b cell old (pos k) n f h e g = rw f (cut_kept names cell old k (omega arith))
cut_refused names b cell old (negsuc k) n f h e g = absurd (true≢false h)

pub cut_taken : (names : Names) (b : Bool) (cell : m.Cell) (old new : List Slot) (z : ℤ) (n : ℕ) → b ≡ true → lt_z z (pos 0) ≡ false → n ≡ length old → nat_abs z ≤ n → new ≡ take (nat_abs z) old → length_by b (length_written cell (values_of names old) z) ≡ Ok (with_elements cell (values_of names new))
cut_taken names b cell old new (pos k) n f h e g w = rw f (cut_here names cell old new k w (omega arith))
cut_taken names b cell old new (negsuc k) n f h e g w = absurd (true≢false h)
