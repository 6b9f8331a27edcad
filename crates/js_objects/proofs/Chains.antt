-- Chains of prototypes: each ends within as many cells as the heap has, so looking at so many tells whether one comes to a cell.
use Rattle.std.proofs.Common.{◌≡◌, ◌≢◌, ℕ, zero, suc, ◌+◌, ◌-◌, ◌<◌, ◌≤◌, List, [], ◌∷◌, ◌++◌, refl, sym, ap, ◌∙◌, length, arith, Option, Some, None, ◌⊎◌, inl, inr, true, false}
use Rattle.std.specs.Prelude.{slice_get, slice_set, if◌then◌else◌, ◌==◌, IfSome}
use Rattle.std.proofs.lemmas.Option.{same_Some}
use Rattle.std.proofs.lemmas.Bool.{eq-eqb, ne_eqb}
use Rattle.js_objects.specs.declared.values.CellId.{CellId}
use Rattle.js_objects.specs.declared.cell.Cell.{Cell}
use Rattle.js_objects.specs.Heaps.{above, proto_by, Closes, Ends, id}
use Rattle.js_objects.specs.ChainsModel.{comes_to}
use Rattle.js_objects.proofs.Lists.{by_number, one_less, get_set_same, get_set_other}

-- ---- the cells above

pub above_none : (k : ℕ) (cells : List Cell) → above k cells None ≡ None
above_none zero cells = refl
above_none (suc k) cells = refl

pub above_add : (i j : ℕ) (cells : List Cell) (o : Option CellId) → above (i + j) cells o ≡ above j cells (above i cells o)
above_add zero j cells o = let e : 0 + j ≡ j = omega arith in ap (λ n. above n cells o) e
above_add (suc i) j cells None = let e : suc i + j ≡ suc (i + j) = omega arith in ap (λ n. above n cells None) e ∙ sym (above_none j cells)
above_add (suc i) j cells (Some c) = let e : suc i + j ≡ suc (i + j) = omega arith in ap (λ n. above n cells (Some c)) e ∙ above_add i j cells (proto_by (slice_get cells c.0))

proto_pushed : (xs : List Cell) (x : Cell) (n : ℕ) → x.proto ≡ None → proto_by (slice_get (xs ++ x ∷ []) n) ≡ proto_by (slice_get xs n)
proto_pushed [] x zero e = e
proto_pushed [] x (suc n) e = refl
proto_pushed (y ∷ ys) x zero e = refl
proto_pushed (y ∷ ys) x (suc n) e = proto_pushed ys x n e

above_pushed : (k : ℕ) (xs : List Cell) (x : Cell) (o : Option CellId) → x.proto ≡ None → above k (xs ++ x ∷ []) o ≡ above k xs o
above_pushed zero xs x o e = refl
above_pushed (suc k) xs x None e = refl
above_pushed (suc k) xs x (Some c) e = ap (λ o. above k (xs ++ x ∷ []) o) (proto_pushed xs x c.0 e) ∙ above_pushed k xs x (proto_by (slice_get xs c.0)) e

-- a cell that is added has no prototype
pub ends_pushed : (xs : List Cell) (x : Cell) → x.proto ≡ None → Ends xs → Ends (xs ++ x ∷ [])
ends_pushed xs x e s n = let a : (k : ℕ) × (above k xs (Some (id n)) ≡ None) = s n in (a.0, above_pushed a.0 xs x (Some (id n)) e ∙ a.1)

proto_set : (xs : List Cell) (n m : ℕ) (x y : Cell) → slice_get xs n ≡ Some x → y.proto ≡ x.proto → proto_by (slice_get (slice_set xs n y) m) ≡ proto_by (slice_get xs m)
proto_set xs n m x y e q = by_number m n (proto_by (slice_get (slice_set xs n y) m) ≡ proto_by (slice_get xs m))
    (λ s. rw (s, get_set_same xs n y x e, e) q)
    (λ d. ap (λ (o : Option Cell). proto_by o) (get_set_other xs n m y d))

above_set : (k : ℕ) (xs : List Cell) (n : ℕ) (x y : Cell) (o : Option CellId) → slice_get xs n ≡ Some x → y.proto ≡ x.proto → above k (slice_set xs n y) o ≡ above k xs o
above_set zero xs n x y o e q = refl
above_set (suc k) xs n x y None e q = refl
above_set (suc k) xs n x y (Some c) e q = ap (λ o. above k (slice_set xs n y) o) (proto_set xs n c.0 x y e q) ∙ above_set k xs n x y (proto_by (slice_get xs c.0)) e q

-- a cell keeps its prototype
pub ends_kept : (xs : List Cell) (n : ℕ) (x y : Cell) → slice_get xs n ≡ Some x → y.proto ≡ x.proto → Ends xs → Ends (slice_set xs n y)
ends_kept xs n x y e q s m = let a : (k : ℕ) × (above k xs (Some (id m)) ≡ None) = s m in (a.0, above_set a.0 xs n x y (Some (id m)) e q ∙ a.1)

-- ---- a cell is given a prototype that doesn't have it above

-- a chain that doesn't come to the cell stays
above_apart : (k : ℕ) (xs : List Cell) (n : ℕ) (y : Cell) (o : Option CellId) → ((i : ℕ) → above i xs o ≢ Some (id n)) → above k (slice_set xs n y) o ≡ above k xs o
above_apart zero xs n y o d = refl
above_apart (suc k) xs n y None d = refl
above_apart (suc k) xs n y (Some c) d =
    let ne : c.0 ≢ n = λ e. d 0 (ap (λ i. Some (id i)) e) in
    ap (λ o. above k (slice_set xs n y) o) (ap (λ (o : Option Cell). proto_by o) (get_set_other xs n c.0 y ne)) ∙ above_apart k xs n y (proto_by (slice_get xs c.0)) (λ i. d (suc i))

-- any other comes to it, and goes on as that one
ends_through : (k l : ℕ) (xs : List Cell) (n : ℕ) (x y : Cell) (o : Option CellId) → slice_get xs n ≡ Some x → above l (slice_set xs n y) y.proto ≡ None → above k xs o ≡ None → (j : ℕ) × (above j (slice_set xs n y) o ≡ None)
ends_through zero l xs n x y o e p a = (0, a)
ends_through (suc k) l xs n x y None e p a = (0, refl)
ends_through (suc k) l xs n x y (Some c) e p a = by_number c.0 n ((j : ℕ) × (above j (slice_set xs n y) (Some c) ≡ None))
    (λ s. (suc l, ap (λ o. above l (slice_set xs n y) o) (ap (λ (o : Option Cell). proto_by o) (ap (λ m. slice_get (slice_set xs n y) m) s ∙ get_set_same xs n y x e)) ∙ p))
    (λ d.
    let r : (j : ℕ) × (above j (slice_set xs n y) (proto_by (slice_get xs c.0)) ≡ None) = ends_through k l xs n x y (proto_by (slice_get xs c.0)) e p a in
    (suc r.0, ap (λ o. above r.0 (slice_set xs n y) o) (ap (λ (o : Option Cell). proto_by o) (get_set_other xs n c.0 y d)) ∙ r.1))

pub ends_of : (xs : List Cell) (o : Option CellId) → Ends xs → (k : ℕ) × (above k xs o ≡ None)
ends_of xs None s = (0, refl)
ends_of xs (Some c) s = s c.0

pub ends_set : (xs : List Cell) (n : ℕ) (x y : Cell) → slice_get xs n ≡ Some x → (Closes xs n y.proto → ⊥) → Ends xs → Ends (slice_set xs n y)
ends_set xs n x y e d s m =
    let a : (k : ℕ) × (above k xs y.proto ≡ None) = ends_of xs y.proto s in
    let p : above a.0 (slice_set xs n y) y.proto ≡ None = above_apart a.0 xs n y y.proto (λ i w. d (i, w)) ∙ a.1 in
    let b : (k : ℕ) × (above k xs (Some (id m)) ≡ None) = s m in
    ends_through b.0 a.0 xs n x y (Some (id m)) e p b.1

-- ---- no chain has more cells than the heap

-- a chain that comes to a cell twice doesn't end
again : (m d : ℕ) (cells : List Cell) (c : CellId) → above (suc d) cells (Some c) ≡ Some c → (t : ℕ) × (m ≤ t) × (above t cells (Some c) ≡ Some c)
again zero d cells c e = (0, omega arith, refl)
again (suc m) d cells c e =
    let r : (t : ℕ) × (m ≤ t) × (above t cells (Some c) ≡ Some c) = again m d cells c e in
    (r.0 + suc d, omega (arith, r.1), above_add r.0 (suc d) cells (Some c) ∙ (ap (λ o. above (suc d) cells o) r.2 ∙ e))

never_twice : (i d k : ℕ) (cells : List Cell) (o : Option CellId) (c : CellId) → above i cells o ≡ Some c → above (i + suc d) cells o ≡ Some c → above k cells o ≡ None → ⊥
never_twice i d k cells o c a b e =
    let loop : above (suc d) cells (Some c) ≡ Some c = ap (λ o. above (suc d) cells o) (sym a) ∙ (sym (above_add i (suc d) cells o) ∙ b) in
    let r : (t : ℕ) × (k ≤ t) × (above t cells (Some c) ≡ Some c) = again k d cells c loop in
    let far : above (i + r.0) cells o ≡ Some c = above_add i r.0 cells o ∙ (ap (λ o. above r.0 cells o) a ∙ r.2) in
    let n : i + r.0 ≡ k + (i + r.0 - k) = omega (arith, r.1) in
    let past : above (i + r.0) cells o ≡ None = ap (λ j. above j cells o) n ∙ (above_add k (i + r.0 - k) cells o ∙ (ap (λ o. above (i + r.0 - k) cells o) e ∙ above_none (i + r.0 - k) cells)) in
    let both : None ≡ Some c = sym past ∙ far in cc

-- each prototype is a cell of the heap
abbrev pub InHeap : List Cell → Type 0
InHeap cells = (n : ℕ) (x : Cell) (c : CellId) → slice_get cells n ≡ Some x → x.proto ≡ Some c → c.0 < length cells

pub some_within : (n : ℕ) (o : Option CellId) (c : CellId) → IfSome o (λ q. q.0 < n) → o ≡ Some c → c.0 < n
some_within n None c w e = absurd (cc)
some_within n (Some q) c w e = let s : q.0 ≡ c.0 = ap (λ (i : CellId). i.0) (same_Some q c e) in omega arith

pub within_if : (cells : List Cell) (n : ℕ) (x : Cell) (p : Option CellId) → InHeap cells → slice_get cells n ≡ Some x → x.proto ≡ p → IfSome p (λ q. q.0 < length cells)
within_if cells n x None h e w = tt
within_if cells n x (Some c) h e w = h n x c e w

proto_within : (cells : List Cell) (n : ℕ) (o : Option Cell) → InHeap cells → slice_get cells n ≡ o → IfSome (proto_by o) (λ q. q.0 < length cells)
proto_within cells n None h e = tt
proto_within cells n (Some x) h e = within_if cells n x x.proto h e refl

within_above : (k : ℕ) (cells : List Cell) (o : Option CellId) (c : CellId) → InHeap cells → IfSome o (λ q. q.0 < length cells) → above k cells o ≡ Some c → c.0 < length cells
within_above zero cells o c h w e = some_within (length cells) o c w e
within_above (suc k) cells None c h w e = absurd (cc)
within_above (suc k) cells (Some q) c h w e = within_above k cells (proto_by (slice_get cells q.0)) c h (proto_within cells q.0 (slice_get cells q.0) h refl) e

some_by : (i d : ℕ) (cells : List Cell) (o : Option CellId) (c : CellId) (r : Option CellId) → above (i + d) cells o ≡ Some c → above i cells o ≡ r → (b : CellId) × (above i cells o ≡ Some b)
some_by i d cells o c None e q = absurd (let a : None ≡ Some c = sym (above_add i d cells o ∙ (ap (λ r. above d cells r) q ∙ above_none d cells)) ∙ e in cc)
some_by i d cells o c (Some b) e q = (b, q)

-- a chain that goes so far is somewhere at each step before
pub some_before : (i n : ℕ) (cells : List Cell) (o : Option CellId) (c : CellId) → i ≤ n → above n cells o ≡ Some c → (b : CellId) × (above i cells o ≡ Some b)
some_before i n cells o c l e =
    let s : i + (n - i) ≡ n = omega arith in
    some_by i (n - i) cells o c (above i cells o) (ap (λ j. above j cells o) s ∙ e) refl

-- numbers below m, of which no two are equal, are m at most
abbrev squeezed : (ℕ → ℕ) → ℕ → ℕ → ℕ → ℕ
squeezed f m n i = if f i == m then f n else f i

squeezed_either : (f : ℕ → ℕ) (m n i : ℕ) → ((f i ≡ m) × (squeezed f m n i ≡ f n)) ⊎ ((f i ≢ m) × (squeezed f m n i ≡ f i))
squeezed_either f m n i = by_number (f i) m (((f i ≡ m) × (squeezed f m n i ≡ f n)) ⊎ ((f i ≢ m) × (squeezed f m n i ≡ f i)))
    (λ e. inl (e, rw (eq-eqb (f i) m e) refl))
    (λ d. inr (d, rw (ne_eqb (f i) m d) refl))

squeezed_into : (n m : ℕ) (f : ℕ → ℕ) → ((i : ℕ) → i < suc n → f i < suc m) → ((i j : ℕ) → i < suc n → j < suc n → f i ≡ f j → i ≡ j) → (i : ℕ) → i < n → squeezed f m n i < m
squeezed_into n m f into one i l =
    let a : f i < suc m = into i (omega arith) in
    let b : f n < suc m = into n (omega arith) in
    let d : f i ≢ f n = λ e. let s : i ≡ n = one i n (omega arith) (omega arith) e in absurd (omega arith) in
    elim (squeezed_either f m n i) as (λ _. squeezed f m n i < m) [ inl w ↦ let v : f i ≡ m = w.0 in let u : squeezed f m n i ≡ f n = w.1 in omega arith | inr w ↦ let v : f i ≢ m = w.0 in let u : squeezed f m n i ≡ f i = w.1 in omega arith ]

squeezed_one : (n m : ℕ) (f : ℕ → ℕ) → ((i j : ℕ) → i < suc n → j < suc n → f i ≡ f j → i ≡ j) → (i j : ℕ) → i < n → j < n → squeezed f m n i ≡ squeezed f m n j → i ≡ j
squeezed_one n m f one i j p q e =
    elim (squeezed_either f m n i) as (λ _. i ≡ j) [
      | inl v ↦ elim (squeezed_either f m n j) as (λ _. i ≡ j) [
        | inl w ↦ one i j (omega arith) (omega arith) (v.0 ∙ sym w.0)
        | inr w ↦ let s : n ≡ j = one n j (omega arith) (omega arith) (sym v.1 ∙ (e ∙ w.1)) in absurd (omega arith)
      ]
      | inr v ↦ elim (squeezed_either f m n j) as (λ _. i ≡ j) [
        | inl w ↦ let s : i ≡ n = one i n (omega arith) (omega arith) (sym v.1 ∙ (e ∙ w.1)) in absurd (omega arith)
        | inr w ↦ one i j (omega arith) (omega arith) (sym v.1 ∙ (e ∙ w.1))
      ]
    ]

pub pigeonhole : (n m : ℕ) (f : ℕ → ℕ) → ((i : ℕ) → i < n → f i < m) → ((i j : ℕ) → i < n → j < n → f i ≡ f j → i ≡ j) → n ≤ m
pigeonhole zero m f into one = omega arith
pigeonhole (suc n) zero f into one = let a : f n < 0 = into n (omega arith) in absurd (omega arith)
pigeonhole (suc n) (suc m) f into one =
    let less : n ≤ m = pigeonhole n m (squeezed f m n) (squeezed_into n m f into one) (squeezed_one n m f one) in omega arith

abbrev pub number_of : Option CellId → ℕ
number_of None = 0
number_of (Some c) = c.0

-- two steps of a chain that ends come to two cells
pub steps_apart : (cells : List Cell) (o : Option CellId) (k n i j : ℕ) (c : CellId) → above k cells o ≡ None → above n cells o ≡ Some c → i < j → j ≤ n → number_of (above i cells o) ≡ number_of (above j cells o) → ⊥
steps_apart cells o k n i j c e g l h q =
    let a : (b : CellId) × (above i cells o ≡ Some b) = some_before i n cells o c (omega arith) g in
    let b : (b : CellId) × (above j cells o ≡ Some b) = some_before j n cells o c h g in
    let s : a.0.0 ≡ b.0.0 = sym (ap number_of a.1) ∙ (q ∙ ap number_of b.1) in
    let t : Some b.0 ≡ Some a.0 = ap (λ r. Some (id r)) (sym s) in
    let r : i + suc (j - suc i) ≡ j = omega arith in
    never_twice i (j - suc i) k cells o a.0 a.1 (ap (λ r. above r cells o) r ∙ (b.1 ∙ t)) e

short_by : (cells : List Cell) (o r : Option CellId) → InHeap cells → IfSome o (λ q. q.0 < length cells) → (k : ℕ) → above k cells o ≡ None → above (length cells) cells o ≡ r → above (length cells) cells o ≡ None
short_by cells o None h w k e q = q
short_by cells o (Some c) h w k e q =
    let l : suc (length cells) ≤ length cells = pigeonhole (suc (length cells)) (length cells) (λ i. number_of (above i cells o))
    (λ i l. let b : (b : CellId) × (above i cells o ≡ Some b) = some_before i (length cells) cells o c (omega arith) q in rw b.1 (within_above i cells o b.0 h w b.1))
    (λ i j a b s. by_number i j (i ≡ j) (λ e. e) (λ d. elim (one_less i j d) as (λ _. i ≡ j) [
      | inl t ↦ absurd (steps_apart cells o k (length cells) i j c e q t (omega arith) s)
      | inr t ↦ absurd (steps_apart cells o k (length cells) j i c e q t (omega arith) (sym s))
    ])) in
    absurd (omega arith)

short : (cells : List Cell) (o : Option CellId) → InHeap cells → Ends cells → IfSome o (λ q. q.0 < length cells) → above (length cells) cells o ≡ None
short cells o h s w = let a : (k : ℕ) × (above k cells o ≡ None) = ends_of cells o s in short_by cells o (above (length cells) cells o) h w a.0 a.1 refl

-- ---- what is looked at

comes_true : (left : ℕ) (cells : List Cell) (n : ℕ) (o : Option CellId) → comes_to left cells n o ≡ true → Closes cells n o
unfolding comes_to
comes_true zero cells n o e = absurd (cc)
comes_true (suc left) cells n None e = absurd (cc)
comes_true (suc left) cells n (Some c) e = by_number c.0 n (Closes cells n (Some c))
    (λ s. (0, ap (λ i. Some (id i)) s))
    (λ d. let r : Closes cells n (proto_by (slice_get cells c.0)) = comes_true left cells n (proto_by (slice_get cells c.0)) (rw (ne_eqb c.0 n d) at e) in (suc r.0, r.1))

true_comes : (k left : ℕ) (cells : List Cell) (n : ℕ) (o : Option CellId) → k < left → above k cells o ≡ Some (id n) → comes_to left cells n o ≡ true
unfolding comes_to
true_comes k zero cells n o h e = absurd (omega arith)
true_comes k (suc left) cells n None h e = absurd (let a : None ≡ Some (id n) = sym (above_none k cells) ∙ e in cc)
true_comes zero (suc left) cells n (Some c) h e = let s : c.0 ≡ n = ap (λ (q : CellId). q.0) (same_Some c (id n) e) in rw (eq-eqb c.0 n s) refl
true_comes (suc k) (suc left) cells n (Some c) h e = by_number c.0 n ((if c.0 == n then true else comes_to left cells n (proto_by (slice_get cells c.0))) ≡ true)
    (λ s. rw (eq-eqb c.0 n s) refl)
    (λ d. rw (ne_eqb c.0 n d) (true_comes k left cells n (proto_by (slice_get cells c.0)) (omega arith) e))

within_or_past : (n k : ℕ) → (n < k) ⊎ (k ≤ n)
within_or_past n zero = inr (omega arith)
within_or_past zero (suc k) = inl (omega arith)
within_or_past (suc n) (suc k) = elim (within_or_past n k) as (λ _. (suc n < suc k) ⊎ (suc k ≤ suc n)) [ inl a ↦ inl (omega arith) | inr b ↦ inr (omega arith) ]

pub closes_true : (cells : List Cell) (n : ℕ) (o : Option CellId) → comes_to (length cells) cells n o ≡ true → Closes cells n o
closes_true cells n o e = comes_true (length cells) cells n o e

pub true_closes : (cells : List Cell) (n : ℕ) (o : Option CellId) → InHeap cells → Ends cells → IfSome o (λ q. q.0 < length cells) → Closes cells n o → comes_to (length cells) cells n o ≡ true
true_closes cells n o h s w c = elim (within_or_past c.0 (length cells)) as (λ _. comes_to (length cells) cells n o ≡ true) [
  | inl l ↦ true_comes c.0 (length cells) cells n o l c.1
  | inr l ↦
      let r : length cells + (c.0 - length cells) ≡ c.0 = omega arith in
      let past : above c.0 cells o ≡ None = ap (λ j. above j cells o) (sym r) ∙ (above_add (length cells) (c.0 - length cells) cells o ∙ (ap (λ q. above (c.0 - length cells) cells q) (short cells o h s w) ∙ above_none (c.0 - length cells) cells)) in
      absurd (let both : None ≡ Some (id n) = sym past ∙ c.1 in cc)
]

-- ---- one step of looking

pub comes_none : (left : ℕ) (cells : List Cell) (n : ℕ) → false ≡ comes_to left cells n None
unfolding comes_to
comes_none zero cells n = refl
comes_none (suc left) cells n = refl

pub comes_here : (left l : ℕ) (cells : List Cell) (n : ℕ) (c : CellId) → left ≡ suc l → c.0 ≡ n → true ≡ comes_to left cells n (Some c)
unfolding comes_to
comes_here left l cells n c e h = rw (e, eq-eqb c.0 n h) refl

pub comes_on : (left l : ℕ) (cells : List Cell) (n : ℕ) (c : CellId) (x : Cell) → left ≡ suc l → c.0 ≢ n → slice_get cells c.0 ≡ Some x → comes_to left cells n (Some c) ≡ comes_to l cells n x.proto
unfolding comes_to
comes_on left l cells n c x e h g = rw (e, ne_eqb c.0 n h, g) refl

pub comes_short : (left : ℕ) (cells : List Cell) (n : ℕ) (p : Option CellId) → left ≤ 0 → false ≡ comes_to left cells n p
unfolding comes_to
comes_short left cells n p h = let e : left ≡ 0 = omega arith in rw e refl
