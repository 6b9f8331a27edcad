-- What one owner's entry is among the entries, and what its change does to them.
use Rattle.std.proofs.Common.{◌≡◌, ◌≢◌, ℕ, zero, suc, ◌+◌, ◌-◌, ◌<◌, ◌≤◌, List, [], ◌∷◌, ◌++◌, refl, sym, ap, ◌∙◌, length, append_assoc, arith, Option, Some, None}
use Rattle.std.specs.Prelude.{slice_get, slice_set}
use Rattle.std.proofs.lemmas.List.{length-append}
use Rattle.js_objects.specs.declared.values.CellId.{CellId}
use Rattle.js_objects.specs.declared.values.Standard.{Standard}
use Rattle.js_objects.specs.declared.owner.Owner.{Owner}
use Rattle.js_objects.specs.Heaps.{places_by, standards_by, count_by, SameOwners, CountsOne, HasMorePlaces, SetsFor, Sets, no_cells}
use Rattle.js_objects.proofs.Lists.{by_number, get_set_same, get_set_other}

-- ---- an empty entry is added

places_pushed : (ps : List Owner) (x : Owner) (i : ℕ) → x.places.items ≡ [] → places_by (slice_get (ps ++ x ∷ []) i) ≡ places_by (slice_get ps i)
places_pushed [] x zero e = e
places_pushed [] x (suc i) e = refl
places_pushed (y ∷ ys) x zero e = refl
places_pushed (y ∷ ys) x (suc i) e = places_pushed ys x i e

standards_pushed : (ps : List Owner) (x : Owner) (i : ℕ) → x.standards.items ≡ [] → standards_by (slice_get (ps ++ x ∷ []) i) ≡ standards_by (slice_get ps i)
standards_pushed [] x zero e = e
standards_pushed [] x (suc i) e = refl
standards_pushed (y ∷ ys) x zero e = refl
standards_pushed (y ∷ ys) x (suc i) e = standards_pushed ys x i e

count_pushed : (ps : List Owner) (x : Owner) (i : ℕ) → x.cells ≡ 0 → count_by (slice_get (ps ++ x ∷ []) i) ≡ count_by (slice_get ps i)
count_pushed [] x zero e = e
count_pushed [] x (suc i) e = refl
count_pushed (y ∷ ys) x zero e = refl
count_pushed (y ∷ ys) x (suc i) e = count_pushed ys x i e

pub same_pushed : (os ps qs : List Owner) (x : Owner) → SameOwners os ps → qs ≡ ps ++ x ∷ [] → x.cells ≡ 0 → x.places.items ≡ [] → x.standards.items ≡ [] → SameOwners os qs
same_pushed os ps qs x s e c p t = record {
  in_places = λ i. rw e (places_pushed ps x i p ∙ s.in_places i);
  in_standards = λ i. rw e (standards_pushed ps x i t ∙ s.in_standards i);
  in_count = λ i. rw e (count_pushed ps x i c ∙ s.in_count i);
}

pub same_kept : (os ps qs : List Owner) → SameOwners os ps → qs ≡ ps → SameOwners os qs
same_kept os ps qs s e = record {
  in_places = λ i. rw e (s.in_places i);
  in_standards = λ i. rw e (s.in_standards i);
  in_count = λ i. rw e (s.in_count i);
}

-- ---- an entry is written

place_here : (os ps : List Owner) (n : ℕ) (x : Owner) → SameOwners os ps → slice_get ps n ≡ Some x → x.places.items ≡ places_by (slice_get os n)
place_here os ps n x s e = rw e at (s.in_places n)

standards_here : (os ps : List Owner) (n : ℕ) (x : Owner) → SameOwners os ps → slice_get ps n ≡ Some x → x.standards.items ≡ standards_by (slice_get os n)
standards_here os ps n x s e = rw e at (s.in_standards n)

pub count_here : (os ps : List Owner) (n : ℕ) (x : Owner) → SameOwners os ps → slice_get ps n ≡ Some x → x.cells ≡ count_by (slice_get os n)
count_here os ps n x s e = rw e at (s.in_count n)

pub next_here : (os ps : List Owner) (n k : ℕ) (x : Owner) → SameOwners os ps → slice_get ps n ≡ Some x → k ≡ length x.places.items → k ≡ length (places_by (slice_get os n))
next_here os ps n k x s e q = q ∙ ap (λ xs. length xs) (place_here os ps n x s e)

places_set : (os ps : List Owner) (n i : ℕ) (x y : Owner) → SameOwners os ps → slice_get ps n ≡ Some x → y.places.items ≡ x.places.items → places_by (slice_get (slice_set ps n y) i) ≡ places_by (slice_get os i)
places_set os ps n i x y s e q = by_number i n (places_by (slice_get (slice_set ps n y) i) ≡ places_by (slice_get os i))
    (λ w. rw (w, get_set_same ps n y x e) (q ∙ place_here os ps n x s e))
    (λ d. ap (λ (o : Option Owner). places_by o) (get_set_other ps n i y d) ∙ s.in_places i)

standards_set : (os ps : List Owner) (n i : ℕ) (x y : Owner) → SameOwners os ps → slice_get ps n ≡ Some x → y.standards.items ≡ x.standards.items → standards_by (slice_get (slice_set ps n y) i) ≡ standards_by (slice_get os i)
standards_set os ps n i x y s e q = by_number i n (standards_by (slice_get (slice_set ps n y) i) ≡ standards_by (slice_get os i))
    (λ w. rw (w, get_set_same ps n y x e) (q ∙ standards_here os ps n x s e))
    (λ d. ap (λ (o : Option Owner). standards_by o) (get_set_other ps n i y d) ∙ s.in_standards i)

count_set : (os ps : List Owner) (n i : ℕ) (x y : Owner) → SameOwners os ps → slice_get ps n ≡ Some x → y.cells ≡ x.cells → count_by (slice_get (slice_set ps n y) i) ≡ count_by (slice_get os i)
count_set os ps n i x y s e q = by_number i n (count_by (slice_get (slice_set ps n y) i) ≡ count_by (slice_get os i))
    (λ w. rw (w, get_set_same ps n y x e) (q ∙ count_here os ps n x s e))
    (λ d. ap (λ (o : Option Owner). count_by o) (get_set_other ps n i y d) ∙ s.in_count i)

-- the entry holds what it props
pub same_written : (os ps : List Owner) (n : ℕ) (x y : Owner) → SameOwners os ps → slice_get ps n ≡ Some x → y.places.items ≡ x.places.items → y.standards.items ≡ x.standards.items → y.cells ≡ x.cells → SameOwners os (slice_set ps n y)
same_written os ps n x y s e p t c = record {
  in_places = λ i. places_set os ps n i x y s e p;
  in_standards = λ i. standards_set os ps n i x y s e t;
  in_count = λ i. count_set os ps n i x y s e c;
}

-- .. one cell more
pub one_more : (os ps : List Owner) (n : ℕ) (x y : Owner) → SameOwners os ps → slice_get ps n ≡ Some x → y.places.items ≡ x.places.items → y.standards.items ≡ x.standards.items → y.cells ≡ x.cells + 1 → CountsOne n os (slice_set ps n y)
one_more os ps n x y s e p t c = record {
  in_places = λ i. places_set os ps n i x y s e p;
  in_standards = λ i. standards_set os ps n i x y s e t;
  own = let k : x.cells ≡ count_by (slice_get os n) = count_here os ps n x s e in rw (get_set_same ps n y x e) (omega arith);
  others = λ i d. ap (λ (o : Option Owner). count_by o) (get_set_other ps n i y d) ∙ s.in_count i;
}

-- .. places more
pub places_more : (os ps : List Owner) (n : ℕ) (x y : Owner) (more : List (Option CellId)) → SameOwners os ps → slice_get ps n ≡ Some x → y.places.items ≡ x.places.items ++ more → y.standards.items ≡ x.standards.items → y.cells ≡ x.cells → HasMorePlaces n more os (slice_set ps n y)
places_more os ps n x y more s e p t c = record {
  own = rw (get_set_same ps n y x e) (p ∙ ap (λ r. r ++ more) (place_here os ps n x s e));
  others = λ i d. ap (λ (o : Option Owner). places_by o) (get_set_other ps n i y d) ∙ s.in_places i;
  in_standards = λ i. standards_set os ps n i x y s e t;
  in_count = λ i. count_set os ps n i x y s e c;
}

pub skipped_more : (os ps : List Owner) (n to : ℕ) (x y : Owner) → SameOwners os ps → slice_get ps n ≡ Some x → y.places.items ≡ x.places.items ++ no_cells (to - length x.places.items) → y.standards.items ≡ x.standards.items → y.cells ≡ x.cells → HasMorePlaces n (no_cells (to - length (places_by (slice_get os n)))) os (slice_set ps n y)
skipped_more os ps n to x y s e p t c = rw (← place_here os ps n x s e) (places_more os ps n x y (no_cells (to - length x.places.items)) s e p t c)

-- .. a prototype set
pub set_more : (os ps : List Owner) (n : ℕ) (x y : Owner) (s : Standard) (c : CellId) → SameOwners os ps → slice_get ps n ≡ Some x → Sets s c x.standards.items y.standards.items → y.places.items ≡ x.places.items → y.cells ≡ x.cells → SetsFor n s c os (slice_set ps n y)
set_more os ps n x y s c k e w p q = record {
  own = rw (get_set_same ps n y x e, ← standards_here os ps n x k e) w;
  others = λ i d. ap (λ (o : Option Owner). standards_by o) (get_set_other ps n i y d) ∙ k.in_standards i;
  in_places = λ i. places_set os ps n i x y k e p;
  in_count = λ i. count_set os ps n i x y k e q;
}

-- ---- places without a cell

pub length_none : (n : ℕ) → length (no_cells n) ≡ n
length_none zero = refl
length_none (suc n) = ap (λ k. suc k) (length_none n)

none_snoc : (n : ℕ) → no_cells n ++ None ∷ [] ≡ no_cells (suc n)
none_snoc zero = refl
none_snoc (suc n) = ap (λ xs. None ∷ xs) (none_snoc n)

no_more : (xs : List (Option CellId)) → xs ≡ xs ++ []
no_more [] = refl
no_more (x ∷ xs) = ap (λ r. x ∷ r) (no_more xs)

pub filled_first : (xs : List (Option CellId)) → xs ≡ xs ++ no_cells (length xs - length xs)
filled_first xs = let e : length xs - length xs ≡ 0 = omega arith in rw e (no_more xs)

pub filled_next : (xs ys zs : List (Option CellId)) → ys ≡ xs ++ no_cells (length ys - length xs) → zs ≡ ys ++ None ∷ [] → zs ≡ xs ++ no_cells (length zs - length xs)
filled_next xs ys zs e w =
    let l : length ys ≡ length xs + length (no_cells (length ys - length xs)) = ap (λ r. length r) e ∙ length-append xs (no_cells (length ys - length xs)) in
    let m : length (no_cells (length ys - length xs)) ≡ length ys - length xs = length_none (length ys - length xs) in
    let k : length zs ≡ length ys + 1 = ap (λ r. length r) w ∙ length-append ys (None ∷ []) in
    let n : length zs - length xs ≡ suc (length ys - length xs) = omega arith in
    rw (n, ← none_snoc (length ys - length xs), ← append_assoc xs (no_cells (length ys - length xs)) (None ∷ [])) (w ∙ ap (λ r. r ++ None ∷ []) e)

pub filled_less : (xs ys zs : List (Option CellId)) (n to : ℕ) → ys ≡ xs ++ no_cells (length ys - length xs) → zs ≡ ys ++ None ∷ [] → n ≡ length ys → n < to → length zs - length xs ≤ to - length xs
filled_less xs ys zs n to e w m h =
    let k : length zs ≡ length ys + 1 = ap (λ r. length r) w ∙ length-append ys (None ∷ []) in
    omega arith

pub filled_last : (xs ys : List (Option CellId)) (to : ℕ) → ys ≡ xs ++ no_cells (length ys - length xs) → length ys - length xs ≤ to - length xs → to ≤ length ys → ys ≡ xs ++ no_cells (to - length xs)
filled_last xs ys to e l h = let k : length ys - length xs ≡ to - length xs = omega arith in rw (← k) e
