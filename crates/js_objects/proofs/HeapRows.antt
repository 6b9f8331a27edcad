-- What one cell's change does to the heap.
use Rattle.std.proofs.Common.{◌≡◌, ◌≢◌, ℕ, zero, suc, ◌<◌, ◌≤◌, List, [], ◌∷◌, ◌++◌, ◌+◌, ◌-◌, refl, sym, ap, subst, ◌∙◌, length, arith, inl, inr, ◌⊎◌, Option, Some, None, Result, Ok, Err}
use Rattle.std.specs.Prelude.{slice_get, slice_set, slice_index_or, if◌then◌else◌, true, false, Bool, ◌==◌, OnErr, OnOk, IfSome, IfNone, option_map, IsErrOf, ◌↔◌, ◌&&◌, ◌^◌, is_some}
use Rattle.std.proofs.lemmas.Option.{same_Some, slice_get_read, slice_get_within}
use Rattle.door.specs.declared.values.Actor.{Actor}
use Rattle.js_objects.specs.declared.values.CellId.{CellId}
use Rattle.std.proofs.lemmas.Bool.{eq-eqb, ne_eqb}
use Rattle.std.proofs.lemmas.List.{length-append}
use Rattle.js_objects.specs.declared.values.Standard.{Standard}
use Rattle.js_objects.specs.declared.values.HeapFault.{HeapFault}
use Rattle.js_objects.specs.declared.values.HeapFault.TheVariants as fault
use Rattle.js_objects.specs.declared.cell.Cell.{Cell}
use Rattle.js_objects.specs.declared.owner.Owner.{Owner}
use Rattle.std.specs.Cmp.Lexicographic.{bytes_decides}
use Rattle.std.specs.Str.{bytes_eq}
use Rattle.js_semantics.specs.Names.{value_in, bound_in}
use Rattle.js_objects.specs.declared.values.Slot.{Slot}
use Rattle.js_objects.specs.declared.bindings.Binding.{Binding}
use Rattle.js_objects.specs.SlotsModel.{name_in, name_put}
use Rattle.js_objects.specs.Naming.{Names, value_of, bindings_of, holder_of, reference_of, MayHavePlace}
use Rattle.js_semantics.specs.Machine.{Machine}
use Rattle.js_semantics.specs.Natives.{closes}
use Rattle.js_objects.specs.MachineChains.{HasChain}
use Rattle.js_objects.proofs.MachineChains.{machine_closes}
use Rattle.js_objects.proofs.Lists.{by_number, get_set_same, get_set_other, set_same, length_set, length_snoc, get_left, get_right, get_kept, get_added, get_one, by_last}
use Rattle.js_objects.specs.ChainsModel.{comes_to}
use Rattle.js_objects.proofs.OwnerRows.{length_none}
use Rattle.js_objects.proofs.Chains.{ends_pushed, ends_kept, ends_set, some_within, InHeap, closes_true, true_closes}
use Rattle.js_objects.proofs.Standards.{set_within}
use Rattle.js_objects.proofs.Within.{read_sound, name_sound, proto_sound, place_sound, sound_more, fresh_sound}
use Rattle.js_semantics.specs.Properties.{own_of}
use Rattle.js_objects.specs.declared.values.Prop.{Prop}
use Rattle.js_objects.specs.declared.values.TheConstants.{PLACE_LIMIT}
use Rattle.js_objects.specs.Defines.{ReadsAs}
use Rattle.js_objects.specs.declared.values.Form.{Form}
use Rattle.js_objects.specs.declared.values.Form.TheVariants.{Array}
use Rattle.js_objects.specs.Within.{FormWithin, IdWithin, CellSound, PropWithin, SlotWithin}
use Rattle.js_objects.specs.Heaps.{with_place, fresh_cell, standards_by, Store, Closes, Ends, HasPlace, SameOwners, SameRest, CountsOne, AtLimit, Changed, Sound, owned, places, standards, count_of, count_by, places_by, cell_by, no_cells, HasMorePlaces, SetsFor, SkipsPlaces, GivesPlace, IsSet, HasStandard, SetsStandard, id}

-- ---- reads

pub len_within : (h now : Store) (n k : ℕ) → h ≡ now → k ≡ length h.cells → n < length now.cells → n < k
len_within h now n k v e l = let a : n < length h.cells = rw v l in omega arith

pub cell_here : (h now : Store) (n : ℕ) (x : Cell) → h ≡ now → n < length now.cells → x ≡ slice_index_or h.cells n x → slice_get h.cells n ≡ Some x
cell_here h now n x v l e = slice_get_read h.cells (length h.cells) n x refl (rw v l) e

pub same_cell : (h now : Store) (n : ℕ) (x y : Cell) → h ≡ now → n < length now.cells → x ≡ slice_index_or h.cells n x → slice_get now.cells n ≡ Some y → x ≡ y
same_cell h now n x y v l e g = same_Some x y (sym (cell_here h now n x v l e) ∙ rw v g)

pub here_sound : (h now : Store) (n : ℕ) (x : Cell) → h ≡ now → Sound h → n < length now.cells → x ≡ slice_index_or h.cells n x → CellSound (length now.cells) x
here_sound h now n x v s l e = rw (← v) (s.cell n x (cell_here h now n x v l e))

pub proto_in : (h now : Store) (n : ℕ) (x : Cell) → h ≡ now → Sound h → n < length now.cells → x ≡ slice_index_or h.cells n x → IfSome x.proto (λ p. p.0 < length now.cells)
proto_in h now n x v s l e = (here_sound h now n x v s l e).proto

pub own_in : (h now : Store) (n : ℕ) (x : Cell) (key : List ℕ) (o : Option Prop) → h ≡ now → Sound h → n < length now.cells → x ≡ slice_index_or h.cells n x → ReadsAs (λ names. own_of (holder_of names x) key) o → IfSome o (PropWithin (length now.cells))
own_in h now n x key o v s l e r = read_sound (length now.cells) x key o (here_sound h now n x v s l e) r

pub name_in_scope : (h now : Store) (n : ℕ) (x : Cell) (name : List ℕ) (o : Option Slot) → h ≡ now → Sound h → n < length now.cells → x ≡ slice_index_or h.cells n x → o ≡ name_in name x.bindings → IfSome o (SlotWithin (length now.cells))
name_in_scope h now n x name o v s l e q = rw q (name_sound (length now.cells) name x.bindings (here_sound h now n x v s l e).bindings)

-- what is asked of a number of cells is asked of that of the heap's own
pub at_count : (P : ℕ → Type 0) (h now : Store) → h ≡ now → P (length now.cells) → P (length h.cells)
at_count P h now v p = subst (λ (s : Store). P (length s.cells)) (sym v) p

-- prototypes are cells of the heap
pub protos_of : (h : Store) → Sound h → InHeap h.cells
protos_of h s = λ n x c g w. some_within (length h.cells) x.proto c (s.cell n x g).proto w

-- ---- one cell is written

pub owned_set : (i : ℕ) (xs : List Cell) (n : ℕ) (x y : Cell) → slice_get xs n ≡ Some x → y.owner ≡ x.owner → owned i (slice_set xs n y) ≡ owned i xs
owned_set i [] n x y e o = refl
owned_set i (z ∷ xs) zero x y e o = let s : z.owner ≡ y.owner = ap (λ (k : Cell). k.owner) (same_Some z x e) ∙ sym o in rw s refl
owned_set i (z ∷ xs) (suc n) x y e o = rw (owned_set i xs n x y e o) refl

-- what a call keeps of the cell that it changes
pub record Stays (h : Store) (n : ℕ) (x y : Cell) : Type 0 where
  pub owner : y.owner ≡ x.owner
  pub place : y.place ≡ x.place
  pub sound : CellSound (length h.cells) y
  pub ends : Ends (slice_set h.cells n y)

pub same_head : (h : Store) (n : ℕ) (x y : Cell) → Sound h → slice_get h.cells n ≡ Some x → y.owner ≡ x.owner → y.place ≡ x.place → y.proto ≡ x.proto → CellSound (length h.cells) y → Stays h n x y
same_head h n x y s e o p q d = record { owner = o; place = p; sound = d; ends = ends_kept h.cells n x y e q s.ends }

with_place_set : (i : ℕ) (xs : List Cell) (n : ℕ) (x y : Cell) → slice_get xs n ≡ Some x → y.owner ≡ x.owner → y.place ≡ x.place → with_place i (slice_set xs n y) ≡ with_place i xs
with_place_set i [] n x y e o p = refl
with_place_set i (z ∷ xs) zero x y e o p =
    let same : z ≡ x = same_Some z x e in
    let s : z.owner ≡ y.owner = ap (λ (k : Cell). k.owner) same ∙ sym o in
    let q : z.place ≡ y.place = ap (λ (k : Cell). k.place) same ∙ sym p in
    rw (s, q) refl
with_place_set i (z ∷ xs) (suc n) x y e o p = rw (with_place_set i xs n x y e o p) refl

has_place_was : (xs : List Cell) (n k i p : ℕ) (x y : Cell) → slice_get xs n ≡ Some x → y.owner ≡ x.owner → y.place ≡ x.place → HasPlace i p (slice_get (slice_set xs n y) k) → HasPlace i p (slice_get xs k)
has_place_was xs n k i p x y e o q = by_number k n (HasPlace i p (slice_get (slice_set xs n y) k) → HasPlace i p (slice_get xs k))
    (λ s w. let v : (y.owner.0 ≡ i) × (y.place ≡ Some p) = rw (s, get_set_same xs n y x e) at w in rw (s, e) (ap (λ (a : Actor). a.0) (sym o) ∙ v.0, sym q ∙ v.1))
    (λ d w. rw (get_set_other xs n k y d) at w)

pub has_place_now : (xs : List Cell) (n k i p : ℕ) (x y : Cell) → slice_get xs n ≡ Some x → y.owner ≡ x.owner → y.place ≡ x.place → HasPlace i p (slice_get xs k) → HasPlace i p (slice_get (slice_set xs n y) k)
has_place_now xs n k i p x y e o q = by_number k n (HasPlace i p (slice_get xs k) → HasPlace i p (slice_get (slice_set xs n y) k))
    (λ s w. let v : (x.owner.0 ≡ i) × (x.place ≡ Some p) = rw (s, e) at w in rw (s, get_set_same xs n y x e) (ap (λ (a : Actor). a.0) o ∙ v.0, q ∙ v.1))
    (λ d w. rw (get_set_other xs n k y d) w)

pub same_places : (h k : Store) (i : ℕ) → k.owners ≡ h.owners → places k i ≡ places h i
unfolding places
same_places h k i e = rw e refl

same_standards : (h k : Store) (i : ℕ) → k.owners ≡ h.owners → standards k i ≡ standards h i
unfolding standards
same_standards h k i e = rw e refl

same_count : (h k : Store) (i : ℕ) → k.owners ≡ h.owners → count_of k i ≡ count_of h i
unfolding count_of
same_count h k i e = rw e refl

pub changed_sound : (h k : Store) (n : ℕ) (x y : Cell) → Sound h → slice_get h.cells n ≡ Some x → k.cells ≡ slice_set h.cells n y → k.owners ≡ h.owners → Stays h n x y → Sound k
changed_sound h k n x y s e c o t = record {
  counted = λ i. same_count h k i o ∙ (s.counted i ∙ (sym (owned_set i h.cells n x y e t.owner) ∙ ap (owned i) (sym c)));
  placed = λ i p d w. rw c (has_place_now h.cells n d.0 i p x y e t.owner t.place (s.placed i p d (rw (same_places h k i o) at w)));
  listed = λ i p j w. rw (same_places h k i o) (s.listed i p j (has_place_was h.cells n j i p x y e t.owner t.place (rw c at w)));
  cell = λ j z g. rw (c, length_set h.cells n y) (by_number j n (CellSound (length h.cells) z)
      (λ q. let a : Some y ≡ Some z = sym (get_set_same h.cells n y x e) ∙ (rw (c, q) at g) in subst (λ (m : Cell). CellSound (length h.cells) m) (same_Some y z a) t.sound)
      (λ q. s.cell j z (sym (get_set_other h.cells n j y q) ∙ (rw c at g))));
  standard = λ i u d w. rw (c, length_set h.cells n y) (s.standard i u d (rw (same_standards h k i o) at w));
  ends = rw c t.ends;
  bound = rw (c, length_set h.cells n y) s.bound;
  places_bound = λ i. rw (same_places h k i o, c, with_place_set i h.cells n x y e t.owner t.place) (s.places_bound i);
}

pub changed : (h now k : Store) (n : ℕ) (x y : Cell) (P : Cell → Cell → Type 0) → h ≡ now → slice_get h.cells n ≡ Some x → k ≡ record h { cells = slice_set h.cells n y } → P x y → Changed now k n P
changed h now k n x y P v e w r = record { before = x; after = y; was = rw (← v) e; now = rw (← v) w; row = r }

pub unchanged : (h now k : Store) (n : ℕ) (x y : Cell) → h ≡ now → slice_get h.cells n ≡ Some x → k ≡ record h { cells = slice_set h.cells n y } → y ≡ x → k ≡ now
unchanged h now k n x y v e w q = w ∙ (rw (q, set_same h.cells n x e) v)

pub on_ok : {A E : Type 0} (r : Result A E) {P Q : Type 0} → (P → Q) → OnOk r P → OnOk r Q
on_ok (Ok a) g h = g h
on_ok (Err e) g h = tt

pub on_err : {A E : Type 0} (r : Result A E) {P Q : Type 0} → (P → Q) → OnErr r P → OnErr r Q
on_err (Ok a) g h = tt
on_err (Err e) g h = g h

-- what is no array has no elements
pub dense_in : (xs ys : List Cell) (n : ℕ) (x y z : Cell) → slice_get xs n ≡ Some x → ys ≡ slice_set xs n y → slice_get ys n ≡ Some z → CellSound (length xs) y → z.form ≢ Array → z.elements ≡ []
dense_in xs ys n x y z e c g s = let same : y ≡ z = same_Some y z (sym (get_set_same xs n y x e) ∙ (rw c at g)) in rw (← same) s.dense

-- ---- owners' entries change and no cell does

pub same_sound : (h k : Store) → Sound h → k.cells ≡ h.cells → SameOwners h.owners k.owners → Sound k
unfolding places count_of standards
same_sound h k s c o = record {
  counted = λ i. o.in_count i ∙ (s.counted i ∙ ap (owned i) (sym c));
  placed = λ i p d w. rw c (s.placed i p d (rw (o.in_places i) at w));
  listed = λ i p n w. rw (o.in_places i) (s.listed i p n (rw c at w));
  cell = λ n x w. rw c (s.cell n x (rw c at w));
  standard = λ i t d w. rw c (s.standard i t d (rw (o.in_standards i) at w));
  ends = rw c s.ends;
  bound = rw c s.bound;
  places_bound = λ i. rw (o.in_places i, c) (s.places_bound i);
}

pub same_rest : (h now k : Store) → h ≡ now → SameOwners h.owners k.owners → k.limit ≡ h.limit → SameRest now k
unfolding places standards
same_rest h now k v o l = rw (← v) (record { in_places = o.in_places; in_standards = o.in_standards; in_limit = l })

-- ---- a cell is added

pub owned_pushed : (i : ℕ) (xs : List Cell) (x : Cell) → owned i (xs ++ x ∷ []) ≡ (if x.owner.0 == i then suc (owned i xs) else owned i xs)
owned_pushed i [] x = refl
owned_pushed i (y ∷ ys) x =
    elim (y.owner.0 == i) as (λ b. (if b then suc (owned i (ys ++ x ∷ [])) else owned i (ys ++ x ∷ [])) ≡ (if x.owner.0 == i then suc (if b then suc (owned i ys) else owned i ys) else (if b then suc (owned i ys) else owned i ys))) [
      | true ↦ rw (owned_pushed i ys x) (elim (x.owner.0 == i) as (λ d. suc (if d then suc (owned i ys) else owned i ys) ≡ (if d then suc (suc (owned i ys)) else suc (owned i ys))) [ true ↦ refl | false ↦ refl ])
      | false ↦ owned_pushed i ys x
    ]

pub has_place_left : (xs ys : List Cell) (k i p : ℕ) → HasPlace i p (slice_get xs k) → HasPlace i p (slice_get (xs ++ ys) k)
has_place_left [] ys k i p h = absurd h
has_place_left (z ∷ xs) ys zero i p h = h
has_place_left (z ∷ xs) ys (suc k) i p h = has_place_left xs ys k i p h

pub has_place_old : (xs : List Cell) (x : Cell) (k i p : ℕ) → x.place ≡ None → HasPlace i p (slice_get (xs ++ x ∷ []) k) → HasPlace i p (slice_get xs k)
has_place_old [] x zero i p e h = let v : None ≡ Some p = sym e ∙ h.1 in absurd (cc)
has_place_old [] x (suc k) i p e h = absurd h
has_place_old (z ∷ xs) x zero i p e h = h
has_place_old (z ∷ xs) x (suc k) i p e h = has_place_old xs x k i p e h

with_place_pushed : (i : ℕ) (xs : List Cell) (x : Cell) → x.place ≡ None → with_place i (xs ++ x ∷ []) ≡ with_place i xs
with_place_pushed i [] x e = elim (x.owner.0 == i) as (λ b. (if b && is_some x.place then suc zero else zero) ≡ zero) [ true ↦ rw e refl | false ↦ refl ]
with_place_pushed i (y ∷ ys) x e =
    elim (y.owner.0 == i && is_some y.place) as (λ b. (if b then suc (with_place i (ys ++ x ∷ [])) else with_place i (ys ++ x ∷ [])) ≡ (if b then suc (with_place i ys) else with_place i ys)) [
      | true ↦ ap (λ n. suc n) (with_place_pushed i ys x e)
      | false ↦ with_place_pushed i ys x e
    ]

pub added_sound : (h k : Store) (x : Cell) → Sound h → k.cells ≡ h.cells ++ x ∷ [] → CountsOne x.owner.0 h.owners k.owners → x.place ≡ None → x.proto ≡ None → CellSound (length h.cells) x → length h.cells < 2 ^ 31 → Sound k
unfolding places count_of standards
added_sound h k x s c o e t a l = record {
  counted = λ i. by_number i x.owner.0 (count_of k i ≡ owned i k.cells)
      (λ j.
      let b : (x.owner.0 == i) ≡ true = eq-eqb x.owner.0 i (sym j) in
      let q : count_by (slice_get k.owners i) ≡ suc (owned i h.cells) = rw j (o.own ∙ ap (λ n. suc n) (s.counted x.owner.0)) in
      rw (c, owned_pushed i h.cells x, b) q)
      (λ d.
      let b : (x.owner.0 == i) ≡ false = ne_eqb x.owner.0 i (λ w. d (sym w)) in
      rw (c, owned_pushed i h.cells x, b) (o.others i d ∙ s.counted i));
  placed = λ i p d w. rw c (has_place_left h.cells (x ∷ []) d.0 i p (s.placed i p d (rw (o.in_places i) at w)));
  listed = λ i p n w. rw (o.in_places i) (s.listed i p n (has_place_old h.cells x n i p e (rw c at w)));
  cell = λ n z w. rw (c, length_snoc h.cells x) (by_last h.cells x z n (CellSound (suc (length h.cells)) z) (rw c at w)
      (λ g. sound_more (length h.cells) z (s.cell n z g))
      (λ q g. rw g (sound_more (length h.cells) x a)));
  standard = λ i u d w. let b : d.0 < length h.cells = s.standard i u d (rw (o.in_standards i) at w) in rw (c, length_snoc h.cells x) (omega (arith, b));
  ends = rw c (ends_pushed h.cells x t s.ends);
  bound = rw (c, length_snoc h.cells x) (omega (arith, l));
  places_bound = λ i. rw (o.in_places i, c, with_place_pushed i h.cells x e) (s.places_bound i);
}

pub fresh_in : (h now : Store) (x : Cell) (owner : Actor) (form : Form) (outer : Option CellId) → h ≡ now → x ≡ fresh_cell owner form outer → FormWithin (length now.cells) form → IdWithin (length now.cells) outer → CellSound (length h.cells) x
fresh_in h now x owner form outer v e a b = rw (v, e) (fresh_sound (length now.cells) owner form outer a b)

pub bound_here : (h now : Store) → h ≡ now → length now.cells < 2 ^ 31 → length h.cells < 2 ^ 31
bound_here h now v l = rw v l

pub added_rest : (h now k : Store) (n : ℕ) → h ≡ now → CountsOne n h.owners k.owners → k.limit ≡ h.limit → SameRest now k
unfolding places standards
added_rest h now k n v o l = rw (← v) (record { in_places = o.in_places; in_standards = o.in_standards; in_limit = l })

pub limit_owned : {A : Type 0} (r : Result A HeapFault) (h now : Store) (i : ℕ) → h ≡ now → Sound h → AtLimit r (h.limit ≤ count_by (slice_get h.owners i)) → AtLimit r (now.limit ≤ owned i now.cells)
unfolding count_of
limit_owned r h now i v s a = rw (← v) (subst (λ (n : ℕ). AtLimit r (h.limit ≤ n)) (s.counted i) a)

-- ---- places are given and skipped

get_none : (n k : ℕ) (o : Option CellId) → slice_get (no_cells n) k ≡ Some o → o ≡ None
get_none zero k o e = absurd (cc)
get_none (suc n) zero o e = sym (same_Some None o e)
get_none (suc n) (suc k) o e = get_none n k o e

none_there : (n k : ℕ) → k < n → slice_get (no_cells n) k ≡ Some None
none_there zero k h = absurd (omega arith)
none_there (suc n) zero h = refl
none_there (suc n) (suc k) h = none_there n k (omega arith)

skipped_bound : (i n to : ℕ) (old : List (Option CellId)) (cells : List Cell) → n ≡ to - length old → to ≤ PLACE_LIMIT → length old ≤ PLACE_LIMIT + with_place i cells → length (old ++ no_cells n) ≤ PLACE_LIMIT + with_place i cells
skipped_bound i n to old cells e l b =
    let a : length (old ++ no_cells n) ≡ length old + n = length-append old (no_cells n) ∙ ap (λ k. length old + k) (length_none n) in
    omega (arith, a, e, l, b)

pub skipped_sound : (h k : Store) (i n to : ℕ) → Sound h → k.cells ≡ h.cells → n ≡ to - length (places_by (slice_get h.owners i)) → to ≤ PLACE_LIMIT → HasMorePlaces i (no_cells n) h.owners k.owners → Sound k
unfolding places count_of standards
skipped_sound h k i n to s c m l o = record {
  counted = λ j. o.in_count j ∙ (s.counted j ∙ ap (owned j) (sym c));
  placed = λ j p d w. rw c (by_number j i (HasPlace j p (slice_get h.cells d.0))
      (λ q. get_added (places h i) (no_cells n) p (Some d) (HasPlace j p (slice_get h.cells d.0)) (rw (q, o.own) at w)
      (λ old. s.placed j p d (rw q old))
      (λ t f g. absurd (let e : Some d ≡ None = get_none n t (Some d) g in cc)))
      (λ q. s.placed j p d (rw (o.others j q) at w)));
  listed = λ j p m w. by_number j i (slice_get (places_by (slice_get k.owners j)) p ≡ Some (Some (id m)))
      (λ q. let old : slice_get (places h j) p ≡ Some (Some (id m)) = s.listed j p m (rw c at w) in rw (q, o.own) (get_kept (places h i) (no_cells n) p (Some (id m)) (rw q at old)))
      (λ q. rw (o.others j q) (s.listed j p m (rw c at w)));
  cell = λ m x w. rw c (s.cell m x (rw c at w));
  standard = λ j t d w. rw c (s.standard j t d (rw (o.in_standards j) at w));
  ends = rw c s.ends;
  bound = rw c s.bound;
  places_bound = λ j. rw c (by_number j i (length (places_by (slice_get k.owners j)) ≤ PLACE_LIMIT + with_place j h.cells)
      (λ q. rw (q, o.own) (skipped_bound i n to (places_by (slice_get h.owners i)) h.cells m l (s.places_bound i)))
      (λ q. rw (o.others j q) (s.places_bound j)));
}

pub skipped : (h now k : Store) (i to : ℕ) → h ≡ now → HasMorePlaces i (no_cells (to - length (places_by (slice_get h.owners i)))) h.owners k.owners → k.limit ≡ h.limit → SkipsPlaces now k i to
unfolding places standards
skipped h now k i to v o l = rw (← v) (record {
  next = rw o.own (length-append (places h i) (no_cells (to - length (places h i))) ∙ ap (λ n. length (places h i) + n) (length_none (to - length (places h i))));
  before = λ p b. rw o.own (get_left (places h i) (no_cells (to - length (places h i))) p b);
  empty = λ p b t.
      let e : p ≡ length (places h i) + (p - length (places h i)) = omega arith in
      let m : p - length (places h i) < to - length (places h i) = omega arith in
      rw o.own (subst (λ (q : ℕ). slice_get (places h i ++ no_cells (to - length (places h i))) q ≡ Some None) (sym e)
      (get_right (places h i) (no_cells (to - length (places h i))) (p - length (places h i)) ∙ none_there (to - length (places h i)) (p - length (places h i)) m));
  others = o.others;
  in_standards = o.in_standards;
  in_limit = l;
})

has_place_none : (xs : List Cell) (n i p : ℕ) (x : Cell) → slice_get xs n ≡ Some x → x.place ≡ None → HasPlace i p (slice_get xs n) → ⊥
has_place_none xs n i p x e q w = let v : (x.owner.0 ≡ i) × (x.place ≡ Some p) = rw e at w in let a : None ≡ Some p = sym q ∙ v.1 in cc

-- a cell without a place is changed
pub has_place_kept : (xs : List Cell) (n k i p : ℕ) (x y : Cell) → slice_get xs n ≡ Some x → x.place ≡ None → HasPlace i p (slice_get xs k) → HasPlace i p (slice_get (slice_set xs n y) k)
has_place_kept xs n k i p x y e q w = by_number k n (HasPlace i p (slice_get (slice_set xs n y) k))
    (λ s. absurd (has_place_none xs n i p x e q (rw s at w)))
    (λ d. rw (get_set_other xs n k y d) w)

has_place_here : (xs : List Cell) (n p : ℕ) (x y : Cell) → slice_get xs n ≡ Some x → y.owner ≡ x.owner → y.place ≡ Some p → HasPlace x.owner.0 p (slice_get (slice_set xs n y) n)
has_place_here xs n p x y e o q = rw (get_set_same xs n y x e) (ap (λ (a : Actor). a.0) o, q)

with_place_given : (i : ℕ) (xs : List Cell) (n p : ℕ) (x y : Cell) → slice_get xs n ≡ Some x → x.place ≡ None → y.owner ≡ x.owner → y.place ≡ Some p → x.owner.0 ≡ i → with_place i (slice_set xs n y) ≡ suc (with_place i xs)
with_place_given i [] n p x y e z o q h = absurd (cc)
with_place_given i (w ∷ xs) zero p x y e z o q h =
    let same : w ≡ x = same_Some w x e in
    let s : w.owner ≡ x.owner = ap (λ (k : Cell). k.owner) same in
    let r : w.place ≡ None = ap (λ (k : Cell). k.place) same ∙ z in
    let b : (x.owner.0 == i) ≡ true = eq-eqb x.owner.0 i h in
    rw (o, q, s, r, b) refl
with_place_given i (w ∷ xs) (suc n) p x y e z o q h =
    elim (w.owner.0 == i && is_some w.place) as (λ b. (if b then suc (with_place i (slice_set xs n y)) else with_place i (slice_set xs n y)) ≡ suc (if b then suc (with_place i xs) else with_place i xs)) [
      | true ↦ ap (λ k. suc k) (with_place_given i xs n p x y e z o q h)
      | false ↦ with_place_given i xs n p x y e z o q h
    ]

with_place_other : (i : ℕ) (xs : List Cell) (n : ℕ) (x y : Cell) → slice_get xs n ≡ Some x → y.owner ≡ x.owner → x.owner.0 ≢ i → with_place i (slice_set xs n y) ≡ with_place i xs
with_place_other i [] n x y e o d = refl
with_place_other i (w ∷ xs) zero x y e o d =
    let s : w.owner ≡ x.owner = ap (λ (k : Cell). k.owner) (same_Some w x e) in
    let b : (x.owner.0 == i) ≡ false = ne_eqb x.owner.0 i d in
    rw (o, s, b) refl
with_place_other i (w ∷ xs) (suc n) x y e o d = rw (with_place_other i xs n x y e o d) refl

with_place_most : (i : ℕ) (xs : List Cell) → with_place i xs ≤ length xs
with_place_most i [] = omega arith
with_place_most i (x ∷ xs) =
    let h : with_place i xs ≤ length xs = with_place_most i xs in
    elim (x.owner.0 == i && is_some x.place) as (λ b. (if b then suc (with_place i xs) else with_place i xs) ≤ suc (length xs)) [ true ↦ omega (arith, h) | false ↦ omega (arith, h) ]

-- so the number of a place is never too great
pub few_places : (h : Store) (i : ℕ) → Sound h → length (places_by (slice_get h.owners i)) < 2 ^ 32 - 1
unfolding places
few_places h i s =
    let a : length (places_by (slice_get h.owners i)) ≤ PLACE_LIMIT + with_place i h.cells = s.places_bound i in
    let b : with_place i h.cells ≤ length h.cells = with_place_most i h.cells in
    let c : length h.cells ≤ 2 ^ 31 = s.bound in
    omega (arith, a, b, c)

given_bound : (h k : Store) (n p i : ℕ) (x y : Cell) → Sound h → slice_get h.cells n ≡ Some x → x.place ≡ None → y.owner ≡ x.owner → y.place ≡ Some p → k.cells ≡ slice_set h.cells n y → HasMorePlaces x.owner.0 (Some (id n) ∷ []) h.owners k.owners → length (places k i) ≤ PLACE_LIMIT + with_place i k.cells
unfolding places
given_bound h k n p i x y s e z u v c o = by_number i x.owner.0 (length (places_by (slice_get k.owners i)) ≤ PLACE_LIMIT + with_place i k.cells)
    (λ j.
    let a : length (places_by (slice_get k.owners i)) ≡ suc (length (places_by (slice_get h.owners i))) = rw (j, o.own) (length_snoc (places_by (slice_get h.owners x.owner.0)) (Some (id n))) in
    let b : with_place i k.cells ≡ suc (with_place i h.cells) = rw c (with_place_given i h.cells n p x y e z u v (sym j)) in
    let d : length (places_by (slice_get h.owners i)) ≤ PLACE_LIMIT + with_place i h.cells = s.places_bound i in
    omega (arith, a, b, d))
    (λ j. rw (o.others i j, c, with_place_other i h.cells n x y e u (λ w. j (sym w))) (s.places_bound i))

pub given_sound : (h k : Store) (n p : ℕ) (x y : Cell) → Sound h → slice_get h.cells n ≡ Some x → x.place ≡ None → y.owner ≡ x.owner → y.place ≡ Some p → y.proto ≡ x.proto → k.cells ≡ slice_set h.cells n y
    → p ≡ length (places_by (slice_get h.owners x.owner.0)) → HasMorePlaces x.owner.0 (Some (id n) ∷ []) h.owners k.owners → CellSound (length h.cells) y → Sound k
unfolding places count_of standards
given_sound h k n p x y s e z u v t c l o a = record {
  counted = λ i. o.in_count i ∙ (s.counted i ∙ (sym (owned_set i h.cells n x y e u) ∙ ap (owned i) (sym c)));
  placed = λ i q d w. rw c (by_number i x.owner.0 (HasPlace i q (slice_get (slice_set h.cells n y) d.0))
      (λ j. get_added (places h x.owner.0) (Some (id n) ∷ []) q (Some d) (HasPlace i q (slice_get (slice_set h.cells n y) d.0)) (rw (j, o.own) at w)
      (λ old. has_place_kept h.cells n d.0 i q x y e z (s.placed i q d (rw j old)))
      (λ m f g. let a : (m ≡ 0) × (Some d ≡ Some (id n)) = get_one (Some (id n)) (Some d) m g in
      let b : d.0 ≡ n = cc in
      let r : q ≡ p = omega arith in
      rw (b, j, r) (has_place_here h.cells n p x y e u v)))
      (λ j. has_place_kept h.cells n d.0 i q x y e z (s.placed i q d (rw (o.others i j) at w))));
  listed = λ i q m w. by_number m n (slice_get (places_by (slice_get k.owners i)) q ≡ Some (Some (id m)))
      (λ j. let a : (y.owner.0 ≡ i) × (y.place ≡ Some q) = rw (c, j, get_set_same h.cells n y x e) at w in
      let b : i ≡ x.owner.0 = sym a.0 ∙ ap (λ (f : Actor). f.0) u in
      let r : Some p ≡ Some q = sym v ∙ a.1 in
      let f : q ≡ length (places h x.owner.0) + 0 = omega (arith, same_Some p q r) in
      rw (j, b, o.own, f) (get_right (places h x.owner.0) (Some (id n) ∷ []) 0))
      (λ j. let old : slice_get (places h i) q ≡ Some (Some (id m)) = s.listed i q m (rw (get_set_other h.cells n m y j) at (rw c at w)) in
      by_number i x.owner.0 (slice_get (places_by (slice_get k.owners i)) q ≡ Some (Some (id m)))
      (λ f. rw (f, o.own) (get_kept (places h x.owner.0) (Some (id n) ∷ []) q (Some (id m)) (rw f at old)))
      (λ f. rw (o.others i f) old));
  cell = λ j b g. rw (c, length_set h.cells n y) (by_number j n (CellSound (length h.cells) b)
      (λ q. let r : Some y ≡ Some b = sym (get_set_same h.cells n y x e) ∙ (rw (c, q) at g) in subst (λ (m : Cell). CellSound (length h.cells) m) (same_Some y b r) a)
      (λ q. s.cell j b (sym (get_set_other h.cells n j y q) ∙ (rw c at g))));
  standard = λ i f d w. rw (c, length_set h.cells n y) (s.standard i f d (rw (o.in_standards i) at w));
  ends = rw c (ends_kept h.cells n x y e t s.ends);
  bound = rw (c, length_set h.cells n y) s.bound;
  places_bound = λ i. given_bound h k n p i x y s e z u v c o;
}

pub given : (h now k : Store) (n p : ℕ) (x y z : Cell) → h ≡ now → slice_get h.cells n ≡ Some x → x.place ≡ None → y ≡ record x { place = Some p } → k.cells ≡ slice_set h.cells n y → k.limit ≡ h.limit
    → p ≡ length (places_by (slice_get h.owners x.owner.0)) → HasMorePlaces x.owner.0 (Some (id n) ∷ []) h.owners k.owners → slice_get now.cells n ≡ Some z → GivesPlace now k n p z z.place
unfolding places standards
given h now k n p x y z v e q w c l t o g =
    let a : x ≡ z = same_Some x z (sym e ∙ rw v g) in
    rw (← a, q, ← v) (record {
      next = t;
      in_cells = rw (← w) c;
      in_places = o.own;
      others = o.others;
      in_standards = o.in_standards;
      in_limit = l;
    })

pub has_place : (h now k : Store) (n p : ℕ) (x z : Cell) → h ≡ now → slice_get h.cells n ≡ Some x → x.place ≡ Some p → k ≡ now → slice_get now.cells n ≡ Some z → GivesPlace now k n p z z.place
has_place h now k n p x z v e q w g = let a : x ≡ z = same_Some x z (sym e ∙ rw v g) in rw (← a, q) (refl, w)

-- ---- standard prototypes

pub standard_put_sound : (h k : Store) (i : ℕ) (t : Standard) (c : CellId) → Sound h → k.cells ≡ h.cells → c.0 < length h.cells → SetsFor i t c h.owners k.owners → Sound k
unfolding places count_of standards
standard_put_sound h k i t c s e a o = record {
  counted = λ j. o.in_count j ∙ (s.counted j ∙ ap (owned j) (sym e));
  placed = λ j p d w. rw e (s.placed j p d (rw (o.in_places j) at w));
  listed = λ j p n w. rw (o.in_places j) (s.listed j p n (rw e at w));
  cell = λ n x w. rw e (s.cell n x (rw e at w));
  standard = λ j u d w. rw e (by_number j i (d.0 < length h.cells)
      (λ q. set_within (length h.cells) t u c d (standards_by (slice_get h.owners i)) (standards_by (slice_get k.owners i)) o.own a (λ g. s.standard i u d g) (rw q at w))
      (λ q. s.standard j u d (rw (o.others j q) at w)));
  ends = rw e s.ends;
  bound = rw e s.bound;
  places_bound = λ j. rw (o.in_places j, e) (s.places_bound j);
}

pub standard_put : (h now k : Store) (i : ℕ) (t : Standard) (c : CellId) → h ≡ now → SetsFor i t c h.owners k.owners → k.limit ≡ h.limit → SetsStandard now k i t c
unfolding places standards
standard_put h now k i t c v o l = rw (← v) (record {
  set = o.own.set;
  one = o.own.one;
  rest = o.own.rest;
  others = o.others;
  in_places = o.in_places;
  in_limit = l;
})

pub standard_some : (h now : Store) (i : ℕ) (e : Owner) (t : Standard) (o : Option CellId) → h ≡ now → slice_get h.owners i ≡ Some e → IfSome o (λ c. IsSet e.standards.items t c) → IfSome o (λ c. HasStandard now i t c)
unfolding standards
standard_some h now i e t None v g w = tt
standard_some h now i e t (Some c) v g w = rw (← v, g) w

pub standard_none : (h now : Store) (i : ℕ) (e : Owner) (t : Standard) (o : Option CellId) → h ≡ now → slice_get h.owners i ≡ Some e → IfNone o ((c : CellId) → IsSet e.standards.items t c → ⊥) → IfNone o ((c : CellId) → HasStandard now i t c → ⊥)
unfolding standards
standard_none h now i e t None v g w = λ c s. w c (rw (← v, g) at s)
standard_none h now i e t (Some c) v g w = tt

pub standard_out : (h now : Store) (i : ℕ) (t : Standard) → h ≡ now → slice_get h.owners i ≡ None → (c : CellId) → HasStandard now i t c → ⊥
unfolding standards
standard_out h now i t v g c s = rw (← v, g) at s

pub standard_in : (h now : Store) (i : ℕ) (t : Standard) (o : Option CellId) → h ≡ now → Sound h → IfSome o (λ c. HasStandard now i t c) → IfSome o (λ c. c.0 < length now.cells)
standard_in h now i t None v s w = tt
standard_in h now i t (Some c) v s w = rw (← v) (s.standard i t c (rw (← v) at w))

-- ---- the empty heap, and counts

pub empty_sound : (h : Store) → h.cells ≡ [] → h.owners ≡ [] → Sound h
unfolding places count_of standards
empty_sound h c o = record {
  counted = λ i. rw (c, o) refl;
  placed = λ i p d w. absurd (let v : None ≡ Some (Some d) = rw o at w in cc);
  listed = λ i p n w. absurd (rw c at w);
  cell = λ n x w. absurd (let v : None ≡ Some x = rw c at w in cc);
  standard = λ i t d w. absurd (rw o at w);
  ends = rw c (λ n. (1, refl));
  bound = rw c (omega arith);
  places_bound = λ i. rw (o, c) (omega arith);
}

pub room_some : (h now : Store) (i r : ℕ) (e : Owner) → h ≡ now → Sound h → slice_get h.owners i ≡ Some e → r ≡ h.limit - e.cells → r ≡ now.limit - owned i now.cells
unfolding count_of
room_some h now i r e v s g q = let k : e.cells ≡ owned i h.cells = (rw g at (s.counted i)) in rw (← v) (q ∙ ap (λ n. h.limit - n) k)

pub room_none : (h now : Store) (i : ℕ) → h ≡ now → Sound h → slice_get h.owners i ≡ None → h.limit ≡ now.limit - owned i now.cells
unfolding count_of
room_none h now i v s g = let k : 0 ≡ owned i h.cells = (rw g at (s.counted i)) in rw (← v) (omega arith)

pub room_full : (r limit n : ℕ) → r ≡ limit - n → (r ≡ 0) ↔ (limit ≤ n)
room_full r limit n e = (λ a. omega (arith, e, a), λ a. omega (arith, e, a))

-- ---- names of a scope

find_named : (names : Names) (key : List ℕ) (xs : List Binding) → value_in (bindings_of names xs) key ≡ option_map (value_of names) (name_in key xs)
find_named names key [] = refl
find_named names key (x ∷ xs) = elim (bytes_eq x.name key) as (λ b. (if b then Some (value_of names x.value) else value_in (bindings_of names xs) key) ≡ option_map (value_of names) (if b then Some x.value else name_in key xs)) [ true ↦ refl | false ↦ find_named names key xs ]

pub bound_named : (names : Names) (key : List ℕ) (xs : List Binding) (o : Option Slot) → o ≡ name_in key xs → value_in (bindings_of names xs) key ≡ option_map (value_of names) o
bound_named names key xs o e = find_named names key xs ∙ ap (option_map (value_of names)) (sym e)

put_names : (names : Names) (key : List ℕ) (v : Slot) (xs : List Binding) → bindings_of names (name_put key v xs) ≡ bound_in (bindings_of names xs) key (value_of names v)
put_names names key v [] = refl
put_names names key v (x ∷ xs) =
    elim (bytes_eq x.name key) as (λ b. bytes_eq x.name key ≡ b → bindings_of names (if b then record { name = x.name; value = v } ∷ xs else x ∷ name_put key v xs) ≡ (if b then record { name = key; value = value_of names v } ∷ bindings_of names xs else record { name = x.name; value = value_of names x.value } ∷ bound_in (bindings_of names xs) key (value_of names v))) [
      | true ↦ λ e. let k : x.name ≡ key = (bytes_decides x.name key).0 e in cc
      | false ↦ λ e. let r : bindings_of names (name_put key v xs) ≡ bound_in (bindings_of names xs) key (value_of names v) = put_names names key v xs in cc
    ] refl

pub put_named : (names : Names) (key : List ℕ) (v : Slot) (xs ys : List Binding) → ys ≡ name_put key v xs → bindings_of names ys ≡ bound_in (bindings_of names xs) key (value_of names v)
put_named names key v xs ys e = rw e (put_names names key v xs)

-- ---- the cell at a place

cell_item : (o : Option (Option CellId)) (c : CellId) → cell_by o ≡ Some c → o ≡ Some (Some c)
cell_item None c e = absurd (cc)
cell_item (Some o) c e = ap (λ x. Some x) e

placed_within : (cells : List Cell) (i p n : ℕ) → HasPlace i p (slice_get cells n) → n < length cells
placed_within [] i p n h = absurd h
placed_within (x ∷ xs) i p zero h = omega arith
placed_within (x ∷ xs) i p (suc n) h = let l : n < length xs = placed_within xs i p n h in omega (arith, l)

pub place_some : (h now : Store) (i p : ℕ) (e : Owner) (o : Option CellId) → h ≡ now → Sound h → slice_get h.owners i ≡ Some e → o ≡ cell_by (slice_get e.places.items p) → IfSome o (λ c. HasPlace i p (slice_get now.cells c.0))
unfolding places
place_some h now i p e None v s g q = tt
place_some h now i p e (Some c) v s g q = rw (← v) (s.placed i p c (rw g (cell_item (slice_get e.places.items p) c (sym q))))

pub place_none : (h now : Store) (i p : ℕ) (e : Owner) (o : Option CellId) → h ≡ now → Sound h → slice_get h.owners i ≡ Some e → o ≡ cell_by (slice_get e.places.items p) → IfNone o ((n : ℕ) → HasPlace i p (slice_get now.cells n) → ⊥)
unfolding places
place_none h now i p e None v s g q = λ n w.
    let a : slice_get e.places.items p ≡ Some (Some (id n)) = rw g at (s.listed i p n (rw (← v) at w)) in
    let b : None ≡ Some (id n) = q ∙ ap (λ x. cell_by x) a in cc
place_none h now i p e (Some c) v s g q = tt

pub place_out : (h now : Store) (i p : ℕ) → h ≡ now → Sound h → slice_get h.owners i ≡ None → (n : ℕ) → HasPlace i p (slice_get now.cells n) → ⊥
unfolding places
place_out h now i p v s g n w = let a : None ≡ Some (Some (id n)) = rw g at (s.listed i p n (rw (← v) at w)) in cc

pub place_in : (cells : List Cell) (i p : ℕ) (o : Option CellId) → IfSome o (λ c. HasPlace i p (slice_get cells c.0)) → IfSome o (λ c. c.0 < length cells)
place_in cells i p None w = tt
place_in cells i p (Some c) w = placed_within cells i p c.0 w

-- ---- a prototype is set

not_both_ways : (b k : Bool) → b ≡ false → b ≡ k → k ≡ true → ⊥
not_both_ways b k f q t = let e : false ≡ true = sym f ∙ (q ∙ t) in cc

pub proto_stays : (h now : Store) (n : ℕ) (x : Cell) (p : Option CellId) (b : Bool) → h ≡ now → Sound h → slice_get h.cells n ≡ Some x → IfSome p (λ q. q.0 < length now.cells) → b ≡ false → b ≡ comes_to (length now.cells) now.cells n p → Stays h n x (record x { proto = p })
proto_stays h now n x p b v s e l f q = record {
  owner = refl;
  place = refl;
  sound = proto_sound (length h.cells) x p (s.cell n x e) (rw v l);
  ends = ends_set h.cells n x (record x { proto = p }) e (λ w. not_both_ways b (comes_to (length now.cells) now.cells n p) f q (true_closes now.cells n p (rw v at (protos_of h s)) (rw v at s.ends) l (rw v at w))) s.ends;
}

pub closed : {A : Type 0} (r : Result A HeapFault) (now : Store) (n : ℕ) (p : Option CellId) (b : Bool) → r ≡ Err fault.Cycle → b ≡ true → b ≡ comes_to (length now.cells) now.cells n p → IsErrOf r fault.Cycle ↔ Closes now.cells n p
closed r now n p b e t q = (λ w. closes_true now.cells n p (sym q ∙ t), λ w. e)

no_error : {A : Type 0} (a : A) (r : Result A HeapFault) → r ≡ Ok a → r ≡ Err fault.Cycle → ⊥
no_error a r e w = cc

pub not_closed : {A : Type 0} (a : A) (r : Result A HeapFault) (h now : Store) (n : ℕ) (p : Option CellId) (b : Bool) → r ≡ Ok a → h ≡ now → Sound h → IfSome p (λ q. q.0 < length now.cells) → b ≡ false → b ≡ comes_to (length now.cells) now.cells n p → IsErrOf r fault.Cycle ↔ Closes now.cells n p
not_closed a r h now n p b e v s l f q = (λ w. absurd (no_error a r e w), λ w. absurd (not_both_ways b (comes_to (length now.cells) now.cells n p) f q (true_closes now.cells n p (rw v at (protos_of h s)) (rw v at s.ends) l w)))

-- in the heap and in a machine that has the chain
pub closed_there : {A : Type 0} (r : Result A HeapFault) (names : Names) (machine : Machine) (h now : Store) (n : ℕ) (p : Option CellId) → h ≡ now → Sound h → HasChain names machine now.cells n p → (IsErrOf r fault.Cycle ↔ Closes now.cells n p) → IsErrOf r fault.Cycle ↔ (closes machine (names.reference n) (reference_of names p) ≡ true)
closed_there r names machine h now n p v s a b =
    let both : (closes machine (names.reference n) (reference_of names p) ≡ true) ↔ Closes now.cells n p = machine_closes names machine now.cells n p (rw v at s.ends) a in
    (λ e. both.1 (b.0 e), λ e. b.1 (both.0 e))

-- ---- by what is answered

pub by_result : {A E : Type 0} (r : Result A E) {P Q R : Type 0} → OnOk r P → OnErr r Q → (P → R) → (Q → R) → R
by_result (Ok a) p q f g = f p
by_result (Err e) p q f g = g q

pub err_of : {A E : Type 0} (r : Result A E) {P : Type 0} → P → OnErr r P
err_of (Ok a) p = tt
err_of (Err e) p = p

pub not_at_limit : (h now : Store) (x : Cell) (i : ℕ) → h ≡ now → Sound h → x.owner.0 ≡ i → (h.limit ≤ count_by (slice_get h.owners x.owner.0) → ⊥) → now.limit ≤ owned i now.cells → ⊥
unfolding count_of
not_at_limit h now x i v s e d l = d (rw (e, s.counted i) (rw (← v) at l))

same_limit : (A B : Type 0) (f : HeapFault) (P Q : Type 0) → (P → Q) → AtLimit {A = A} (Err f) P → AtLimit {A = B} (Err f) Q
same_limit A B fault.CellLimit P Q g l = g l
same_limit A B fault.NoMemory P Q g l = tt
same_limit A B fault.Cycle P Q g l = l
same_limit A B fault.Sparse P Q g l = l
same_limit A B fault.Kind P Q g l = l

pub at_limit : (A B : Type 0) (r : Result A HeapFault) (q : Result B HeapFault) (f : HeapFault) (h now : Store) (x : Cell) (i : ℕ) → r ≡ Err f → q ≡ Err f → h ≡ now → Sound h → x.owner.0 ≡ i → AtLimit q (h.limit ≤ count_by (slice_get h.owners x.owner.0)) → AtLimit r (now.limit ≤ owned i now.cells)
unfolding count_of
at_limit A B r q f h now x i a b v s e l = rw a (same_limit B A f (h.limit ≤ count_by (slice_get h.owners x.owner.0)) (now.limit ≤ owned i now.cells) (λ w. rw (← v) (rw (e, s.counted i) at w)) (rw b at l))

-- ---- a place is given, as the code goes

no_place_of : (o : Option ℕ) → ((q : ℕ) → o ≢ Some q) → o ≡ None
no_place_of None d = refl
no_place_of (Some q) d = absurd (d q refl)

pub given_all : (h k now : Store) (n p : ℕ) (a b x : Cell) → h ≡ now → Sound h → n < length now.cells → a ≡ slice_index_or h.cells n a → b ≡ slice_index_or h.cells n b → x ≡ slice_index_or h.cells n x → ((q : ℕ) → a.place ≢ Some q) → p ≡ length (places_by (slice_get h.owners b.owner.0)) → HasMorePlaces b.owner.0 (Some (id n) ∷ []) h.owners k.owners → k.cells ≡ slice_set h.cells n (record x { place = Some p }) → ((z : Cell) → slice_get now.cells n ≡ Some z → MayHavePlace z.form) → Sound k
given_all h k now n p a b x v s l ea eb ex d t o c m =
    let e : slice_get h.cells n ≡ Some x = cell_here h now n x v l ex in
    let sb : b ≡ x = same_Some b x (sym (cell_here h now n b v l eb) ∙ e) in
    let sa : a ≡ x = same_Some a x (sym (cell_here h now n a v l ea) ∙ e) in
    given_sound h k n p x (record x { place = Some p }) s e (no_place_of x.place (λ q w. d q (ap (λ (y : Cell). y.place) sa ∙ w))) refl refl refl c (rw sb at t) (rw sb at o) (place_sound (length h.cells) p x (s.cell n x e) (m x (rw v at e)))

pub gives_all : (h k now : Store) (n p : ℕ) (a b x z : Cell) → h ≡ now → n < length now.cells → a ≡ slice_index_or h.cells n a → b ≡ slice_index_or h.cells n b → x ≡ slice_index_or h.cells n x → ((q : ℕ) → a.place ≢ Some q) → p ≡ length (places_by (slice_get h.owners b.owner.0)) → HasMorePlaces b.owner.0 (Some (id n) ∷ []) h.owners k.owners → k.cells ≡ slice_set h.cells n (record x { place = Some p }) → k.limit ≡ h.limit → slice_get now.cells n ≡ Some z → GivesPlace now k n p z z.place
gives_all h k now n p a b x z v l ea eb ex d t o c m g =
    let e : slice_get h.cells n ≡ Some x = cell_here h now n x v l ex in
    let sb : b ≡ x = same_Some b x (sym (cell_here h now n b v l eb) ∙ e) in
    let sa : a ≡ x = same_Some a x (sym (cell_here h now n a v l ea) ∙ e) in
    given h now k n p x (record x { place = Some p }) z v e (no_place_of x.place (λ q w. d q (ap (λ (y : Cell). y.place) sa ∙ w))) refl c m (rw sb at t) (rw sb at o) g
