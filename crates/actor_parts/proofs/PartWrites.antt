-- A cell is written: what the part of its owner becomes, and that the part of every other actor stays.
use Rattle.std.proofs.Common.{◌≡◌, ◌≢◌, ℕ, zero, suc, ◌-◌, List, [], ◌∷◌, refl, sym, ap, ◌∙◌, map, Option, Some, None}
use Rattle.std.specs.Prelude.{slice_get, slice_set, filter_map}
use Rattle.std.proofs.lemmas.Option.{same_Some}
use Rattle.door.specs.declared.values.Actor.{Actor}
use Rattle.door.specs.declared.values.Look.{Look}
use Rattle.door.specs.declared.values.Thing.{Thing}
use Rattle.door.specs.declared.zones.Zone.{Zone}
use Rattle.js_semantics.specs.Builtin.{Builtin}
use Rattle.js_semantics.specs.Machine.{MetThing, MetObject, with_cell, with_scope, with_thing, with_object}
use Rattle.js_objects.specs.declared.values.CellId.{CellId}
use Rattle.js_objects.specs.declared.values.Form.{Form}
use Rattle.js_objects.specs.declared.values.Form.TheVariants as f
use Rattle.js_objects.specs.declared.cell.Cell.{Cell}
use Rattle.js_objects.specs.Naming.{Names, slots_of, holder_of, scope_in}
use Rattle.js_objects.specs.Heaps.{Store, HasPlace, Sound, owned, places, id}
use Rattle.actor_parts.specs.Seats.{Role, Proper, Scoped, Met, Linked, role_of, Seat, seat_of, seats, rank, shape_at, names_of}
use Rattle.actor_parts.specs.Parts.{form_placed, number_placed, cell_placed, form_scope, form_thing, form_object, scope_here, thing_here, object_here, part_by, part}
use Rattle.actor_parts.specs.Changes.{Rewrites}
use Rattle.actor_parts.proofs.Lists.{by_number, get_set_same, get_set_other, set_same, map_agree, map_set_at}
use Rattle.actor_parts.proofs.Rows.{row_still, row_written, scope_tells, thing_tells, object_tells}

-- ---- what a write leaves

pub cells_now : (h k : Store) (n : ℕ) (x y : Cell) → Rewrites h k n x y → k.cells ≡ slice_set h.cells n y
cells_now h k n x y r = ap (λ (s : Store). s.cells) r.now

pub same_seats : (h k : Store) (n : ℕ) (x y : Cell) → Rewrites h k n x y → seats k ≡ seats h
unfolding seats
same_seats h k n x y r =
    let a : y.owner.0 ≡ x.owner.0 = ap (λ (o : Actor). o.0) r.owner in
    let q : seat_of y ≡ seat_of x = cc (a, r.form, r.place) in
    rw (cells_now h k n x y r) (set_same seat_of h.cells n x y r.was q)

pub same_places : (h k : Store) (i : ℕ) → k.owners ≡ h.owners → places k i ≡ places h i
unfolding places
same_places h k i e = rw e refl

owned_set : (i : ℕ) (xs : List Cell) (n : ℕ) (x y : Cell) → slice_get xs n ≡ Some x → y.owner ≡ x.owner → owned i (slice_set xs n y) ≡ owned i xs
owned_set i [] n x y e o = refl
owned_set i (z ∷ xs) zero x y e o =
    let u : y.owner ≡ z.owner = o ∙ ap (λ (c : Cell). c.owner) (sym (same_Some z x e)) in
    rw u refl
owned_set i (z ∷ xs) (suc n) x y e o = rw (owned_set i xs n x y e o) refl

same_room : (h k : Store) (n i : ℕ) (x y : Cell) → Rewrites h k n x y → k.limit - owned i k.cells ≡ h.limit - owned i h.cells
same_room h k n i x y r =
    let l : k.limit ≡ h.limit = ap (λ (s : Store). s.limit) r.now in
    rw (l, cells_now h k n x y r, owned_set i h.cells n x y r.was r.owner) refl

-- the part under the names that were there
named_before : (b : ℕ → Builtin) (z : Zone) (i : ℕ) (h k : Store) (n : ℕ) (x y : Cell) → Rewrites h k n x y → part b z i k ≡ part_by (names_of b h) (seats h) z i k
unfolding part
named_before b z i h k n x y r = rw (same_seats h k n x y r) refl

-- ---- places

number_other : (names : Names) (h k : Store) (n j : ℕ) (x y : Cell) → Rewrites h k n x y → j ≢ n → number_placed names j (slice_get k.cells j) ≡ number_placed names j (slice_get h.cells j)
number_other names h k n j x y r d = rw (cells_now h k n x y r, get_set_other h.cells n j y d) refl

number_now : (names : Names) (h k : Store) (n : ℕ) (x y : Cell) → Rewrites h k n x y → number_placed names n (slice_get k.cells n) ≡ form_placed names n y y.form
number_now names h k n x y r = rw (cells_now h k n x y r, get_set_same h.cells n y x r.was) refl

entry_alike : (names : Names) (h k : Store) (n : ℕ) (x y : Cell) → Rewrites h k n x y → (o : Option CellId) → ((c : CellId) → o ≡ Some c → c.0 ≡ n → form_placed names n y y.form ≡ form_placed names n x x.form) → cell_placed names k.cells o ≡ cell_placed names h.cells o
entry_alike names h k n x y r None same = refl
entry_alike names h k n x y r (Some c) same = by_number c.0 n (cell_placed names k.cells (Some c) ≡ cell_placed names h.cells (Some c))
    (λ d. rw d (number_now names h k n x y r ∙ (same c refl d ∙ ap (number_placed names n) (sym r.was))))
    (λ d. number_other names h k n c.0 x y r d)

places_alike : (names : Names) (h k : Store) (n i : ℕ) (x y : Cell) → Rewrites h k n x y → ((q : ℕ) (c : CellId) → slice_get (places h i) q ≡ Some (Some c) → c.0 ≡ n → form_placed names n y y.form ≡ form_placed names n x x.form) → map (cell_placed names k.cells) (places k i) ≡ map (cell_placed names h.cells) (places h i)
places_alike names h k n i x y r same =
    ap (map (cell_placed names k.cells)) (same_places h k i (ap (λ (s : Store). s.owners) r.now)) ∙
    map_agree (cell_placed names k.cells) (cell_placed names h.cells) (places h i) (λ q o e. entry_alike names h k n x y r o (λ c w d. same q c (e ∙ ap (λ u. Some u) w) d))

-- the cell at a place is this one where the owner and the place are this one's
placed_here : (h : Store) (i q n : ℕ) (c : CellId) (x : Cell) → Sound h → slice_get h.cells n ≡ Some x → slice_get (places h i) q ≡ Some (Some c) → c.0 ≡ n → (x.owner.0 ≡ i) × (x.place ≡ Some q)
placed_here h i q n c x s w e d = let a : HasPlace i q (slice_get h.cells c.0) = s.placed i q c e in rw (d, w) at a

none_some : (p : ℕ) (P : Type 0) → None ≡ Some p → P
none_some p P e = absurd (cc)

apart_of : (P : Type 0) (a b : Role) → a ≢ b → a ≡ b → P
apart_of P a b d e = absurd (d e)

pub proper_placed : (names : Names) (n : ℕ) (y : Cell) (form : Form) → y.form ≡ form → role_of form ≡ Proper → form_placed names n y y.form ≡ Some (holder_of names y)
proper_placed names n y f.Plain e d = rw e refl
proper_placed names n y f.Array e d = rw e refl
proper_placed names n y (f.Function code scope) e d = rw e refl
proper_placed names n y (f.Native k) e d = rw e refl
proper_placed names n y (f.Error name message) e d = rw e refl
proper_placed names n y (f.Forward owner c) e d = rw e refl
proper_placed names n y f.Scope e d = absurd (cc)
proper_placed names n y (f.Thing thing) e d = absurd (cc)
proper_placed names n y (f.Link owner c look) e d = absurd (cc)

-- what isn't a proper cell is the same at its place
others_placed : (names : Names) (n : ℕ) (x y : Cell) (form : Form) → x.form ≡ form → y.form ≡ form → role_of form ≢ Proper → form_placed names n y y.form ≡ form_placed names n x x.form
others_placed names n x y f.Scope e q d = rw (e, q) refl
others_placed names n x y (f.Thing thing) e q d = rw (e, q) refl
others_placed names n x y (f.Link owner c look) e q d = rw (e, q) refl
others_placed names n x y f.Plain e q d = absurd (d refl)
others_placed names n x y f.Array e q d = absurd (d refl)
others_placed names n x y (f.Function code scope) e q d = absurd (d refl)
others_placed names n x y (f.Native k) e q d = absurd (d refl)
others_placed names n x y (f.Error name message) e q d = absurd (d refl)
others_placed names n x y (f.Forward owner c) e q d = absurd (d refl)

-- the list of proper cells, where nothing of it is this cell's
places_still : (names : Names) (h k : Store) (n i : ℕ) (x y : Cell) → Sound h → Rewrites h k n x y → (x.owner.0 ≡ i → role_of x.form ≢ Proper) → map (cell_placed names k.cells) (places k i) ≡ map (cell_placed names h.cells) (places h i)
places_still names h k n i x y s r d = places_alike names h k n i x y r (λ q c e w.
    let a : (x.owner.0 ≡ i) × (x.place ≡ Some q) = placed_here h i q n c x s r.was e w in
    others_placed names n x y x.form refl r.form (d a.0))

-- .. a proper cell without a place
places_unplaced : (names : Names) (h k : Store) (n i : ℕ) (x y : Cell) → Sound h → Rewrites h k n x y → x.place ≡ None → map (cell_placed names k.cells) (places k i) ≡ map (cell_placed names h.cells) (places h i)
places_unplaced names h k n i x y s r d = places_alike names h k n i x y r (λ q c e w.
    let a : (x.owner.0 ≡ i) × (x.place ≡ Some q) = placed_here h i q n c x s r.was e w in
    none_some q (form_placed names n y y.form ≡ form_placed names n x x.form) (sym d ∙ a.1))

pub seated_here : (h : Store) (i p n : ℕ) (x : Cell) → Sound h → slice_get h.cells n ≡ Some x → x.owner.0 ≡ i → x.place ≡ Some p → slice_get (places h i) p ≡ Some (Some (id n))
seated_here h i p n x s w o e = s.listed i p n (rw w (o, e))

entry_apart : (names : Names) (h k : Store) (n i p q : ℕ) (x y : Cell) (o : Option CellId) → Sound h → Rewrites h k n x y → x.place ≡ Some p → q ≢ p → slice_get (places h i) q ≡ Some o → cell_placed names k.cells o ≡ cell_placed names h.cells o
entry_apart names h k n i p q x y o s r e d g = entry_alike names h k n x y r o (λ c w v.
    let a : (x.owner.0 ≡ i) × (x.place ≡ Some q) = placed_here h i q n c x s r.was (g ∙ ap (λ u. Some u) w) v in
    absurd (d (sym (same_Some p q (sym e ∙ a.1)))))

places_written : (names : Names) (h k : Store) (n i p : ℕ) (x y : Cell) → Sound h → Rewrites h k n x y → x.owner.0 ≡ i → x.place ≡ Some p → role_of x.form ≡ Proper → map (cell_placed names k.cells) (places k i) ≡ slice_set (map (cell_placed names h.cells) (places h i)) p (Some (holder_of names y))
places_written names h k n i p x y s r o e d =
    let here : slice_get (places h i) p ≡ Some (Some (id n)) = seated_here h i p n x s r.was o e in
    let now : cell_placed names k.cells (Some (id n)) ≡ Some (holder_of names y) = number_now names h k n x y r ∙ proper_placed names n y x.form r.form d in
    ap (map (cell_placed names k.cells)) (same_places h k i (ap (λ (s : Store). s.owners) r.now)) ∙
    (map_set_at (cell_placed names h.cells) (cell_placed names k.cells) (places h i) p (Some (id n)) here (λ q c w g. entry_apart names h k n i p q x y c s r e w g) ∙
    ap (λ c. slice_set (map (cell_placed names h.cells) (places h i)) p c) now)

-- ---- rows

scopes_still : (names : Names) (h k : Store) (n i : ℕ) (x y : Cell) → Rewrites h k n x y → (x.owner.0 ≡ i → role_of x.form ≢ Scoped) → filter_map (scope_here names i) k.cells ≡ filter_map (scope_here names i) h.cells
scopes_still names h k n i x y r d = rw (cells_now h k n x y r) (row_still (form_scope names) Scoped i h.cells n x y (scope_tells names) r.was r.owner r.form d)

things_still : (names : Names) (h k : Store) (n i : ℕ) (x y : Cell) → Rewrites h k n x y → (x.owner.0 ≡ i → role_of x.form ≢ Met) → filter_map (thing_here names i) k.cells ≡ filter_map (thing_here names i) h.cells
things_still names h k n i x y r d = rw (cells_now h k n x y r) (row_still (form_thing names) Met i h.cells n x y (thing_tells names) r.was r.owner r.form d)

objects_still : (names : Names) (s : List Seat) (h k : Store) (n i : ℕ) (x y : Cell) → Rewrites h k n x y → (x.owner.0 ≡ i → role_of x.form ≢ Linked) → filter_map (object_here names s i) k.cells ≡ filter_map (object_here names s i) h.cells
objects_still names s h k n i x y r d = rw (cells_now h k n x y r) (row_still (form_object names s) Linked i h.cells n x y (object_tells names s) r.was r.owner r.form d)

-- ---- the machine

not_role : (x : Cell) (i : ℕ) (a b : Role) → role_of x.form ≡ a → a ≢ b → x.owner.0 ≡ i → role_of x.form ≢ b
not_role x i a b e d o w = d (sym e ∙ w)

pub written_others : (b : ℕ → Builtin) (z : Zone) (h k : Store) (n i : ℕ) (x y : Cell) → Sound h → Rewrites h k n x y → i ≢ x.owner.0 → part b z i k ≡ part b z i h
unfolding part
written_others b z h k n i x y s r d =
    let names : Names = names_of b h in
    let p : map (cell_placed names k.cells) (places k i) ≡ map (cell_placed names h.cells) (places h i) = places_still names h k n i x y s r (λ o. absurd (d (sym o))) in
    let sc : filter_map (scope_here names i) k.cells ≡ filter_map (scope_here names i) h.cells = scopes_still names h k n i x y r (λ o. absurd (d (sym o))) in
    let th : filter_map (thing_here names i) k.cells ≡ filter_map (thing_here names i) h.cells = things_still names h k n i x y r (λ o. absurd (d (sym o))) in
    let ob : filter_map (object_here names (seats h) i) k.cells ≡ filter_map (object_here names (seats h) i) h.cells = objects_still names (seats h) h k n i x y r (λ o. absurd (d (sym o))) in
    let ro : k.limit - owned i k.cells ≡ h.limit - owned i h.cells = same_room h k n i x y r in
    named_before b z i h k n x y r ∙ cc (p, sc, th, ob, ro)

proper_not : (r : Role) → r ≢ Proper → Proper ≢ r
proper_not r d e = d (sym e)

pub written_cell : (b : ℕ → Builtin) (z : Zone) (h k : Store) (n i p : ℕ) (x y : Cell) → Sound h → Rewrites h k n x y → x.owner.0 ≡ i → x.place ≡ Some p → role_of x.form ≡ Proper → part b z i k ≡ with_cell (part b z i h) p (holder_of (names_of b h) y)
unfolding part
written_cell b z h k n i p x y s r o e d =
    let names : Names = names_of b h in
    let pl : map (cell_placed names k.cells) (places k i) ≡ slice_set (map (cell_placed names h.cells) (places h i)) p (Some (holder_of names y)) = places_written names h k n i p x y s r o e d in
    let sc : filter_map (scope_here names i) k.cells ≡ filter_map (scope_here names i) h.cells = scopes_still names h k n i x y r (not_role x i Proper Scoped d (λ w. absurd (cc))) in
    let th : filter_map (thing_here names i) k.cells ≡ filter_map (thing_here names i) h.cells = things_still names h k n i x y r (not_role x i Proper Met d (λ w. absurd (cc))) in
    let ob : filter_map (object_here names (seats h) i) k.cells ≡ filter_map (object_here names (seats h) i) h.cells = objects_still names (seats h) h k n i x y r (not_role x i Proper Linked d (λ w. absurd (cc))) in
    let ro : k.limit - owned i k.cells ≡ h.limit - owned i h.cells = same_room h k n i x y r in
    named_before b z i h k n x y r ∙ cc (pl, sc, th, ob, ro)

-- a proper cell that has no place yet is nowhere in the machine
pub written_unplaced : (b : ℕ → Builtin) (z : Zone) (h k : Store) (n i : ℕ) (x y : Cell) → Sound h → Rewrites h k n x y → x.place ≡ None → role_of x.form ≡ Proper → part b z i k ≡ part b z i h
unfolding part
written_unplaced b z h k n i x y s r e d =
    let names : Names = names_of b h in
    let pl : map (cell_placed names k.cells) (places k i) ≡ map (cell_placed names h.cells) (places h i) = places_unplaced names h k n i x y s r e in
    let sc : filter_map (scope_here names i) k.cells ≡ filter_map (scope_here names i) h.cells = scopes_still names h k n i x y r (not_role x i Proper Scoped d (λ w. absurd (cc))) in
    let th : filter_map (thing_here names i) k.cells ≡ filter_map (thing_here names i) h.cells = things_still names h k n i x y r (not_role x i Proper Met d (λ w. absurd (cc))) in
    let ob : filter_map (object_here names (seats h) i) k.cells ≡ filter_map (object_here names (seats h) i) h.cells = objects_still names (seats h) h k n i x y r (not_role x i Proper Linked d (λ w. absurd (cc))) in
    let ro : k.limit - owned i k.cells ≡ h.limit - owned i h.cells = same_room h k n i x y r in
    named_before b z i h k n x y r ∙ cc (pl, sc, th, ob, ro)

gives_scope : (names : Names) (x : Cell) (form : Form) → role_of form ≡ Scoped → form_scope names x form ≡ Some (scope_in names x)
gives_scope names x f.Scope d = refl
gives_scope names x f.Plain d = absurd (cc)
gives_scope names x f.Array d = absurd (cc)
gives_scope names x (f.Function code scope) d = absurd (cc)
gives_scope names x (f.Native k) d = absurd (cc)
gives_scope names x (f.Error name message) d = absurd (cc)
gives_scope names x (f.Forward owner c) d = absurd (cc)
gives_scope names x (f.Thing thing) d = absurd (cc)
gives_scope names x (f.Link owner c look) d = absurd (cc)

pub written_scope : (b : ℕ → Builtin) (z : Zone) (h k : Store) (n i : ℕ) (x y : Cell) → Sound h → Rewrites h k n x y → x.owner.0 ≡ i → role_of x.form ≡ Scoped → part b z i k ≡ with_scope (part b z i h) (rank Scoped i n (seats h)) (scope_in (names_of b h) y)
unfolding part seats
written_scope b z h k n i x y s r o d =
    let names : Names = names_of b h in
    let pl : map (cell_placed names k.cells) (places k i) ≡ map (cell_placed names h.cells) (places h i) = places_still names h k n i x y s r (not_role x i Scoped Proper d (λ w. absurd (cc))) in
    let sc : filter_map (scope_here names i) k.cells ≡ slice_set (filter_map (scope_here names i) h.cells) (rank Scoped i n (seats h)) (scope_in names y) =
    rw (cells_now h k n x y r) (row_written (form_scope names) Scoped i h.cells n x y (scope_in names x) (scope_in names y) (scope_tells names) r.was o r.owner (gives_scope names x x.form d) (gives_scope names y y.form (rw r.form d))) in
    let th : filter_map (thing_here names i) k.cells ≡ filter_map (thing_here names i) h.cells = things_still names h k n i x y r (not_role x i Scoped Met d (λ w. absurd (cc))) in
    let ob : filter_map (object_here names (seats h) i) k.cells ≡ filter_map (object_here names (seats h) i) h.cells = objects_still names (seats h) h k n i x y r (not_role x i Scoped Linked d (λ w. absurd (cc))) in
    let ro : k.limit - owned i k.cells ≡ h.limit - owned i h.cells = same_room h k n i x y r in
    named_before b z i h k n x y r ∙ cc (pl, sc, th, ob, ro)

pub written_thing : (b : ℕ → Builtin) (z : Zone) (h k : Store) (n i : ℕ) (x y : Cell) (t : Thing) → Sound h → Rewrites h k n x y → x.owner.0 ≡ i → x.form ≡ f.Thing t → part b z i k ≡ with_thing (part b z i h) (rank Met i n (seats h)) (record { kind = t.kind; slots = slots_of (names_of b h) y.slots })
unfolding part seats
written_thing b z h k n i x y t s r o e =
    let names : Names = names_of b h in
    let d : role_of x.form ≡ Met = rw e refl in
    let was : MetThing = record { kind = t.kind; slots = slots_of names x.slots } in
    let now : MetThing = record { kind = t.kind; slots = slots_of names y.slots } in
    let pl : map (cell_placed names k.cells) (places k i) ≡ map (cell_placed names h.cells) (places h i) = places_still names h k n i x y s r (not_role x i Met Proper d (λ w. absurd (cc))) in
    let sc : filter_map (scope_here names i) k.cells ≡ filter_map (scope_here names i) h.cells = scopes_still names h k n i x y r (not_role x i Met Scoped d (λ w. absurd (cc))) in
    let th : filter_map (thing_here names i) k.cells ≡ slice_set (filter_map (thing_here names i) h.cells) (rank Met i n (seats h)) now =
    rw (cells_now h k n x y r) (row_written (form_thing names) Met i h.cells n x y was now (thing_tells names) r.was o r.owner (rw e refl) (rw (r.form, e) refl)) in
    let ob : filter_map (object_here names (seats h) i) k.cells ≡ filter_map (object_here names (seats h) i) h.cells = objects_still names (seats h) h k n i x y r (not_role x i Met Linked d (λ w. absurd (cc))) in
    let ro : k.limit - owned i k.cells ≡ h.limit - owned i h.cells = same_room h k n i x y r in
    named_before b z i h k n x y r ∙ cc (pl, sc, th, ob, ro)

pub written_object : (b : ℕ → Builtin) (z : Zone) (h k : Store) (n i : ℕ) (x y : Cell) (a : Actor) (c : CellId) (l : Look) → Sound h → Rewrites h k n x y → x.owner.0 ≡ i → x.form ≡ f.Link a c l → part b z i k ≡ with_object (part b z i h) (rank Linked i n (seats h)) (record { owner = a; shape = shape_at (seats h) c.0; look = l; slots = slots_of (names_of b h) y.slots })
unfolding part seats
written_object b z h k n i x y a c l s r o e =
    let names : Names = names_of b h in
    let d : role_of x.form ≡ Linked = rw e refl in
    let was : MetObject = record { owner = a; shape = shape_at (seats h) c.0; look = l; slots = slots_of names x.slots } in
    let now : MetObject = record { owner = a; shape = shape_at (seats h) c.0; look = l; slots = slots_of names y.slots } in
    let pl : map (cell_placed names k.cells) (places k i) ≡ map (cell_placed names h.cells) (places h i) = places_still names h k n i x y s r (not_role x i Linked Proper d (λ w. absurd (cc))) in
    let sc : filter_map (scope_here names i) k.cells ≡ filter_map (scope_here names i) h.cells = scopes_still names h k n i x y r (not_role x i Linked Scoped d (λ w. absurd (cc))) in
    let th : filter_map (thing_here names i) k.cells ≡ filter_map (thing_here names i) h.cells = things_still names h k n i x y r (not_role x i Linked Met d (λ w. absurd (cc))) in
    let ob : filter_map (object_here names (seats h) i) k.cells ≡ slice_set (filter_map (object_here names (seats h) i) h.cells) (rank Linked i n (seats h)) now =
    rw (cells_now h k n x y r) (row_written (form_object names (seats h)) Linked i h.cells n x y was now (object_tells names (seats h)) r.was o r.owner (rw e refl) (rw (r.form, e) refl)) in
    let ro : k.limit - owned i k.cells ≡ h.limit - owned i h.cells = same_room h k n i x y r in
    named_before b z i h k n x y r ∙ cc (pl, sc, th, ob, ro)
