-- A chain closes in the heap exactly where it closes in a machine that has it: the machine looks at as many prototypes as it has cells, things and
-- objects of others, and a chain that ends has no more.
use Rattle.std.proofs.Common.{◌≡◌, ◌≢◌, ℕ, zero, suc, ◌+◌, ◌-◌, ◌<◌, ◌≤◌, List, refl, sym, ap, ◌∙◌, length, arith, Option, Some, None, ◌⊎◌, inl, inr, true, false}
use Rattle.std.specs.Prelude.{Bool, ◌||◌, slice_get, option_map, if◌then◌else◌, ◌==◌, ◌↔◌, IfSome}
use Rattle.std.specs.Option.{option_map_or}
use Rattle.std.proofs.lemmas.Option.{same_Some, slice_get_within}
use Rattle.std.proofs.lemmas.Bool.{eq-eqb, eqb-true}
use Rattle.js_semantics.specs.Machine.{Machine, Reference, Own, Thing, Foreign, WaivedThing, WaivedForeign, MetThing, MetObject, here_or_none, object_at}
use Rattle.js_semantics.specs.Machine as m
use Rattle.js_semantics.specs.Members.{prototype_of, prototype_of_cell, prototype_of_thing, prototype_by_use, chain_bound}
use Rattle.js_semantics.specs.Operations.{is_same_reference, is_next, is_above}
use Rattle.js_semantics.specs.Natives.{closes}
use Rattle.js_semantics.specs.Xrays.{ByOwner, use_by_look}
use Rattle.js_objects.specs.declared.values.CellId.{CellId}
use Rattle.js_objects.specs.declared.cell.Cell.{Cell}
use Rattle.js_objects.specs.Naming.{Names, reference_of}
use Rattle.js_objects.specs.Heaps.{above, proto_by, Closes, Ends, id}
use Rattle.js_objects.specs.MachineChains.{HasChain}
use Rattle.js_objects.proofs.Lists.{by_number, one_less}
use Rattle.js_objects.proofs.Chains.{pigeonhole, steps_apart, some_before, number_of, above_add, above_none, ends_of}

-- ---- the same reference

same_number : (j k : ℕ) → (j == k) ≡ true → j ≡ k
same_number j k e = eqb-true j k e

same_reference : (r s : Reference) → is_same_reference r s ≡ true → r ≡ s
same_reference (Own j) (Own k) e = ap (λ n. Own n) (same_number j k e)
same_reference (Thing j) (Thing k) e = ap (λ n. Thing n) (same_number j k e)
same_reference (Foreign j) (Foreign k) e = ap (λ n. Foreign n) (same_number j k e)
same_reference (WaivedThing j) (WaivedThing k) e = ap (λ n. WaivedThing n) (same_number j k e)
same_reference (WaivedForeign j) (WaivedForeign k) e = ap (λ n. WaivedForeign n) (same_number j k e)
same_reference (Own j) (Thing k) e = absurd (cc)
same_reference (Own j) (Foreign k) e = absurd (cc)
same_reference (Own j) (WaivedThing k) e = absurd (cc)
same_reference (Own j) (WaivedForeign k) e = absurd (cc)
same_reference (Thing j) (Own k) e = absurd (cc)
same_reference (Thing j) (Foreign k) e = absurd (cc)
same_reference (Thing j) (WaivedThing k) e = absurd (cc)
same_reference (Thing j) (WaivedForeign k) e = absurd (cc)
same_reference (Foreign j) (Own k) e = absurd (cc)
same_reference (Foreign j) (Thing k) e = absurd (cc)
same_reference (Foreign j) (WaivedThing k) e = absurd (cc)
same_reference (Foreign j) (WaivedForeign k) e = absurd (cc)
same_reference (WaivedThing j) (Own k) e = absurd (cc)
same_reference (WaivedThing j) (Thing k) e = absurd (cc)
same_reference (WaivedThing j) (Foreign k) e = absurd (cc)
same_reference (WaivedThing j) (WaivedForeign k) e = absurd (cc)
same_reference (WaivedForeign j) (Own k) e = absurd (cc)
same_reference (WaivedForeign j) (Thing k) e = absurd (cc)
same_reference (WaivedForeign j) (Foreign k) e = absurd (cc)
same_reference (WaivedForeign j) (WaivedThing k) e = absurd (cc)

reference_same : (r : Reference) → is_same_reference r r ≡ true
reference_same (Own k) = eq-eqb k k refl
reference_same (Thing k) = eq-eqb k k refl
reference_same (Foreign k) = eq-eqb k k refl
reference_same (WaivedThing k) = eq-eqb k k refl
reference_same (WaivedForeign k) = eq-eqb k k refl

-- ---- what has a prototype is one of the machine's

abbrev IsIn : Machine → Reference → Type 0
IsIn machine (Own k) = k < length machine.cells
IsIn machine (Thing k) = k < length machine.things
IsIn machine (Foreign k) = k < length machine.objects
IsIn machine r = ⊥

cell_there : (o : Option (Option m.Cell)) (r : Reference) → prototype_of_cell (here_or_none o) ≡ Some r → (c : Option m.Cell) × (o ≡ Some c)
cell_there None r e = absurd (cc)
cell_there (Some c) r e = (c, refl)

thing_there : (o : Option MetThing) (r : Reference) → prototype_of_thing o ≡ Some r → (t : MetThing) × (o ≡ Some t)
thing_there None r e = absurd (cc)
thing_there (Some t) r e = (t, refl)

object_there : (o : Option MetObject) (r : Reference) → prototype_by_use (option_map_or (λ (object : MetObject). use_by_look object.look object.shape) o ByOwner) ≡ Some r → (t : MetObject) × (o ≡ Some t)
object_there None r e = absurd (cc)
object_there (Some t) r e = (t, refl)

there : (machine : Machine) (r s : Reference) → prototype_of machine r ≡ Some s → IsIn machine r
there machine (Own k) s e = let c : (c : Option m.Cell) × (slice_get machine.cells k ≡ Some c) = cell_there (slice_get machine.cells k) s e in slice_get_within machine.cells k c.0 c.1
there machine (Thing k) s e = let t : (t : MetThing) × (slice_get machine.things k ≡ Some t) = thing_there (slice_get machine.things k) s e in slice_get_within machine.things k t.0 t.1
there machine (Foreign k) s e = let t : (t : MetObject) × (slice_get machine.objects k ≡ Some t) = object_there (slice_get machine.objects k) s e in slice_get_within machine.objects k t.0 t.1
there machine (WaivedThing k) s e = absurd (cc)
there machine (WaivedForeign k) s e = absurd (cc)

-- cells, things and objects of others under one number
abbrev number_in : Machine → Reference → ℕ
number_in machine (Own k) = k
number_in machine (Thing k) = length machine.cells + k
number_in machine (Foreign k) = length machine.cells + length machine.things + k
number_in machine r = 0

number_within : (machine : Machine) (r : Reference) → IsIn machine r → number_in machine r < length machine.cells + length machine.things + length machine.objects
number_within machine (Own k) h = omega (arith, h)
number_within machine (Thing k) h = omega (arith, h)
number_within machine (Foreign k) h = omega (arith, h)
number_within machine (WaivedThing k) h = absurd h
number_within machine (WaivedForeign k) h = absurd h

number_one : (machine : Machine) (r s : Reference) → IsIn machine r → IsIn machine s → number_in machine r ≡ number_in machine s → r ≡ s
number_one machine (Own j) (Own k) h g e = ap (λ n. Own n) e
number_one machine (Own j) (Thing k) h g e = absurd (omega (arith, h, g, e))
number_one machine (Own j) (Foreign k) h g e = absurd (omega (arith, h, g, e))
number_one machine (Thing j) (Own k) h g e = absurd (omega (arith, h, g, e))
number_one machine (Thing j) (Thing k) h g e = let q : j ≡ k = omega (arith, e) in ap (λ n. Thing n) q
number_one machine (Thing j) (Foreign k) h g e = absurd (omega (arith, h, g, e))
number_one machine (Foreign j) (Own k) h g e = absurd (omega (arith, h, g, e))
number_one machine (Foreign j) (Thing k) h g e = absurd (omega (arith, h, g, e))
number_one machine (Foreign j) (Foreign k) h g e = let q : j ≡ k = omega (arith, e) in ap (λ n. Foreign n) q
number_one machine (Own j) (WaivedThing k) h g e = absurd g
number_one machine (Own j) (WaivedForeign k) h g e = absurd g
number_one machine (Thing j) (WaivedThing k) h g e = absurd g
number_one machine (Thing j) (WaivedForeign k) h g e = absurd g
number_one machine (Foreign j) (WaivedThing k) h g e = absurd g
number_one machine (Foreign j) (WaivedForeign k) h g e = absurd g
number_one machine (WaivedThing j) s h g e = absurd h
number_one machine (WaivedForeign j) s h g e = absurd h

-- ---- no chain is longer than the machine looks

abbrev chain_number : Names → Machine → List Cell → Option CellId → ℕ → ℕ
chain_number names machine cells p j = number_in machine (names.reference (number_of (above j cells p)))

above_next : (j : ℕ) (cells : List Cell) (p : Option CellId) (c : CellId) → above j cells p ≡ Some c → above (suc j) cells p ≡ proto_by (slice_get cells c.0)
above_next j cells p c e = let n : suc j ≡ j + 1 = omega arith in ap (λ k. above k cells p) n ∙ (above_add j 1 cells p ∙ ap (λ o. above 1 cells o) e)

-- a cell of the chain that isn't the last is in the machine
named_in : (names : Names) (machine : Machine) (cells : List Cell) (n : ℕ) (p : Option CellId) (j : ℕ) (c d : CellId) → HasChain names machine cells n p → above j cells p ≡ Some c → above (suc j) cells p ≡ Some d → IsIn machine (names.reference c.0)
named_in names machine cells n p j c d h e f =
    let next : proto_by (slice_get cells c.0) ≡ Some d = sym (above_next j cells p c e) ∙ f in
    there machine (names.reference c.0) (names.reference d.0) (h.proto j c e ∙ ap (reference_of names) next)

chain_short : (names : Names) (machine : Machine) (cells : List Cell) (n : ℕ) (p : Option CellId) (i : ℕ) (c : CellId) → Ends cells → HasChain names machine cells n p → above i cells p ≡ Some c → i ≤ length machine.cells + length machine.things + length machine.objects
chain_short names machine cells n p i c s h e =
    let last : (k : ℕ) × (above k cells p ≡ None) = ends_of cells p s in
    let at : (j : ℕ) → j ≤ i → (b : CellId) × (above j cells p ≡ Some b) = λ j l. some_before j i cells p c l e in
    pigeonhole i (length machine.cells + length machine.things + length machine.objects) (chain_number names machine cells p)
    (λ j l.
    let a : (b : CellId) × (above j cells p ≡ Some b) = at j (omega (arith, l)) in
    let b : (b : CellId) × (above (suc j) cells p ≡ Some b) = at (suc j) (omega (arith, l)) in
    rw a.1 (number_within machine (names.reference a.0.0) (named_in names machine cells n p j a.0 b.0 h a.1 b.1)))
    (λ j k l o q.
    let a : (b : CellId) × (above j cells p ≡ Some b) = at j (omega (arith, l)) in
    let b : (b : CellId) × (above (suc j) cells p ≡ Some b) = at (suc j) (omega (arith, l)) in
    let d : (b : CellId) × (above k cells p ≡ Some b) = at k (omega (arith, o)) in
    let f : (b : CellId) × (above (suc k) cells p ≡ Some b) = at (suc k) (omega (arith, o)) in
    let same : names.reference a.0.0 ≡ names.reference d.0.0 = number_one machine (names.reference a.0.0) (names.reference d.0.0) (named_in names machine cells n p j a.0 b.0 h a.1 b.1) (named_in names machine cells n p k d.0 f.0 h d.1 f.1) (rw (a.1, d.1) at q) in
    let cell : number_of (above j cells p) ≡ number_of (above k cells p) = rw (a.1, d.1) (h.one j k a.0 d.0 a.1 d.1 same) in
    by_number j k (j ≡ k) (λ t. t) (λ t. elim (one_less j k t) as (λ _. j ≡ k) [
      | inl u ↦ absurd (steps_apart cells p last.0 i j k c last.1 e u (omega (arith, o)) cell)
      | inr u ↦ absurd (steps_apart cells p last.0 i k j c last.1 e u (omega (arith, l)) (sym cell))
    ]))

-- ---- what the machine looks at

abbrev looks : Names → Machine → ℕ → ℕ → Option CellId → Bool
looks names machine n left o = is_next (names.reference n) (reference_of names o) (λ next. is_above left machine (names.reference n) next)

next_looks : (names : Names) (machine : Machine) (n left : ℕ) (r : Reference) (o : Option CellId) → prototype_of machine r ≡ reference_of names o → is_above (suc left) machine (names.reference n) r ≡ looks names machine n left o
unfolding is_above
next_looks names machine n left r o e = ap (λ q. is_next (names.reference n) q (λ next. is_above left machine (names.reference n) next)) e

none_left : (machine : Machine) (r s : Reference) → is_above 0 machine r s ≡ true → ⊥
unfolding is_above
none_left machine r s e = cc

found_above : (names : Names) (machine : Machine) (cells : List Cell) (n : ℕ) (p : Option CellId) (left j : ℕ) (o : Option CellId) → HasChain names machine cells n p → above j cells p ≡ o → looks names machine n left o ≡ true → Closes cells n o
found_above names machine cells n p left j None h a e = absurd (cc)
found_above names machine cells n p zero j (Some c) h a e =
    elim (is_same_reference (names.reference c.0) (names.reference n)) as (λ b. is_same_reference (names.reference c.0) (names.reference n) ≡ b → (if b then true else is_above 0 machine (names.reference n) (names.reference c.0)) ≡ true → Closes cells n (Some c)) [
      | true ↦ λ q w. (0, ap (λ k. Some (id k)) (h.apart j c a (same_reference (names.reference c.0) (names.reference n) q)))
      | false ↦ λ q w. absurd (none_left machine (names.reference n) (names.reference c.0) w)
    ] refl e
found_above names machine cells n p (suc left) j (Some c) h a e =
    elim (is_same_reference (names.reference c.0) (names.reference n)) as (λ b. is_same_reference (names.reference c.0) (names.reference n) ≡ b → (if b then true else is_above (suc left) machine (names.reference n) (names.reference c.0)) ≡ true → Closes cells n (Some c)) [
      | true ↦ λ q w. (0, ap (λ k. Some (id k)) (h.apart j c a (same_reference (names.reference c.0) (names.reference n) q)))
      | false ↦ λ q w.
          let o : Option CellId = proto_by (slice_get cells c.0) in
          let r : Closes cells n (proto_by (slice_get cells c.0)) = found_above names machine cells n p left (suc j) (proto_by (slice_get cells c.0)) h (above_next j cells p c a) (sym (next_looks names machine n left (names.reference c.0) (proto_by (slice_get cells c.0)) (h.proto j c a)) ∙ w) in
          (suc r.0, r.1)
    ] refl e

looked_at : (names : Names) (machine : Machine) (cells : List Cell) (n : ℕ) (p : Option CellId) (i left j : ℕ) (o : Option CellId) → HasChain names machine cells n p → above j cells p ≡ o → above i cells o ≡ Some (id n) → i ≤ left → looks names machine n left o ≡ true
looked_at names machine cells n p i left j None h a e l = absurd (let b : None ≡ Some (id n) = sym (above_none i cells) ∙ e in cc)
looked_at names machine cells n p zero left j (Some c) h a e l =
    let s : c.0 ≡ n = ap (λ (q : CellId). q.0) (same_Some c (id n) e) in
    rw (s, reference_same (names.reference n)) refl
looked_at names machine cells n p (suc i) zero j (Some c) h a e l = absurd (omega (arith, l))
looked_at names machine cells n p (suc i) (suc left) j (Some c) h a e l =
    elim (is_same_reference (names.reference c.0) (names.reference n)) as (λ b. (if b then true else is_above (suc left) machine (names.reference n) (names.reference c.0)) ≡ true) [
      | true ↦ refl
      | false ↦ next_looks names machine n left (names.reference c.0) (proto_by (slice_get cells c.0)) (h.proto j c a) ∙ looked_at names machine cells n p i left (suc j) (proto_by (slice_get cells c.0)) h (above_next j cells p c a) e (omega (arith, l))
    ]

closes_looks : (names : Names) (machine : Machine) (n : ℕ) (o : Option CellId) → closes machine (names.reference n) (reference_of names o) ≡ looks names machine n (chain_bound machine) o
closes_looks names machine n None = refl
closes_looks names machine n (Some c) = elim (is_same_reference (names.reference c.0) (names.reference n)) as (λ b. (b || is_above (chain_bound machine) machine (names.reference n) (names.reference c.0)) ≡ (if b then true else is_above (chain_bound machine) machine (names.reference n) (names.reference c.0))) [ true ↦ refl | false ↦ refl ]

pub machine_closes : (names : Names) (machine : Machine) (cells : List Cell) (n : ℕ) (p : Option CellId) → Ends cells → HasChain names machine cells n p → (closes machine (names.reference n) (reference_of names p) ≡ true) ↔ Closes cells n p
machine_closes names machine cells n p s h = (
  λ e. found_above names machine cells n p (chain_bound machine) 0 p h refl (sym (closes_looks names machine n p) ∙ e),
  λ c. closes_looks names machine n p ∙ looked_at names machine cells n p c.0 (chain_bound machine) 0 p h refl c.1 (let l : c.0 ≤ length machine.cells + length machine.things + length machine.objects = chain_short names machine cells n p c.0 (id n) s h c.1 in omega (arith, l)),
)
