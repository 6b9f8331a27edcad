-- A cell is added: the names of the cells that were there stay.
use Rattle.std.proofs.Common.{◌≡◌, ℕ, List, [], ◌∷◌, ◌++◌, refl, Option, Some, None}
use Rattle.std.specs.Prelude.{slice_get}
use Rattle.std.proofs.lemmas.List.{map_push}
use Rattle.js_semantics.specs.Builtin.{Builtin}
use Rattle.js_objects.specs.declared.cell.Cell.{Cell}
use Rattle.js_objects.specs.Heaps.{Store}
use Rattle.actor_parts.specs.Seats.{Seat, seat_of, seats, reference_at, place_at, scope_at, names_by, names_of}
use Rattle.actor_parts.specs.Mentions.{Meets, Same, Implies}
use Rattle.actor_parts.specs.Discipline.{IsObject, IsPlaced, IsScope, ObjectAt, PlacedAt, ScopeAt, own_alone, IsWithin, Disciplined}
use Rattle.actor_parts.specs.Changes.{Adds}
use Rattle.actor_parts.specs.AddLaws.{KeepsNames}
use Rattle.actor_parts.proofs.Lists.{get_left, take_left}
use Rattle.actor_parts.proofs.Names.{meets_implies, holder_same, slots_same, scope_in_same}

reference_left : (s t : List Seat) (n : ℕ) (a : Seat) → slice_get s n ≡ Some a → reference_at (s ++ t) n ≡ reference_at s n
unfolding reference_at
reference_left s t n a e = rw (get_left s t n a e, e, take_left s t n a e) refl

place_left : (s t : List Seat) (n : ℕ) (a : Seat) → slice_get s n ≡ Some a → place_at (s ++ t) n ≡ place_at s n
unfolding place_at
place_left s t n a e = rw (get_left s t n a e, e) refl

scope_left : (s t : List Seat) (n : ℕ) (a : Seat) → slice_get s n ≡ Some a → scope_at (s ++ t) n ≡ scope_at s n
unfolding scope_at
scope_left s t n a e = rw (get_left s t n a e, e, take_left s t n a e) refl

by_seat : (s : List Seat) (n : ℕ) (P : Option Seat → Type 0) (Q : Type 0) → P (slice_get s n) → (P None → Q) → ((a : Seat) → slice_get s n ≡ Some a → Q) → Q
by_seat s n P Q p none some = elim (slice_get s n) as (λ o. slice_get s n ≡ o → P o → Q) [ None ↦ λ e h. none h | Some a ↦ λ e h. some a e ] refl p

-- whatever an owner may mention keeps its name
mentions_stay : (b : ℕ → Builtin) (s t : List Seat) (i : ℕ) → Implies (own_alone s i) (Same (names_by b s) (names_by b (s ++ t)))
unfolding ObjectAt PlacedAt ScopeAt
mentions_stay b s t i = record {
  value = λ n p. by_seat s n (IsObject i) (reference_at (s ++ t) n ≡ reference_at s n) p (λ z. absurd z) (λ a e. reference_left s t n a e);
  function = λ n p. by_seat s n (IsPlaced i) (place_at (s ++ t) n ≡ place_at s n) p (λ z. absurd z) (λ a e. place_left s t n a e);
  scope = λ n p. by_seat s n (IsScope i) (scope_at (s ++ t) n ≡ scope_at s n) p (λ z. absurd z) (λ a e. scope_left s t n a e);
  target = λ owner n p. tt;
  callee = λ owner n p. by_seat s n (IsPlaced owner.0) (place_at (s ++ t) n ≡ place_at s n) p.1 (λ z. absurd z) (λ a e. place_left s t n a e);
}

seats_added : (h k : Store) (x : Cell) → Adds h k x → seats k ≡ seats h ++ seat_of x ∷ []
unfolding seats
seats_added h k x a = rw (a.cells) (map_push seat_of h.cells x)

same_names : (b : ℕ → Builtin) (h k : Store) (x y : Cell) → Adds h k x → IsWithin (seats h) y → Meets (Same (names_of b h) (names_of b k)) y
same_names b h k x y a w = rw (seats_added h k x a) (meets_implies _ _ y (mentions_stay b (seats h) (seat_of x ∷ []) y.owner.0) w)

pub keeps_names : (b : ℕ → Builtin) (h k : Store) (x : Cell) → Disciplined h → Adds h k x → KeepsNames b h k
keeps_names b h k x d a = record {
  holder = λ n y e p. holder_same (names_of b h) (names_of b k) y p refl (same_names b h k x y a (d.within n y e));
  slots = λ n y e. slots_same (names_of b h) (names_of b k) y (same_names b h k x y a (d.within n y e));
  scope = λ n y e. scope_in_same (names_of b h) (names_of b k) y (same_names b h k x y a (d.within n y e));
}
