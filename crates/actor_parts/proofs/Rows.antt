-- The rows of a machine that are kept of the heap's cells, in their order: scopes, met things and met objects.
use Rattle.std.proofs.Common.{◌≡◌, ◌≢◌, ℕ, List, refl, sym, ap, ◌∙◌, length, map, Option, Some, None}
use Rattle.std.specs.Prelude.{slice_get, slice_set, filter_map, filter, take, is_some, Bool, true, false, ◌==◌, ◌&&◌, if◌then◌else◌}
use Rattle.std.proofs.lemmas.Bool.{eq-eqb, eqb-true, ne_eqb}
use Rattle.js_objects.specs.declared.values.Form.{Form}
use Rattle.js_objects.specs.declared.values.Form.TheVariants as f
use Rattle.js_objects.specs.declared.cell.Cell.{Cell}
use Rattle.js_objects.specs.Naming.{Names}
use Rattle.actor_parts.specs.Seats.{Role, Proper, Scoped, Met, Linked, role_of, is_role, Seat, seat_of, is_seat}
use Rattle.actor_parts.specs.Parts.{if_owned, form_scope, form_thing, form_object}
use Rattle.actor_parts.proofs.Lists.{kept_same, kept_at, kept_set, kept_one, kept_count, by_kept}

-- ---- roles

pub told_role : (a b : Role) → is_role a b ≡ true → a ≡ b
told_role Proper Proper e = refl
told_role Proper Scoped e = absurd (cc)
told_role Proper Met e = absurd (cc)
told_role Proper Linked e = absurd (cc)
told_role Scoped Proper e = absurd (cc)
told_role Scoped Scoped e = refl
told_role Scoped Met e = absurd (cc)
told_role Scoped Linked e = absurd (cc)
told_role Met Proper e = absurd (cc)
told_role Met Scoped e = absurd (cc)
told_role Met Met e = refl
told_role Met Linked e = absurd (cc)
told_role Linked Proper e = absurd (cc)
told_role Linked Scoped e = absurd (cc)
told_role Linked Met e = absurd (cc)
told_role Linked Linked e = refl

pub same_role : (a : Role) → is_role a a ≡ true
same_role Proper = refl
same_role Scoped = refl
same_role Met = refl
same_role Linked = refl

-- ---- a row: of each of the owner's cells what `give` makes of it, which is something for one role alone

abbrev pub Tells : {B : Type 0} → (Cell → Form → Option B) → Role → Type 0
Tells give r = (x : Cell) (form : Form) → is_some (give x form) ≡ is_role (role_of form) r

abbrev pub row_at : {B : Type 0} → (Cell → Form → Option B) → ℕ → Cell → Option B
row_at give i x = if_owned i x (give x x.form)

pub scope_tells : (names : Names) → Tells (form_scope names) Scoped
scope_tells names x f.Scope = refl
scope_tells names x (f.Thing thing) = refl
scope_tells names x (f.Link owner c look) = refl
scope_tells names x f.Plain = refl
scope_tells names x f.Array = refl
scope_tells names x (f.Function code scope) = refl
scope_tells names x (f.Native n) = refl
scope_tells names x (f.Error name message) = refl
scope_tells names x (f.Forward owner c) = refl

pub thing_tells : (names : Names) → Tells (form_thing names) Met
thing_tells names x f.Scope = refl
thing_tells names x (f.Thing thing) = refl
thing_tells names x (f.Link owner c look) = refl
thing_tells names x f.Plain = refl
thing_tells names x f.Array = refl
thing_tells names x (f.Function code scope) = refl
thing_tells names x (f.Native n) = refl
thing_tells names x (f.Error name message) = refl
thing_tells names x (f.Forward owner c) = refl

pub object_tells : (names : Names) (s : List Seat) → Tells (form_object names s) Linked
object_tells names s x f.Scope = refl
object_tells names s x (f.Thing thing) = refl
object_tells names s x (f.Link owner c look) = refl
object_tells names s x f.Plain = refl
object_tells names s x f.Array = refl
object_tells names s x (f.Function code scope) = refl
object_tells names s x (f.Native n) = refl
object_tells names s x (f.Error name message) = refl
object_tells names s x (f.Forward owner c) = refl

gives_none : {B : Type 0} (give : Cell → Form → Option B) (r : Role) (x : Cell) (form : Form) → Tells give r → role_of form ≢ r → give x form ≡ None
gives_none give r x form t d = by_kept (give x form) (is_role (role_of form) r) (give x form ≡ None) (t x form) (λ none no. none) (λ u some yes. absurd (d (told_role (role_of form) r yes)))

pub row_other : {B : Type 0} (give : Cell → Form → Option B) (i : ℕ) (x : Cell) → x.owner.0 ≢ i → row_at give i x ≡ None
row_other give i x d = rw (ne_eqb x.owner.0 i d) refl

pub row_mine : {B : Type 0} (give : Cell → Form → Option B) (i : ℕ) (x : Cell) → x.owner.0 ≡ i → row_at give i x ≡ give x x.form
row_mine give i x e = rw (eq-eqb x.owner.0 i e) refl

none_or_none : {B : Type 0} (b : Bool) → let o : Option B = None in (if b then o else o) ≡ o
none_or_none true = refl
none_or_none false = refl

pub row_apart : {B : Type 0} (give : Cell → Form → Option B) (r : Role) (i : ℕ) (x : Cell) → Tells give r → role_of x.form ≢ r → row_at give i x ≡ None
row_apart give r i x t d = rw (gives_none give r x x.form t d) (none_or_none (x.owner.0 == i))

pub row_tells : {B : Type 0} (give : Cell → Form → Option B) (r : Role) (i : ℕ) → Tells give r → (x : Cell) → is_some (row_at give i x) ≡ is_seat r i (seat_of x)
row_tells give r i t x = elim (x.owner.0 == i) as (λ b. is_some (if b then give x x.form else None) ≡ (b && is_role (role_of x.form) r)) [ true ↦ t x x.form | false ↦ refl ]

-- ---- a cell is written

pub row_kept : {B : Type 0} (give : Cell → Form → Option B) (i : ℕ) (cells : List Cell) (n : ℕ) (x y : Cell) → slice_get cells n ≡ Some x → row_at give i y ≡ row_at give i x → filter_map (row_at give i) (slice_set cells n y) ≡ filter_map (row_at give i) cells
row_kept give i cells n x y e q = kept_same (row_at give i) cells n x y e q

-- .. of another owner, or of another role
pub row_still : {B : Type 0} (give : Cell → Form → Option B) (r : Role) (i : ℕ) (cells : List Cell) (n : ℕ) (x y : Cell) → Tells give r → slice_get cells n ≡ Some x → y.owner ≡ x.owner → y.form ≡ x.form → (x.owner.0 ≡ i → role_of x.form ≢ r) → filter_map (row_at give i) (slice_set cells n y) ≡ filter_map (row_at give i) cells
row_still give r i cells n x y t e o q d =
    let a : row_at give i x ≡ None = elim (x.owner.0 == i) as (λ b. (x.owner.0 == i) ≡ b → row_at give i x ≡ None) [
      | true ↦ λ w. row_apart give r i x t (d (eqb-true x.owner.0 i w))
      | false ↦ λ w. rw w refl
    ] refl in
    let c : row_at give i y ≡ None = elim (x.owner.0 == i) as (λ b. (x.owner.0 == i) ≡ b → row_at give i y ≡ None) [
      | true ↦ λ w. row_apart give r i y t (λ v. d (eqb-true x.owner.0 i w) (rw q at v))
      | false ↦ λ w. rw (o, w) refl
    ] refl in
    row_kept give i cells n x y e (c ∙ sym a)

-- .. of this owner and this role
pub row_written : {B : Type 0} (give : Cell → Form → Option B) (r : Role) (i : ℕ) (cells : List Cell) (n : ℕ) (x y : Cell) (u v : B) → Tells give r → slice_get cells n ≡ Some x → x.owner.0 ≡ i → y.owner ≡ x.owner → give x x.form ≡ Some u → give y y.form ≡ Some v → filter_map (row_at give i) (slice_set cells n y) ≡ slice_set (filter_map (row_at give i) cells) (length (filter (is_seat r i) (take n (map seat_of cells)))) v
row_written give r i cells n x y u v t e o p a b = kept_set (row_at give i) seat_of (is_seat r i) cells n x y u v (row_tells give r i t) e
    (row_mine give i x o ∙ a)
    (row_mine give i y (ap (λ q. q.0) p ∙ o) ∙ b)

-- ---- a cell is read

pub row_read : {B : Type 0} (give : Cell → Form → Option B) (r : Role) (i : ℕ) (cells : List Cell) (n : ℕ) (x : Cell) (u : B) → Tells give r → slice_get cells n ≡ Some x → x.owner.0 ≡ i → give x x.form ≡ Some u → slice_get (filter_map (row_at give i) cells) (length (filter (is_seat r i) (take n (map seat_of cells)))) ≡ Some u
row_read give r i cells n x u t e o a = kept_at (row_at give i) seat_of (is_seat r i) cells n x u (row_tells give r i t) e (row_mine give i x o ∙ a)

-- two cells under one number are one
pub row_one : {B : Type 0} (give : Cell → Form → Option B) (r : Role) (i : ℕ) (cells : List Cell) (n k : ℕ) (x y : Cell) (u v : B) → Tells give r → slice_get cells n ≡ Some x → slice_get cells k ≡ Some y → x.owner.0 ≡ i → y.owner.0 ≡ i → give x x.form ≡ Some u → give y y.form ≡ Some v → length (filter (is_seat r i) (take n (map seat_of cells))) ≡ length (filter (is_seat r i) (take k (map seat_of cells))) → n ≡ k
row_one give r i cells n k x y u v t e q o p a b s = kept_one (row_at give i) seat_of (is_seat r i) cells n k x y u v (row_tells give r i t) e q (row_mine give i x o ∙ a) (row_mine give i y p ∙ b) s

-- so many are there
pub row_count : {B : Type 0} (give : Cell → Form → Option B) (r : Role) (i : ℕ) (cells : List Cell) → Tells give r → length (filter (is_seat r i) (map seat_of cells)) ≡ length (filter_map (row_at give i) cells)
row_count give r i cells t = kept_count (row_at give i) seat_of (is_seat r i) cells (row_tells give r i t)
